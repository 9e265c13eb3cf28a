use Rattle.irs_schedule.proofs.center_table.CenterTable.has_stream.Goals as goal

pub returns : goal.returns
returns c = λ yes. record {
  start = rw (c.names_by.ensures, c.first_date.ensures) at (c.has.ensures.0 c.if-not-has.false);
  end = rw c.names_by-2.ensures at (c.has-2.ensures.0 c.if-not-has-2.false);
  middle = rw c.names_by-3.ensures at (c.has-3.ensures.0 c.if-not-has-3.false);
  payment = rw c.names_with.ensures at (c.has-4.ensures.0 c.if-not-has-4.false);
  reset = rw c.reset_names.ensures at (c.has-5.ensures.0 c.if-not-has-5.false);
  fixing = rw c.fixing_names.ensures at (c.has-6.ensures.0 c.if-not-has-6.false);
  applicable = rw c.applicable_names.ensures at (c.has-7.ensures.0 yes);
}
