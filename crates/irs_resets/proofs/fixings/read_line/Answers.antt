use Rattle.std.proofs.Common.{arith, ◌≡◌, inr, refl, w64, to_z, of_z}
use Rattle.std.proofs.lemmas.Int.{ints}
use Rattle.jiff_core.proofs.SignedLemmas.{signed_arith}
use Rattle.irs_resets.proofs.fixings.read_line.Goals as goal

pub returns-in_err-is_new-clause-memory : goal.returns-in_err-is_new-clause-memory
returns-in_err-is_new-clause-memory c = λ _. record {
  index = c.in-Some.fixing.tail.index.now;
  slot = c.in-Some.fixing.slot;
  rate = c.in-Some.fixing.rate;
  spelt = c.in-Some.ensures.some;
  absent = c.in_err-is_new.ensures.memory;
}

pub returns-then-is_new-clause-meets : goal.returns-then-is_new-clause-meets
returns-then-is_new-clause-meets c =
    let spelt = c.in-Some.ensures.some in
    let whole : to_z w64 (of_z w64 c.in-Some.fixing.rate) ≡ c.in-Some.fixing.rate =
    omega (arith, ints, signed_arith, spelt.rate_text.small) in
    let adds = rw c.if-is_new.true at c.in_ok-is_new.ensures.adds in
    inr (record {
      more = record {
        index = c.in-Some.fixing.tail.index.now;
        slot = c.in-Some.fixing.slot;
        rate = c.in-Some.fixing.rate;
        spelt = spelt;
        absent = adds.0;
      };
      adds = λ i q. rw whole at (adds.1 i q);
    })

pub returns-else-is_new-clause-meets : goal.returns-else-is_new-clause-meets
returns-else-is_new-clause-meets c = (
  refl,
  record {
    index = c.in-Some.fixing.tail.index.now;
    slot = c.in-Some.fixing.slot;
    rate = c.in-Some.fixing.rate;
    spelt = c.in-Some.ensures.some;
    there = rw c.if-is_new.false at c.in_ok-is_new.ensures.adds;
  },
)
