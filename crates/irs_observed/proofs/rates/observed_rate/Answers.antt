use Rattle.irs_observed.proofs.rates.observed_rate.Goals as goal

pub returns-in-Compounding : goal.returns-in-Compounding
returns-in-Compounding c =
    rw c.in-Compounding.is
    (rw (c.of-rates.ensures, c.as_slice-observations.ensures.value) at c.compounded_rate.ensures.meets)

pub returns-in-Averaging : goal.returns-in-Averaging
returns-in-Averaging c =
    rw c.in-Averaging.is
    (λ p. p, rw (c.of-rates.ensures, c.as_slice-observations.ensures.value) at c.averaged_rate.ensures)
