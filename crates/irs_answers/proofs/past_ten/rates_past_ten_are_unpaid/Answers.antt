use Rattle.irs_answers.proofs.PastTen.{paid_within_ten, past_ten_unpaid, unaccrued_unpaid}
use Rattle.irs_answers.proofs.past_ten.rates_past_ten_are_unpaid.Goals as goal

pub returns-clause-within : goal.returns-clause-within
returns-clause-within c = paid_within_ten

pub returns-clause-past : goal.returns-clause-past
returns-clause-past c = past_ten_unpaid

pub returns-clause-accrued : goal.returns-clause-accrued
returns-clause-accrued c = unaccrued_unpaid
