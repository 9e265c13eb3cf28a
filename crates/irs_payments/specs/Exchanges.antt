-- Principal exchanges and steps, and their rules.
use Rattle.std.specs.Prelude.{◌≡◌, ℕ, List, ℤ, ◌-◌, ◌^◌, [], ◌∷◌, ◌++◌, pos, ◌-ℤ◌, if◌then◌else◌, ◌⊎◌}
use Rattle.std.specs.Ordering.{int_eq}
use Rattle.irs_terms.specs.Faults.{fault_at}
use Rattle.irs_base.specs.Lists.{HoldsOf, Pairs, Member}
use Rattle.irs_terms.specs.declared.places.Rule.{Rule}
use Rattle.irs_terms.specs.declared.places.Fault.{Fault}
use Rattle.irs_base.specs.Limits.{Rounded}
use Rattle.irs_terms.specs.Elements.{principal_exchanges, notional_step_date, fixed_rate_step_date, multiplier_step_date}
use Rattle.irs_terms.specs.Elements.{spread_step_date}
use Rattle.irs_base.specs.declared.rounding.Direction.TheVariants.{Nearest}
use Rattle.irs_terms.specs.declared.places.Rule.TheVariants.{K33, K36}
use Rattle.irs_terms.specs.Lawful.{decimals_of}
use Rattle.irs_terms.specs.declared.step_list.Step.{Step}
use Rattle.irs_terms.specs.declared.results.Exchange.{Exchange}
use Rattle.irs_terms.specs.declared.stream.Stream.{Stream}
use Rattle.irs_terms.specs.declared.amounts.Leg.{Leg}
use Rattle.irs_terms.specs.declared.amounts.Leg.TheVariants.{Fixed, Floating}
use Rattle.irs_calendar.specs.GoodDays.{DaySet}
use Rattle.irs_adjust.specs.MovedDays.{Adjusts}
use Rattle.irs_payments.specs.declared.exchanges.Transfer.{Transfer}

-- ---- a rule that members of a list break

-- the rule is broken by a member of the list, at the element; the index is the member's number
pub record BreaksIn {X : Type 0} (rule : Rule) (elem : ℕ) (Bad : X → Type 0) (xs : List X) (f : Fault) : Type 0 where
  pub number : ℕ
  pub bad : HoldsOf Bad xs number
  pub is : f ≡ fault_at rule elem number

-- ---- what the payer pays on a date

-- a transfer of an amount, in units of 10^-4 of the currency, on a date
abbrev pub transfer : ℤ → ℤ → Transfer
transfer date amount = record { date = date; amount = amount }

-- ---- principal exchanges, and K33 of their dates

-- the initial exchange: at the effective date, also where the first calculation period begins before
-- it, the payer receives the first notional
abbrev pub initial_of : Stream → List Transfer
initial_of s = if s.exchanges.initial then transfer s.effective.day (pos 0 -ℤ s.notional.initial) ∷ [] else []

-- one step: nothing where its value is the one before it, else the old notional less the new one
abbrev pub change : ℤ → Step → List Transfer
change before step = if int_eq step.value before then [] else transfer step.day (before -ℤ step.value) ∷ []

-- the steps in order, each against the value before it
abbrev pub changes : ℤ → List Step → List Transfer
changes before [] = []
changes before (step ∷ steps) = change before step ++ changes step.value steps

-- the intermediate exchanges: one at each notional step that changes the notional
abbrev pub intermediate_of : Stream → List Transfer
intermediate_of s = if s.exchanges.intermediate then changes s.notional.initial s.notional.steps else []

-- the value of the last step, else the initial one
abbrev pub last_value : ℤ → List Step → ℤ
last_value initial [] = initial
last_value initial (step ∷ steps) = last_value step.value steps

-- the final exchange: at the termination date the payer pays the last notional
abbrev pub final_of : Stream → List Transfer
final_of s =
    if s.exchanges.last then transfer s.termination.day (last_value s.notional.initial s.notional.steps) ∷ [] else []

-- the exchanges of a stream in order, each part where its flag is true
abbrev pub transfers_of : Stream → List Transfer
transfers_of s = initial_of s ++ intermediate_of s ++ final_of s

-- the exchange of a transfer: its date is adjusted by paymentDatesAdjustments, and its amount, with
-- its sign, is rounded to the decimals of the currency
pub record IsExchange (s : Stream) (set : DaySet) (t : Transfer) (x : Exchange) : Type 0 where
  pub unadjusted : x.unadjusted ≡ t.date
  pub adjusted : Adjusts s.pay.adj.code set t.date x.adjusted
  pub places : x.amount.places ≡ decimals_of s.currency.letters
  pub amount : Rounded Nearest t.amount (pos (10 ^ (4 - decimals_of s.currency.letters))) x.amount.units

-- the exchanges of the stream
abbrev pub AreExchanges : Stream → DaySet → List Exchange → Type 0
AreExchanges s set xs = Pairs (IsExchange s set) (transfers_of s) xs

-- the date of the transfer has no adjusted day
abbrev pub LacksTransferDay : Stream → DaySet → Transfer → Type 0
LacksTransferDay s set t = (r : ℤ) → Adjusts s.pay.adj.code set t.date r → ⊥

-- K33 of exchanges is broken: the date of one of them has no adjusted day
abbrev pub BreaksExchanges : Stream → DaySet → Fault → Type 0
BreaksExchanges s set f = BreaksIn K33 principal_exchanges (LacksTransferDay s set) (transfers_of s) f

-- ---- steps of notionals, rates, multipliers and spreads, and K36

-- the date of the step is no boundary
abbrev pub IsOff : List ℤ → Step → Type 0
IsOff boundaries step = Member step.day boundaries → ⊥

-- K36 is broken: the date of one of these steps is no unadjusted boundary
abbrev pub BreaksUnder : List ℤ → ℕ → List Step → Fault → Type 0
BreaksUnder boundaries elem steps f = BreaksIn K36 elem (IsOff boundaries) steps f

-- K36 is broken in the steps of a fixed rate, or in those of the multiplier or of the spread
abbrev pub BreaksRateSteps : Leg → List ℤ → Fault → Type 0
BreaksRateSteps (Fixed rates) boundaries f = BreaksUnder boundaries fixed_rate_step_date rates.steps f
BreaksRateSteps (Floating terms) boundaries f =
    BreaksUnder boundaries multiplier_step_date terms.multiplier.steps f ⊎
    BreaksUnder boundaries spread_step_date terms.spread.steps f

-- K36 is broken in the steps of the notional, or in those of the leg
abbrev pub BreaksSteps : Stream → List ℤ → Fault → Type 0
BreaksSteps s boundaries f =
    BreaksUnder boundaries notional_step_date s.notional.steps f ⊎ BreaksRateSteps s.leg boundaries f
