-- Rules that a swap may break: their numbers, the places at which they are broken, and which of them comes first.
use Rattle.std.specs.Prelude.{ℕ, Bool, Option, nat_lt}
use Rattle.irs_base.specs.Outcomes.{IsFirst, earlier, level}
use Rattle.irs_terms.specs.declared.places.Rule.{Rule}
use Rattle.irs_terms.specs.declared.places.Rule.TheVariants.{K1, K2, K3, K4, K5, K6, K7, K8, K10, K11, K12, K13, K14}
use Rattle.irs_terms.specs.declared.places.Rule.TheVariants.{K15, K16, K17, K18, K19, K20, K21, K30, K31, K32, K33, K34}
use Rattle.irs_terms.specs.declared.places.Rule.TheVariants.{K35, K36, K37, K38, K39, K40, K41, K42, K43, K44, K45, K46}
use Rattle.irs_terms.specs.declared.places.Rule.TheVariants.{K47, K48, K49}
use Rattle.irs_terms.specs.declared.places.Fault.{Fault}
use Rattle.irs_terms.specs.declared.places.Broken.{Broken}

-- ---- the numbers of rules

-- the number after the K
abbrev pub rule_number : Rule → ℕ
rule_number K1 = 1
rule_number K2 = 2
rule_number K3 = 3
rule_number K4 = 4
rule_number K5 = 5
rule_number K6 = 6
rule_number K7 = 7
rule_number K8 = 8
rule_number K10 = 10
rule_number K11 = 11
rule_number K12 = 12
rule_number K13 = 13
rule_number K14 = 14
rule_number K15 = 15
rule_number K16 = 16
rule_number K17 = 17
rule_number K18 = 18
rule_number K19 = 19
rule_number K20 = 20
rule_number K21 = 21
rule_number K30 = 30
rule_number K31 = 31
rule_number K32 = 32
rule_number K33 = 33
rule_number K34 = 34
rule_number K35 = 35
rule_number K36 = 36
rule_number K37 = 37
rule_number K38 = 38
rule_number K39 = 39
rule_number K40 = 40
rule_number K41 = 41
rule_number K42 = 42
rule_number K43 = 43
rule_number K44 = 44
rule_number K45 = 45
rule_number K46 = 46
rule_number K47 = 47
rule_number K48 = 48
rule_number K49 = 49

-- ---- broken rules, in one stream and in a swap

-- the rule, broken at an element of the stream
-- the index is the number of a period, payment, exchange or repeated element, else 0
abbrev pub fault_at : Rule → ℕ → ℕ → Fault
fault_at rule elem index = record { rule = rule; elem = elem; index = index }

-- the broken rule in the stream with this number
abbrev pub in_stream : ℕ → Fault → Broken
in_stream number f = record { rule = f.rule; place = record { stream = number; elem = f.elem; index = f.index } }

-- ---- the order of broken rules

-- within a stream: the lower rule, then the earlier element, then the lower index
abbrev pub is_before_in : Broken → Broken → Bool
is_before_in f g =
    level (rule_number f.rule) (rule_number g.rule)
    (level f.place.elem g.place.elem (nat_lt f.place.index g.place.index))

-- the lower stream comes first
abbrev pub is_before : Broken → Broken → Bool
is_before f g = level f.place.stream g.place.stream (is_before_in f g)

-- the first broken rule of a swap that meets P, and None where none does
abbrev pub IsFirstBroken : (Broken → Type 0) → Option Broken → Type 0
IsFirstBroken P answer = IsFirst is_before P answer

-- the earlier of two answers
abbrev pub earlier_broken : Option Broken → Option Broken → Option Broken
earlier_broken a b = earlier is_before a b

-- The order of the rules of one part of a stream's dates and amounts. First come those on where dates may
-- be (K30 to K32, K35 to K37) and on too few daily rates (K48). Then come those on what is worked out of
-- them (K33, K34, K38, K39).
abbrev pub turn : Rule → ℕ
turn K33 = 1
turn K34 = 1
turn K38 = 1
turn K39 = 1
turn _ = 0

-- within a part of a stream: the turn, then the lower rule, then the earlier element, then the lower index
abbrev pub comes_before : Fault → Fault → Bool
comes_before f g =
    level (turn f.rule) (turn g.rule)
    (level (rule_number f.rule) (rule_number g.rule) (level f.elem g.elem (nat_lt f.index g.index)))
