-- The numbers of exit statuses, what comes first by an order, and what a call may give.
use Rattle.std.specs.Prelude.{ℕ, Result, Ok, Err, ◌≡◌, Bool, false, ◌&&◌, ◌||◌, ◌==◌, nat_lt, Option, Some, None}
use Rattle.std.specs.Prelude.{if◌then◌else◌, ◌⊎◌, ◌+◌, List, [], ◌∷◌}
use Rattle.irs_base.specs.declared.statuses.Status.{Status}
use Rattle.irs_base.specs.declared.statuses.Status.TheVariants.{Done, NotAgreed, RuleBroken, BadFile, BadWords, NoFile}
use Rattle.irs_base.specs.declared.statuses.Status.TheVariants.{PutFailed, NoMemory, TooLong, NotText}
use Rattle.irs_base.specs.declared.stopped.Stopped.{Stopped}
use Rattle.irs_base.specs.declared.stopped.Stopped.TheVariants.{Broken as OfBroken, Memory as OfMemory}

-- ---- the numbers of the exit statuses

-- the number of a status
abbrev pub status_number : Status → ℕ
status_number Done = 0
status_number NotAgreed = 1
status_number RuleBroken = 2
status_number BadFile = 3
status_number BadWords = 4
status_number NoFile = 5
status_number PutFailed = 6
status_number NoMemory = 7
status_number TooLong = 8
status_number NotText = 9

-- ---- the answers of calls that report broken rules

-- where a call stops at a broken rule, P holds of it
abbrev pub IfStopped : {F : Type 0} → Stopped F → (F → Type 0) → Type 0
IfStopped (OfBroken f) P = P f
IfStopped OfMemory P = Unit {0}

-- where the answer is a broken rule, P holds of it
abbrev pub IfBroken : {A F : Type 0} → Result A (Stopped F) → (F → Type 0) → Type 0
IfBroken (Ok x) P = Unit {0}
IfBroken (Err e) P = IfStopped e P

-- ---- what comes first of all that meet a condition, in any order

-- x meets P, and nothing else does
pub record Only {X : Type 0} (P : X → Type 0) (x : X) : Type 0 where
  pub is : P x
  pub only : (y : X) → P y → y ≡ x

-- x meets P, and nothing that does comes before it
abbrev pub First : {X : Type 0} → (X → X → Bool) → (X → Type 0) → X → Type 0
First before P x = P x × ((y : _) → P y → before y x ≡ false)

-- the first that meets P, and None where nothing does
abbrev pub IsFirst : {X : Type 0} → (X → X → Bool) → (X → Type 0) → Option X → Type 0
IsFirst before P None = (y : _) → P y → ⊥
IsFirst before P (Some x) = First before P x

-- the earlier of two answers
abbrev pub earlier : {X : Type 0} → (X → X → Bool) → Option X → Option X → Option X
earlier before None b = b
earlier before (Some f) None = Some f
earlier before (Some f) (Some g) = if before g f then Some g else Some f

-- one level of an order: a is less than b, or equal to it and what comes next decides
abbrev pub level : ℕ → ℕ → Bool → Bool
level a b next = nat_lt a b || (a == b && next)

-- ---- what a call may give: an outcome is an answer or a refusal, and a specification says which of each are right

-- a specification: which values are right answers, and which reasons are right refusals
pub record Spec (A R : Type 0) : Type 1 where
  pub Answers : A → Type 0
  pub Refuses : R → Type 0

-- it determines the outcome: one answer and no refusal, or one refusal and no answer
pub data Determined {A R : Type 0} (spec : Spec A R) : Type 0 where
  answered : (a : A) → Only spec.Answers a → ((r : R) → spec.Refuses r → ⊥) → Determined spec
  refused : (r : R) → Only spec.Refuses r → ((a : A) → spec.Answers a → ⊥) → Determined spec

-- nothing is refused
abbrev pub RefusesNothing : {A R : Type 0} → Spec A R → Type 0
RefusesNothing spec = (r : _) → spec.Refuses r → ⊥

-- a result gives a right answer, or a right refusal
abbrev pub MeetsExactly : {A R : Type 0} → Spec A R → Result A R → Type 0
MeetsExactly spec (Ok a) = spec.Answers a
MeetsExactly spec (Err r) = spec.Refuses r

-- a result gives a right answer, or a right refusal, or memory ran out
abbrev pub Meets : {A R : Type 0} → Spec A R → Result A (Stopped R) → Type 0
Meets spec (Ok a) = spec.Answers a
Meets spec (Err e) = IfStopped e spec.Refuses

-- where memory ran out, P holds
abbrev pub IfMemory : {A R : Type 0} → Result A (Stopped R) → Type 0 → Type 0
IfMemory (Ok a) P = Unit {0}
IfMemory (Err (OfBroken r)) P = Unit {0}
IfMemory (Err OfMemory) P = P

-- the answer is what `Is` says, and nothing is refused
abbrev pub given_by : {A R : Type 0} → (A → Type 0) → Spec A R
given_by Is = record {
  Answers = Is;
  Refuses = λ _. ⊥;
}

-- this value is the answer
abbrev pub answer : {A R : Type 0} → A → Spec A R
answer x = record {
  Answers = λ a. a ≡ x;
  Refuses = λ _. ⊥;
}

-- one specification, then the next over its answer
infixl 10 ◌>>=◌
abbrev pub ◌>>=◌ : {A B R : Type 0} → Spec A R → (A → Spec B R) → Spec B R
spec >>= next = record {
  Answers = λ b. (a : _) × spec.Answers a × (next a).Answers b;
  Refuses = λ r. spec.Refuses r ⊎ ((a : _) × spec.Answers a × (next a).Refuses r);
}

-- the answer is what `Is` says where no rule is broken; else the refusal is the first broken rule
abbrev pub unless_broken : {A F : Type 0} → (F → F → Bool) → (F → Type 0) → (A → Type 0) → Spec A F
unless_broken before Breaks Is = record {
  Answers = λ a. ((f : _) → Breaks f → ⊥) × Is a;
  Refuses = First before Breaks;
}

-- no rule is broken; else the refusal is the first broken rule
abbrev pub unbroken : {F : Type 0} → (F → F → Bool) → (F → Type 0) → Spec (Unit {0}) F
unbroken before Breaks = record {
  Answers = λ _. (f : _) → Breaks f → ⊥;
  Refuses = First before Breaks;
}

-- a check gives nothing where no rule is broken, or a right refusal
abbrev pub Checks : {R : Type 0} → Spec (Unit {0}) R → Option R → Type 0
Checks spec None = spec.Answers tt
Checks spec (Some r) = spec.Refuses r

-- the same answers; each reason is said in another way
abbrev pub refused_as : {A R S : Type 0} → (R → S) → Spec A R → Spec A S
refused_as say spec = record {
  Answers = spec.Answers;
  Refuses = λ s. (r : _) × spec.Refuses r × (s ≡ say r);
}

-- the items of a list in turn, numbered from n: the answers to all of them, or the first refusal
unfoldable pub each_in_turn : {X A R : Type 0} → (ℕ → X → Spec A R) → ℕ → List X → Spec (List A) R
each_in_turn spec n [] = answer []
each_in_turn spec n (x ∷ xs) = do
  a ← spec n x
  rest ← each_in_turn spec (n + 1) xs
  answer (a ∷ rest)
