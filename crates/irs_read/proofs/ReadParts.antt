-- What is read of a value that breaks no rule, in the words of the table of elements. Each word has the facts of the
-- table's rows that it rests on: what is found of the rows, and what it states of them.
use Prim.Native.String.{String}
use Rattle.irs_base.specs.Days.{IsDay}
use Rattle.irs_base.specs.Limits.{most_multiplier, most_notional, most_observation_offset, most_offset, most_rate}
use Rattle.irs_base.specs.Lists.{Pairs}
use Rattle.irs_elements.proofs.DatesAt.{day_range}
use Rattle.irs_elements.specs.Codes.{roll_at, tenor_unit_at}
use Rattle.irs_elements.specs.Elements.{is_required, leaf_text_in, most, once, values_in}
use Rattle.irs_elements.specs.Leaves.{currency_at, has_value, is_center_name, is_index_name, leaf_date_at, text_of_leaf}
use Rattle.irs_elements.specs.Numbers.{dec_at, whole_at, leaf_rate_at, multiplier_at, notional_at, observation_days_at}
use Rattle.irs_elements.specs.Numbers.{offset_at, precision_at}
use Rattle.irs_elements.specs.declared.table.Choice.{Choice, TheVariants.ExactlyOne}
use Rattle.irs_elements.specs.declared.table.Count.{Count}
use Rattle.irs_elements.specs.declared.table.Kind.{Kind, TheVariants.Object}
use Rattle.irs_elements.specs.declared.table.Leaf.TheVariants as Leaf
use Rattle.irs_elements.specs.declared.table.Leaf.{Leaf as LeafKind}
use Rattle.irs_read.proofs.Clean.{clean_leaf, either_there, if_there, kind_at, leaf_at}
use Rattle.irs_read.proofs.Ranges.{count_range, currency_range, index_range, name_range, roll_range}
use Rattle.irs_read.proofs.Ranges.{said_in, size_range}
use Rattle.irs_read.proofs.Ranges.{tenor_unit_range, within_range}
use Rattle.irs_read.proofs.Rows.{At, Path, RowIs, facts, is_named, most_of, row_of}
use Rattle.irs_read.proofs.Tells.{Any, Gives, Many, all_tell, just, member_tells, perhaps, there, told}
use Rattle.irs_read.proofs.TableLaws.{code_names as row_names}
use Rattle.irs_read.specs.{Private.Sayings.TextSays, Readings.Says, Readings.said}
use Rattle.irs_read.specs.declared.table.TheConstants.{ROWS}
use Rattle.irs_terms.specs.Lawful.{IsLawfulCurrency, IsLawfulIndex, IsLawfulName, IsLawfulRoll, IsNotional, IsRate}
use Rattle.irs_terms.specs.Lawful.{IsObservationDays}
use Rattle.irs_terms.specs.declared.frequency.Unit.TheVariants.{T as Term}
use Rattle.serde_json.specs.Data.{Data}
use Rattle.std.proofs.Common.{Bool, IfSome, List, None, Option, Some, ap, codes, false, if◌then◌else◌, is_some}
use Rattle.std.proofs.Common.{pos, refl, slice_get, subst, sym, true, true≢false, unsigned_abs, ℕ, ◌≡◌, ◌≤◌, ◌∙◌, ◌∷◌}
use Rattle.std.proofs.lemmas.Option.{IfSome_then, same_Some}

-- so it is of what breaks no rule at the end of a path, if what is found of the rows is what is stated
pub record Reads {S A : Type 0} (field : S → A) (P : Data → S → Type 0) (L : A → Type 0) : Type 1 where
  pub Facts : Type 0
  pub found : Path → Facts
  pub stated : Path → Facts
  pub tells : (p : Path) → found p ≡ stated p → (d : Data) → At p d → Gives field (P d) L

-- the same of a whole value
abbrev pub Whole : {A : Type 0} → (Data → A → Type 0) → (A → Type 0) → Type 1
Whole P L = Reads (λ a. a) P L

-- ---- objects

infixr 30 ◌also◌
-- these members, and more of the same object
abbrev pub ◌also◌ : {S A B : Type 0} {f : S → A} {g : S → B} {P Q : Data → S → Type 0} {L : A → Type 0}
    {M : B → Type 0} → Reads f P L → Reads g Q M
    → Reads {A = A × B} (λ s. (f s, g s)) (λ d s. P d s × Q d s) (λ (t : A × B). L t.0 × M t.1)
v also w = record {
  Facts = v.Facts × w.Facts;
  found = λ p. (v.found p, w.found p);
  stated = λ p. (v.stated p, w.stated p);
  tells = λ p e d clean.
      let h = v.tells p (ap (λ t. t.0) e) d clean in
      let k = w.tells p (ap (λ t. t.1) e) d clean in
      record {
        is = (h.is, k.is);
        says = λ s i. (h.says s (ap (λ t. t.0) i), k.says s (ap (λ t. t.1) i));
        only = λ s q. λ i. (h.only s q.0 i, k.only s q.1 i);
        lawful = (h.lawful, k.lawful);
      };
}

-- one that a field says
pub by_field : {S T A : Type 0} {f : S → A} {P : S → Type 0} {L : A → Type 0} (g : T → S) → Gives f P L
    → Gives (λ t. f (g t)) (λ t. P (g t)) L
by_field g h =
    record { is = h.is; says = λ t e. h.says (g t) e; only = λ t q. h.only (g t) q; lawful = h.lawful }

infix 40 ◌gives◌
-- what is read is a field
abbrev pub ◌gives◌ : {S T A : Type 0} {f : S → A} {P : Data → S → Type 0} {L : A → Type 0} → Reads f P L → (g : T → S)
    → Reads (λ t. f (g t)) (λ d t. P d (g t)) L
v gives g = record {
  Facts = v.Facts;
  found = v.found;
  stated = v.stated;
  tells = λ p e d clean. by_field g (v.tells p e d clean);
}

-- a struct is its fields
abbrev pub Same : {S T : Type 0} → (S → T) → (T → S) → (T → Type 0) → (S → Type 0) → Type 0
Same {S} {T} to from L M = (s : S) (t : T) → (from (to s) ≡ s) × (to (from t) ≡ t) × (L t → M (from t))

-- one that all fields say
pub of_fields : {S T : Type 0} {to : S → T} {P : S → Type 0} {L : T → Type 0} {M : S → Type 0} (from : T → S)
    → Same to from L M → Gives to P L → Gives (λ s. s) P M
of_fields {to = to} from same h = record {
  is = from h.is;
  says = λ s e. h.says s (ap to e ∙ (same s h.is).1);
  only = λ s q. sym (same s h.is).0 ∙ ap from (h.only s q);
  lawful = (same (from h.is) h.is).2 h.lawful;
}

-- all fields of a struct
abbrev pub whole : {S T : Type 0} {to : S → T} {P : Data → S → Type 0} {L : T → Type 0} {M : S → Type 0} → Reads to P L
    → (from : T → S) → Same to from L M → Whole P M
whole v from same = record {
  Facts = v.Facts;
  found = v.found;
  stated = v.stated;
  tells = λ p e d clean. of_fields from same (v.tells p e d clean);
}

-- nothing is read of a member
abbrev pub unread : {S : Type 0} → Reads {A = Unit {0}} (λ (s : S). tt) (λ d s. Unit {0}) (λ u. Any u)
unread = record {
  Facts = Unit {0};
  found = λ p. tt;
  stated = λ p. tt;
  tells = λ p e d clean. record { is = tt; says = λ s k. tt; only = λ s k. refl; lawful = tt };
}

-- ---- members

-- the facts of a row
abbrev pub RowFacts : Type 0
RowFacts = Bool × (Bool × (Option LeafKind × List ℕ))

-- a member with this name, which must occur or not
abbrev pub named : Path → String → Bool → RowFacts
named p name must = (true, (must, (leaf_at (slice_get ROWS (row_of (name ∷ p))), codes name)))

-- one that a member says
pub there_gives : {S T A : Type 0} {f : S → A} {g : T → S} {L : A → Type 0} (P : Data → S → Type 0)
    (o : Option Data) (x : Data) → o ≡ Some x → Gives f (P x) L
    → Gives (λ t. f (g t)) (λ t. Says o P (λ s. s) (λ _. ⊥) (g t)) L
there_gives {S = S} {T = T} {f = f} {g = g} P o x at h =
    let said : T → Option Data → Type 0 = λ t q. Says {A = S} {B = S} q P (λ s. s) (λ _. ⊥) (g t) in
    record {
      is = h.is;
      says = λ t e. subst (said t) (sym at) (g t, (refl, h.says (g t) e));
      only = λ t k. let (s, (e, m)) = subst (said t) at k in ap f e ∙ h.only s m;
      lawful = h.lawful;
    }

-- a member that occurs
abbrev pub one : {S T A : Type 0} {f : S → A} {g : T → S} {P : Data → S → Type 0} {L : A → Type 0} (name : String)
    → Reads f P L → Reads (λ t. f (g t)) (λ d t. Says (once (codes name) d) P (λ s. s) (λ _. ⊥) (g t)) L
one name v = record {
  Facts = RowFacts × v.Facts;
  found = λ p. (facts p (row_of (name ∷ p)), v.found (name ∷ p));
  stated = λ p. (named p name true, v.stated (name ∷ p));
  tells = λ p e d clean.
      let (x, (at, inner)) = there p name (ap (λ t. t.0) e) d clean in
      there_gives _ _ x at (v.tells (name ∷ p) (ap (λ t. t.1) e) x inner);
}

-- a member that may be absent, and what is said where it is
abbrev pub member : {T A B : Type 0} {g : T → B} {P : Data → A → Type 0} {L : A → Type 0} {Q : Data → B → Type 0}
    {M : B → Type 0} (name : String) → Whole P L → (make : A → B) → ((a : A) → L a → M (make a)) → Whole Q M
    → Reads g (λ d t. Says (once (codes name) d) P make (Q d) (g t)) M
member {g = g} name v make lawful other = record {
  Facts = RowFacts × (v.Facts × other.Facts);
  found = λ p. (facts p (row_of (name ∷ p)), (v.found (name ∷ p), other.found p));
  stated = λ p. (named p name false, (v.stated (name ∷ p), other.stated p));
  tells = λ p e d clean.
      by_field g (member_tells _ make _ _ lawful
      (told (v.tells (name ∷ p) (ap (λ t. t.1.0) e)) _ (perhaps p name (ap (λ t. t.0) e) (Some d) clean))
      (λ none. other.tells p (ap (λ t. t.1.1) e) d clean));
}

-- this value alone
abbrev pub always : {A : Type 0} {L : A → Type 0} (value : Data → A) → ((d : Data) → L (value d))
    → Whole (λ d a. a ≡ value d) L
always value lawful = record {
  Facts = Unit {0};
  found = λ p. tt;
  stated = λ p. tt;
  tells = λ p e d clean. just (value d) (lawful d);
}

-- one that may be absent, and then there is no value
abbrev pub maybe : {T A : Type 0} {g : T → Option A} {P : Data → A → Type 0} {L : A → Type 0} (name : String)
    → Whole P L → Reads g (λ d t. Says (once (codes name) d) P Some (λ o. o ≡ None) (g t)) (λ o. IfSome o L)
maybe name v = member name v Some (λ a l. l) (always (λ d. None) (λ d. tt))

-- one that may be absent, and then this is its value
abbrev pub or : {T A : Type 0} {g : T → A} {P : Data → A → Type 0} {L : A → Type 0} (name : String) → Whole P L
    → (absent : A) → L absent → Reads g (λ d t. Says (once (codes name) d) P (λ a. a) (λ a. a ≡ absent) (g t)) L
or name v absent lawful = member name v (λ a. a) (λ a l. l) (always (λ d. absent) (λ d. lawful))

-- a repeated member, as often as the count allows
abbrev pub each : {T A : Type 0} {g : T → List A} {P : Data → A → Type 0} {L : A → Type 0} (name : String)
    (often : Count) → Whole P L → Reads g (λ d t. Pairs P (values_in (codes name) (Some d)) (g t)) (Many often L)
each {g = g} {P = P} name often v = record {
  Facts = RowFacts × (v.Facts × ℕ);
  found = λ p. (facts p (row_of (name ∷ p)), (v.found (name ∷ p), most_of (name ∷ p)));
  stated = λ p. (named p name (is_required often), (v.stated (name ∷ p), most often));
  tells = λ p e d clean.
      by_field g (all_tell p name often P (ap (λ t. t.0) e) (ap (λ t. t.1.1) e)
      (v.tells (name ∷ p) (ap (λ t. t.1.0) e)) d clean);
}

-- ---- choices

-- exactly one of two, in either order
abbrev pub one_of : Bool → ℕ → ℕ → Choice
one_of true a b = ExactlyOne a b
one_of false a b = ExactlyOne b a

-- not both are absent
pub not_both : {k l : Option LeafKind} (first : Bool) (p : Path) (a b : String) → RowIs p a false k → RowIs p b false l
    → kind_at (slice_get ROWS (row_of p)) ≡ Some (Object (one_of first (row_of (a ∷ p)) (row_of (b ∷ p))))
    → (d : Data) → At p d → once (codes a) d ≡ None → once (codes b) d ≡ None → ⊥
not_both first p a b left right choice d clean e f =
    let e' = ap (λ (n : List ℕ). once n d) (is_named p a left) ∙ e in
    let f' = ap (λ (n : List ℕ). once n d) (is_named p b right) ∙ f in
    elim first as (λ c.
    kind_at (slice_get ROWS (row_of p)) ≡ Some (Object (one_of c (row_of (a ∷ p)) (row_of (b ∷ p)))) → ⊥) [
      | true ↦ λ is. either_there ROWS row_names (row_of p) (row_of (a ∷ p)) (row_of (b ∷ p)) d is clean.clean e' f'
      | false ↦ λ is. either_there ROWS row_names (row_of p) (row_of (b ∷ p)) (row_of (a ∷ p)) d is clean.clean f' e'
    ] choice

-- one of two members, each of which gives the value in its way; whether the table names the first one first
abbrev pub either : {A B C : Type 0} {P : Data → A → Type 0} {L : A → Type 0} {Q : Data → B → Type 0} {M : B → Type 0}
    {N : C → Type 0} (first : Bool) (a : String) → Whole P L → (make : A → C) → ((x : A) → L x → N (make x))
    → (b : String) → Whole Q M → (build : B → C) → ((y : B) → M y → N (build y))
    → Whole (λ d. Says (once (codes a) d) P make (Says (once (codes b) d) Q build (λ _. ⊥))) N
either first a v make lawful b w build lawful' = record {
  Facts = (RowFacts × v.Facts) × ((RowFacts × w.Facts) × Option Kind);
  found = λ p. (
    (facts p (row_of (a ∷ p)), v.found (a ∷ p)),
    ((facts p (row_of (b ∷ p)), w.found (b ∷ p)), kind_at (slice_get ROWS (row_of p))),
  );
  stated = λ p. (
    (named p a false, v.stated (a ∷ p)),
    ((named p b false, w.stated (b ∷ p)), Some (Object (one_of first (row_of (a ∷ p)) (row_of (b ∷ p))))),
  );
  tells = λ p e d clean.
      let left = ap (λ t. t.0.0) e in
      let right = ap (λ t. t.1.0.0) e in
      member_tells _ make _ _ lawful (told (v.tells (a ∷ p) (ap (λ t. t.0.1) e)) _ (perhaps p a left (Some d) clean))
      (λ none. member_tells _ build _ _ lawful'
      (told (w.tells (b ∷ p) (ap (λ t. t.1.0.1) e)) _ (perhaps p b right (Some d) clean))
      (λ nothing. absurd (not_both first p a b left right (ap (λ t. t.1.1) e) d clean none nothing)));
}

-- ---- leaves: where the text of one is in order it has a value, and that lies in its range

-- what is there has a value
pub some_is : {A : Type 0} (o : Option A) → is_some o ≡ true → (x : A) × (o ≡ Some x)
some_is None e = absurd (true≢false (sym e))
some_is (Some x) e = (x, refl)

-- a kind of leaf: where its text is in order it has a value, and that lies in its range
pub record LeafIs {A : Type 0} (kind : LeafKind) (at : List ℕ → Option A) (L : A → Type 0) : Type 0 where
  pub agree : (s : List ℕ) → has_value kind s ≡ is_some (at s)
  pub range : (d : Data) → IfSome (said at (Some d)) L

-- a leaf of a kind
abbrev pub leaf : {A : Type 0} {L : A → Type 0} {kind : LeafKind} {at : List ℕ → Option A} → LeafIs kind at L
    → Whole (TextSays at) L
leaf {A = A} {L = L} {kind = kind} {at = at} is = record {
  Facts = Option LeafKind;
  found = λ p. leaf_at (slice_get ROWS (row_of p));
  stated = λ p. Some kind;
  tells = λ p e d clean.
      let s = clean_leaf ROWS row_names (row_of p) kind d e clean.clean in
      let valued : is_some (said at (Some d)) ≡ true = rw s.found (sym (is.agree (text_of_leaf s.says)) ∙ s.valued) in
      let (a, found) = some_is (said at (Some d)) valued in
      record {
        is = a;
        says = λ b i. found ∙ ap Some (sym i);
        only = λ b h. same_Some b a (sym h ∙ found);
        lawful = subst (λ (q : Option A). IfSome q L) found (is.range d);
      };
}

-- by the texts that have a value
pub leaf_by : {A : Type 0} {kind : LeafKind} {at : List ℕ → Option A} {L : A → Type 0}
    → ((s : List ℕ) → has_value kind s ≡ is_some (at s)) → ((s : List ℕ) → IfSome (at s) L) → LeafIs kind at L
leaf_by {at = at} {L = L} agree range =
    record { agree = agree; range = λ d. said_in L at range (leaf_text_in (Some d)) }

-- a leaf of any value
abbrev pub any : {A : Type 0} {at : List ℕ → Option A} (kind : LeafKind)
    → ((s : List ℕ) → has_value kind s ≡ is_some (at s)) → Whole (TextSays at) (λ a. Any a)
any {at = at} kind agree =
    leaf (record { agree = agree; range = λ d. if_there (said at (Some d)) (λ a e. tt) })

-- a date
abbrev pub dates : Whole (TextSays leaf_date_at) IsDay
dates = leaf (leaf_by {kind = Leaf.Date} (λ s. refl) day_range)

-- a number of periods
abbrev pub multipliers : Whole (TextSays multiplier_at) (λ n. (1 ≤ n) × (n ≤ most_multiplier))
multipliers = leaf (leaf_by {kind = Leaf.Multiplier} (λ s. refl) (count_range 1 most_multiplier))

-- the unit of a tenor
abbrev pub tenor_units : Whole (TextSays tenor_unit_at) (λ u. u ≡ Term → ⊥)
tenor_units = leaf (leaf_by {kind = Leaf.TenorUnit} (λ s. refl) tenor_unit_range)

-- the days of an offset
abbrev pub offsets : Whole (TextSays offset_at) (λ z. unsigned_abs z ≤ most_offset)
offsets = leaf (leaf_by {kind = Leaf.OffsetDays} (λ s. refl) (λ s. size_range most_offset (whole_at s)))

-- a notional
abbrev pub notionals : Whole (TextSays notional_at) IsNotional
notionals =
    leaf (leaf_by {kind = Leaf.Notional} (λ s. refl) (λ s. within_range (pos 0) (pos most_notional) (dec_at 4 s)))

-- a rate
abbrev pub rates : Whole (TextSays leaf_rate_at) IsRate
rates = leaf (leaf_by {kind = Leaf.Rate} (λ s. refl) (λ s. size_range most_rate (dec_at 9 s)))

-- a number of decimals
abbrev pub precisions : Whole (TextSays precision_at) (λ n. n ≤ 9)
precisions =
    leaf (leaf_by {kind = Leaf.Precision} (λ s. refl)
    (λ s. IfSome_then _ {P = λ n. (0 ≤ n) × (n ≤ 9)} (count_range 0 9 s) (λ n h. h.1)))

-- the days of an observation shift, a lookback or a lockout
abbrev pub observations : Whole (TextSays observation_days_at) IsObservationDays
observations = leaf (leaf_by {kind = Leaf.ObservationDays} (λ s. refl) (count_range 1 most_observation_offset))

-- a roll convention
abbrev pub rolls : Whole (TextSays roll_at) IsLawfulRoll
rolls = leaf (leaf_by {kind = Leaf.Roll} (λ s. refl) roll_range)

-- a currency
abbrev pub currencies : Whole (TextSays currency_at) IsLawfulCurrency
currencies = leaf (leaf_by {kind = Leaf.CurrencyName} (λ s. refl) currency_range)

guard_is : (b : Bool) (s : List ℕ) → b ≡ is_some (if b then Some s else None)
guard_is true s = refl
guard_is false s = refl

-- the name of a centre
pub center_names : LeafIs Leaf.CenterName (λ s. if is_center_name s then Some s else None) IsLawfulName
center_names = leaf_by (λ s. guard_is (is_center_name s) s) name_range

-- the name of an index
pub indices : LeafIs Leaf.IndexName (λ s. if is_index_name s then Some s else None) IsLawfulIndex
indices = leaf_by (λ s. guard_is (is_index_name s) s) index_range
