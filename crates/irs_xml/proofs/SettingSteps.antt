-- How the attributes of a tag go on, one after another.
use Rattle.std.proofs.Common.{◌≡◌, ◌≢◌, ℕ, zero, suc, ◌-◌, Bool, true, false, List, [], ◌∷◌, ◌++◌, Option, Some, None, refl, sym, ◌∙◌, arith}
use Rattle.irs_xml.specs.Tags.{Setting}
use Rattle.irs_xml.specs.Private.Reading.{Takes, Fails, gap_at, skip_space, setting_at, settings_at, tag_end_at}
use Rattle.irs_xml.specs.declared.failure.Failure.{Failure}
use Rattle.irs_xml.specs.declared.failure.Failure.TheVariants.{NotXml, Memory}
use Rattle.irs_xml.proofs.Steps.{gap_sound, no_gap}

-- a word that was taken is what reading passed over
pub took : (b : Bool) (old new : List ℕ) (read : Option (List ℕ)) → Takes b old new read → b ≡ true → read ≡ Some new
took true old new read t e = t
took false old new read t e = absurd (cc e)

-- a word that wasn't taken isn't there
pub took_none : (b : Bool) (old new : List ℕ) (read : Option (List ℕ)) → Takes b old new read → b ≡ false → read ≡ None
took_none true old new read t e = absurd (cc e)
took_none false old new read t e = t.0

-- white space was passed over, if there was any
pub behind_gap : (b : Bool) (old new : List ℕ) → Takes b old new (gap_at old) → skip_space old ≡ new
behind_gap true old new t = sym (gap_sound old new t).3
behind_gap false old new t = no_gap old t.0 ∙ sym t.1

-- where one reading has nothing, the other has nothing, and memory is memory
pub fails_then : {X Y : Type 0} (e : Failure) (r : Option X) (s : Option Y) → Fails e r → (r ≡ None → s ≡ None) → Fails e s
fails_then NotXml r s f h = h f
fails_then Memory r s f h = tt

-- the end of a tag ends its attributes
pub settings_end : (n : ℕ) (ss : List Setting) (cs mid : List ℕ) (b : Bool) (rest : List ℕ) → skip_space cs ≡ mid
    → tag_end_at mid ≡ Some (b, rest) → settings_at n ss cs ≡ Some ((ss, b), rest)
unfolding settings_at
settings_end zero ss cs mid b rest s e = rw (s, e) refl
settings_end (suc n) ss cs mid b rest s e = rw (s, e) refl

-- no attribute is read after the most that are allowed
pub settings_full : (n : ℕ) (ss : List Setting) (cs mid : List ℕ) → n ≡ 0 → skip_space cs ≡ mid → tag_end_at mid ≡ None → settings_at n ss cs ≡ None
unfolding settings_at
settings_full zero ss cs mid z s e = rw (s, e) refl
settings_full (suc n) ss cs mid z s e = absurd (omega (arith, z))

-- an attribute without white space before it isn't read
pub settings_close : (n : ℕ) (ss : List Setting) (cs mid : List ℕ) → skip_space cs ≡ mid → tag_end_at mid ≡ None → gap_at cs ≡ None
    → settings_at n ss cs ≡ None
unfolding settings_at
settings_close zero ss cs mid s e g = rw (s, e) refl
settings_close (suc n) ss cs mid s e g = rw (s, e, g) refl

-- a tag isn't read where one of its attributes isn't
pub settings_wrong : (n : ℕ) (ss : List Setting) (cs mid : List ℕ) → skip_space cs ≡ mid → tag_end_at mid ≡ None → gap_at cs ≡ Some mid
    → setting_at mid ≡ None → settings_at n ss cs ≡ None
unfolding settings_at
settings_wrong zero ss cs mid s e g w = rw (s, e) refl
settings_wrong (suc n) ss cs mid s e g w = rw (s, e, g) (rw w refl)

-- one more attribute is appended to those that were read
pub settings_more : (n : ℕ) (ss : List Setting) (cs mid : List ℕ) (x : Setting) (rest : List ℕ) → n ≢ 0 → skip_space cs ≡ mid
    → tag_end_at mid ≡ None → gap_at cs ≡ Some mid → setting_at mid ≡ Some (x, rest)
    → settings_at n ss cs ≡ settings_at (n - 1) (ss ++ x ∷ []) rest
unfolding settings_at
settings_more zero ss cs mid x rest z s e g w = absurd (z refl)
settings_more (suc n) ss cs mid x rest z s e g w =
    let less : suc n - 1 ≡ n = omega arith in rw (less, s, e, g) (rw w refl)
