-- The two parties of a swap and the sides of its streams: who pays each (FpML payerPartyReference and
-- receiverPartyReference). That all streams name the same two parties is our rule, K8.
use Rattle.std.specs.Prelude.{◌≡◌, ℕ, ◌+◌, ◌≤◌, Bool, true, false, List, [], ◌∷◌, length, Some, Ok, slice_get}
use Rattle.std.specs.Prelude.{slice_index_or, codes}
use Rattle.irs_terms.specs.Elements.{payer_party_reference}
use Rattle.irs_base.specs.Limits.{most_streams}
use Rattle.irs_terms.specs.Faults.{fault_at, in_stream}
use Rattle.irs_terms.specs.declared.places.Broken.{Broken}
use Rattle.irs_terms.specs.declared.places.Rule.TheVariants.{K8}
use Rattle.irs_elements.specs.Elements.{values_in}
use Rattle.irs_json.specs.Leaves.{child_of}
use Rattle.irs_read.specs.Documents.{the_swap}
use Rattle.irs_read.specs.Readings.{streams_in}
use Rattle.serde_json.specs.Data.{Data, string}
use Rattle.irs_net.specs.declared.sides.Sides.{Sides}

-- the reference of that name in a stream is one object, and its `@href` is the text
pub record RefersTo (name : List ℕ) (stream : Data) (party : List ℕ) : Type 0 where
  pub reference : Data
  pub one : values_in name (Some stream) ≡ reference ∷ []
  pub href : child_of (codes "@href") reference ≡ Some (string party)

-- the stream is paid by one party to another
pub record IsPaidBy (stream : Data) (payer receiver : List ℕ) : Type 0 where
  pub by : RefersTo (codes "payerPartyReference") stream payer
  pub to : RefersTo (codes "receiverPartyReference") stream receiver
  pub apart : payer ≡ receiver → ⊥

-- the stream is paid by the payer of the first to its receiver
pub record IsForward (first stream : Data) : Type 0 where
  pub payer : List ℕ
  pub receiver : List ℕ
  pub first_paid : IsPaidBy first payer receiver
  pub paid : IsPaidBy stream payer receiver

-- or by the receiver of the first to its payer
pub record IsBackward (first stream : Data) : Type 0 where
  pub payer : List ℕ
  pub receiver : List ℕ
  pub first_paid : IsPaidBy first payer receiver
  pub paid : IsPaidBy stream receiver payer

-- K8 of the stream with this number: its two references aren't those of stream 1, in either order
abbrev pub broken_at : ℕ → Broken
broken_at number = in_stream number (fault_at K8 payer_party_reference 0)

-- K8 is broken there
pub record BreaksK8 (streams : List Data) (x : Broken) : Type 0 where
  pub first : Data
  pub begins : slice_get streams 0 ≡ Some first
  pub place : ℕ
  pub stream : Data
  pub there : slice_get streams place ≡ Some stream
  pub not_forward : IsForward first stream → ⊥
  pub not_backward : IsBackward first stream → ⊥
  pub is : x ≡ broken_at (place + 1)

-- the side of a stream
abbrev pub IsSide : Data → Data → Bool → Type 0
IsSide first stream true = IsForward first stream
IsSide first stream false = IsBackward first stream

-- the sides of all streams; past the last none is forward
pub record AreSides (streams : List Data) (sides : Sides) : Type 0 where
  pub eight : length sides.forward ≡ most_streams
  pub count : sides.count ≡ length streams
  pub each : (first : Data) → slice_get streams 0 ≡ Some first → (i : ℕ) (stream : Data)
      → slice_get streams i ≡ Some stream → IsSide first stream (slice_index_or sides.forward i false)
  pub past : (i : ℕ) → length streams ≤ i → slice_index_or sides.forward i false ≡ false

-- the sides of the streams of a document
pub record SidesOf (d : Data) (sides : Sides) : Type 0 where
  pub swap : Data
  pub found : the_swap d ≡ Ok swap
  pub are : AreSides (streams_in swap) sides

-- K8 is broken in the document
pub record BreaksK8Of (d : Data) (x : Broken) : Type 0 where
  pub swap : Data
  pub found : the_swap d ≡ Ok swap
  pub breaks : BreaksK8 (streams_in swap) x
