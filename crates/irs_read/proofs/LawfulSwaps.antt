-- A document that breaks no rule means one swap, and that one is lawful.
use Rattle.irs_elements.specs.Elements.{own, own_rule}
use Rattle.irs_json.specs.Leaves.{element_names}
use Rattle.irs_read.proofs.TableLaws.{names_are, rows_are}
use Rattle.irs_read.proofs.{CenterLists.all_good, Each.AreFree, Each.are_free, Rows.At, Rows.row_of}
use Rattle.irs_read.proofs.Clean.{names_if, none_if}
use Rattle.irs_read.proofs.ReadParts.{by_field, of_fields}
use Rattle.irs_read.proofs.{StreamReads.stream_tells, Tells.Tells, Tells.each_tells}
use Rattle.irs_read.specs.Documents.{DocumentFault, Means, StreamFault, SwapFault, below, the_swap}
use Rattle.irs_read.specs.declared.table.TheConstants.{OBJECT}
use Rattle.irs_read.specs.{Readings.lists_of, Readings.streams_in, StreamElements.StreamSays, StreamElements.SwapSays}
use Rattle.irs_terms.specs.Lawful.{IsLawfulSwap}
use Rattle.irs_terms.specs.declared.{places.Broken.Broken, stream_list.Swap.Swap}
use Rattle.serde_json.specs.Data.{Data}
use Rattle.std.proofs.Common.{sym, subst, ap, arith, ◌≡◌, ℕ, ◌+◌, inl, inr, [], Some, Ok, is_some, refl, slice_get}

-- the streams of a document that breaks no rule are one to eight, and break none
streams_free : (d at : Data) → the_swap d ≡ Ok at → ((f : Broken) → DocumentFault d f → ⊥)
    → AreFree StreamFault (streams_in at)
streams_free d at found none =
    let whole : (f : Broken) → SwapFault at f → ⊥ = λ f q. none f (below at f found q) in
    let plain = none_if (own_rule OBJECT at) (λ k e. whole _ (inl (own 0 0 k OBJECT at e))) in
    let (ns, named) = names_if (element_names at) plain in
    are_free StreamFault (streams_in at) (λ f q. whole f (inr (ap is_some named, q)))

-- a stream that breaks no rule is clean
clean_stream : (j : ℕ) (x : Data) → ((f : Broken) → StreamFault j x f → ⊥) → At [] x
unfolding row_of
clean_stream j x none = record {
  clean = record {
    kind = OBJECT;
    found = refl;
    stream = j + 1;
    index = 0;
    none = λ f q. none f (rw rows_are at (rw names_are at q));
  };
}

-- a document that breaks no rule says one swap, and that one is lawful
pub document_tells : (d at : Data) → the_swap d ≡ Ok at → ((f : Broken) → DocumentFault d f → ⊥)
    → Tells (SwapSays at) IsLawfulSwap
document_tells d at found none =
    let free = streams_free d at found none in
    let ds = streams_in at in
    let clean : (j : ℕ) (x : Data) → slice_get ds j ≡ Some x → At [] x =
    λ j x e. clean_stream j x (λ f. free.free j x f e) in
    let good = all_good ds clean in
    of_fields _
    (λ s all. (refl, refl, λ h. (omega (arith, free.low, h.0), omega (arith, free.high, h.0), h.1)))
    (by_field (λ (s : Swap). s.streams)
    (each_tells (StreamSays (lists_of ds)) ds (λ j x e. stream_tells (lists_of ds) good x (clean j x e))))

-- what its swap says is what the document means, and is lawful
pub document_means : (d at : Data) (s : Swap) → ((f : Broken) → DocumentFault d f → ⊥) → the_swap d ≡ Ok at
    → SwapSays at s → Means d s
document_means d at s none found says = record { clean = none; at = at; found = found; says = says }

pub document_lawful : (d at : Data) (s : Swap) → ((f : Broken) → DocumentFault d f → ⊥) → the_swap d ≡ Ok at
    → SwapSays at s → IsLawfulSwap s
document_lawful d at s none found says =
    let t = document_tells d at found none in subst IsLawfulSwap (sym (t.only s says)) t.lawful
