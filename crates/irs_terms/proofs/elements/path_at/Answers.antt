use Rattle.std.proofs.Common.{◌≡◌, ℕ, List, Some, option_map, ap, ◌∙◌}
use Rattle.std.specs.Prelude.{slice_get, map}
use Rattle.std.specs.Borrow.{Bor}
use Rattle.std.proofs.lemmas.Option.{slice_get-map, slice_get-get_or}
use Rattle.irs_terms.proofs.elements.path_at.Goals as goal

seen : (paths : List (Bor (List ℕ))) (i : ℕ) (p : Bor (List ℕ)) → slice_get paths i ≡ Some p
    → slice_get (map (λ q. q.now) paths) i ≡ Some p.now
seen paths i p e = slice_get-map (λ q. q.now) paths i ∙ ap (option_map (λ q. q.now)) e

pub returns : goal.returns
returns c = seen c.args.paths.now c.args.place _ (slice_get-get_or c.args.paths.now c.args.place _ c.requires)
