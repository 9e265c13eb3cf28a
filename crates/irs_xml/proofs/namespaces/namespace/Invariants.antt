use Rattle.std.proofs.Common.{◌≡◌, drop, Bor, List, ℕ}
use Rattle.std.specs.Option.{option_map}
use Rattle.irs_xml.specs.Tags.{latest, namespace_of}
use Rattle.irs_xml.specs.Private.TagViews.{scope_view}
use Rattle.irs_xml.proofs.namespaces.namespace.Given as goal

-- what is left, after what was found, gives what all gives
abbrev pub invariant-loop-declaration : goal.invariant-loop-declaration
invariant-loop-declaration l =
    latest (option_map (λ (n : Bor (List ℕ)). n.now) l.found) (scope_view (drop l.declaration-index l.scope)) l.prefix
    ≡ namespace_of (scope_view l.scope) l.prefix
