use Rattle.std.proofs.Common.{◌≡◌, drop, map}
use Rattle.page_trees.specs.Foreign.{adjusted}
use Rattle.page_trees.proofs.adjusting.adjusted.Given as goal

-- what is left decides
abbrev pub invariant-loop-known : goal.invariant-loop-known
invariant-loop-known l = adjusted (map (λ known. known.now) (drop l.known-index l.names)) l.name ≡ adjusted (map (λ known. known.now) l.names) l.name
