use Rattle.std.proofs.Common.{◌≡◌, drop, map}
use Rattle.std.specs.List.{list_any}
use Rattle.standard_trees.specs.Building.{begins}
use Rattle.page_trees.proofs.quirks.begins_any.Given as goal

-- what is left decides
abbrev pub invariant-loop-front : goal.invariant-loop-front
invariant-loop-front l = list_any (begins l.text) (map (λ known. known.now) (drop l.front-index l.fronts)) ≡ list_any (begins l.text) (map (λ known. known.now) l.fronts)
