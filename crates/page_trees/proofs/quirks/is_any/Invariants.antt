use Rattle.std.proofs.Common.{◌≡◌, drop, map}
use Rattle.std.specs.List.{list_any}
use Rattle.standard_trees.specs.Building.{is_text}
use Rattle.page_trees.proofs.quirks.is_any.Given as goal

-- what is left decides
abbrev pub invariant-loop-other : goal.invariant-loop-other
invariant-loop-other l = list_any (is_text l.text) (map (λ known. known.now) (drop l.other-index l.others)) ≡ list_any (is_text l.text) (map (λ known. known.now) l.others)
