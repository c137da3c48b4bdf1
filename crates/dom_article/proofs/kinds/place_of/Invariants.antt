use Rattle.std.proofs.Common.{◌≡◌, drop, map}
use Rattle.dom_article.specs.Names.{base_in}
use Rattle.dom_article.proofs.FoldLemmas.{named_base}
use Rattle.dom_article.proofs.kinds.place_of.Given as goal

-- the pairs that are left decide
abbrev pub invariant-loop-at : goal.invariant-loop-at
invariant-loop-at l = base_in (drop l.at (map named_base l.bases)) l.name ≡ base_in (map named_base l.bases) l.name
