use Rattle.std.proofs.Common.{◌≡◌, drop, map}
use Rattle.dom_article.specs.Names.{tag_in}
use Rattle.dom_article.specs.declared.kinds.Tag.TheVariants.{Other}
use Rattle.dom_article.proofs.FoldLemmas.{named_tag}
use Rattle.dom_article.proofs.kinds.tag_in.Given as goal

-- those that are left are still to be looked at
abbrev pub invariant-loop-at : goal.invariant-loop-at
invariant-loop-at l = tag_in (drop l.at (map named_tag l.tags)) l.name l.tag ≡ tag_in (map named_tag l.tags) l.name Other
