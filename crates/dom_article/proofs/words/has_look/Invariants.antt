use Rattle.std.proofs.Common.{◌≡◌, drop, map, false}
use Rattle.dom_article.specs.Words.{has_look}
use Rattle.dom_article.proofs.FoldLemmas.{shown}
use Rattle.dom_article.proofs.words.has_look.Given as goal

-- those that are left are still to be looked at
abbrev pub invariant-loop-at : goal.invariant-loop-at
invariant-loop-at l = has_look (drop l.at (map shown l.looks)) l.text l.has ≡ has_look (map shown l.looks) l.text false
