use Rattle.std.proofs.Common.{◌≡◌, drop, map}
use Rattle.dom_article.specs.Words.{with_words}
use Rattle.dom_article.proofs.FoldLemmas.{entry}
use Rattle.dom_article.proofs.words.add_words.Given as goal

-- those that are left are still to be looked at
abbrev pub invariant-loop-at : goal.invariant-loop-at
invariant-loop-at l = with_words (drop l.at (map entry l.words)) l.text l.first l.found ≡ with_words (map entry l.words) l.text l.first l.fn.found
