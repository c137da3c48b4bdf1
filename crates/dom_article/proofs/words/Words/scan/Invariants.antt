use Rattle.std.proofs.Common.{◌≡◌, true, drop}
use Rattle.dom_article.specs.Words.{no_words, scan}
use Rattle.dom_article.proofs.words.Words.scan.Given as goal

-- the characters that are left are still to be searched
abbrev pub invariant-loop-at : goal.invariant-loop-at
invariant-loop-at l = scan l.first l.skip (drop l.at l.text) l.found ≡ scan true 0 l.text no_words
