use Rattle.std.proofs.Common.{◌≡◌, ◌+◌, drop}
use Rattle.dom_article.specs.Words.{class_length}
use Rattle.dom_article.proofs.words.class_length.Given as goal

-- the class goes on at least to here
abbrev pub invariant-loop-at : goal.invariant-loop-at
invariant-loop-at l = l.at + class_length (drop l.at l.text) ≡ class_length l.text
