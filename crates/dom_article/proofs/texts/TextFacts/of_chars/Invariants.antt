use Rattle.std.proofs.Common.{◌≡◌}
use Rattle.dom_article.specs.Contents.{no_text, with_chars}
use Rattle.dom_article.proofs.texts.TextFacts.of_chars.Given as goal

-- what counts of the characters so far
abbrev pub invariant-loop-c : goal.invariant-loop-c
invariant-loop-c l = l.facts ≡ with_chars no_text l.yielded
