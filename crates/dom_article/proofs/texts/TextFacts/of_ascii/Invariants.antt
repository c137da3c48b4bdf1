use Rattle.std.proofs.Common.{◌≡◌, drop}
use Rattle.dom_article.specs.Contents.{no_text, with_chars}
use Rattle.dom_article.proofs.texts.TextFacts.of_ascii.Given as goal

-- the characters that are left are still to be counted
abbrev pub invariant-loop-byte : goal.invariant-loop-byte
invariant-loop-byte l = with_chars l.facts (drop l.byte-index l.text) ≡ with_chars no_text l.text
