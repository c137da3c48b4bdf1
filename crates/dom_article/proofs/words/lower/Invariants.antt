use Rattle.std.proofs.Common.{◌≡◌, ◌++◌, false, drop}
use Rattle.dom_article.specs.Words.{lowered}
use Rattle.dom_article.proofs.words.lower.Given as goal

-- the letters that are left are still to be written
abbrev pub invariant-loop-byte : goal.invariant-loop-byte
invariant-loop-byte l = l.low.items ++ lowered l.small (drop l.byte-index l.text) ≡ lowered false l.text
