use Rattle.std.proofs.Common.{◌≡◌, drop}
use Rattle.dom_article.specs.Hidden.{begins_with, squeezed}
use Rattle.dom_article.proofs.hidden.begins_squeezed.Given as goal

-- the characters that are left decide
abbrev pub invariant-loop-byte : goal.invariant-loop-byte
invariant-loop-byte l = begins_with l.rest (squeezed (drop l.byte-index l.text)) ≡ begins_with l.wanted (squeezed l.text)
