use Rattle.std.proofs.Common.{◌≡◌, drop}
use Rattle.dom_article.specs.Hidden.{has_part, squeezed}
use Rattle.dom_article.proofs.hidden.mentions.Given as goal

-- the characters that are left decide
abbrev pub invariant-loop-at : goal.invariant-loop-at
invariant-loop-at l = has_part l.wanted (squeezed (drop l.at l.text)) ≡ has_part l.wanted (squeezed l.text)
