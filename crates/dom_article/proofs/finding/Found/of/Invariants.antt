use Rattle.std.proofs.Common.{◌≡◌}
use Rattle.dom_article.proofs.finding.Found.of.Given as goal

-- the root stays
abbrev pub invariant-loop-id : goal.invariant-loop-id
invariant-loop-id l = l.found.root ≡ l.choice.root

abbrev pub invariant-loop-id-2 : goal.invariant-loop-id-2
invariant-loop-id-2 l = l.found.root ≡ l.choice.root
