use Rattle.std.proofs.Common.{◌≡◌}
use Rattle.dom_article.proofs.finding.Found.leave_out_title.Given as goal

-- the root stays
abbrev pub invariant-loop-id : goal.invariant-loop-id
invariant-loop-id l = l.self.root ≡ l.fn.self.root
