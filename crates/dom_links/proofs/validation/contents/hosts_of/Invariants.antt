use Rattle.dom_links.proofs.checks.Checked.{Holds}
use Rattle.dom_links.proofs.validation.contents.hosts_of.Given as goal

-- the hosts of what the nodes so far name
abbrev pub invariant-loop-node : goal.invariant-loop-node
invariant-loop-node l = Holds l.nodes l.hosts.items l.node-index
