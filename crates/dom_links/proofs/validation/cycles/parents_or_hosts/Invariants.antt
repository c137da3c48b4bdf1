use Rattle.dom_links.specs.Validation.{AreLinksBy, parent_or_host}
use Rattle.dom_links.proofs.validation.cycles.parents_or_hosts.Given as goal

-- the steps up from the nodes so far
abbrev pub invariant-loop-n : goal.invariant-loop-n
invariant-loop-n l = AreLinksBy l.ups.items l.n (parent_or_host l.nodes l.hosts)
