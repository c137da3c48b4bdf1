use Rattle.dom_sanitize.specs.Sets.{IsSetOf}
use Rattle.dom_sanitize.proofs.SetLemmas.{first_names}
use Rattle.dom_sanitize.proofs.lookup.set_of.Given as goal

-- the set has the names so far
abbrev pub invariant-loop-name : goal.invariant-loop-name
invariant-loop-name l = IsSetOf l.set (first_names l.name-index l.names)
