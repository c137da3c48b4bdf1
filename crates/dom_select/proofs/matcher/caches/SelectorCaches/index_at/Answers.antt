use Rattle.std.proofs.Common.{rules}
use Rattle.dom_select.proofs.matcher.caches.SelectorCaches.index_at.Goals as goal

pub invariant_of-self : goal.invariant_of-self
invariant_of-self c = search rules

pub invariant_of-self-in-LastChild : goal.invariant_of-self-in-LastChild
invariant_of-self-in-LastChild c = search rules

pub invariant_of-self-in-OfType : goal.invariant_of-self-in-OfType
invariant_of-self-in-OfType c = search rules

pub invariant_of-self-in-LastOfType : goal.invariant_of-self-in-LastOfType
invariant_of-self-in-LastOfType c = search rules
