use Rattle.dom_select.proofs.MeaningLemmas.{means_unknown}
use Rattle.dom_select.proofs.types.SubjectLemmas.{match_decided, match_may_be}
use Rattle.dom_select.proofs.matcher.descendants.is_match_of_types.Goals as goal

pub returns-in_default-clause-is : goal.returns-in_default-clause-is
returns-in_default-clause-is c = λ match. means_unknown c.args.matcher.now c.args.caches.now c.args.id (rw c.tree.ensures at c.in_default.ensures) match.1

pub returns-then-not-may_be_subject-clause-is : goal.returns-then-not-may_be_subject-clause-is
returns-then-not-may_be_subject-clause-is c = λ match.
    let node = rw c.tree.ensures at c.in-Some.ensures.content_is in
    c.if-not-may_be_subject.ensures (match_may_be c.args.matcher.now c.args.caches.now c.args.id c.in-Some.found.now.content node c.args.types.now c.requires match)

pub returns-clause-is : goal.returns-clause-is
returns-clause-is c =
    let node = rw c.tree.ensures at c.in-Some.ensures.content_is in
    match_decided c.args.matcher.now c.args.caches.now c.args.id c.in-Some.found.now.content node c.means_node.result c.if-not-may_be_subject.ensures (rw c.selectors.ensures at c.means_node.ensures.is)
