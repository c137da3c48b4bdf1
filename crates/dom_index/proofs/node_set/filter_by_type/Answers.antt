use Rattle.std.proofs.Common.{length, subst}
use Rattle.dom_selectors.specs.ValuesAsTrees.{read_compound}
use Rattle.dom_index.specs.TypeBytes.{HaveKnownTypes, IsFilteredByType}
use Rattle.dom_index.proofs.TypeFilterLemmas.{named_asked, named_hold}
use Rattle.dom_index.proofs.node_set.filter_by_type.Goals as goal

pub returns-then-wanted-clause-asked : goal.returns-then-wanted-clause-asked
returns-then-wanted-clause-asked c =
    let preorder = c.args.preorder.now in
    named_asked preorder.tree.now preorder.type_bytes.items preorder.named (read_compound c.args.compound.now) c.in-Some.wanted c.in-Some.ensures c.intersect_type.new.table.items c.args.table.now.items c.requires
    (subst (λ bytes. IsFilteredByType bytes c.in-Some.wanted.number c.intersect_type.new.table.items c.args.table.now.items) c.deref.ensures.value c.intersect_type.ensures)

pub returns-else-wanted-clause-asked : goal.returns-else-wanted-clause-asked
returns-else-wanted-clause-asked c =
    let preorder = c.args.preorder.now in
    named_asked preorder.tree.now preorder.type_bytes.items preorder.named (read_compound c.args.compound.now) c.in-Some.wanted c.in-Some.ensures c.intersect_type.new.table.items c.args.table.now.items c.requires
    (subst (λ bytes. IsFilteredByType bytes c.in-Some.wanted.number c.intersect_type.new.table.items c.args.table.now.items) c.deref.ensures.value c.intersect_type.ensures)

pub returns-then-wanted-clause-answer : goal.returns-then-wanted-clause-answer
returns-then-wanted-clause-answer c = λ answer.
    let preorder = c.args.preorder.now in
    let table = c.intersect_type.new.table.items in
    let wanted = c.in-Some.ensures in
    let named = subst (λ bytes. IsFilteredByType bytes c.in-Some.wanted.number table c.args.table.now.items) c.deref.ensures.value c.intersect_type.ensures in
    let known : HaveKnownTypes preorder.type_bytes.items table (length table) = subst (λ bytes. HaveKnownTypes bytes table (length table)) c.deref-then-wanted-2.ensures.value
    (subst (λ cells. HaveKnownTypes c.deref-then-wanted-2.result.now cells (length cells)) c.deref-then-wanted.ensures.value (c.have_known_types.ensures answer)) in
    (wanted.alone c.if-wanted.true, named_hold preorder.tree.now preorder.type_bytes.items preorder.named (read_compound c.args.compound.now) c.in-Some.wanted wanted table c.args.table.now.items c.requires named c.if-wanted.true known)
