use Rattle.std.proofs.Common.{ℕ, ◌≡◌, refl, subst, sym, true}
use Rattle.dom_links.specs.Sound.{children_allowed_at}
use Rattle.page_trees.proofs.MadeNodes.{root_opens}
use Rattle.page_trees.proofs.StandingEdits.{doctype_changes, doctype_forest}
use Rattle.page_trees.proofs.Ways.{child_call}
use Rattle.page_trees.proofs.growing.edits.put_doctype.Goals as goal

pub returns-clause-grows : goal.returns-clause-grows
returns-clause-grows c =
    let opens = subst (λ (n : ℕ). children_allowed_at c.args.tree.now n ≡ true) (sym c.root.ensures) (root_opens c.args.tree.now c.requires) in
    child_call _ _ _ _ _ _ c.made.ensures c.append_doctype_of.ensures c.is_forest.ensures opens refl refl

pub returns-clause-made : goal.returns-clause-made
returns-clause-made c = doctype_forest _ _ _ _ _ _ _ c.made.ensures c.append_doctype_of.ensures c.is_forest.ensures refl c.in_ok-made.was c.root.ensures

pub returns-clause-rule : goal.returns-clause-rule
returns-clause-rule c kind is =
    doctype_changes _ _ _ _ _ kind c.is_forest.ensures c.requires is
    (doctype_forest _ _ _ _ _ _ _ c.made.ensures c.append_doctype_of.ensures c.is_forest.ensures refl c.in_ok-made.was c.root.ensures)
