use Rattle.std.proofs.Common.{subst, sym}
use Rattle.dom_links.specs.Insertions.{Placed}
use Rattle.dom_links.proofs.copies.Inserting.{in_place_of_children}
use Rattle.dom_links.proofs.ops.insertions.put_new.Goals as goal

pub returns-in-InsteadOfChildren : goal.returns-in-InsteadOfChildren
returns-in-InsteadOfChildren c =
    subst (λ place. Placed c.args.nodes.now c.move_list.new.nodes place c.args.x c.args.new.now) (sym c.in-InsteadOfChildren.is)
    (in_place_of_children c.args.nodes.now c.remove_children.new.nodes c.move_list.new.nodes c.args.x c.args.new.now c.remove_children.ensures c.move_list.ensures)
