use Rattle.dom_trees.specs.Views.{node_attrs}
use Rattle.page_trees.proofs.MergedAttrs.{adds_found, adds_pushed}
use Rattle.page_trees.proofs.growing.late.LateTags.add.Goals as goal

pub returns-in-Some : goal.returns-in-Some
returns-in-Some c knows =
    let own = node_attrs c.args.tree.now c.args.id in
    adds_found own c.args.tag.now.attrs.items c.args.id c.in-Some.place c.args.self.now.elements.items c.add_at.new.self.elements.items c.in-Some.ensures knows
    (λ late known got. c.in_ok-add_at.ensures own late known got)

pub returns : goal.returns
returns c knows =
    let own = node_attrs c.args.tree.now c.args.id in
    adds_pushed own c.args.tag.now.attrs.items c.args.id c.args.self.now.elements.items c.push.new.self.elements.items c.in_ok-late.late c.add.new.self c.in_default.ensures
    c.in_ok-late.ensures.id c.in_ok-late.ensures.added (c.in_ok-add.ensures own c.in_ok-late.ensures.known) c.in_ok-push.ensures
