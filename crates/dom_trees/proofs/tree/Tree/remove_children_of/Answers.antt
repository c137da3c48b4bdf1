use Rattle.std.proofs.Common.{◌≡◌, arith, ap, length, rules, ◌∙◌}
use Rattle.std.proofs.lemmas.Grind.{common_steps}
use Rattle.std.proofs.lemmas.List.{with_items_is}
use Rattle.dom_links.specs.Forest.{forest_of, children_of}
use Rattle.dom_links.specs.Moves.{detach}
use Rattle.dom_trees.proofs.tree.Tree.remove_children_of.Goals as goal

pub returns : goal.returns
returns c =
    let same : length c.remove_children.new.nodes ≡ length c.deref_mut.result.now = omega arith in
    let long : length c.remove_children.new.nodes ≡ c.self.inside.nodes.len = same ∙ c.deref_mut.ensures.len in
    record {
      ok = ap forest_of (with_items_is c.self.inside.nodes c.remove_children.new.nodes long) ∙ c.remove_children.ensures.made
          ∙ ap (λ nodes. detach (children_of (forest_of nodes) c.args.id.now) (forest_of nodes)) c.deref_mut.ensures.value
          ∙ ap (λ forest. detach (children_of forest c.args.id.now) forest) c.self.view_is;
      allowed = search rules;
      err = search rules;
      cause = search rules;
    }

pub remove_children-requires-clause-known : goal.remove_children-requires-clause-known
remove_children-requires-clause-known c = grind (arith, common_steps)
