use Rattle.std.proofs.Common.{◌≡◌, ◌≤◌, ◌∙◌, arith, length, sym, ap, subst, vec_len}
use Rattle.std.proofs.lemmas.Result.{err_from_is_err_and}
use Rattle.dom_nodes.specs.declared.node_data.NodeData.{NodeData}
use Rattle.dom_links.specs.Copies.{copied_data, with_node_below}
use Rattle.dom_links.specs.Copying.{LacksRoom}
use Rattle.dom_links.specs.Forest.{forest_of}
use Rattle.dom_links.proofs.copies.Copied.{alone_refused, data_read, lent_node, way_on}
use Rattle.dom_links.proofs.ops.copies.add_copy.Goals as goal

pub returns-in_err-content : goal.returns-in_err-content
returns-in_err-content g c =
    let node = lent_node g.at c.args.other c.args.nodes.now.items c.deref.result.now c.args.id c.source_node-node.result.now c.deref.ensures.value c.requires.0 c.requires.1.known c.source_node-node.ensures in
    let count : c.len-number.result ≡ vec_len c.args.nodes.now = c.len-number.ensures in
    alone_refused g.at c.args.other c.from_residual-in_err-content.result c.in_err-content.field-0.0 c.args.nodes.now c.args.nodes.now c.args.id c.args.parent (err_from_is_err_and c.from_residual-in_err-content.result c.from_residual-in_err-content.ensures.1) c.requires.0
    (subst (λ (content : NodeData). LacksRoom (vec_len c.args.nodes.now) content c.in_err-content.field-0.0) (sym (data_read g.at.source c.args.id c.source_node-node.result.now node)) (rw count at c.in_err-content.ensures))

pub returns-in-Some : goal.returns-in-Some
returns-in-Some g c =
    let node = lent_node g.at c.args.other c.args.nodes.now.items c.deref.result.now c.args.id c.source_node-node.result.now c.deref.ensures.value c.requires.0 c.requires.1.known c.source_node-node.ensures in
    let adds = c.in_ok-made.ensures.adds in
    let few : length c.add_below.new.nodes.items ≤ 4294967295 = omega (arith, adds.grown, adds.number) in
    record {
      under_way = way_on g.at c.args.other c.args.nodes.now.items c.add_below.new.nodes.items (vec_len c.args.nodes.now) c.args.parent c.in-Some.text c.requires.0 c.requires.1.place c.in_ok-made.ensures.made c.in_ok-made.ensures.linked few;
      made = c.in_ok-made.ensures.made
          ∙ ap (λ content. with_node_below c.args.parent content (forest_of c.args.nodes.now.items))
          (c.in-Some.ensures ∙ ap (λ k. copied_data k c.source_node-node.result.now.content) c.len-number.ensures ∙ ap (copied_data (vec_len c.args.nodes.now)) (sym (data_read g.at.source c.args.id c.source_node-node.result.now node)));
      number = adds.number;
      grown = adds.grown;
      cause = tt;
    }

pub returns-in-Some-copy_element : goal.returns-in-Some-copy_element
returns-in-Some-copy_element g c =
    let node = lent_node g.at c.args.other c.args.nodes.now.items c.deref.result.now c.args.id c.source_node-node.result.now c.deref.ensures.value c.requires.0 c.requires.1.known c.source_node-node.ensures in
    let adds = c.in_ok-made-2.ensures.adds in
    let few : length c.add_below-in-Some-copy_element.new.nodes.items ≤ 4294967295 = omega (arith, adds.grown, adds.number) in
    record {
      under_way = way_on g.at c.args.other c.args.nodes.now.items c.add_below-in-Some-copy_element.new.nodes.items (vec_len c.args.nodes.now) c.args.parent c.in-Some-copy_element.element c.requires.0 c.requires.1.place c.in_ok-made-2.ensures.made c.in_ok-made-2.ensures.linked few;
      made = c.in_ok-made-2.ensures.made
          ∙ ap (λ content. with_node_below c.args.parent content (forest_of c.args.nodes.now.items))
          (c.in-Some-copy_element.ensures ∙ ap (λ k. copied_data k c.source_node-node.result.now.content) c.len-number.ensures ∙ ap (copied_data (vec_len c.args.nodes.now)) (sym (data_read g.at.source c.args.id c.source_node-node.result.now node)));
      number = adds.number;
      grown = adds.grown;
      cause = tt;
    }

pub returns : goal.returns
returns g c =
    let node = lent_node g.at c.args.other c.args.nodes.now.items c.deref.result.now c.args.id c.source_node-node.result.now c.deref.ensures.value c.requires.0 c.requires.1.known c.source_node-node.ensures in
    let adds = c.in_ok-made-3.ensures.adds in
    let few : length c.add_below-2.new.nodes.items ≤ 4294967295 = omega (arith, adds.grown, adds.number) in
    record {
      under_way = way_on g.at c.args.other c.args.nodes.now.items c.add_below-2.new.nodes.items (vec_len c.args.nodes.now) c.args.parent c.in_ok-content.content c.requires.0 c.requires.1.place c.in_ok-made-3.ensures.made c.in_ok-made-3.ensures.linked few;
      made = c.in_ok-made-3.ensures.made
          ∙ ap (λ content. with_node_below c.args.parent content (forest_of c.args.nodes.now.items))
          (c.in_ok-content.ensures ∙ ap (λ k. copied_data k c.source_node-node.result.now.content) c.len-number.ensures ∙ ap (copied_data (vec_len c.args.nodes.now)) (sym (data_read g.at.source c.args.id c.source_node-node.result.now node)));
      number = adds.number;
      grown = adds.grown;
      cause = tt;
    }
