use Rattle.std.proofs.Common.{arith}
use Rattle.std.proofs.lemmas.List.{get_or_read}
use Rattle.dom_index.proofs.TypeFilterLemmas.{element_decided}
use Rattle.dom_index.proofs.type_filter.is_element_at.Goals as goal

pub returns : goal.returns
returns c =
    let g = c.args.preorder.now in
    let at = get_or_read g.type_bytes.items c.args.n c.index.result.now (let long = g.named.long in let known = c.requires in omega arith) c.index.ensures 0 in
    element_decided g.tree.now g.type_bytes.items g.named c.args.n c.requires c.index.result.now at
