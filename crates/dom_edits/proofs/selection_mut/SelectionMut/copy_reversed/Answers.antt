use Rattle.std.proofs.Common.{◌≡◌, arith, length, refl, vec_len}
use Rattle.dom_links.specs.declared.gap.Place.TheVariants.{AtFront}
use Rattle.dom_edits.proofs.SourceLemmas.{lacking, some_of, some_turned}
use Rattle.dom_edits.proofs.selection_mut.SelectionMut.copy_reversed.Goals as goal

pub returns-in-Err : goal.returns-in-Err
returns-in-Err c =
    let nodes = c.args.self.now.nodes in
    let counted : vec_len nodes ≡ length nodes.items = omega arith in
    let some = some_turned c.args.sources.now (some_of c.args.sources.now _ refl c.if-is_empty.ensures) in
    record {
      ok = tt;
      err = lacking AtFront _ nodes.items c.args.self.now.tree.now some (some_of nodes.items (vec_len nodes) counted c.if-is_empty-2.ensures);
      same_nodes = refl;
      same_tree = refl;
    }
