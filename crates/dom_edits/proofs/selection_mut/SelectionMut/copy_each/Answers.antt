use Rattle.std.proofs.Common.{refl}
use Rattle.dom_edits.proofs.SourceLemmas.{copied_each, some_of}
use Rattle.dom_edits.proofs.selection_mut.SelectionMut.copy_each.Goals as goal

pub returns : goal.returns
returns c =
    let some = some_of c.args.sources.now _ refl c.if-is_empty.ensures in
    let both = copied_each c.edit_each.result c.args.self.now.tree.now c.edit_each.new.tree c.args.self.now.nodes.items _ c.args.sources.now c.args.place c.deref.ensures.value some c.edit_each.ensures in
    record {
      ok = both.0;
      err = both.1;
      same_nodes = refl;
      same_tree = refl;
    }
