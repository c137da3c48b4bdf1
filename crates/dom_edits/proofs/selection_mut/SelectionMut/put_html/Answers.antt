use Rattle.std.proofs.Common.{refl}
use Rattle.dom_edits.proofs.EachLemmas.{puts-selected}
use Rattle.dom_edits.proofs.selection_mut.SelectionMut.put_html.Goals as goal

pub returns : goal.returns
returns c =
    let both = puts-selected c.edit_each.result c.args.self.now.tree.now c.edit_each.new.tree c.args.self.now.nodes.items _ c.args.html.now c.args.place _ c.deref.ensures.value c.in_ok-snippet.ensures.ok c.edit_each.ensures in
    record {
      ok = both.0;
      err = both.1;
      same_nodes = refl;
      same_tree = refl;
    }
