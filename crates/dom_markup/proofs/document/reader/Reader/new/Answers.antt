use Rattle.std.proofs.Common.{[], refl, ◌∙◌, sym, ap, map}
use Rattle.dom_markup.specs.ValueTrees.ValueTrees.{no_trees}
use Rattle.dom_markup.specs.Reader.{opened_by}
use Rattle.dom_markup.proofs.rows.Frames.{document_of-none}
use Rattle.dom_markup.proofs.document.reader.Reader.new.Goals as goal

pub returns : goal.returns
returns c = record {
  frames = [];
  done = no_trees;
  items_are = refl;
  forest_is = c.in_ok-tree.ensures ∙ sym document_of-none;
  open_in_place = tt;
  in_place = tt;
  stack_is = ap (map opened_by) c.new-2.ensures.items;
}
