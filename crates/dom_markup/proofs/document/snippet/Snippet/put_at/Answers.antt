use Rattle.std.proofs.Common.{◌∙◌, subst}
use Rattle.dom_links.specs.Sound.{IsForest}
use Rattle.dom_markup.proofs.rows.Putting.{puts_read}
use Rattle.dom_markup.proofs.document.snippet.Snippet.put_at.Goals as goal

pub returns : goal.returns
returns c =
    puts_read c.merge_at.result c.args.tree.now c.merge_at.new.self c.self.inside.tree c.args.self.now c.as_slice.result.now c.args.place c.args.id.now
    (subst IsForest c.nodes.ensures.value c.nodes.ensures.sound.forest) c.self.view_is (c.as_slice.ensures ∙ c.self.invariant) c.merge_at.ensures
