use Rattle.std.proofs.Common.{refl}
use Rattle.dom_links.specs.declared.gap.Place.TheVariants.{AtEnd}
use Rattle.dom_edits.proofs.SourceLemmas.{gives}
use Rattle.dom_edits.proofs.selection_mut.SelectionMut.append_selection.Goals as goal

pub returns : goal.returns
returns c = gives c.copy_each.result c.in_ok-detach_sources.field-0 c.args.self.now _ c.copy_each.new.self c.args.sources.now c.args.sources.now AtEnd c.in_ok-detach_sources.ensures refl refl c.copy_each.ensures
