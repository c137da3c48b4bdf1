use Rattle.std.proofs.Common.{refl, reverse}
use Rattle.dom_links.specs.declared.gap.Place.TheVariants.{AtFront}
use Rattle.dom_edits.proofs.SourceLemmas.{gives}
use Rattle.dom_edits.proofs.selection_mut.SelectionMut.prepend_selection.Goals as goal

pub returns : goal.returns
returns c = gives c.copy_reversed.result c.in_ok-detach_sources.field-0 c.args.self.now _ c.copy_reversed.new.self c.args.sources.now (reverse c.args.sources.now) AtFront c.in_ok-detach_sources.ensures refl refl c.copy_reversed.ensures
