use Rattle.std.proofs.Common.{refl}
use Rattle.standard_trees.specs.RuleWords.{ListMarker}
use Rattle.page_trees.proofs.TableTags.{current_kept}
use Rattle.page_trees.proofs.builder.TreeBuilder.start_caption.Goals as goal

pub returns-clause-rule : goal.returns-clause-rule
returns-clause-rule c starts within b current stands =
    c.insert_then.ensures.rule refl starts within _ (current_kept ListMarker refl c.args.name c.args.tag.now b current)
    (c.push_marker.ensures.rule (c.insert_then.ensures.limits within) b stands)
