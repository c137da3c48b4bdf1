use Rattle.std.proofs.Common.{refl}
use Rattle.page_trees.specs.Stands.{text_list}
use Rattle.page_trees.proofs.BodyControls.{option_implied, option_popped}
use Rattle.page_trees.proofs.builder.TreeBuilder.end_option.Goals as goal

pub returns-then-not-imply_ends_in-clause-rule : goal.returns-then-not-imply_ends_in-clause-rule
returns-then-not-imply_ends_in-clause-rule c known within b stands =
    option_popped c.args.self.now c.imply_ends_in.new.self c.pop_if.new.self b (text_list c.args.except) c.imply_ends_in.result (c.imply_ends_in.ensures.found refl b.tree stands.tree)
    c.if-not-imply_ends_in.true (c.imply_ends_in.ensures.kept c.if-not-imply_ends_in.true) (c.pop_if.ensures refl) stands

pub returns-else-not-imply_ends_in-clause-rule : goal.returns-else-not-imply_ends_in-clause-rule
returns-else-not-imply_ends_in-clause-rule c known within b stands =
    option_implied c.imply_ends_in.new.self b (text_list c.args.except) c.imply_ends_in.result (c.imply_ends_in.ensures.found refl b.tree stands.tree) c.if-not-imply_ends_in.false
    (c.imply_ends_in.ensures.rule refl known within b stands)
