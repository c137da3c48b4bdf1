use Rattle.std.proofs.Common.{refl, sym, ◌∙◌}
use Rattle.page_trees.specs.declared.name.Name.{Name}
use Rattle.page_trees.specs.declared.builder.Mode.{Mode}
use Rattle.page_trees.proofs.BuilderSteps.{entered}
use Rattle.page_trees.proofs.FramesetTags.{left_none, open_current, stays_fragment, stays_frameset}
use Rattle.page_trees.proofs.builder.TreeBuilder.leave_framesets.Goals as goal

pub returns-then-is_fragment-clause-rule : goal.returns-then-is_fragment-clause-rule
returns-then-is_fragment-clause-rule c b stands = stays_fragment c.args.self.now b (sym (c.is_fragment.ensures.rule b.tree stands.tree) ∙ c.if-is_fragment.true) stands

pub returns-then-current_is-clause-rule : goal.returns-then-current_is-clause-rule
returns-then-current_is-clause-rule c b stands =
    let frameset = open_current c.args.self.now.tree b.tree c.open.result.now.elements.items Name.Frameset refl c.open.ensures.elements stands.tree c.current_is.result c.current_is.ensures in
    stays_frameset c.args.self.now b (sym frameset ∙ c.if-current_is.true) stands

pub returns-clause-rule : goal.returns-clause-rule
returns-clause-rule c b stands =
    let frameset = open_current c.args.self.now.tree b.tree c.open.result.now.elements.items Name.Frameset refl c.open.ensures.elements stands.tree c.current_is.result c.current_is.ensures in
    left_none c.args.self.now _ b (sym (c.is_fragment.ensures.rule b.tree stands.tree) ∙ c.if-is_fragment.false) (sym frameset ∙ c.if-current_is.false)
    (entered _ _ Mode.AfterFrameset c.done_in.ensures.mode refl b stands)
