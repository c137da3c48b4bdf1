use Rattle.std.proofs.Common.{sym, ap, ◌∙◌, ◌≡◌}
use Rattle.std.proofs.lemmas.Result.{IfOk-weaker}
use Rattle.standard_trees.specs.Building.{Building}
use Rattle.page_trees.specs.Constructs.{Constructs}
use Rattle.page_trees.specs.DocumentTrees.{IsTreeOf}
use Rattle.page_trees.specs.Quirks.{mode_of}
use Rattle.page_trees.specs.Stands.{Builds}
use Rattle.page_trees.specs.TreeState.{TreeState}
use Rattle.page_trees.specs.declared.growing.BuiltTree.{BuiltTree}
use Rattle.page_trees.proofs.builder.TreeBuilder.into_built.Goals as goal

pub returns-clause-rule : goal.returns-clause-rule
returns-clause-rule c =
    IfOk-weaker c.into_built.result
    (λ (built : BuiltTree). (b : Building) → Builds c.set_quirks_mode.new.self b.tree → mode_of b.quirks ≡ c.set_quirks_mode.new.self.quirks → IsTreeOf b built.tree built.quirks_mode)
    (λ (built : BuiltTree). (b : Building) → Constructs c.args.self b → IsTreeOf b built.tree built.quirks_mode)
    (λ built ends b stands. ends b (c.set_quirks_mode.ensures.rule b.tree stands.tree) (stands.quirks ∙ sym (ap (λ (s : TreeState). s.quirks) c.set_quirks_mode.ensures.value)))
    c.into_built.ensures.rule
