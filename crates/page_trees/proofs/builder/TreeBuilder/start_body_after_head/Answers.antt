use Rattle.std.proofs.Common.{refl, sym, subst}
use Rattle.page_trees.specs.Constructs.{Outcome}
use Rattle.page_trees.specs.declared.builder.Next.{Next}
use Rattle.standard_trees.specs.RuleWords.{AfterHead}
use Rattle.page_trees.proofs.ClosedEntries.{no_frameset}
use Rattle.page_trees.proofs.HeadModes.{body_opened, spoiled_current}
use Rattle.page_trees.proofs.builder.TreeBuilder.start_body_after_head.Goals as goal

pub returns-clause-rule : goal.returns-clause-rule
returns-clause-rule c starts within b current stands =
    subst (λ (next : Next). Outcome AfterHead b c.insert_then.new.self next) (sym c.insert_then.ensures.next)
    (body_opened c.args.tag.now b c.insert_then.new.self current starts
    (c.insert_then.ensures.rule refl starts within _ (spoiled_current c.args.tag.now b current) (no_frameset c.args.self.now b stands)))
