use Rattle.std.proofs.Common.{[], ◌∷◌, inl, inr, sym, subst}
use Rattle.std.specs.Prelude.{IfSome}
use Rattle.standard_trees.specs.RuleWords.{InBody, SwitchTo}
use Rattle.page_trees.specs.Constructs.{LeavesBy, leaving}
use Rattle.page_trees.specs.declared.builder.Mode.{Mode}
use Rattle.page_trees.proofs.BuilderSteps.{back_in_body}
use Rattle.page_trees.proofs.builder.TreeBuilder.leave_mode.Goals as goal

pub returns-in-InColumnGroup-clause-group : goal.returns-in-InColumnGroup-clause-group
returns-in-InColumnGroup-clause-group c is = record { found = c.leave_column_group.ensures.found; rule = c.leave_column_group.ensures.rule }

pub returns-in-AfterBody-clause-rule : goal.returns-in-AfterBody-clause-rule
returns-in-AfterBody-clause-rule c =
    let by : LeavesBy (SwitchTo InBody ∷ []) c.args.self.now c.again_in.new.self c.again_in.result =
    record { again = c.again_in.ensures.next; rule = back_in_body _ _ c.again_in.ensures.mode } in
    elim c.in-AfterBody.is [
      | inl e ↦ subst (λ (m : Mode). IfSome (leaving m) (λ actions. LeavesBy actions c.args.self.now c.again_in.new.self c.again_in.result)) (sym e) by
      | inr e ↦ subst (λ (m : Mode). IfSome (leaving m) (λ actions. LeavesBy actions c.args.self.now c.again_in.new.self c.again_in.result)) (sym e) by
    ]
