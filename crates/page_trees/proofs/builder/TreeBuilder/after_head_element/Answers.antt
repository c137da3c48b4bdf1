use Rattle.std.proofs.Common.{inl, inr, refl, sym, subst}
use Rattle.page_trees.specs.declared.name.Name.{Name}
use Rattle.standard_trees.specs.RuleWords.{RawText, RcdataText, ScriptText}
use Rattle.page_trees.specs.Constructs.{Performs}
use Rattle.page_trees.specs.HeadSteps.{after_element}
use Rattle.page_trees.proofs.HeadEdits.{closed_after}
use Rattle.page_trees.proofs.builder.TreeBuilder.after_head_element.Goals as goal

pub returns-in-Title-clause-rule : goal.returns-in-Title-clause-rule
returns-in-Title-clause-rule c =
    subst (λ (n : Name). Performs (after_element n) c.args.self.now c.read_text.new.self) (sym c.in-Title.is) (c.read_text.ensures.rule RcdataText refl)

pub returns-in-Noframes-clause-rule : goal.returns-in-Noframes-clause-rule
returns-in-Noframes-clause-rule c = elim c.in-Noframes.is [
  | inl e ↦ subst (λ (n : Name). Performs (after_element n) c.args.self.now c.read_text-in-Noframes.new.self) (sym e) (c.read_text-in-Noframes.ensures.rule RawText refl)
  | inr e ↦ subst (λ (n : Name). Performs (after_element n) c.args.self.now c.read_text-in-Noframes.new.self) (sym e) (c.read_text-in-Noframes.ensures.rule RawText refl)
]

pub returns-in-Noscript-clause-rule : goal.returns-in-Noscript-clause-rule
returns-in-Noscript-clause-rule c =
    subst (λ (n : Name). Performs (after_element n) c.args.self.now c.read_text-in-Noscript.new.self) (sym c.in-Noscript.is) (c.read_text-in-Noscript.ensures.rule RawText refl)

pub returns-in-Script-clause-rule : goal.returns-in-Script-clause-rule
returns-in-Script-clause-rule c =
    subst (λ (n : Name). Performs (after_element n) c.args.self.now c.read_text-in-Script.new.self) (sym c.in-Script.is) (c.read_text-in-Script.ensures.rule ScriptText refl)

pub returns-in-Template-clause-rule : goal.returns-in-Template-clause-rule
returns-in-Template-clause-rule c =
    subst (λ (n : Name). Performs (after_element n) c.args.self.now c.args.self.now) (sym c.in-Template.is) (λ within b stands. stands)

pub returns-in_default-clause-rule : goal.returns-in_default-clause-rule
returns-in_default-clause-rule c =
    closed_after c.args.name c.args.self.now c.close_element.new.self c.in_default.not-Title c.in_default.not-Noframes c.in_default.not-Style c.in_default.not-Noscript c.in_default.not-Script
    c.in_default.not-Template c.close_element.ensures.rule
