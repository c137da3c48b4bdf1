use Rattle.std.proofs.Common.{refl, sym, subst}
use Rattle.standard_trees.specs.RuleWords.{Initial}
use Rattle.page_trees.specs.Constructs.{Outcome}
use Rattle.page_trees.specs.Modes.{is_start_kind}
use Rattle.page_trees.specs.declared.builder.Mode.{Mode}
use Rattle.page_trees.specs.declared.builder.Next.{Next}
use Rattle.page_trees.proofs.CoveredTags.{always, behind_head, initial_left, under_html}
use Rattle.page_trees.proofs.ModeOutcomes.{from_initial}
use Rattle.page_trees.proofs.builder.TreeBuilder.outer_tag.Goals as goal

pub returns-in-BeforeHtml : goal.returns-in-BeforeHtml
returns-in-BeforeHtml c = record { rule = λ outer. always _ Mode.BeforeHtml _ _ _ _ _ c.in-BeforeHtml.is c.before_html_tag.ensures.rule }

pub returns-in_default : goal.returns-in_default
returns-in_default c = record {
  rule = λ outer. always _ Mode.Initial _ _ _ _ _
      (initial_left c.args.self.now.mode outer c.in_default.not-BeforeHtml c.in_default.not-BeforeHead c.in_default.not-InHead c.in_default.not-InHeadNoscript
      c.in_default.not-AfterHead c.in_default.not-AfterBody c.in_default.not-InFrameset c.in_default.not-AfterFrameset c.in_default.not-AfterAfterBody
      c.in_default.not-AfterAfterFrameset)
      (λ within b current stands. subst (λ (next : Next). Outcome Initial b c.leave_initial.new.self next) (sym c.leave_initial.ensures.next)
      (from_initial c.args.name c.args.tag.now (is_start_kind c.args.tag.now.kind) b _ current refl (c.leave_initial.ensures.rule within b stands)));
}

pub returns-in-BeforeHead : goal.returns-in-BeforeHead
returns-in-BeforeHead c = record { rule = λ outer. under_html _ Mode.BeforeHead _ _ _ _ _ c.in-BeforeHead.is (λ b. refl) c.before_head_tag.ensures.rule }

pub returns-in-AfterBody : goal.returns-in-AfterBody
returns-in-AfterBody c = record { rule = λ outer. under_html _ Mode.AfterBody _ _ _ _ _ c.in-AfterBody.is (λ b. refl) c.after_body_tag.ensures.rule }

pub returns-in-AfterAfterBody : goal.returns-in-AfterAfterBody
returns-in-AfterAfterBody c = record { rule = λ outer. under_html _ Mode.AfterAfterBody _ _ _ _ _ c.in-AfterAfterBody.is (λ b. refl) c.after_after_body_tag.ensures.rule }

pub returns-in-InHead : goal.returns-in-InHead
returns-in-InHead c = record { rule = λ outer. under_html _ Mode.InHead _ _ _ _ _ c.in-InHead.is (λ b. refl) c.head_tag.ensures.rule }

pub returns-in-InHeadNoscript : goal.returns-in-InHeadNoscript
returns-in-InHeadNoscript c = record { rule = λ outer. under_html _ Mode.InHeadNoscript _ _ _ _ _ c.in-InHeadNoscript.is (λ b. refl) c.noscript_tag.ensures.rule }

pub returns-in-AfterHead : goal.returns-in-AfterHead
returns-in-AfterHead c = record { rule = λ outer. behind_head _ Mode.AfterHead _ _ _ _ _ c.in-AfterHead.is (λ b. refl) c.after_head_tag.ensures.rule }

pub returns-in-InFrameset : goal.returns-in-InFrameset
returns-in-InFrameset c = record { rule = λ outer. under_html _ Mode.InFrameset _ _ _ _ _ c.in-InFrameset.is (λ b. refl) c.frameset_tag.ensures.rule }

pub returns-in-AfterFrameset : goal.returns-in-AfterFrameset
returns-in-AfterFrameset c = record { rule = λ outer. under_html _ Mode.AfterFrameset _ _ _ _ _ c.in-AfterFrameset.is (λ b. refl) c.after_frameset_tag.ensures.rule }

pub returns-in-AfterAfterFrameset : goal.returns-in-AfterAfterFrameset
returns-in-AfterAfterFrameset c = record { rule = λ outer. under_html _ Mode.AfterAfterFrameset _ _ _ _ _ c.in-AfterAfterFrameset.is (λ b. refl) c.after_after_frameset_tag.ensures.rule }
