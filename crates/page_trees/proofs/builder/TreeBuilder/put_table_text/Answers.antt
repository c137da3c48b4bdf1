use Rattle.std.proofs.Common.{◌∙◌, sym}
use Rattle.page_trees.proofs.CharacterTurns.{is_empty_by}
use Rattle.page_trees.proofs.TableTexts.{letters_placed, nothing_placed, spaces_placed}
use Rattle.page_trees.proofs.builder.TreeBuilder.put_table_text.Goals as goal

pub returns-then-is_empty-clause-rule : goal.returns-then-is_empty-clause-rule
returns-then-is_empty-clause-rule c cs spelt = nothing_placed c.args.self.now c.args.text.now cs (sym (is_empty_by _) ∙ sym c.is_empty.ensures ∙ c.if-is_empty.true) spelt

pub returns-then-not-self-clause-rule : goal.returns-then-not-self-clause-rule
returns-then-not-self-clause-rule c cs spelt =
    spaces_placed c.args.self.now c.put_text.new.self c.args.text.now cs (sym (is_empty_by _) ∙ sym c.is_empty.ensures ∙ c.if-is_empty.false) spelt c.if-not-self.true
    c.put_text.ensures.rule

pub returns-clause-rule : goal.returns-clause-rule
returns-clause-rule c cs spelt =
    letters_placed c.args.self.now c.fostered_run.new.self c.args.text.now cs (sym (is_empty_by _) ∙ sym c.is_empty.ensures ∙ c.if-is_empty.false) spelt c.if-not-self.false
    c.fostered_run.ensures.rule
