use Rattle.std.proofs.Common.{subst, sym, true≢false, ◌∙◌}
use Rattle.page_trees.specs.Constructs.{Constructs, WithinLimits}
use Rattle.page_trees.specs.TableTexts.{text_settled}
use Rattle.page_trees.specs.declared.builder.TreeBuilder.{TreeBuilder}
use Rattle.page_trees.proofs.TokenCalls.{noted_after, noted_before, noted_then}
use Rattle.page_trees.proofs.builder.TreeBuilder.settle_table_text.Goals as goal

pub returns-then-keeps_characters-clause-limits : goal.returns-then-keeps_characters-clause-limits
returns-then-keeps_characters-clause-limits c = noted_before c.args.self.now c.flush_table_text.new.self _ (noted_then c.args.self.now c.flush_table_text.new.self _ _ c.met-before.ensures c.note_met.ensures)

pub returns-then-keeps_characters-clause-same : goal.returns-then-keeps_characters-clause-same
returns-then-keeps_characters-clause-same c off = absurd (true≢false (sym c.if-keeps_characters.true ∙ c.keeps_characters.ensures ∙ off))

pub returns-then-keeps_characters-clause-rule : goal.returns-then-keeps_characters-clause-rule
returns-then-keeps_characters-clause-rule c keeps plain within b stands =
    let same = noted_after c.args.self.now c.flush_table_text.new.self c.note_met.new.self (noted_then c.args.self.now c.flush_table_text.new.self _ _ c.met-before.ensures c.note_met.ensures) within in
    subst (λ (s : TreeBuilder). Constructs s (text_settled b)) (sym same) (c.flush_table_text.ensures.rule keeps plain (subst WithinLimits same within) b stands)

pub returns-else-keeps_characters-clause-rule : goal.returns-else-keeps_characters-clause-rule
returns-else-keeps_characters-clause-rule c keeps = absurd (true≢false (sym keeps ∙ sym c.keeps_characters.ensures ∙ c.if-keeps_characters.false))
