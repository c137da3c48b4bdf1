use Rattle.std.proofs.Common.{◌∙◌, Bool, false, refl, sym, subst}
use Rattle.standard_trees.specs.RuleWords.{InTableBody}
use Rattle.page_trees.specs.Constructs.{Constructs, Outcome, all_performed}
use Rattle.page_trees.specs.TableSteps.{closing_section, if_found}
use Rattle.page_trees.specs.declared.builder.Next.{Next}
use Rattle.page_trees.proofs.TableRows.{body_known, section_end}
use Rattle.page_trees.proofs.TableTags.{own_in_table, section_is_known, tag_closes}
use Rattle.page_trees.proofs.builder.TreeBuilder.close_section.Goals as goal

pub returns-then-has_in_table-clause-rule : goal.returns-then-has_in_table-clause-rule
returns-then-has_in_table-clause-rule c tag section ends within b current stands =
    subst (λ (n : Next). Outcome InTableBody b c.end_section.new.self n) (sym c.end_section.ensures.next)
    (tag_closes InTableBody body_known c.args.name tag false b _ closing_section c.has_in_table.result _ current ends refl (section_end b c.args.name section)
    (c.has_in_table.ensures (section_is_known c.args.name section) b.tree stands.tree ∙ own_in_table c.args.name tag b (section_is_known c.args.name section) current)
    (subst (λ (found : Bool). Constructs c.end_section.new.self (all_performed (if_found found closing_section) b)) (sym c.if-has_in_table.true) (c.end_section.ensures.rule within b stands)))

pub returns-clause-rule : goal.returns-clause-rule
returns-clause-rule c tag section ends within b current stands =
    tag_closes InTableBody body_known c.args.name tag false b _ closing_section c.has_in_table.result _ current ends refl (section_end b c.args.name section)
    (c.has_in_table.ensures (section_is_known c.args.name section) b.tree stands.tree ∙ own_in_table c.args.name tag b (section_is_known c.args.name section) current)
    (subst (λ (found : Bool). Constructs c.args.self.now (all_performed (if_found found closing_section) b)) (sym c.if-has_in_table.false) stands)
