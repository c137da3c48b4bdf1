use Rattle.std.proofs.Common.{◌∙◌, true, [], ◌∷◌, codes, refl, rules, sym, subst}
use denote.Enum.Bare.{same_false, same_true}
use Rattle.page_trees.specs.contracts.name.Name.{the_type}
use Rattle.page_trees.specs.declared.name.Name.{Name}
use Rattle.page_trees.specs.declared.builder.Next.{Next}
use Rattle.page_trees.specs.Constructs.{Outcome}
use Rattle.standard_trees.specs.RuleWords.{InCaption, InColumnGroup, InTable, InTableBody, InsertElement, InsertNamed, ListMarker, SwitchTo}
use Rattle.page_trees.specs.TableSteps.{clearing_to}
use Rattle.page_trees.specs.declared.sets.TableContext.{TableContext}
use Rattle.page_trees.proofs.TableRows.{caption_start, col_start, colgroup_start, inner_start, section_start, table_known}
use Rattle.page_trees.proofs.TableTags.{current_kept, row_at, tag_does}
use Rattle.page_trees.proofs.builder.TreeBuilder.start_table_part.Goals as goal

pub returns-then-eq-clause-rule : goal.returns-then-eq-clause-rule
returns-then-eq-clause-rule c part starts within b current stands =
    subst (λ (n : Next). Outcome InTable b c.start_caption.new.self n) (sym c.start_caption.ensures.next)
    (tag_does InTable table_known c.args.name c.args.tag.now true b _ (clearing_to TableContext.Table ∷ ListMarker ∷ InsertElement ∷ SwitchTo InCaption ∷ []) Next.Done current starts refl
    (row_at InTable b true c.args.name Name.Caption (same_true the_type (search rules) c.args.name Name.Caption (sym c.eq.ensures ∙ c.if-eq.true)) ∙ caption_start b)
    (c.start_caption.ensures.rule starts within _ (current_kept (clearing_to TableContext.Table) refl c.args.name c.args.tag.now b current) (c.clear_stack_to.ensures.rule (c.start_caption.ensures.limits within) b stands)))

pub returns-then-eq-2-clause-rule : goal.returns-then-eq-2-clause-rule
returns-then-eq-2-clause-rule c part starts within b current stands =
    subst (λ (n : Next). Outcome InTable b c.insert_then.new.self n) (sym c.insert_then.ensures.next)
    (tag_does InTable table_known c.args.name c.args.tag.now true b _ (clearing_to TableContext.Table ∷ InsertElement ∷ SwitchTo InColumnGroup ∷ []) Next.Done current starts refl
    (row_at InTable b true c.args.name Name.Colgroup (same_true the_type (search rules) c.args.name Name.Colgroup (sym c.eq-2.ensures ∙ c.if-eq-2.true)) ∙ colgroup_start b)
    (c.insert_then.ensures.rule refl starts within _ (current_kept (clearing_to TableContext.Table) refl c.args.name c.args.tag.now b current) (c.clear_stack_to.ensures.rule (c.insert_then.ensures.limits within) b stands)))

pub returns-then-eq-3-clause-rule : goal.returns-then-eq-3-clause-rule
returns-then-eq-3-clause-rule c part starts within b current stands =
    subst (λ (n : Next). Outcome InTable b c.imply.new.self n) (sym c.imply.ensures.next)
    (tag_does InTable table_known c.args.name c.args.tag.now true b _ (clearing_to TableContext.Table ∷ InsertNamed (codes "colgroup") ∷ SwitchTo InColumnGroup ∷ []) Next.Again current starts refl
    (row_at InTable b true c.args.name Name.Col (same_true the_type (search rules) c.args.name Name.Col (sym c.eq-3.ensures ∙ c.if-eq-3.true)) ∙ col_start b)
    (c.imply.ensures.rule refl refl within _ (c.clear_stack_to.ensures.rule (c.imply.ensures.limits within) b stands)))

pub returns-then-is_section-clause-rule : goal.returns-then-is_section-clause-rule
returns-then-is_section-clause-rule c part starts within b current stands =
    subst (λ (n : Next). Outcome InTable b c.insert_then-then-is_section.new.self n) (sym c.insert_then-then-is_section.ensures.next)
    (tag_does InTable table_known c.args.name c.args.tag.now true b _ (clearing_to TableContext.Table ∷ InsertElement ∷ SwitchTo InTableBody ∷ []) Next.Done current starts refl
    (section_start b c.args.name (sym c.is_section.ensures ∙ c.if-is_section.true))
    (c.insert_then-then-is_section.ensures.rule refl starts within _ (current_kept (clearing_to TableContext.Table) refl c.args.name c.args.tag.now b current) (c.clear_stack_to.ensures.rule (c.insert_then-then-is_section.ensures.limits within) b stands)))

pub returns-clause-rule : goal.returns-clause-rule
returns-clause-rule c part starts within b current stands =
    subst (λ (n : Next). Outcome InTable b c.imply-2.new.self n) (sym c.imply-2.ensures.next)
    (tag_does InTable table_known c.args.name c.args.tag.now true b _ (clearing_to TableContext.Table ∷ InsertNamed (codes "tbody") ∷ SwitchTo InTableBody ∷ []) Next.Again current starts refl
    (inner_start b c.args.name part (same_false the_type c.args.name Name.Caption (sym c.eq.ensures ∙ c.if-eq.false)) (same_false the_type c.args.name Name.Colgroup (sym c.eq-2.ensures ∙ c.if-eq-2.false)) (same_false the_type c.args.name Name.Col
    (sym c.eq-3.ensures ∙ c.if-eq-3.false)) (sym c.is_section.ensures ∙ c.if-is_section.false))
    (c.imply-2.ensures.rule refl refl within _ (c.clear_stack_to.ensures.rule (c.imply-2.ensures.limits within) b stands)))
