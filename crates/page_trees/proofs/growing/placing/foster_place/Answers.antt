use Rattle.std.proofs.Common.{sym, ◌∙◌}
use Rattle.page_trees.specs.declared.growing.placing.Place.TheVariants.{EndOf, Table}
use Rattle.page_trees.proofs.PlacingLemmas.{lies_around, lies_front, lies_last, open_front, open_last, passed_over}
use Rattle.page_trees.proofs.growing.placing.foster_place.Goals as goal

pub returns-then-is_template-clause-lies : goal.returns-then-is_template-clause-lies
returns-then-is_template-clause-lies c = c.loop-open.invariant.lies (EndOf _) (lies_last _ _ _ _ _ c.in-Some.ensures.cases.0 c.inside.ensures.held)

pub returns-in_default-split_last-clause-lies : goal.returns-in_default-split_last-clause-lies
returns-in_default-split_last-clause-lies c = c.loop-open.invariant.lies (EndOf _) (lies_last _ _ _ _ _ c.in-Some.ensures.cases.0 (λ x element at. at))

pub returns-then-is_table-clause-place : goal.returns-then-is_table-clause-place
returns-then-is_table-clause-place c =
    let open_all = c.loop-open.invariant.open_elements in
    let first = c.in-Some.ensures.cases.0 in
    (open_last c.args.tree.now _ _ _ first open_all, open_last c.args.tree.now _ _ _ c.in-Some-split_last.ensures.cases.0 (open_front c.args.tree.now _ _ _ first open_all))

pub returns-then-is_table-clause-lies : goal.returns-then-is_table-clause-lies
returns-then-is_table-clause-lies c = c.loop-open.invariant.lies (Table _ _) (lies_around _ _ _ _ _ _ c.in-Some.ensures.cases.0 c.in-Some-split_last.ensures.cases.0)

pub loop-open-preserved : goal.loop-open-preserved
loop-open-preserved c =
    let first = c.in-Some.ensures.cases.0 in
    let second = c.in-Some-split_last.ensures.cases.0 in
    let template = sym c.is_template.ensures ∙ c.if-is_template.false in
    let table = sym c.is_table.ensures ∙ c.if-is_table.false in
    record {
      open_elements = open_front c.args.tree.now _ _ _ first c.loop-open.invariant.open_elements;
      lies = λ place at. c.loop-open.invariant.lies place (lies_front _ _ _ _ place first at);
      value = passed_over c.args.tree.now _ _ _ _ _ first second template table ∙ c.loop-open.invariant.value;
    }

pub returns-clause-lies : goal.returns-clause-lies
returns-clause-lies c = c.root_place.ensures.lies _
