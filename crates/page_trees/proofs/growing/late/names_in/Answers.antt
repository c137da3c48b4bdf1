use Rattle.std.proofs.Common.{◌∙◌}
use Rattle.page_trees.proofs.AbsentAttrs.{names_left, names_noted}
use Rattle.page_trees.proofs.growing.late.names_in.Goals as goal

pub loop-attr-preserved : goal.loop-attr-preserved
loop-attr-preserved c = λ name.
    names_noted c.loop-attr.names c.add_name.new.names c.in-Some.attr.now c.in-Some.others.now c.loop-attr.rest.now c.as_str.result.now name
    c.in-Some.ensures.cases.0 (c.as_str.ensures ∙ c.local.ensures) c.in_ok-add_name.ensures
    ∙ c.loop-attr.invariant name

pub returns : goal.returns
returns c = λ name. names_left c.loop-attr.names c.loop-attr.rest.now name c.in_default.ensures.cases ∙ c.loop-attr.invariant name
