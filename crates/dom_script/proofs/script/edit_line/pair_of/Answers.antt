use Rattle.std.proofs.Common.{codes, inl, sym, ◌∙◌}
use Rattle.dom_markup.proofs.grammar.Marks.{found_first, found_nowhere}
use Rattle.dom_markup.specs.Markup.{EndsAtMark}
use Rattle.dom_script.proofs.Names.{no-pair-alone, no-pair-spaced}
use Rattle.dom_script.proofs.script.edit_line.pair_of.Goals as goal

pub returns-then-not-is_name : goal.returns-then-not-is_name
returns-then-not-is_name c = no-pair-alone c.args.text.now (found_nowhere (codes " ") c.args.text.now c.in_default.ensures.cases) (sym c.is_name.ensures ∙ c.if-not-is_name.true)

pub returns-then-not-is_name-2 : goal.returns-then-not-is_name-2
returns-then-not-is_name-2 c =
    let found = c.in-Some.ensures.cases in
    let ends : EndsAtMark (codes " ") c.args.text.now c.in-Some.name.now c.in-Some.value.now = found_first (codes " ") c.args.text.now _ _ found.0 found.1 found.2 found.3 found.4 found.6 in
    no-pair-spaced c.args.text.now c.in-Some.name.now c.in-Some.value.now ends (sym c.is_name-2.ensures ∙ c.if-not-is_name-2.true)

pub returns : goal.returns
returns c =
    let found = c.in-Some.ensures.cases in
    let ends : EndsAtMark (codes " ") c.args.text.now c.in-Some.name.now c.in-Some.value.now = found_first (codes " ") c.args.text.now _ _ found.0 found.1 found.2 found.3 found.4 found.6 in
    (inl ends.is, sym c.is_name-2.ensures ∙ c.if-not-is_name-2.false)
