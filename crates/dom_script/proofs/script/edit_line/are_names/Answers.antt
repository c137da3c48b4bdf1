use Rattle.std.proofs.Common.{◌∙◌, ap, lit<, sym}
use Rattle.std.proofs.lemmas.Iterator.Consumers.{YieldsList-at, YieldsList-turn, YieldsList-end}
use Rattle.std.proofs.lemmas.Iterator.Splits.{YieldsList-from_str_split}
use Rattle.std.specs.List.{list_all}
use Rattle.dom_script.specs.EditLine.{names_in}
use Rattle.dom_script.specs.Words.{is_name}
use Rattle.dom_script.proofs.EditLines.{not-all}
use Rattle.dom_script.proofs.script.edit_line.are_names.Goals as goal

pub returns-then-not-is_name : goal.returns-then-not-is_name
returns-then-not-is_name c =
    let s = c.split-name-items.ensures in
    let road = YieldsList-at c.into_iter-name-iterator.ensures.into_iter_gives (YieldsList-from_str_split 32 c.args.text.now (lit< tt) s.text s.has_more s.pattern) in
    let turn = YieldsList-turn road c.loop-name.yielded _ c.loop-name.yielded_by _ _ c.in-Some.name c.in-Some.is c.next.ensures.steps in
    not-all is_name (names_in c.args.text.now) _ c.in-Some.name.now turn.0 turn.1 (sym c.is_name.ensures ∙ c.if-not-is_name.true)

pub returns : goal.returns
returns c =
    let s = c.split-name-items.ensures in
    let road = YieldsList-at c.into_iter-name-iterator.ensures.into_iter_gives (YieldsList-from_str_split 32 c.args.text.now (lit< tt) s.text s.has_more s.pattern) in
    let all = YieldsList-end road c.loop-name.yielded _ c.loop-name.yielded_by _ _ c.in-None.is c.next.ensures.steps in
    sym c.loop-name.invariant.passed ∙ ap (list_all is_name) all.0
