use Rattle.std.proofs.Common.{◌∙◌, ap, lit<, sym, length, Bor, List, ℕ}
use Rattle.std.specs.Prelude.{◌==◌, ◌&&◌}
use Rattle.std.proofs.lemmas.Iterator.Consumers.{YieldsList-at, YieldsList-turn, YieldsList-end}
use Rattle.std.proofs.lemmas.Iterator.Splits.{YieldsList-from_str_split}
use Rattle.std.proofs.lemmas.List.{length-map}
use Rattle.std.specs.List.{list_all}
use Rattle.dom_script.specs.NameLists.{is_list, lists_in}
use Rattle.dom_script.proofs.EditLines.{not-all}
use Rattle.dom_script.proofs.script.lists.are_lists.Goals as goal

pub returns-then-not-is_list : goal.returns-then-not-is_list
returns-then-not-is_list c =
    let s = c.split-list-items.ensures in
    let road = YieldsList-at c.into_iter-list-iterator.ensures.into_iter_gives (YieldsList-from_str_split 59 c.args.text.now (lit< tt) s.text s.has_more s.pattern) in
    let turn = YieldsList-turn road c.loop-list.yielded _ c.loop-list.yielded_by _ _ c.in-Some.list c.in-Some.is c.next.ensures.steps in
    ap (λ t. t && (length (lists_in c.args.text.now) == 3)) (not-all is_list (lists_in c.args.text.now) _ c.in-Some.list.now turn.0 turn.1 (sym c.is_list.ensures ∙ c.if-not-is_list.true))

pub returns : goal.returns
returns c =
    let s = c.split-list-items.ensures in
    let road = YieldsList-at c.into_iter-list-iterator.ensures.into_iter_gives (YieldsList-from_str_split 59 c.args.text.now (lit< tt) s.text s.has_more s.pattern) in
    let all = YieldsList-end road c.loop-list.yielded _ c.loop-list.yielded_by _ _ c.in-None.is c.next.ensures.steps in
    ap (λ n. n == 3) (c.loop-list.invariant.counted ∙ sym (length-map c.loop-list.yielded (λ (list : Bor (List ℕ)). list.now)) ∙ ap length all.0)
    ∙ ap (λ t. t && (length (lists_in c.args.text.now) == 3)) (sym c.loop-list.invariant.passed ∙ ap (list_all is_list) all.0)
