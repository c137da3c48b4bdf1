use Rattle.std.proofs.Common.{IfOk, ◌∙◌, subst, sym}
use Rattle.std.proofs.lemmas.Result.{IfOk-weaker}
use Rattle.dom_links.specs.Lists.{IsDistinct}
use Rattle.dom_links.proofs.walks.GivenNodes.{given_nodes}
use Rattle.dom_select.specs.Descendants.{IsMatch}
use Rattle.dom_select.specs.Selected.{Selected}
use Rattle.dom_select.proofs.FilterLemmas.{drained, filtered_of_all}
use Rattle.dom_select.proofs.SelectionLemmas.{selected_below}
use Rattle.dom_select.proofs.SeveralLemmas.{selected_all}
use Rattle.dom_select.proofs.types.TypeLemmas.{list_of_one}
use Rattle.dom_select.proofs.matcher.several.select_below_all.Goals as goal

pub returns-in-len1 : goal.returns-in-len1
returns-in-len1 c =
    let root = c.root-item.result in
    let one = list_of_one c.args.roots.now root c.in-len1.len_at_least c.in-len1.len_below c.root-item.is in
    let walk = c.descendant_ids_of_it.ensures in
    let once = subst IsDistinct walk.all walk.once in
    subst (λ roots. IfOk c.collect_matches.result (λ ids. Selected c.args.tree.now roots c.args.matcher.now ids.items)) (sym one)
    (IfOk-weaker c.collect_matches.result _ _ (λ ids h.
    selected_below c.args.tree.now root c.args.matcher.now ids.items once
    (filtered_of_all (IsMatch c.args.matcher.now c.args.tree.now) _ ids.items _ (λ ns d. given_nodes c.descendant_ids_of_it.result ns d ∙ walk.all) h)) c.collect_matches.ensures)

pub returns : goal.returns
returns c =
    IfOk-weaker c.collect_matches-2.result _ _ (λ ids h.
    selected_all c.args.tree.now c.args.roots.now c.args.matcher.now _ ids.items c.in_ok-ids.ensures
    (filtered_of_all (IsMatch c.args.matcher.now c.args.tree.now) _ ids.items _ (λ ns d. drained (λ rest. rest) _ ns d) h)) c.collect_matches-2.ensures
