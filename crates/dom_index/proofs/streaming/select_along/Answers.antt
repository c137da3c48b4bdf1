use Rattle.std.proofs.Common.{◌∙◌, ℕ, List, ap, subst, sym}
use Rattle.std.proofs.lemmas.Result.{IfOk-weaker}
use Rattle.dom_links.specs.Lists.{IsDistinct}
use Rattle.dom_links.proofs.walks.GivenNodes.{given_nodes}
use Rattle.dom_select.specs.Selected.{FiltersTo, walks_below}
use Rattle.dom_select.proofs.FilterLemmas.{drained, filtered_of_all}
use Rattle.dom_select.proofs.SelectionLemmas.{one_walk}
use Rattle.dom_index.specs.Tracks.{IsReached}
use Rattle.dom_index.proofs.PlainLemmas.{one_item}
use Rattle.dom_index.proofs.streaming.select_along.Goals as goal

pub returns-in-len1-clause-found : goal.returns-in-len1-clause-found
returns-in-len1-clause-found c =
    let forest = c.args.tree.now in
    let root = c.root-item.result in
    let P = IsReached c.args.chains.now forest in
    let walk = c.descendant_ids_of_it.ensures in
    let once = subst IsDistinct walk.all walk.once in
    let one = one_item c.args.roots.now root c.in-len1.len_at_least c.in-len1.len_below c.root-item.is in
    IfOk-weaker c.select_among.result _ _ (λ ids h.
    subst (λ (ns : List ℕ). FiltersTo P ns ids.items) (one_walk forest root once ∙ ap (walks_below forest) (sym one))
    (filtered_of_all P _ ids.items _ (λ ns d. given_nodes c.descendant_ids_of_it.result ns d ∙ walk.all) h)) c.select_among.ensures.found

pub returns-clause-found : goal.returns-clause-found
returns-clause-found c =
    let P = IsReached c.args.chains.now c.args.tree.now in
    IfOk-weaker c.select_among-2.result _ _ (λ ids h.
    subst (λ (ns : List ℕ). FiltersTo P ns ids.items) c.in_ok-ids.ensures (filtered_of_all P _ ids.items _ (λ ns d. drained (λ rest. rest) _ ns d) h)) c.select_among-2.ensures.found
