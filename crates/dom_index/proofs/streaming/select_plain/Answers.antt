use Rattle.std.proofs.Common.{◌∙◌, List, ap, length, refl, subst, sym}
use Rattle.std.proofs.lemmas.Result.{IfOk-weaker}
use Rattle.dom_selectors.specs.ValuesAsTrees.{read_list}
use Rattle.dom_select.specs.Descendants.{IsMatch}
use Rattle.dom_select.specs.Selected.{walks_below}
use Rattle.dom_select.proofs.FilterLemmas.{filters_same}
use Rattle.dom_select.proofs.SeveralLemmas.{selected_all}
use Rattle.dom_index.specs.declared.chains.Chain.{Chain}
use Rattle.dom_index.specs.Tracks.{AreChainsOf, AreTracked, IsReached}
use Rattle.dom_index.proofs.PlainLemmas.{chains_prepared, some_meant}
use Rattle.dom_index.proofs.streaming.select_plain.Goals as goal

pub select_along-requires : goal.select_along-requires
select_along-requires c =
    let selectors = c.args.selectors.now in
    let are = subst (λ (cs : List Chain). AreChainsOf selectors cs) (sym c.deref-2.ensures.value) c.in_ok-chains.ensures in
    let same = c.deref.ensures.value ∙ sym c.deref-2.ensures.value in
    record {
      prepared = chains_prepared selectors c.deref-2.result.now are;
      long = c.in_ok-rows.ensures.long ∙ ap length same;
      tracked = subst (λ (cs : List Chain). AreTracked cs c.args.tree.now c.in_ok-rows.rows.items) same c.in_ok-rows.ensures.tracked;
      caches_are = c.new.ensures;
    }

pub returns : goal.returns
returns c =
    let selectors = c.args.selectors.now in
    let forest = c.args.tree.now in
    let roots = c.args.roots.now in
    let chains = c.deref-2.result.now in
    let are = subst (λ (cs : List Chain). AreChainsOf selectors cs) (sym c.deref-2.ensures.value) c.in_ok-chains.ensures in
    IfOk-weaker c.select_along.result _ _ (λ ids h.
    selected_all forest roots (read_list selectors) (walks_below forest roots) ids.items refl
    (filters_same (IsReached chains forest) (IsMatch (read_list selectors) forest) (walks_below forest roots) ids.items (λ n x. (x.0, (some_meant selectors chains are forest n).0 x.1)) (λ n x. (x.0, (some_meant selectors chains are forest n).1 x.1)) h))
    c.select_along.ensures.found
