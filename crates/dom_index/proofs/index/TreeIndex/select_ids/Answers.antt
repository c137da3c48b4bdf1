use Rattle.std.proofs.Common.{◌≡◌, ◌<◌, ◌∙◌, ℕ, true, ap, length, replicate, subst, sym, arith}
use Rattle.std.specs.List.{flat_map}
use Rattle.std.specs.Result.{IfOk}
use Rattle.std.proofs.lemmas.List.{get_or-replicate}
use Rattle.std.proofs.lemmas.Result.{IfOk-weaker}
use Rattle.dom_links.specs.Trees.{descendants_in_order}
use Rattle.dom_selectors.specs.ValuesAsTrees.{read_list}
use Rattle.dom_select.specs.Meaning.{MatchesNode}
use Rattle.dom_select.specs.Selected.{Selected}
use Rattle.dom_index.specs.Index.{Indexed}
use Rattle.dom_index.specs.TestCounts.{AddsTests, Counts, SelectionTests, SelectorsTests}
use Rattle.dom_index.specs.Collected.{collected}
use Rattle.dom_index.specs.NodeSets.{IsSetOf, in_set}
use Rattle.dom_index.proofs.ListLemmas.{decided_anywhere}
use Rattle.dom_index.proofs.CollectLemmas.{collected_selected, walks_inside}
use Rattle.dom_index.proofs.index.TreeIndex.select_ids.Goals as goal

pub returns-clause-found : goal.returns-clause-found
returns-clause-found c =
    let forest = c.self.inside.preorder.tree.now in
    let table = c.in_ok-table.table.items in
    let all = c.deref.result.now in
    let filled : all ≡ replicate c.len.result true = c.deref.ensures.value ∙ c.in_ok-all.ensures.items_if_clones_equal (λ y h. h) in
    let everywhere : (n : ℕ) → n < length forest.content → in_set all n ≡ true = λ n known. ap (λ cells. in_set cells n) filled ∙ get_or-replicate c.len.result n true _ (omega (arith, c.len.ensures, c.self.inside.preorder.ordered.long)) in
    let answer = subst (λ list. IsSetOf table (length forest.content) (MatchesNode list forest)) c.selectors.ensures (decided_anywhere all table (length forest.content) _ everywhere c.in_ok-table.ensures.table) in
    let ids = collected forest table (flat_map (descendants_in_order forest) c.args.roots.now) in
    let selected = collected_selected forest c.args.matcher.now c.args.roots.now table (walks_inside forest c.args.roots.now c.walk_laws.ensures) answer in
    subst (λ (it : Indexed). IfOk c.collect_matches.result (λ found. Selected it.tree.now c.args.roots.now c.args.matcher.now found.items)) c.self.view_is
    (IfOk-weaker c.collect_matches.result _ _ (λ found e. subst (Selected forest c.args.roots.now c.args.matcher.now) (sym e) selected) c.collect_matches.ensures)

pub returns-clause-asked : goal.returns-clause-asked
returns-clause-asked c =
    let forest = c.self.inside.preorder.tree.now in
    let long : c.len.result ≡ length forest.content = omega (arith, c.len.ensures, c.self.inside.preorder.ordered.long) in
    let filled : c.deref.result.now ≡ replicate (length forest.content) true = (c.deref.ensures.value ∙ c.in_ok-all.ensures.items_if_clones_equal (λ y h. h)) ∙ ap (λ n. replicate n true) long in
    let among = subst (λ cells. AddsTests 0 c.list_set.new.tests (SelectorsTests (read_list c.selectors.result.now) forest cells)) filled c.in_ok-table.ensures.counted in
    let asked = subst (λ list. AddsTests 0 c.list_set.new.tests (SelectionTests list forest)) c.selectors.ensures among in
    subst (λ (it : Indexed). Counts c.collect_matches.result 0 c.list_set.new.tests (SelectionTests c.args.matcher.now it.tree.now)) c.self.view_is
    (IfOk-weaker c.collect_matches.result _ _ (λ _ _. asked) c.collect_matches.ensures)
