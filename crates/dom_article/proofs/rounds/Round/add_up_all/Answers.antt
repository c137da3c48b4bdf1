use Rattle.std.proofs.Common.{ℕ, ◌≡◌, ◌∙◌, Bool, List, ap, set, subst, sym}
use Rattle.dom_article.specs.Best.{gone_at, is_gone, sums_at}
use Rattle.dom_article.specs.Nodes.{AreSummed, node_sums}
use Rattle.dom_article.specs.Texts.{page_nodes}
use Rattle.dom_article.specs.declared.page.Page.{Page}
use Rattle.dom_article.specs.declared.rounds.Rules.{Rules}
use Rattle.dom_article.specs.declared.sums.Sums.{Sums}
use Rattle.dom_article.proofs.SumLemmas.{SummedBehind, summed_all, summed_on}
use Rattle.dom_article.proofs.rounds.Round.add_up_all.Goals as goal

-- the sums are those by the rules and the gone nodes that the round began with
by_first : (page : Page) (old rules : Rules) (was gone : List Bool) (sums new : List Sums) (n : ℕ) → old ≡ rules → was ≡ gone →
    new ≡ set sums n (node_sums page old (gone_at was) (sums_at sums) n) → new ≡ set sums n (node_sums page rules (gone_at gone) (sums_at sums) n)
by_first page old rules was gone sums new n same alike is =
    is ∙ (ap (λ (r : Rules). set sums n (node_sums page r (gone_at was) (sums_at sums) n)) same
    ∙ ap (λ (g : List Bool). set sums n (node_sums page rules (gone_at g) (sums_at sums) n)) alike)

pub loop-id-preserved : goal.loop-id-preserved
loop-id-preserved c =
    let page = c.args.page.now in
    let first = c.args.self.now in
    let on = c.loop-id.self in
    let n = c.in-Some.id.now in
    let left = c.loop-id.id-iterator.iter.rest.now in
    let rest = c.next.new.self.iter.rest.now in
    let new : c.add_up.new.self.sums.items ≡ set on.sums.items n (node_sums page first.rules (is_gone first) (sums_at on.sums.items) n) =
    by_first page on.rules first.rules on.gone.items first.gone.items on.sums.items _ n c.loop-id.invariant.0 c.loop-id.invariant.1 c.in_ok-add_up.ensures.sums in (
      c.add_up.ensures.rules ∙ c.loop-id.invariant.0,
      c.add_up.ensures.gone ∙ c.loop-id.invariant.1,
      subst (λ (sums : List Sums). SummedBehind page first.rules (is_gone first) sums rest) (sym new)
          (summed_on page first.rules (is_gone first) on.sums.items left rest n c.forest_laws.ensures.forest c.forest_laws.ensures.lines c.requires.ordered c.in-Some.ensures.steps c.loop-id.invariant.2),
    )

pub returns-clause-sums : goal.returns-clause-sums
returns-clause-sums c =
    let page = c.args.page.now in
    let first = c.args.self.now in
    let on = c.loop-id.self in
    let left = c.loop-id.id-iterator.iter.rest.now in
    let all : List Sums = c.add_up-2.new.self.sums.items in
    let new : all ≡ set on.sums.items 0 (node_sums page first.rules (is_gone first) (sums_at on.sums.items) 0) =
    subst (λ (n : ℕ). all ≡ set on.sums.items n (node_sums page first.rules (is_gone first) (sums_at on.sums.items) n)) c.root_id.ensures
    (by_first page on.rules first.rules on.gone.items first.gone.items on.sums.items all c.root_id.result c.loop-id.invariant.0 c.loop-id.invariant.1 c.in_ok-add_up-2.ensures.sums) in
    subst (λ (sums : List Sums). AreSummed page first.rules (is_gone first) sums (page_nodes page.tree.now)) (sym new)
    (summed_all page first.rules (is_gone first) on.sums.items left c.forest_laws.ensures.forest c.forest_laws.ensures.lines c.requires.ordered c.in-None.ensures.steps.0 c.loop-id.invariant.2)
