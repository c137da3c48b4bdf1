use Rattle.std.proofs.Common.{◌≡◌, ◌∙◌, ap, sym, not, List, ℕ, []}
use Rattle.dom_links.specs.Forest.{children_of}
use Rattle.dom_article.specs.Best.{facts_at, is_gone, sums_at}
use Rattle.dom_article.specs.Blocks.{all_of, begun, ended}
use Rattle.dom_article.specs.Nodes.{finished, with_children}
use Rattle.dom_article.specs.declared.blocks.Block.{Block}
use Rattle.dom_article.specs.declared.page.Facts.{Facts}
use Rattle.dom_article.specs.declared.sums.Sums.{Sums}
use Rattle.dom_article.proofs.rounds.Round.of_block.Goals as goal

pub returns : goal.returns
returns c =
    let round = c.args.self.now in
    let page = c.args.page.now in
    let left : c.loop-child.child-iterator ≡ [] = c.in-None.ensures.steps.0 in
    let added : c.loop-child.block ≡ with_children page.facts.items (is_gone round) (sums_at round.sums.items)
    (begun (not (facts_at page.facts.items c.args.id).kind.is_heading) round.rules.cleans) (children_of page.tree.now c.args.id) =
    ap (λ (ns : List ℕ). with_children page.facts.items (is_gone round) (sums_at round.sums.items) c.loop-child.block ns) (sym left) ∙ c.loop-child.invariant in
    let all : c.all.result ≡ all_of (ended c.loop-child.block) = c.all.ensures ∙ ap all_of c.in_ok-end_run.ensures in
    c.finished.ensures
    ∙ (ap (λ (f : Facts). finished round.rules f c.args.id c.all.result) c.at-facts.ensures
    ∙ ap (λ (s : Sums). finished round.rules (facts_at page.facts.items c.args.id) c.args.id s) (all ∙ ap (λ (b : Block). all_of (ended b)) added))
