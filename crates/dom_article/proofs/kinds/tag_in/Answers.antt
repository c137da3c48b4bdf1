use Rattle.std.proofs.Common.{ℕ, ◌∙◌, add-one, ap, arith, drop, map, sym}
use Rattle.dom_article.specs.Names.{tag_in}
use Rattle.dom_article.proofs.FoldLemmas.{behind, tag_on, named_tag}
use Rattle.dom_article.proofs.kinds.tag_in.Goals as goal

pub loop-at-preserved : goal.loop-at-preserved
loop-at-preserved c =
    ap (λ (k : ℕ). tag_in (drop k (map named_tag c.args.tags.now)) c.args.name.now c.tag_at-tag.result) (add-one c.loop-at.at)
    ∙ (tag_on c.args.tags.now c.loop-at.at c.args.name.now c.loop-at.tag c.tag_at-tag.result (omega arith) c.tag_at-tag.ensures ∙ c.loop-at.invariant)

pub returns : goal.returns
returns c = sym (ap (λ es. tag_in es c.args.name.now c.loop-at.tag) (behind named_tag c.args.tags.now c.loop-at.at (omega arith))) ∙ c.loop-at.invariant
