use Rattle.std.proofs.Common.{sym, ◌∙◌, refl}
use Rattle.std.proofs.lemmas.Bool.{eqb-true, eq-eqb, true≢false}
use Rattle.dom_select.proofs.HasLemmas.{meets_farther, shorter_line, stands_ended, stands_here, stands_nowhere}
use Rattle.dom_select.proofs.matcher.chains.combinator_holds.Goals as goal

pub returns-then-eq : goal.returns-then-eq
returns-then-eq c = stands_here c.args.tree.now c.left_of.ensures.lines c.args.combinator c.args.first c.args.id c.loop-left.at c.in-Some.left _ c.loop-left.invariant.back (sym c.in-Some.ensures.link) (eqb-true c.in-Some.left c.args.first (sym c.eq.ensures ∙ c.if-eq.true)) refl

pub returns-then-ends_at : goal.returns-then-ends_at
returns-then-ends_at c = stands_ended c.args.tree.now c.left_of.ensures.lines c.args.combinator c.args.first c.args.id c.loop-left.at c.in-Some.left c.loop-left.invariant.forth (sym c.in-Some.ensures.link) (λ e. true≢false (sym (eq-eqb c.in-Some.left c.args.first e) ∙ sym c.eq.ensures ∙ c.if-eq.false)) (sym c.ends_at.ensures ∙ c.if-ends_at.true)

pub loop-left-smaller : goal.loop-left-smaller
loop-left-smaller c = shorter_line c.args.tree.now c.left_of.ensures.lines c.args.combinator c.args.first c.loop-left.at c.in-Some.left (sym c.in-Some.ensures.link)

pub loop-left-preserved : goal.loop-left-preserved
loop-left-preserved c =
    let same = meets_farther c.args.tree.now c.left_of.ensures.lines c.args.combinator c.args.first c.loop-left.at c.in-Some.left (sym c.in-Some.ensures.link) (λ e. true≢false (sym (eq-eqb c.in-Some.left c.args.first e) ∙ sym c.eq.ensures ∙ c.if-eq.false)) (sym c.ends_at.ensures ∙ c.if-ends_at.false) in
    record { forth = λ s. same.0 (c.loop-left.invariant.forth s); back = λ s. c.loop-left.invariant.back (same.1 s) }

pub returns : goal.returns
returns c = stands_nowhere c.args.tree.now c.left_of.ensures.lines c.args.combinator c.args.first c.args.id c.loop-left.at c.loop-left.invariant.forth (sym c.left_of.ensures.link ∙ c.in_default.is)
