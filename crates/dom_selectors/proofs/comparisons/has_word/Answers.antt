use Rattle.std.proofs.Common.{◌≡◌, true, false, sym, ap, ◌∙◌}
use Rattle.dom_nodes.proofs.WordLemmas.{words-cut, words-white}
use Rattle.dom_selectors.specs.Comparisons.{has_word, same_text}
use Rattle.dom_selectors.proofs.ComparisonLemmas.{word-here, word-later}
use Rattle.dom_selectors.proofs.comparisons.has_word.Goals as goal

pub returns-then-same_text : goal.returns-then-same_text
returns-then-same_text c =
    let step = c.in-Some.ensures.steps in
    let cut = words-cut _ step.3.0 c.in-Some.word.now step.3.1 _ step.3.2 step.0 step.1 step.3.3 step.3.4 in
    let same : same_text c.args.case c.in-Some.word.now c.args.value.now ≡ true = ap (λ t. same_text c.args.case t c.args.value.now) (sym c.as_bytes.ensures.value) ∙ sym c.same_text.ensures ∙ c.if-same_text.true in
    sym (word-here c.args.case c.args.value.now c.in-Some.word.now _ same) ∙ sym (ap (has_word c.args.case c.args.value.now) cut) ∙ c.loop-word.invariant.2

pub loop-word-preserved : goal.loop-word-preserved
loop-word-preserved c =
    let step = c.in-Some.ensures.steps in
    let cut = words-cut _ step.3.0 c.in-Some.word.now step.3.1 _ step.3.2 step.0 step.1 step.3.3 step.3.4 in
    let other : same_text c.args.case c.in-Some.word.now c.args.value.now ≡ false = ap (λ t. same_text c.args.case t c.args.value.now) (sym c.as_bytes.ensures.value) ∙ sym c.same_text.ensures ∙ c.if-same_text.false in
    (tt, tt, sym (word-later c.args.case c.args.value.now c.in-Some.word.now _ other) ∙ sym (ap (has_word c.args.case c.args.value.now) cut) ∙ c.loop-word.invariant.2)

pub returns : goal.returns
returns c = sym (ap (has_word c.args.case c.args.value.now) (words-white _ c.in-None.ensures.steps.0)) ∙ c.loop-word.invariant.2
