use Rattle.std.proofs.Common.{sym, ap, ◌∙◌}
use Rattle.dom_nodes.specs.Classes.{is_among_by, same_bytes}
use Rattle.dom_nodes.proofs.WordLemmas.{words-white}
use Rattle.dom_nodes.proofs.ClassLemmas.{among_by-here, among_by-later, first_word}
use Rattle.dom_nodes.proofs.words.has_word_by.Goals as goal

pub returns-then-is_same : goal.returns-then-is_same
returns-then-is_same c =
    let cut = first_word _ _ _ c.in-Some.ensures.steps in
    let same = ap (λ bytes. same_bytes c.args.case_sensitivity bytes c.args.name.now) (sym c.as_bytes.ensures.value) ∙ sym c.is_same.ensures ∙ c.if-is_same.true in
    sym (among_by-here c.args.case_sensitivity c.args.name.now c.in-Some.word.now _ same)
    ∙ sym (ap (is_among_by c.args.case_sensitivity c.args.name.now) cut.words) ∙ c.loop-word.invariant.2

pub loop-word-preserved : goal.loop-word-preserved
loop-word-preserved c =
    let cut = first_word _ _ _ c.in-Some.ensures.steps in
    let same = ap (λ bytes. same_bytes c.args.case_sensitivity bytes c.args.name.now) (sym c.as_bytes.ensures.value) ∙ sym c.is_same.ensures ∙ c.if-is_same.false in (
      tt,
      tt,
      sym (among_by-later c.args.case_sensitivity c.args.name.now c.in-Some.word.now _ same)
          ∙ sym (ap (is_among_by c.args.case_sensitivity c.args.name.now) cut.words) ∙ c.loop-word.invariant.2,
    )

pub returns : goal.returns
returns c =
    sym (ap (is_among_by c.args.case_sensitivity c.args.name.now) (words-white _ c.in-None.ensures.steps.0)) ∙ c.loop-word.invariant.2
