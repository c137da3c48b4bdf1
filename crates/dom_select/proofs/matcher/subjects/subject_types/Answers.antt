use Rattle.std.proofs.Common.{subst, map, List, inr, refl, ◌∙◌, arith}
use Rattle.std.proofs.lemmas.List.{length-set}
use Rattle.dom_selectors.specs.declared.syntax.Selector.{out-Selector}
use Rattle.dom_selectors.specs.declared.syntax.Step.{Step}
use Rattle.dom_selectors.specs.ValuesAsTrees.{read_compound, read_step}
use Rattle.dom_select.specs.Ends.{SubjectImpliesType}
use Rattle.dom_select.proofs.types.SubjectLemmas.{met_all, met_more}
use Rattle.dom_select.proofs.matcher.subjects.subject_types.Goals as goal

pub loop-selector-init : goal.loop-selector-init
loop-selector-init c = record { long = refl; met = λ forest n node e m. inr m }

pub loop-selector-preserved : goal.loop-selector-preserved
loop-selector-preserved c =
    let s = c.selector-item.result in
    let name = c.in_ok-name.name.now in
    let types = c.loop-selector.types in
    let number = c.in_ok-number.number in
    let ends = subst (λ (steps : List Step). SubjectImpliesType name (read_compound (out-Selector s).first) (map read_step steps)) c.deref.ensures.value c.in_ok-name.ensures in
    let numbered = rw c.folded.ensures at c.in_ok-number.ensures in
    let low = c.in_ok-number.ensures.0 in
    record {
      long = length-set types number _ ∙ c.loop-selector.invariant.long;
      met = met_more c.args.selectors.now c.loop-selector.selector-index types number name s (omega (arith, c.loop-selector-test.true)) c.selector-item.is (omega (arith, low, c.loop-selector.invariant.long)) ends numbered c.loop-selector.invariant.met;
    }

pub returns : goal.returns
returns c = met_all c.args.selectors.now c.loop-selector.selector-index c.loop-selector.types (omega (arith, c.loop-selector-test.false)) c.loop-selector.invariant.met
