use Rattle.std.proofs.Common.{◌≡◌, ◌∙◌, sym, ap, string_bytes, arith, length, get_or, ◌-◌}
use Rattle.std.specs.Prelude.{codes}
use Rattle.dom_nodes.specs.Ascii.{space}
use Rattle.dom_md.specs.Formatted.{ends_with}
use Rattle.dom_md.proofs.StepLemmas.{ends_in_space, taken_off, taken_shorter, drop_spaces-none}
use Rattle.dom_md.proofs.formatting.steps.drop_spaces.Goals as goal

pub overflow_sub-end : goal.overflow_sub-end
overflow_sub-end c =
    let old = string_bytes c.loop-text.text in
    let ends = ends_in_space old (ap (ends_with (codes " ")) (sym c.as_str.ensures.value) ∙ (sym c.ends_with.ensures ∙ c.loop-text-test.true)) in
    let size = ap length c.as_str-in-loop-text.ensures.value in
    let some = ends.some in
    omega arith

pub truncate-requires : goal.truncate-requires
truncate-requires c = λ within.
    let old = string_bytes c.loop-text.text in
    let ends = ends_in_space old (ap (ends_with (codes " ")) (sym c.as_str.ensures.value) ∙ (sym c.ends_with.ensures ∙ c.loop-text-test.true)) in
    let size = ap length c.as_str-in-loop-text.ensures.value in
    let byte : get_or old (length c.as_str-in-loop-text.result.now - 1) 0 ≡ space = ap (λ n. get_or old (n - 1) 0) size ∙ ends.byte in
    (omega arith, λ some inside high. absurd (omega (arith, byte)))

pub loop-text-preserved : goal.loop-text-preserved
loop-text-preserved c =
    let old = string_bytes c.loop-text.text in
    let last = ap (ends_with (codes " ")) (sym c.as_str.ensures.value) ∙ (sym c.ends_with.ensures ∙ c.loop-text-test.true) in
    taken_off old _ (length c.as_str-in-loop-text.result.now) last (ap length c.as_str-in-loop-text.ensures.value) c.truncate.ensures.bytes ∙ c.loop-text.invariant

pub loop-text-smaller : goal.loop-text-smaller
loop-text-smaller c =
    let old = string_bytes c.loop-text.text in
    let last = ap (ends_with (codes " ")) (sym c.as_str.ensures.value) ∙ (sym c.ends_with.ensures ∙ c.loop-text-test.true) in
    taken_shorter old _ (length c.as_str-in-loop-text.result.now) last (ap length c.as_str-in-loop-text.ensures.value) c.truncate.ensures.bytes

pub returns : goal.returns
returns c =
    let old = string_bytes c.loop-text.text in
    let none = ap (ends_with (codes " ")) (sym c.as_str.ensures.value) ∙ (sym c.ends_with.ensures ∙ c.loop-text-test.false) in
    sym (drop_spaces-none old none) ∙ c.loop-text.invariant
