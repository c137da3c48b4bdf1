use Rattle.std.proofs.Common.{◌++◌, ◌∙◌, ap, arith, string_bytes, subst, sym}
use Rattle.std.specs.Prelude.{codes}
use Rattle.std.specs.Str.{IsCharBoundary, IsUtf8}
use Rattle.std.proofs.lemmas.Str.{IsUtf8-drop}
use Rattle.std.proofs.lemmas.Str.Pattern.{split_parts}
use Rattle.dom_md.proofs.AddressLemmas.{cut_parts, plain_all, pushed, pushed_last}
use Rattle.dom_md.proofs.serializer.urls.push_ampersands.Goals as goal

pub loop-before-preserved : goal.loop-before-preserved
loop-before-preserved c =
    let rest = c.loop-before.rest.now in
    let old = string_bytes c.loop-before.text in
    let cut = rw c.in-Some.is at (split_parts 38 rest c.split_once.result c.split_once.ensures.cases (omega arith)) in
    let at = c.in-Some.ensures.cases in
    let is = c.in_ok-push_str-2.ensures.bytes ∙ ap (λ t. t ++ codes "&amp;") c.in_ok-push_str.ensures.bytes in
    record {
      utf8 = subst IsUtf8 (sym at.4) (IsUtf8-drop rest at.1 c.loop-before.invariant.utf8 (subst (IsCharBoundary rest) (sym at.2.1.ends) at.2.1.after));
      whole = pushed old rest c.in-Some.before.now c.in-Some.after.now _ is (cut_parts rest _ _ cut.0 cut.1) ∙ c.loop-before.invariant.whole;
    }

pub returns : goal.returns
returns c =
    let rest = c.loop-before.rest.now in
    let none = rw c.in_default.is at (split_parts 38 rest c.split_once.result c.split_once.ensures.cases (omega arith)) in
    pushed_last c.push_str-2.result (string_bytes c.loop-before.text) rest _ _ c.push_str-2.ensures.bytes (ap (λ t. string_bytes c.loop-before.text ++ t) (sym (plain_all rest none)) ∙ c.loop-before.invariant.whole)
