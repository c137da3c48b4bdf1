use Rattle.std.proofs.Common.{List, ap, subst, sym, ◌∙◌, ◌≡◌, ◌∷◌, true}
use Rattle.page_tokens.specs.Attributes.{are_distinct}
use Rattle.page_tokens.specs.declared.attribute.TagAttr.{TagAttr}
use Rattle.page_trees.specs.LateAttrs.{AddsAbsent}
use Rattle.page_trees.proofs.AbsentAttrs.{adds_first, adds_none, distinct_rest, no_attrs_left}
use Rattle.page_trees.proofs.growing.late.LateAttrs.add.Goals as goal

pub loop-attr-preserved : goal.loop-attr-preserved
loop-attr-preserved c =
    let at : c.loop-attr.rest.now ≡ c.in-Some.attr.now ∷ c.in-Some.others.now = c.in-Some.ensures.cases.0 in
    let distinct : are_distinct (c.in-Some.attr.now ∷ c.in-Some.others.now) ≡ true =
    ap (λ (attrs : List TagAttr). are_distinct attrs) (sym at) ∙ c.loop-attr.invariant.distinct in
    record {
      distinct = distinct_rest c.in-Some.attr.now c.in-Some.others.now distinct;
      known = λ own known. (c.in_ok-add_one.ensures own (c.loop-attr.invariant.known own known)).known;
      decide = λ own new known others. c.loop-attr.invariant.decide own new known
          (subst (λ (attrs : List TagAttr). AddsAbsent own attrs c.loop-attr.self new) (sym at)
          (adds_first own c.in-Some.attr.now c.in-Some.others.now c.loop-attr.self c.add_one.new.self new distinct
          (c.in_ok-add_one.ensures own (c.loop-attr.invariant.known own known)) others));
    }

pub returns : goal.returns
returns c = λ own known. c.loop-attr.invariant.decide own c.loop-attr.self known
    (subst (λ (attrs : List TagAttr). AddsAbsent own attrs c.loop-attr.self c.loop-attr.self) (sym (no_attrs_left c.loop-attr.rest.now c.in_default.ensures.cases))
    (adds_none own c.loop-attr.self (c.loop-attr.invariant.known own known)))
