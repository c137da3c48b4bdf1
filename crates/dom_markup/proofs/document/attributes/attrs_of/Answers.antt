use Rattle.std.proofs.Common.{◌≡◌, false, rules}
use Rattle.dom_markup.specs.ByteClasses.{begins_space}
use Rattle.dom_markup.proofs.rows.AttrLemmas.{kept_none, kept_one, kept_all}
use Rattle.dom_markup.proofs.grammar.Reading.{SameEnd-refl, SameEnd-step, length_after, no_space_begins}
use Rattle.dom_markup.proofs.document.attributes.attrs_of.Goals as goal

pub loop-written-init : goal.loop-written-init
loop-written-init c = record { kept = kept_none _ _ c.requires; same = SameEnd-refl _; noted = rw c.requires c.new-noted.ensures; utf8 = c.utf8.text }

pub loop-written-preserved : goal.loop-written-preserved
loop-written-preserved c = record {
  kept = kept_one _ _ _ _ _ _ c.in-Some.ensures.some c.loop-written.invariant.kept c.in_ok-add.ensures.added;
  same = SameEnd-step _ _ _ _ c.loop-written.invariant.same c.in-Some.ensures.some;
  noted = c.in_ok-add.ensures.noted;
  utf8 = search rules;
}

pub loop-written-smaller : goal.loop-written-smaller
loop-written-smaller c = length_after _ _ _ c.in-Some.ensures.some

pub returns-clause-past : goal.returns-clause-past
returns-clause-past c = record { same = c.loop-written.invariant.same; none = c.in_default.ensures.none }

pub returns-clause-attrs : goal.returns-clause-attrs
returns-clause-attrs c = kept_all _ _ _ c.loop-written.invariant.kept c.in_default.ensures.none

pub returns-then-not-begins_space-clause-past : goal.returns-then-not-begins_space-clause-past
returns-then-not-begins_space-clause-past c =
    let plain : begins_space c.args.text.now ≡ false = search in
    record { same = SameEnd-refl _; none = no_space_begins c.args.text.now plain }

pub returns-then-not-begins_space-clause-attrs : goal.returns-then-not-begins_space-clause-attrs
returns-then-not-begins_space-clause-attrs c =
    let plain : begins_space c.args.text.now ≡ false = search in
    kept_all _ _ _ (kept_none _ _ c.requires) (no_space_begins c.args.text.now plain)
