use Rattle.std.proofs.Common.{◌++◌, ◌∙◌, [], ap, append-nil, map, refl, sym, take}
use Rattle.dom_clean.specs.Policies.{policy_of}
use Rattle.dom_clean.specs.Removals.{removal_of, removed_behind}
use Rattle.dom_clean.proofs.Removing.{left_none, step}
use Rattle.dom_clean.proofs.removals.push_each.Goals as goal

pub loop-at-preserved : goal.loop-at-preserved
loop-at-preserved c =
    let policy = policy_of c.args.lists.now in
    let attrs = c.args.attrs.now in
    let attr = c.index-attrs-at.result in
    step policy c.args.element.now attrs c.loop-at.at attr (take c.loop-at.at attrs) attr (map removal_of c.loop-at.made.items) (map removal_of c.push_removed_attr.new.made.items)
    (map removal_of c.args.made.now.items ++ removed_behind policy c.args.element.now [] attrs) c.loop-at-test.true refl c.index-attrs-at.is c.in_ok-push_removed_attr.ensures c.loop-at.invariant

pub returns : goal.returns
returns c =
    let none = left_none (policy_of c.args.lists.now) c.args.element.now c.args.attrs.now c.loop-at.at c.loop-at-test.false in
    sym (append-nil (map removal_of c.loop-at.made.items)) ∙ ap (λ t. map removal_of c.loop-at.made.items ++ t) (sym none) ∙ c.loop-at.invariant
