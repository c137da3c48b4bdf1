use Rattle.std.proofs.Common.{◌++◌, ◌∙◌, [], ap, append-nil, refl, string_bytes, sym, take}
use Rattle.std.specs.List.{flat_map}
use Rattle.dom_clean.specs.Fates.{attrs_behind}
use Rattle.dom_clean.specs.Policies.{policy_of}
use Rattle.dom_clean.specs.Written.{attribute_text}
use Rattle.dom_clean.proofs.AttrWriting.{left_none, step}
use Rattle.dom_clean.proofs.attributes.push_attrs.Goals as goal

pub loop-at-preserved : goal.loop-at-preserved
loop-at-preserved c =
    let policy = policy_of c.args.lists.now in
    let attrs = c.args.attrs.now in
    let attr = c.index-attrs-at.result in
    step policy c.args.element.now attrs c.loop-at.at attr (take c.loop-at.at attrs) attr (string_bytes c.loop-at.text) (string_bytes c.push_attr.new.text)
    (string_bytes c.args.text.now ++ flat_map attribute_text (attrs_behind policy c.args.element.now [] attrs)) c.loop-at-test.true refl c.index-attrs-at.is c.in_ok-push_attr.ensures c.loop-at.invariant

pub returns : goal.returns
returns c =
    let none = left_none (policy_of c.args.lists.now) c.args.element.now c.args.attrs.now c.loop-at.at c.loop-at-test.false in
    sym (append-nil (string_bytes c.loop-at.text)) ∙ ap (λ t. string_bytes c.loop-at.text ++ t) (sym none) ∙ c.loop-at.invariant
