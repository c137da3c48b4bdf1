use Rattle.std.proofs.Common.{◌++◌, ◌∙◌, ap}
use Rattle.std.specs.List.{flat_map}
use Rattle.dom_clean.specs.Fates.{cleaned_attr}
use Rattle.dom_clean.specs.Policies.{policy_of}
use Rattle.dom_clean.specs.Written.{attribute_text}
use Rattle.dom_clean.proofs.Removing.{left_told}
use Rattle.dom_clean.proofs.removals.is_left.Goals as goal

pub returns : goal.returns
returns c =
    let left = cleaned_attr (policy_of c.args.lists.now) c.args.element.now c.args.place.0.now c.args.place.1.now in
    left_told left c.as_str.result.now c.is_empty.result (c.as_str.ensures.value ∙ c.in_ok-push_attr.ensures ∙ ap (λ t. t ++ flat_map attribute_text left) c.new-text.ensures.bytes) c.is_empty.ensures
