use Rattle.std.proofs.Common.{◌≡◌, ◌++◌, [], string_bytes}
use Rattle.std.specs.List.{flat_map}
use Rattle.dom_clean.specs.Fates.{attrs_behind}
use Rattle.dom_clean.specs.Policies.{policy_of}
use Rattle.dom_clean.specs.Written.{attribute_text}
use Rattle.dom_clean.proofs.AttrWriting.{left_at}
use Rattle.dom_clean.proofs.attributes.push_attrs.Given as goal

-- the text, and what is still to be written after so many attributes, is the whole
abbrev pub invariant-loop-at : goal.invariant-loop-at
invariant-loop-at l =
    string_bytes l.text ++ left_at (policy_of l.lists) l.element l.attrs l.at ≡ string_bytes l.fn.text ++ flat_map attribute_text (attrs_behind (policy_of l.lists) l.element [] l.attrs)
