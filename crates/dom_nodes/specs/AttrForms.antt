-- The list of attributes that a storage form holds.
use Rattle.std.specs.Prelude.{List, [], take, drop}
use Rattle.std.specs.Rc.{rc_value}
use Rattle.dom_nodes.specs.declared.name.Attr.{Attr}
use Rattle.dom_nodes.specs.declared.node_data.attrs_form.AttrsForm.{AttrsForm}
use Rattle.dom_nodes.specs.declared.node_data.attrs_form.AttrsForm.TheVariants.{None, One, Two, Room, First, Second, OneOf, TwoOf, Few, Own}

-- The attributes in each storage form, in order.
abbrev pub form_attrs : AttrsForm → List Attr
form_attrs None = []
form_attrs (One list) = rc_value list
form_attrs (Two list) = rc_value list
form_attrs (Room list) = []
form_attrs (First list) = take 1 (rc_value list)
form_attrs (Second list) = drop 1 (rc_value list)
form_attrs (OneOf place list) = take 1 (drop place (rc_value list).items)
form_attrs (TwoOf place list) = take 2 (drop place (rc_value list).items)
form_attrs (Few count list) = take count list.items.value
form_attrs (Own list) = list.value.items
