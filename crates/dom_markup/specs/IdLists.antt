-- A list of node ids that stores none or one without an allocation.
use Rattle.std.specs.Prelude.{ℕ, List, []}
use Rattle.dom_markup.specs.declared.document.id_list.Form.{Form}
use Rattle.dom_markup.specs.declared.document.id_list.Form.TheVariants.{Nothing, One, Many}

abbrev pub numbers : Form → List ℕ
numbers Nothing = []
numbers (One number) = number
numbers (Many all) = all.items
