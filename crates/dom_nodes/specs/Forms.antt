-- The bytes of a text, for each of the ways to store them.
use Rattle.std.specs.Prelude.{ℕ, List, string_bytes}
use Rattle.dom_nodes.specs.declared.text.Form.{Form}
use Rattle.dom_nodes.specs.declared.text.Form.TheVariants.{Short, Long, Part}

abbrev pub form_bytes : Form → List ℕ
form_bytes (Short bytes) = bytes
form_bytes (Long letters) = string_bytes letters
form_bytes (Part bytes) = bytes
