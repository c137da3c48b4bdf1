-- Joining adjacent texts (`normalize`) leaves the HTML of a node as it was.
use Rattle.std.specs.Prelude.{ℕ, ◌≡◌, IsUtf8}
use Rattle.dom_links.specs.Forest.{Forest}
use Rattle.dom_links.specs.Texts.{text_at}
use Rattle.dom_markup.specs.Html.{html_of, inner_html_of}

-- each text of the forest is UTF-8, as every `Text` is
abbrev pub HasUtf8Texts : Forest → Type 0
HasUtf8Texts forest = (n : ℕ) → IsUtf8 (text_at forest n)

-- the node has the same outer HTML and the same inner HTML in both forests
pub record WritesAlike (x : ℕ) (new old : Forest) : Type 0 where
  pub node : html_of new x ≡ html_of old x
  pub children : inner_html_of new x ≡ inner_html_of old x
