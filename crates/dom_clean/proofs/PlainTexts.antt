-- A text without a character to escape.
use Rattle.std.proofs.Common.{◌≡◌, ℕ, Bool, true, false, not, ◌∙◌, ap, List, Option, None, Some, length}
use Rattle.std.specs.Prelude.{is_some}
use Rattle.std.proofs.lemmas.Bool.{true≢false}
use Rattle.std.specs.Str.{IsUtf8}
use Rattle.memchr.specs.Find.{IsFirstByte, Nowhere, Passes, is_byte, is_byte3}
use Rattle.dom_nodes.specs.Escaping.{spaced_char}
use Rattle.dom_markup.specs.Escaping.{escaped_text, text_char}
use Rattle.dom_markup.proofs.html.EscapeLemmas.{no_space, no_space_byte, none_passes, text_differs}

pub plain_escaped : (text : List ℕ) → IsUtf8 text → Nowhere (Passes (is_byte3 38 60 62) text) 0 (length text) → Nowhere (Passes (is_byte 194) text) 0 (length text) → escaped_text text ≡ text
plain_escaped text utf8 none space = none_passes (is_byte3 38 60 62) text_char spaced_char text_differs text utf8 none ∙ no_space text utf8 (no_space_byte text space)

-- a search that found nothing
pub none_found : (test : ℕ → Bool) (hay : List ℕ) (found : Option ℕ) (is : Bool) → is_some found ≡ not is → is ≡ true → IsFirstByte test hay found → Nowhere (Passes test hay) 0 (length hay)
none_found test hay None is e t nowhere = nowhere
none_found test hay (Some at) is e t first = absurd (true≢false (e ∙ ap not t))
