use Rattle.std.proofs.Common.{◌≡◌, List, ◌∷◌, ℕ, Option, length, drop, string_bytes, encode_utf8_all}
use Rattle.dom_selectors.specs.Spelling.{Many}
use Rattle.dom_selectors.specs.Strings.{SpellsPiece, present}
use Rattle.dom_selectors.proofs.strings.take_string.Given as goal

abbrev pub invariant-loop-quote : goal.invariant-loop-quote
invariant-loop-quote l = (l.text ≡ l.quote ∷ drop 1 l.text) × (read : List (Option ℕ)) × (string_bytes l.value ≡ encode_utf8_all (present read)) × Many (SpellsPiece l.quote) read (drop 1 l.text) l.rest

abbrev pub decreases-loop-quote : goal.decreases-loop-quote
decreases-loop-quote l = length l.rest
