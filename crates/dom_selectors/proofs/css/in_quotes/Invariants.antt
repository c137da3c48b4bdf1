use Rattle.std.proofs.Common.{◌≡◌, ◌∷◌, encode_utf8_all, string_bytes, flat_map}
use Rattle.dom_selectors.specs.Css.{css_char}
use Rattle.dom_selectors.proofs.css.in_quotes.Given as goal

abbrev pub invariant-loop-c : goal.invariant-loop-c
invariant-loop-c l = string_bytes l.written ≡ encode_utf8_all (34 ∷ flat_map css_char l.yielded)
