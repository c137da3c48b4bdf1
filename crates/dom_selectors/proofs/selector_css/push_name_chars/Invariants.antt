use Rattle.std.proofs.Common.{◌≡◌, ◌++◌, false, drop, encode_utf8_all, flat_map, string_bytes}
use Rattle.dom_selectors.specs.SelectorCss.{name_char}
use Rattle.dom_selectors.proofs.selector_css.push_name_chars.Given as goal

-- what is written, and what is left to write
abbrev pub invariant-loop-c : goal.invariant-loop-c
invariant-loop-c l = string_bytes l.out ++ encode_utf8_all (flat_map (name_char false) (drop l.c-index l.letters)) ≡ string_bytes l.initial.out ++ encode_utf8_all (flat_map (name_char false) l.letters)
