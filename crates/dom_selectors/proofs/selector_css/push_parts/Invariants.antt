use Rattle.std.proofs.Common.{◌≡◌, ◌++◌, drop, flat_map, string_bytes}
use Rattle.dom_selectors.specs.SelectorCss.{part_css}
use Rattle.dom_selectors.proofs.selector_css.push_parts.Given as goal

-- what is written, and what is left to write
abbrev pub invariant-loop-part : goal.invariant-loop-part
invariant-loop-part l = string_bytes l.out ++ flat_map part_css (drop l.part-index l.parts) ≡ string_bytes l.initial.out ++ flat_map part_css l.parts
