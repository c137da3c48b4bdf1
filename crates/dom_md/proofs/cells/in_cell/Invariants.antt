use Rattle.std.proofs.Common.{◌≡◌, ◌++◌, string_bytes, length, drop, encode_utf8_all}
use Rattle.std.specs.Str.{chars}
use Rattle.dom_md.specs.Cells.{in_cell, in_cell_on}
use Rattle.dom_md.proofs.cells.in_cell.Given as goal

abbrev pub invariant-loop-c : goal.invariant-loop-c
invariant-loop-c l = string_bytes l.escaped ++ in_cell_on l.after (encode_utf8_all (drop (length l.yielded) (chars l.text))) ≡ in_cell l.text
