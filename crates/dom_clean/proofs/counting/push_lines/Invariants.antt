use Rattle.std.proofs.Common.{◌≡◌, ◌++◌, string_bytes}
use Rattle.dom_clean.specs.Counts.{lines_by}
use Rattle.dom_clean.proofs.counting.push_lines.Given as goal

-- what is written, and the lines that are still to be written, is the whole
abbrev pub invariant-loop-name : goal.invariant-loop-name
invariant-loop-name l = string_bytes l.text ++ lines_by l.kind l.name-iterator ≡ string_bytes l.fn.text ++ lines_by l.kind l.counts.entries
