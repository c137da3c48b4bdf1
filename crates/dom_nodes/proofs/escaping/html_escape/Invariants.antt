use Rattle.std.proofs.Common.{◌≡◌, string_bytes}
use Rattle.std.specs.List.{flat_map}
use Rattle.dom_nodes.specs.Escaping.{value_char}
use Rattle.dom_nodes.proofs.escaping.html_escape.Given as goal

abbrev pub invariant-loop-c : goal.invariant-loop-c
invariant-loop-c l = string_bytes l.escaped ≡ flat_map value_char l.yielded
