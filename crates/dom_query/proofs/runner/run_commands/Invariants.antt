use Rattle.std.proofs.Common.{◌≡◌, ◌+◌, ℕ, List, [], ◌∷◌, drop}
use Rattle.std.specs.Io.KnownBytes.{Appends}
use Rattle.dom_query.proofs.Doing.{Reaches}
use Rattle.dom_query.proofs.runner.run_commands.Given as goal

abbrev pub invariant-loop-command : goal.invariant-loop-command
invariant-loop-command g l = record {
  counted : l.line ≡ l.command-index;
  front : List ℕ;
  reaches : Reaches l.fn.tree (0 ∷ []) l.commands (drop l.command-index l.commands) l.tree l.selection.items (l.line + 1) front;
  written : Appends (g.W.Write.contents l.fn.out) (g.W.Write.contents l.out) front;
}
