use Rattle.std.proofs.Common.{◌≡◌, map, length}
use Rattle.dom_script.specs.Script.{AreCommands}
use Rattle.dom_script.proofs.script.read_script.Given as goal

abbrev pub invariant-loop-line : goal.invariant-loop-line
invariant-loop-line l = record {
  can : (goal.iterator-loop-line).can_next l.line-iterator;
  finite : (goal.iterator-loop-line).is_finite l.line-iterator;
  counted : l.number ≡ length l.yielded;
  read : AreCommands (map (λ line. line.now) l.yielded) l.commands.items;
}
