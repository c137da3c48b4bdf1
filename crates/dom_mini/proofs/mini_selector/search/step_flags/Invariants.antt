use Rattle.std.proofs.Common.{◌≡◌, ◌++◌, length, take, drop}
use Rattle.dom_mini.specs.PathFlags.{flags_below, flags_beside, is_led}
use Rattle.dom_mini.proofs.mini_selector.search.step_flags.Given as goal

-- the steps so far have changed their flags
abbrev pub invariant-loop-i : goal.invariant-loop-i
invariant-loop-i l = record {
  flags_long : length l.flags ≡ length l.path;
  below_long : length l.below ≡ length l.path;
  led : is_led (drop l.i l.path) l.node l.here (drop l.i l.flags) ≡ is_led l.path l.node l.fn.is_start l.fn.flags;
  beside : take l.i l.flags ++ flags_beside (drop l.i l.path) l.node l.here (drop l.i l.flags) ≡ flags_beside l.path l.node l.fn.is_start l.fn.flags;
  inner : take l.i l.below ++ flags_below (drop l.i l.path) l.node l.here (drop l.i l.flags) ≡ flags_below l.path l.node l.fn.is_start l.fn.flags;
}
