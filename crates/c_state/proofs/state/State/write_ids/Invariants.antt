use Rattle.std.proofs.Common.{◌≡◌, length, take}
use Rattle.c_state.proofs.state.State.write_ids.Given as goal

-- the numbers that are written so far, in room that stays as long as it was
abbrev pub invariant-loop-i : goal.invariant-loop-i
invariant-loop-i l = (length l.to ≡ length l.fn.to) × (take l.i l.to ≡ take l.i l.self.ids.items)
