use Rattle.std.proofs.Common.{◌≡◌, ◌+◌, drop}
use Rattle.std.specs.List.{prefix_len}
use Rattle.dom_selectors.specs.MiniLetters.{isnt}
use Rattle.dom_selectors.proofs.mini_selector.scan.len_before.Given as goal

abbrev pub invariant-loop-index : goal.invariant-loop-index
invariant-loop-index l = prefix_len (isnt l.stop) l.bytes ≡ l.index + prefix_len (isnt l.stop) (drop l.index l.bytes)
