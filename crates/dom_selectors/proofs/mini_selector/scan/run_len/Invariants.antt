use Rattle.std.proofs.Common.{◌≡◌, ◌+◌, drop}
use Rattle.std.specs.List.{prefix_len}
use Rattle.dom_selectors.specs.MiniLetters.{passes}
use Rattle.dom_selectors.proofs.mini_selector.scan.run_len.Given as goal

abbrev pub invariant-loop-index : goal.invariant-loop-index
invariant-loop-index l = prefix_len (passes l.kind) l.bytes ≡ l.index + prefix_len (passes l.kind) (drop l.index l.bytes)
