use Rattle.std.proofs.Common.{◌≡◌, ◌+◌, ◌*◌, ◌^◌, ◌≤◌, take}
use Rattle.std.specs.Str.Parse.{digits_value}
use Rattle.dom_selectors.proofs.names.hex_number.Given as goal

abbrev pub invariant-loop-c : goal.invariant-loop-c
invariant-loop-c l = record {
  value : l.number ≡ digits_value 16 (take l.c-index l.digits);
  small : l.number + 3 ≤ 3 * 16 ^ l.c-index;
}
