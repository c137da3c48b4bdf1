-- What is tested of a text, 16 bytes at a time.
use Rattle.std.proofs.Common.{◌≡◌, ℕ, ◌+◌, ◌-◌, ◌<◌, ◌≤◌, List, get_or, ap, ◌∙◌, arith}
use Rattle.std.specs.Prelude.{◌==◌, if◌then◌else◌}
use Rattle.dom_nodes.specs.Ascii.{space}
use Rattle.byte_lanes.specs.Lanes.{HasLanes}

-- a lane of what is tested of a text: its byte, or for a space the next one
pub tested_lane : (text : List ℕ) (at k : ℕ) (here next v : List ℕ) → HasLanes here (λ k. get_or text (at + k) 0) → HasLanes next (λ k. get_or text (at + 1 + k) 0)
    → HasLanes v (λ k. if get_or here k 0 == space then get_or next k 0 else get_or here k 0) → k < 16
    → get_or v k 0 ≡ (if get_or text (at + k) 0 == space then get_or text (at + k + 1) 0 else get_or text (at + k) 0)
tested_lane text at k here next v h n m l =
    let place : at + 1 + k ≡ at + k + 1 = omega arith in
    m.each k l
    ∙ (ap (λ x. if x == space then get_or next k 0 else x) (h.each k l)
    ∙ ap (λ x. if get_or text (at + k) 0 == space then x else get_or text (at + k) 0) (n.each k l ∙ ap (λ i. get_or text i 0) place))

-- a run that was found in the 16 bytes after a place ends within the text
pub run_within : (n at r : ℕ) → 16 < n - at → r ≤ 16 → at + r ≤ n
run_within n at r room short = omega (arith, room, short)
