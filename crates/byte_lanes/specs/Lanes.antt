-- The contents of a vector of 16 bytes, lane by lane.
use Rattle.std.specs.Prelude.{◌≡◌, ◌<◌, ℕ, Bool, List, length, slice_index_or, if◌then◌else◌}

-- `v` has 16 lanes, and lane `k` contains `f k`
pub record HasLanes (v : List ℕ) (f : ℕ → ℕ) : Type 0 where
  pub long : length v ≡ 16
  pub each : (k : ℕ) → k < 16 → slice_index_or v k 0 ≡ f k

-- `v` has 16 lanes; lane `k` has all bits set if `p k` is true, and none otherwise
abbrev pub Marks : List ℕ → (ℕ → Bool) → Type 0
Marks v p = HasLanes v (λ k. if p k then 255 else 0)
