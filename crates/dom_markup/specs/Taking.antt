-- Contracts of functions that split something off the start of a text: the parts are there, or they are not.
use Rattle.std.specs.Prelude.{ℕ, List, Option, IfNone, IfSome}
use Rattle.std.specs.Borrow.{Bor}

-- the rest after what is split off, or nothing can be split off
pub record Leaves (IsRest : List ℕ → Type 0) (result : Option (Bor (List ℕ))) : Type 0 where
  pub some : IfSome result (λ rest. IsRest rest.now)
  pub none : IfNone result ((rest : List ℕ) → IsRest rest → ⊥)

-- the part that is split off and the rest, or nothing can be split off
pub record Takes (AreFound : List ℕ → List ℕ → Type 0) (result : Option (Bor (List ℕ) × Bor (List ℕ))) : Type 0 where
  pub some : IfSome result (λ found. AreFound found.0.now found.1.now)
  pub none : IfNone result ((part rest : List ℕ) → AreFound part rest → ⊥)

-- the two parts that are split off and the rest, or nothing can be split off
pub record TakesTwo (AreFound : List ℕ → List ℕ → List ℕ → Type 0) (result : Option (Bor (List ℕ) × Bor (List ℕ) × Bor (List ℕ))) : Type 0 where
  pub some : IfSome result (λ found. AreFound found.0.now found.1.now found.2.now)
  pub none : IfNone result ((one two rest : List ℕ) → AreFound one two rest → ⊥)
