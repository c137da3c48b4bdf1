-- Ways from node to node are put together.
use Rattle.std.proofs.Common.{ℕ, sym, subst, inl, inr}
use Rattle.dom_links.specs.Forest.{Forest}
use Rattle.dom_links.specs.Sound.{IsParentOrHost, IsHostAncestor, one_step, then_step, AtOrBelow}

pub further : (forest : Forest) (m k n : ℕ) → AtOrBelow forest m k → IsParentOrHost forest k n → IsHostAncestor forest m n
further forest m k n (inl e) step = one_step m n (subst (λ (j : ℕ). IsParentOrHost forest j n) (sym e) step)
further forest m k n (inr r) step = then_step m k n r step

pub onward : (forest : Forest) (a b c : ℕ) → IsHostAncestor forest a b → IsHostAncestor forest b c → IsHostAncestor forest a c
onward forest a _ _ way (one_step b c step) = then_step a b c way step
onward forest a _ _ way (then_step b k c rest step) = then_step a k c (onward forest a b k way rest) step

pub joined : (forest : Forest) (a b c : ℕ) → AtOrBelow forest a b → AtOrBelow forest b c → AtOrBelow forest a c
joined forest a b c (inl e) second = subst (λ (j : ℕ). AtOrBelow forest j c) (sym e) second
joined forest a b c (inr way) (inl e) = inr (subst (IsHostAncestor forest a) e way)
joined forest a b c (inr way) (inr rest) = inr (onward forest a b c way rest)
