-- What one run comes to, another comes to.
use Rattle.std.specs.Prelude.{◌≡◌, ◌&&◌, refl, Bool, true, false, not, Option, None, Some}
use Rattle.std.specs.Option.{option_and_then}
use Rattle.std.specs.Prelude.{option_map}
use Rattle.std.proofs.lemmas.Option.{same_Some}
use mathlib.Core.Path.{◌∙◌, sym, ap, subst}
use Rattle.standard_trees.specs.Building.{Building}
use Rattle.standard_order.proofs.StandingStacks.{never}

-- what the one comes to, the other comes to, and that is so behind it
abbrev pub Follows : (Building → Type 0) → Option Building → Option Building → Type 0
Follows P o p = (c : Building) → o ≡ Some c → (p ≡ Some c) × P c

pub then_follows : (P Q : Building → Type 0) (f g : Building → Option Building) → ((x : Building) → P x → Follows Q (f x) (g x)) →
    (o p : Option Building) → Follows P o p → Follows Q (option_and_then f o) (option_and_then g p)
then_follows P Q f g more None p follows c h = cc
then_follows P Q f g more (Some x) p follows c h =
    let first : (p ≡ Some x) × P x = follows x refl in
    let rest : (g x ≡ Some c) × Q c = more x first.1 c h in
    (ap (option_and_then g) first.0 ∙ rest.0, rest.1)

pub mapped : (P : Building → Type 0) (f : Building → Building) → ((x : Building) → P x → P (f x)) → (o p : Option Building) →
    Follows P o p →
    Follows P (option_map f o) (option_map f p)
mapped P f more None p follows c h = cc
mapped P f more (Some x) p follows c h =
    let first : (p ≡ Some x) × P x = follows x refl in
    (ap (option_map f) first.0 ∙ h, subst P (same_Some (f x) c h) (more x first.1))

pub barred_follows : (P : Building → Type 0) (x y : Bool) (o p : Option Building) → (x ≡ false → y ≡ false) → Follows P o p →
    Follows P (elim x [ true ↦ None | false ↦ o ]) (elim y [ true ↦ None | false ↦ p ])
barred_follows P true y o p same follows c h = cc
barred_follows P false false o p same follows c h = follows c h
barred_follows P false true o p same follows c h = never (sym (same refl))

pub passes_both : (x y z : Bool) → y ≡ true → (x ≡ true → z ≡ true) → not x ≡ false → not (x && y) ≡ false
passes_both true true z f g h = refl
passes_both true false z f g h = cc
passes_both false y z f g h = cc
