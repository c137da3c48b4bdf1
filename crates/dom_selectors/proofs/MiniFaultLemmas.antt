-- What a refusal of a part of a mini selector implies for the whole.
use Rattle.std.proofs.Common.{◌≡◌, ℕ, List, [], ◌∷◌, ◌++◌, map, Result, Err, MatchResult, Option, sym, ap, ◌∙◌, subst}
use Rattle.std.proofs.lemmas.List.{map-append}
use Rattle.dom_selectors.specs.declared.mini_selector.fault.MiniFault.{MiniFault}
use Rattle.dom_selectors.specs.declared.mini_selector.fault.MiniFault.TheVariants.{NoSelector, BadQuotedValue, Memory}
use Rattle.dom_selectors.specs.declared.syntax.Combinator.{Combinator}
use Rattle.dom_selectors.specs.MiniLetters.{after_blanks}
use Rattle.dom_selectors.specs.MiniSyntax.{Mini}
use Rattle.dom_selectors.specs.MiniGrammar.{IsBadAttr, IsBadMini, IsBadPath, IsBadStep, IsPlainlyNone, MeetsBad, RefusesMini, RefusesPath, SpellsAttr, SpellsFront, SpellsMini, SpellsStep, ReportsBad}
use Rattle.dom_selectors.specs.Spelling.{Many}
use Rattle.dom_selectors.proofs.Runs.{many_last}
use Rattle.dom_selectors.proofs.MiniLemmas.{mini_not_bad, path_not_bad}

pub refuses_wider : (e : MiniFault) (P Q : Type 0) → (P → Q) → ReportsBad e P → ReportsBad e Q
refuses_wider NoSelector P Q f t = t
refuses_wider BadQuotedValue P Q f t = f t
refuses_wider Memory P Q f t = tt

-- the exit of a `?` that passes a fault on
pub passed_on : {T : Type 0} (r : Result T MiniFault) (e : MiniFault) (P : T → Type 0) (F : MiniFault → Type 0) → (y : MiniFault) × (r ≡ Err y) × (y ≡ e) → F e → MatchResult r P F
passed_on r e P F err t = rw err.1 (rw err.2 t)

pub refuses_bad : (e : MiniFault) (text mid : List ℕ) (lead : Option Combinator) (name id : Option (List ℕ)) (classes : List (List ℕ)) → SpellsFront lead name id classes text mid → ReportsBad e (MeetsBad SpellsAttr IsBadAttr mid) → RefusesMini e text
refuses_bad NoSelector text mid lead name id classes front t = absurd t
refuses_bad BadQuotedValue text mid lead name id classes front t =
    let bad : IsBadMini text = record { lead = lead; name = name; id = id; classes = classes; after_front = mid; front = front; bad = t } in
    (λ v r h. mini_not_bad v text r h bad, bad)
refuses_bad Memory text mid lead name id classes front t = tt

pub no_step : (text t : List ℕ) → t ≡ after_blanks text → IsPlainlyNone SpellsMini IsBadMini t → IsPlainlyNone SpellsStep IsBadStep text
no_step text t e h =
    let P : List ℕ → Type 0 = λ u. IsPlainlyNone SpellsMini IsBadMini u in
    let k = subst P e h in
    (λ v r s. k.0 v s.0 s.1, k.1)

pub bad_path : (e : MiniFault) (read : List Mini) (text mid : List ℕ) → Many SpellsStep read text mid → ReportsBad e (IsBadStep mid) → RefusesPath e text
bad_path e read text mid h t =
    let whole : IsBadStep mid → IsBadPath text = λ b. record { read = read; at = mid; each = h; bad = b } in
    refuses_wider e (IsBadStep mid) _ (λ b. (λ v r k. path_not_bad v text r k (whole b), whole b)) t

-- one part more was read
pub read_more : {A B : Type 0} (S : B → List ℕ → List ℕ → Type 0) (f : A → B) (xs ys : List A) (x : A) (text mid rest : List ℕ) → ys ≡ xs ++ x ∷ [] → Many S (map f xs) text mid → S (f x) mid rest → Many S (map f ys) text rest
read_more S f xs ys x text mid rest e h k =
    subst (λ zs. Many S zs text rest) (sym (ap (map f) e ∙ map-append f xs (x ∷ []))) (many_last S (map f xs) (f x) text mid rest h k)
