-- Addresses with `&amp;` for each `&`.
use Rattle.std.proofs.Common.{◌≡◌, ◌≢◌, ℕ, suc, ◌<◌, List, [], ◌∷◌, ◌++◌, length, get_or, refl, sym, ◌∙◌, ap, arith, append-nil, append_assoc}
use Rattle.std.specs.Prelude.{OnOk, Result, codes, if◌then◌else◌, is_ok}
use Rattle.std.proofs.Common.{Err, Ok}
use Rattle.std.proofs.lemmas.Bool.{ne_eqb}
use Rattle.dom_nodes.specs.Ascii.{ampersand}
use Rattle.dom_md.specs.Addresses.{with_ampersands}

-- what has none is written as it is
plain_front : (front text : List ℕ) → ((i : ℕ) → i < length front → get_or front i 0 ≢ ampersand) → with_ampersands (front ++ text) ≡ front ++ with_ampersands text
plain_front [] text h = refl
plain_front (b ∷ front) text h = rw (ne_eqb b ampersand (h 0 (omega arith))) (ap (λ t. b ∷ t) (plain_front front text (λ i l. h (suc i) (omega arith))))

pub plain_all : (text : List ℕ) → ((i : ℕ) → i < length text → get_or text i 0 ≢ ampersand) → with_ampersands text ≡ text
plain_all text h = ap with_ampersands (sym (append-nil text)) ∙ plain_front text [] h ∙ append-nil text

-- a text that is cut at its first `&`
pub cut_parts : (text before after : List ℕ) → text ≡ before ++ ampersand ∷ after → ((i : ℕ) → i < length before → get_or before i 0 ≢ ampersand)
    → with_ampersands text ≡ before ++ (codes "&amp;" ++ with_ampersands after)
cut_parts text before after is h = ap with_ampersands is ∙ plain_front before (ampersand ∷ after) h

-- what is written up to the `&`, and what is still to come
pub pushed : (old text before after new : List ℕ) → new ≡ (old ++ before) ++ codes "&amp;" → with_ampersands text ≡ before ++ (codes "&amp;" ++ with_ampersands after) → new ++ with_ampersands after ≡ old ++ with_ampersands text
pushed old text before after new is whole =
    ap (λ t. t ++ with_ampersands after) is
    ∙ append_assoc (old ++ before) (codes "&amp;") (with_ampersands after)
    ∙ append_assoc old before (codes "&amp;" ++ with_ampersands after)
    ∙ ap (λ t. old ++ t) (sym whole)

pub pushed_last : {T E : Type 0} (r : Result T E) (old rest new whole : List ℕ) → new ≡ (if is_ok r then old ++ rest else old) → old ++ rest ≡ whole → OnOk r (new ≡ whole)
pushed_last (Ok x) old rest new whole is h = is ∙ h
pushed_last (Err e) old rest new whole is h = tt
