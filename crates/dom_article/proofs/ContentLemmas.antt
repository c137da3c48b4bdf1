-- What counts of a text.
use Rattle.std.proofs.Common.{ℕ, suc, ◌≡◌, ◌<◌, ◌≤◌, ◌+◌, ◌∙◌, List, [], ◌∷◌, ◌++◌, refl, sym, ap, length, drop, get_or, add-one}
use Rattle.std.proofs.Math.Seq.{drop-cons}
use Rattle.std.proofs.Math.ListN.{drop_of_length-le}
use Rattle.dom_article.specs.Contents.{with_char, with_chars}
use Rattle.dom_article.specs.declared.texts.TextFacts.{TextFacts}

-- one character more
pub with_more : (text : TextFacts) (cs : List ℕ) (c : ℕ) → with_chars text (cs ++ c ∷ []) ≡ with_char (with_chars text cs) c
with_more text [] c = refl
with_more text (d ∷ cs) c = with_more (with_char text d) cs c

-- the next character of those that are left
pub next_of : (text new : TextFacts) (cs : List ℕ) (i c : ℕ) → i < length cs → c ≡ get_or cs i c → new ≡ with_char text c →
    with_chars new (drop (i + 1) cs) ≡ with_chars text (drop i cs)
next_of text new cs i c inside is made =
    let tail : drop i cs ≡ c ∷ drop (suc i) cs = drop-cons cs i c inside ∙ ap (λ (k : ℕ). k ∷ drop (suc i) cs) (sym is) in
    ap (λ (t : TextFacts). with_chars t (drop (i + 1) cs)) made
    ∙ (ap (λ (k : ℕ). with_chars (with_char text c) (drop k cs)) (add-one i) ∙ sym (ap (λ ks. with_chars text ks) tail))

-- no character is left
pub none_left : (text : TextFacts) (cs : List ℕ) (i : ℕ) → length cs ≤ i → with_chars text (drop i cs) ≡ text
none_left text cs i past = ap (λ ks. with_chars text ks) (drop_of_length-le cs past)
