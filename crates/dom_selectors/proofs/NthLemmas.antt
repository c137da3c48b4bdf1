-- `an+b` has one reading.
use Rattle.std.proofs.Common.{◌≡◌, ℕ, List, Bool, true, false, drop, sym, ap, ◌∙◌, subst, MatchBool}
use Rattle.std.proofs.lemmas.Bool.Decides.{when_false, when_true}
use Rattle.dom_nodes.specs.declared.indexes.Nth.{Nth}
use Rattle.dom_nodes.specs.declared.indexes.Signed.{Signed}
use Rattle.dom_selectors.specs.Characters.{after_white, begins}
use Rattle.dom_selectors.specs.Nth.{SpellsNumber, SpellsOffset, SpellsAfterNumber, SpellsUnsigned, SpellsNth, begins_even, begins_odd, every_second, is_minus, after_sign, is_n, is_sign, signed}
use Rattle.dom_selectors.specs.Spelling.{SpellsNone}
use Rattle.dom_selectors.proofs.Runs.{IsOnce}
use Rattle.dom_selectors.proofs.NameLemmas.{both}

pub nth_from_unsigned : (text : List ℕ) → begins_even text ≡ false → begins_odd text ≡ false → (v : Nth) (rest : List ℕ) →
    SpellsUnsigned (begins is_minus text) v (after_sign text) rest → SpellsNth v text rest
nth_from_unsigned text even odd v rest h =
    let Odd : Type 0 = (v ≡ every_second 1) × (rest ≡ drop 3 text) in
    let later : MatchBool (begins_odd text) Odd (SpellsUnsigned (begins is_minus text) v (after_sign text) rest) =
    subst (λ b. MatchBool b Odd (SpellsUnsigned (begins is_minus text) v (after_sign text) rest)) (sym odd) h in
    subst (λ b. MatchBool b ((v ≡ every_second 0) × (rest ≡ drop 4 text)) (MatchBool (begins_odd text) Odd (SpellsUnsigned (begins is_minus text) v (after_sign text) rest))) (sym even) later

pub unsigned_from_nth : (text : List ℕ) → begins_even text ≡ false → begins_odd text ≡ false → (v : Nth) (rest : List ℕ) →
    SpellsNth v text rest → SpellsUnsigned (begins is_minus text) v (after_sign text) rest
unsigned_from_nth text even odd v rest h = when_false _ _ odd (when_false _ _ even h)

pub number_once : IsOnce SpellsNumber
number_once v w text r s h k = (h.value ∙ sym k.value, h.rest_is ∙ sym k.rest_is)

offset_once : IsOnce SpellsOffset
offset_once v w text r s h k =
    both (begins is_sign (after_white text)) _ _ _ _ _
    (λ _ p q. let same = number_once p.0 q.0 _ r s p.1 q.1 in (p.2 ∙ ap (signed (begins is_minus (after_white text))) same.0 ∙ sym q.2, same.1))
    (λ _ p q. (p.0 ∙ sym q.0, p.1 ∙ sym q.1)) h k

same_nth : (v w : Nth) → v.a ≡ w.a → v.b ≡ w.b → v ≡ w
same_nth v w a b = let of : Signed → Signed → Nth = λ a b. record { a = a; b = b } in ap (λ s. of s v.b) a ∙ ap (λ o. of w.a o) b

after_number_once : (number : Signed) → IsOnce (SpellsAfterNumber number)
after_number_once number v w text r s h k =
    both (begins is_n text) _ _ _ _ _
    (λ _ p q. let same = offset_once v.b w.b (drop 1 text) r s p.1 q.1 in (same_nth v w (p.0 ∙ sym q.0) same.0, same.1))
    (λ _ p q. (same_nth v w (p.0 ∙ sym q.0) (p.1 ∙ sym q.1), p.2 ∙ sym q.2)) h k

unsigned_once : (negative : Bool) → IsOnce (SpellsUnsigned negative)
unsigned_once negative v w text r s h k =
    both (begins is_n text) _ _ _ _ _
    (λ _ p q. after_number_once (signed negative 1) v w text r s p q)
    (λ _ p q.
    let same = number_once p.0 q.0 text p.1 q.1 p.2 q.2 in
    let moved : SpellsAfterNumber (signed negative p.0) w p.1 s =
    subst (λ t. SpellsAfterNumber (signed negative p.0) w t s) (sym same.1) (subst (λ n. SpellsAfterNumber (signed negative n) w q.1 s) (sym same.0) q.3) in
    after_number_once (signed negative p.0) v w p.1 r s p.3 moved) h k

pub nth_once : IsOnce SpellsNth
nth_once v w text r s h k =
    both (begins_even text) _ _ _ _ _ (λ _ p q. (p.0 ∙ sym q.0, p.1 ∙ sym q.1))
    (λ _ p q. both (begins_odd text) _ _ _ _ _ (λ _ x y. (x.0 ∙ sym y.0, x.1 ∙ sym y.1)) (λ _ x y. unsigned_once (begins is_minus text) v w (after_sign text) r s x y) p q) h k

pub offset_no_number : (text : List ℕ) → begins is_sign (after_white text) ≡ true → SpellsNone SpellsNumber (after_white (drop 1 (after_white text))) → SpellsNone SpellsOffset text
offset_no_number text sign none v rest h = let x = when_true _ _ sign h in none x.0 rest x.1

pub unsigned_from : (is_negative : Bool) (text mid : List ℕ) (n : ℕ) → begins is_n text ≡ false → SpellsNumber n text mid → (v : Nth) (rest : List ℕ) →
    SpellsAfterNumber (signed is_negative n) v mid rest → SpellsUnsigned is_negative v text rest
unsigned_from is_negative text mid n e number v rest h =
    let Digits : Type 0 = (k : ℕ) × (end : List ℕ) × SpellsNumber k text end × SpellsAfterNumber (signed is_negative k) v end rest in
    subst (λ b. MatchBool b (SpellsAfterNumber (signed is_negative 1) v text rest) Digits) (sym e) (n, mid, number, h)

pub unsigned_no_after : (is_negative : Bool) (text mid : List ℕ) (n : ℕ) → begins is_n text ≡ false → SpellsNumber n text mid →
    SpellsNone (SpellsAfterNumber (signed is_negative n)) mid → SpellsNone (SpellsUnsigned is_negative) text
unsigned_no_after is_negative text mid n e number none v rest h =
    let x = when_false _ _ e h in
    let same = number_once n x.0 text mid x.1 number x.2 in
    none v rest (subst (λ t. SpellsAfterNumber (signed is_negative n) v t rest) (sym same.1) (subst (λ k. SpellsAfterNumber (signed is_negative k) v x.1 rest) (sym same.0) x.3))
