-- What the first bytes of a text in UTF-16 give, whatever follows.
use Rattle.std.proofs.Common.{◌≡◌, ℕ, List, [], ◌∷◌, ◌++◌, true, false, refl, sym, ap, ◌∙◌, length, arith, Option, None}
use Rattle.encodings.specs.declared.utf16.ByteOrder.{ByteOrder}
use Rattle.encodings.specs.Utf16.{character, characters, is_high, is_low, pair_code, unit_of}

one : (order : ByteOrder) (a b : ℕ) (all : List ℕ) → is_high (unit_of order a b) ≡ false → characters order (a ∷ b ∷ all) ≡ character (unit_of order a b) ∷ characters order all
unfolding characters
one order a b [] h = rw h refl
one order a b (c ∷ []) h = rw h refl
one order a b (c ∷ d ∷ rest) h = rw h refl

pub step_one : (order : ByteOrder) (bytes others behind more : List ℕ) (a b : ℕ) (unit : ℕ) (c : Option ℕ) → bytes ≡ a ∷ others → others ≡ b ∷ behind → unit ≡ unit_of order a b →
    is_high unit ≡ false → c ≡ character unit → characters order (bytes ++ more) ≡ c ∷ characters order (behind ++ more)
step_one order bytes others behind more a b unit c is next u h k =
    ap (λ r. characters order (r ++ more)) (is ∙ ap (λ r. a ∷ r) next) ∙ one order a b (behind ++ more) (ap is_high (sym u) ∙ h)
    ∙ ap (λ t. t ∷ characters order (behind ++ more)) (ap character (sym u) ∙ sym k)

pub cut_one : (order : ByteOrder) (bytes others more : List ℕ) (a : ℕ) → bytes ≡ a ∷ others → length others ≡ 0 → more ≡ [] → characters order (bytes ++ more) ≡ None ∷ characters order (others ++ more)
unfolding characters
cut_one order bytes [] more a is none last = ap (λ r. characters order (r ++ more)) is ∙ ap (λ m. characters order (a ∷ m)) last ∙ ap (λ m. None ∷ characters order m) (sym last)
cut_one order bytes (b ∷ bs) more a is none last = absurd (omega arith)

pub cut_two : (order : ByteOrder) (behind more : List ℕ) (a b : ℕ) → is_high (unit_of order a b) ≡ true → length behind ≡ 0 → more ≡ [] →
    characters order (a ∷ b ∷ (behind ++ more)) ≡ None ∷ characters order (behind ++ more)
unfolding characters
cut_two order [] more a b h none last = ap (λ m. characters order (a ∷ b ∷ m)) last ∙ rw h refl ∙ ap (λ m. None ∷ characters order m) (sym last)
cut_two order (x ∷ xs) more a b h none last = absurd (omega arith)

pub cut_three : (order : ByteOrder) (behind others more : List ℕ) (a b c : ℕ) → is_high (unit_of order a b) ≡ true → behind ≡ c ∷ others → length others ≡ 0 → more ≡ [] →
    characters order (a ∷ b ∷ (behind ++ more)) ≡ None ∷ characters order (others ++ more)
unfolding characters
cut_three order behind [] more a b c h next none last =
    ap (λ r. characters order (a ∷ b ∷ (r ++ more))) next ∙ ap (λ m. characters order (a ∷ b ∷ c ∷ m)) last ∙ rw h refl ∙ ap (λ m. None ∷ characters order m) (sym last)
cut_three order behind (x ∷ xs) more a b c h next none last = absurd (omega arith)

both : (order : ByteOrder) (a b c d : ℕ) (all : List ℕ) → is_high (unit_of order a b) ≡ true → is_low (unit_of order c d) ≡ true →
    characters order (a ∷ b ∷ c ∷ d ∷ all) ≡ character (pair_code (unit_of order a b) (unit_of order c d)) ∷ characters order all
unfolding characters
both order a b c d all h k = rw (h, k) refl

pub pair_both : (order : ByteOrder) (behind others rest more : List ℕ) (a b c d high low code : ℕ) (found : Option ℕ) → is_high (unit_of order a b) ≡ true → behind ≡ c ∷ others → others ≡ d ∷ rest →
    high ≡ unit_of order a b → low ≡ unit_of order c d → is_low low ≡ true → code ≡ pair_code high low → found ≡ character code →
    characters order (a ∷ b ∷ (behind ++ more)) ≡ found ∷ characters order (rest ++ more)
pair_both order behind others rest more a b c d high low code found h next then first second k is was =
    ap (λ r. characters order (a ∷ b ∷ (r ++ more))) (next ∙ ap (λ r. c ∷ r) then) ∙ both order a b c d (rest ++ more) h (ap is_low (sym second) ∙ k)
    ∙ ap (λ t. t ∷ characters order (rest ++ more)) (ap (λ x. character (pair_code x (unit_of order c d))) (sym first) ∙ ap (λ x. character (pair_code high x)) (sym second) ∙ ap character (sym is) ∙ sym was)

high_alone : (order : ByteOrder) (a b c d : ℕ) (all : List ℕ) → is_high (unit_of order a b) ≡ true → is_low (unit_of order c d) ≡ false →
    characters order (a ∷ b ∷ c ∷ d ∷ all) ≡ None ∷ characters order (c ∷ d ∷ all)
unfolding characters
high_alone order a b c d all h k = rw (h, k) refl

pub pair_wrong : (order : ByteOrder) (behind others rest more : List ℕ) (a b c d low : ℕ) → is_high (unit_of order a b) ≡ true → behind ≡ c ∷ others → others ≡ d ∷ rest →
    low ≡ unit_of order c d → is_low low ≡ false → characters order (a ∷ b ∷ (behind ++ more)) ≡ None ∷ characters order (behind ++ more)
pair_wrong order behind others rest more a b c d low h next then second k =
    let is : behind ≡ c ∷ d ∷ rest = next ∙ ap (λ r. c ∷ r) then in
    ap (λ r. characters order (a ∷ b ∷ (r ++ more))) is ∙ high_alone order a b c d (rest ++ more) h (ap is_low (sym second) ∙ k)
    ∙ ap (λ r. None ∷ characters order (r ++ more)) (sym is)
