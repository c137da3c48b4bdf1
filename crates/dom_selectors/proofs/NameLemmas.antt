-- Identifiers have one reading.
use Rattle.std.proofs.Common.{◌≡◌, ℕ, suc, ◌+◌, ◌*◌, ◌^◌, ◌<◌, ◌≤◌, List, [], ◌∷◌, ◌++◌, length, drop, take, Bool, true, false, ◌&&◌, ◌||◌, cond, nat_eq, refl, sym, ap, ◌∙◌, MatchBool, encode_utf8, encode_utf8_all, length-drop, arith}
use Rattle.std.specs.Char.{is_ascii_whitespace}
use Rattle.std.specs.List.{prefix_len}
use Rattle.std.proofs.Math.Nat.{pow-le-pow_right}
use Rattle.std.proofs.lemmas.Str.{encodes-append}
use Rattle.std.proofs.lemmas.List.{append-nil}
use Rattle.dom_selectors.specs.Spelling.{Many, SpellsNone}
use Rattle.dom_selectors.specs.Characters.{is_name_char}
use Rattle.dom_selectors.specs.Names.{is_hex, hex_len, after_space, SpellsEscape, SpellsNameChar, SpellsName, goes_on}
use Rattle.dom_selectors.proofs.Runs.{IsOnce, GoesOn, Shortens, run_once, run_none}

pub hex_small : (n i d : ℕ) → d ≤ 36 → n + 3 ≤ 3 * 16 ^ i → n * 16 + d + 3 ≤ 3 * 16 ^ (i + 1)
hex_small n i d small h = let more : i + 1 ≡ suc i = omega arith in rw more (omega arith)

pub hex_fits : (n i d : ℕ) → i < 6 → d ≤ 36 → n + 3 ≤ 3 * 16 ^ i → n * 16 + d < 2 ^ 32
hex_fits n i d low small h = let most : 16 ^ i ≤ 16 ^ 5 = pow-le-pow_right {n = 16} (omega arith) {i = i} {j = 5} (omega arith) in omega arith

-- two facts that are by_test by one test
pub both : (b : Bool) (P Q P' Q' R : Type 0) → (b ≡ true → P → P' → R) → (b ≡ false → Q → Q' → R) → MatchBool b P Q → MatchBool b P' Q' → R
both true P Q P' Q' R left right h k = left refl h k
both false P Q P' Q' R left right h k = right refl h k

pub by_test : (b : Bool) (P Q R : Type 0) → (b ≡ true → P → R) → (b ≡ false → Q → R) → MatchBool b P Q → R
by_test true P Q R left right h = left refl h
by_test false P Q R left right h = right refl h

-- the text of one character more
pub push_encodes : (new old : List ℕ) (read : List ℕ) (c : ℕ) → new ≡ old ++ encode_utf8 c → old ≡ encode_utf8_all read → new ≡ encode_utf8_all (read ++ c ∷ [])
push_encodes new old read c e h = e ∙ ap (λ t. t ++ encode_utf8 c) h ∙ ap (λ t. encode_utf8_all read ++ t) (sym (append-nil (encode_utf8 c))) ∙ sym (encodes-append read (c ∷ []))

pub escape_once : IsOnce SpellsEscape
escape_once v w [] r s h k = absurd h
escape_once v w (c ∷ more) r s h k =
    both (is_hex c) _ _ _ _ _ (λ _ p q. (p.0 ∙ sym q.0, p.1 ∙ sym q.1)) (λ _ p q. (p.1 ∙ sym q.1, p.2 ∙ sym q.2)) h k

pub name_char_once : IsOnce SpellsNameChar
name_char_once v w [] r s h k = absurd h
name_char_once v w (c ∷ more) r s h k =
    both (is_name_char c) _ _ _ _ _ (λ _ p q. (p.0 ∙ sym q.0, p.1 ∙ sym q.1)) (λ _ p q. escape_once v w more r s p.1 q.1) h k

after_space_le : (text : List ℕ) → length (after_space text) ≤ length text
after_space_le [] = omega arith
after_space_le (c ∷ []) = by (is_ascii_whitespace c)
  where
    by : (b : Bool) → length (cond b [] (c ∷ [])) ≤ length (c ∷ [])
    by true = omega arith
    by false = omega arith
after_space_le (c ∷ d ∷ text) = by (nat_eq c 13 && nat_eq d 10) (is_ascii_whitespace c)
  where
    by : (a b : Bool) → length (cond a text (cond b (d ∷ text) (c ∷ d ∷ text))) ≤ length (c ∷ d ∷ text)
    by true b = omega arith
    by false true = omega arith
    by false false = omega arith

hex_some : (c : ℕ) (more : List ℕ) → is_hex c ≡ true → 0 < hex_len (c ∷ more)
hex_some c more h = let e : hex_len (c ∷ more) ≡ 1 + prefix_len is_hex (take 5 more) = ap (λ b. cond b (1 + prefix_len is_hex (take 5 more)) 0) h in omega arith

pub escape_shortens : Shortens SpellsEscape
escape_shortens v [] r h = absurd h
escape_shortens v (c ∷ more) r h =
    by_test (is_hex c) _ _ _
    (λ t p. let some = hex_some c more t in
    let le = after_space_le (drop (hex_len (c ∷ more)) (c ∷ more)) in
    let long = length-drop (hex_len (c ∷ more)) (c ∷ more) in
    let is = ap length p.1 in
    omega arith)
    (λ _ p. let is = ap length p.2 in omega arith)
    h

pub name_char_shortens : Shortens SpellsNameChar
name_char_shortens v [] r h = absurd h
name_char_shortens v (c ∷ more) r h =
    by_test (is_name_char c) _ _ _ (λ _ p. let is = ap length p.1 in omega arith) (λ _ p. let less = escape_shortens v more r p.1 in omega arith) h

pub name_char_goes_on : GoesOn SpellsNameChar goes_on
name_char_goes_on v [] r h = absurd h
name_char_goes_on v (c ∷ more) r h =
    by_test (is_name_char c) _ _ _ (λ t _. ap (λ b. b || nat_eq c 92) t) (λ _ p. ap (λ d. is_name_char d || nat_eq d 92) p.0) h

pub name_once : IsOnce SpellsName
name_once v w text r s h k =
    let same = run_once SpellsNameChar name_char_once goes_on name_char_goes_on h.name k.name text r s h.run k.run in
    (h.is ∙ ap encode_utf8_all same.0 ∙ sym k.is, same.1)

-- where a name goes on and no character of it is spelled
pub name_none : (read : List ℕ) (text mid : List ℕ) → Many SpellsNameChar read text mid → goes_on mid ≡ true → SpellsNone SpellsNameChar mid → SpellsNone SpellsName text
name_none read text mid h on none v rest spelled =
    run_none SpellsNameChar name_char_once goes_on name_char_goes_on read text mid h on none spelled.name rest spelled.run
