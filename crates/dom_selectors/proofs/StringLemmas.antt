-- Strings have one reading.
use Rattle.std.proofs.Common.{◌≡◌, ℕ, ◌≤◌, List, [], ◌∷◌, ◌++◌, length, drop, Bool, true, false, ◌&&◌, cond, nat_eq, refl, sym, ap, ◌∙◌, subst, true≢false, encode_utf8_all, arith, Option, Some, None}
use Rattle.std.proofs.lemmas.Str.{encodes-append}
use Rattle.std.proofs.lemmas.Bool.Decides.{nat_tests}
use Rattle.dom_selectors.specs.Spelling.{Many, Run, SpellsNone}
use Rattle.dom_selectors.specs.Characters.{is_line_end, begins}
use Rattle.dom_selectors.specs.Strings.{SpellsStringEscape, SpellsPiece, SpellsString, after_line_end, goes_on_in, present}
use Rattle.dom_selectors.proofs.Runs.{IsOnce, GoesOn, Shortens, run_once, run_none}
use Rattle.dom_selectors.proofs.NameLemmas.{both, by_test, escape_once, escape_shortens}

pub string_escape_once : IsOnce SpellsStringEscape
string_escape_once v w text r s h k =
    both (begins is_line_end text) _ _ _ _ _ (λ _ p q. (p.0 ∙ sym q.0, p.1 ∙ sym q.1))
    (λ _ p q. let same = escape_once p.0 q.0 text r s p.1 q.1 in (p.2 ∙ ap Some same.0 ∙ sym q.2, same.1)) h k

pub piece_once : (quote : ℕ) → IsOnce (SpellsPiece quote)
piece_once quote v w [] r s h k = absurd h
piece_once quote v w (c ∷ more) r s h k =
    both (nat_eq c 92) _ _ _ _ _ (λ _ p q. string_escape_once v w more r s p q) (λ _ p q. (p.1 ∙ sym q.1, p.2 ∙ sym q.2)) h.1 k.1

after_line_end_le : (text : List ℕ) → length (after_line_end text) ≤ length text
after_line_end_le [] = omega arith
after_line_end_le (c ∷ []) = omega arith
after_line_end_le (c ∷ d ∷ text) = by (nat_eq c 13 && nat_eq d 10)
  where
    by : (b : Bool) → length (cond b text (d ∷ text)) ≤ length (c ∷ d ∷ text)
    by true = omega arith
    by false = omega arith

string_escape_le : (v : Option ℕ) (text r : List ℕ) → SpellsStringEscape v text r → length r ≤ length text
string_escape_le v text r h =
    by_test (begins is_line_end text) _ _ _ (λ _ p. let is = ap length p.1 in let le = after_line_end_le text in omega arith)
    (λ _ p. let less = escape_shortens p.0 text r p.1 in omega arith) h

pub piece_shortens : (quote : ℕ) → Shortens (SpellsPiece quote)
piece_shortens quote v [] r h = absurd h
piece_shortens quote v (c ∷ more) r h =
    by_test (nat_eq c 92) _ _ _ (λ _ p. let le = string_escape_le v more r p in omega arith) (λ _ p. let is = ap length p.2 in omega arith) h.1

pub piece_goes_on : (quote : ℕ) → GoesOn (SpellsPiece quote) (goes_on_in quote)
piece_goes_on quote v [] r h = absurd h
piece_goes_on quote v (c ∷ more) r h = ap (λ b. cond b false true) h.0

pub string_once : IsOnce SpellsString
string_once v w text r s h k =
    let opens_h = h.opens in
    let opens_k = k.opens in
    let quote : h.quote ≡ k.quote = cc in
    let inside : h.inside ≡ k.inside = cc in
    let run : Run (SpellsPiece h.quote) (goes_on_in h.quote) k.pieces h.inside (h.quote ∷ s) =
    subst (λ i. Run (SpellsPiece h.quote) (goes_on_in h.quote) k.pieces i (h.quote ∷ s)) (sym inside)
    (subst (λ q. Run (SpellsPiece q) (goes_on_in q) k.pieces k.inside (q ∷ s)) (sym quote) k.run) in
    let same = run_once (SpellsPiece h.quote) (piece_once h.quote) (goes_on_in h.quote) (piece_goes_on h.quote) h.pieces k.pieces h.inside (h.quote ∷ r) (h.quote ∷ s) h.run run in
    let rest = same.1 in
    let one : r ≡ s = cc in
    (h.is ∙ ap (λ ps. encode_utf8_all (present ps)) same.0 ∙ sym k.is, one)

-- where a string goes on and no character of it is spelled
pub string_none : (text inside : List ℕ) (quote : ℕ) (read : List (Option ℕ)) (mid : List ℕ) → text ≡ quote ∷ inside →
    Many (SpellsPiece quote) read inside mid → goes_on_in quote mid ≡ true → SpellsNone (SpellsPiece quote) mid → SpellsNone SpellsString text
string_none text inside quote read mid opens h on none v rest spelled =
    let opens_s = spelled.opens in
    let same : spelled.quote ≡ quote = cc in
    let within : spelled.inside ≡ inside = cc in
    let run : Run (SpellsPiece quote) (goes_on_in quote) spelled.pieces inside (quote ∷ rest) =
    subst (λ i. Run (SpellsPiece quote) (goes_on_in quote) spelled.pieces i (quote ∷ rest)) within
    (subst (λ q. Run (SpellsPiece q) (goes_on_in q) spelled.pieces spelled.inside (q ∷ rest)) same spelled.run) in
    run_none (SpellsPiece quote) (piece_once quote) (goes_on_in quote) (piece_goes_on quote) read inside mid h on none spelled.pieces (quote ∷ rest) run

present_append : (pieces more : List (Option ℕ)) → present (pieces ++ more) ≡ present pieces ++ present more
present_append [] more = refl
present_append (None ∷ pieces) more = present_append pieces more
present_append (Some c ∷ pieces) more = ap (λ cs. c ∷ cs) (present_append pieces more)

pub push_present : (new old : List ℕ) (read : List (Option ℕ)) (piece : Option ℕ) → new ≡ old ++ encode_utf8_all (present (piece ∷ [])) →
    old ≡ encode_utf8_all (present read) → new ≡ encode_utf8_all (present (read ++ piece ∷ []))
push_present new old read piece e h =
    e ∙ ap (λ t. t ++ encode_utf8_all (present (piece ∷ []))) h ∙ sym (encodes-append (present read) (present (piece ∷ []))) ∙ ap encode_utf8_all (sym (present_append read (piece ∷ [])))

-- where a string doesn't go on its quote stands
pub quote_stands : (quote : ℕ) (text : List ℕ) → goes_on_in quote text ≡ false → text ≡ quote ∷ drop 1 text
quote_stands quote [] e = absurd (true≢false e)
quote_stands quote (c ∷ text) e = let same : c ≡ quote = grind (arith, nat_tests) in ap (λ d. d ∷ text) same
