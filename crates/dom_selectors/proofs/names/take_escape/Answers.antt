use Rattle.std.proofs.Common.{◌≡◌, ℕ, ◌-◌, ◌≤◌, List, [], ◌∷◌, true, false, true≢false, sym, ap, ◌∙◌, subst, take, drop, length, length-drop, arith}
use Rattle.std.proofs.lemmas.List.{length-take, length-take-le, take_all}
use Rattle.std.proofs.lemmas.List.Sums.{prefix_len-le-length}
use Rattle.std.specs.Prelude.{MatchBool}
use Rattle.std.specs.List.{prefix_len}
use Rattle.std.specs.Str.Parse.{digits_value}
use Rattle.std.proofs.lemmas.Grind.{common_steps}
use Rattle.dom_selectors.specs.Characters.{begins, is_line_end}
use Rattle.dom_selectors.specs.Names.{after_space, char_of, hex_len, is_hex, SpellsEscape}
use Rattle.dom_selectors.proofs.names.take_escape.Goals as goal

-- digits write a character
digits_escape : (v : ℕ) (text rest : List ℕ) → begins is_hex text ≡ true → v ≡ char_of (digits_value 16 (take (hex_len text) text)) → rest ≡ after_space (drop (hex_len text) text) → SpellsEscape v text rest
digits_escape v [] rest hex is after = absurd (true≢false (sym hex))
digits_escape v (c ∷ more) rest hex is after =
    let text = c ∷ more in
    subst (λ b. MatchBool b ((v ≡ char_of (digits_value 16 (take (hex_len text) text))) × (rest ≡ after_space (drop (hex_len text) text))) ((is_line_end c ≡ false) × (v ≡ c) × (rest ≡ more))) (sym hex) (is, after)

hex_within : (len : ℕ) (front text : List ℕ) → len ≡ prefix_len is_hex front → front ≡ take 6 text → (len ≤ 6) × (len ≤ length text)
hex_within len front text counted cut =
    let low = prefix_len-le-length is_hex front in
    let long = ap length cut ∙ length-take 6 text in
    (omega (arith, counted, low, long), omega (arith, counted, low, long))

pub hex_number-requires : goal.hex_number-requires
hex_number-requires c = omega (arith, length-take c.hex_len-len.result c.args.text.now, (hex_within _ _ c.args.text.now c.hex_len-len.ensures c.first_six.ensures).0)

pub slice_bounds-hex_number-end : goal.slice_bounds-hex_number-end
slice_bounds-hex_number-end c = sym (length-take-le c.hex_len-len.result c.args.text.now (hex_within _ _ c.args.text.now c.hex_len-len.ensures c.first_six.ensures).1)

pub slice_bounds-after_space-count : goal.slice_bounds-after_space-count
slice_bounds-after_space-count c = (hex_within _ _ c.args.text.now c.hex_len-len.ensures c.first_six.ensures).1

pub offset_bounds-text-len : goal.offset_bounds-text-len
offset_bounds-text-len c = omega (arith, (hex_within _ _ c.args.text.now c.hex_len-len.ensures c.first_six.ensures).0)

pub returns-then-is_digit : goal.returns-then-is_digit
returns-then-is_digit c =
    let text = c.args.text.now in
    let count = c.hex_len-len.result in
    let len = c.hex_len-len.ensures ∙ ap (prefix_len is_hex) c.first_six.ensures in
    let whole = take_all (length text - count) (drop count text) (omega (arith, length-drop count text)) in
    digits_escape c.char_of.result text c.after_space.result.now (ap (begins is_hex) c.in-Some.ensures.cases.0 ∙ sym c.if-is_digit.ensures.value)
    (c.char_of.ensures ∙ ap char_of (c.hex_number.ensures ∙ ap (λ n. digits_value 16 (take n text)) len)) (c.after_space.ensures ∙ (ap after_space whole ∙ ap (λ n. after_space (drop n text)) len))

pub slice_bounds-after_space-start : goal.slice_bounds-after_space-start
slice_bounds-after_space-start c = grind (arith, common_steps)
