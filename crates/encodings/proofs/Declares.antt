-- A `meta` with the attribute `charset` at the start of the bytes, and comments before it.
use Rattle.std.proofs.Common.{◌≡◌, ℕ, suc, ◌+◌, ◌-◌, ◌≤◌, List, [], ◌∷◌, ◌++◌, Bool, true, false, not, ◌&&◌, ◌||◌, ◌==◌, length, take, arith, refl, sym, ap, ap₂, ◌∙◌, Some, None}
use Rattle.std.specs.Prelude.{codes}
use Rattle.std.specs.List.{list_all}
use Rattle.std.specs.Option.{option_map}
use Rattle.std.proofs.Math.Seq.{take-append-add}
use Rattle.encodings.specs.declared.encoding.Encoding.{Encoding}
use Rattle.encodings.specs.Attributes.{at_equals, at_name, at_value, attributes, bare_value, declared_by, get_attribute, no_attributes, noted}
use Rattle.encodings.specs.Bytes.{IsPlain, after_while, begins, begins_with_word, ends_value, front_while, is_quote, is_space}
use Rattle.encodings.specs.Labels.{encoding_of, of_markup}
use Rattle.encodings.specs.Prescan.{declared_encoding, declared_in, looked_at, of_meta, or_next, or_xml, prescan, step, xml_encoding}
use Rattle.encodings.proofs.Steps.{step_declares}
use Rattle.encodings.proofs.Tails.{attribute_read, attributes_end}

stays : (p : ℕ → Bool) (byte : ℕ) (rest : List ℕ) → p byte ≡ false → after_while p (byte ∷ rest) ≡ byte ∷ rest
unfolding after_while
stays p byte rest h = rw h refl

pub and_left : (a b : Bool) → (a && b) ≡ true → a ≡ true
and_left true b h = refl
and_left false b h = h

pub and_right : (a b : Bool) → (a && b) ≡ true → b ≡ true
and_right true b h = h
and_right false true h = refl
and_right false false h = h

-- a run up to a byte that ends it
run_front : (p : ℕ → Bool) (run : List ℕ) (byte : ℕ) (rest : List ℕ) → list_all p run ≡ true → p byte ≡ false → front_while p (run ++ (byte ∷ rest)) ≡ run
unfolding front_while
run_front p [] byte rest all end = rw end refl
run_front p (first ∷ run) byte rest all end =
    let passes : p first ≡ true = and_left (p first) (list_all p run) all in
    let more : front_while p (run ++ (byte ∷ rest)) ≡ run = run_front p run byte rest (and_right (p first) (list_all p run) all) end in
    rw passes (ap (λ r. first ∷ r) more)

run_after : (p : ℕ → Bool) (run : List ℕ) (byte : ℕ) (rest : List ℕ) → list_all p run ≡ true → p byte ≡ false → after_while p (run ++ (byte ∷ rest)) ≡ byte ∷ rest
unfolding after_while
run_after p [] byte rest all end = rw end refl
run_after p (first ∷ run) byte rest all end =
    let passes : p first ≡ true = and_left (p first) (list_all p run) all in
    rw passes (run_after p run byte rest (and_right (p first) (list_all p run) all) end)

abbrev in_value : ℕ → Bool
in_value byte = not (ends_value byte)

bare : (name bytes : List ℕ) → begins is_quote bytes ≡ false → at_value name bytes ≡ bare_value name (front_while in_value bytes) (after_while in_value bytes)
unfolding at_value
bare name bytes h = rw h refl

no_space : (byte : ℕ) → not (is_space byte || byte == 0x3E) ≡ true → is_space byte ≡ false
no_space byte h = first_false (is_space byte) (byte == 0x3E) h
  where
    first_false : (a b : Bool) → not (a || b) ≡ true → a ≡ false
    first_false true b h = sym h
    first_false false b h = refl

-- the value up to the `>`
value_of : (name label rest : List ℕ) → IsPlain label → at_value name (after_while is_space (label ++ (0x3E ∷ rest))) ≡ Some (Some (name, label), 0x3E ∷ rest)
value_of name [] rest plain = ap (at_value name) (stays is_space 0x3E rest refl) ∙ bare name (0x3E ∷ rest) refl ∙ ap₂ (bare_value name) (run_front in_value [] 0x3E rest refl refl) (run_after in_value [] 0x3E rest refl refl)
value_of name (byte ∷ label) rest plain =
    let all : list_all in_value (byte ∷ label) ≡ true = plain.1 in
    ap (at_value name) (stays is_space byte (label ++ (0x3E ∷ rest)) (no_space byte (and_left (in_value byte) (list_all in_value label) all)))
    ∙ bare name (byte ∷ (label ++ (0x3E ∷ rest))) plain.0
    ∙ ap₂ (bare_value name) (run_front in_value (byte ∷ label) 0x3E rest all refl) (run_after in_value (byte ∷ label) 0x3E rest all refl)

-- ---- the attribute

charset_got : (label rest : List ℕ) → IsPlain label → get_attribute (codes " charset=" ++ (label ++ (0x3E ∷ rest))) ≡ Some (Some (codes "charset", label), 0x3E ∷ rest)
unfolding get_attribute after_while at_name front_while at_equals
charset_got label rest plain = value_of (codes "charset") label rest plain

none_got : (rest : List ℕ) → Some (None, 0x3E ∷ rest) ≡ get_attribute (0x3E ∷ rest)
unfolding get_attribute after_while at_name
none_got rest = refl

charset_read : (label rest : List ℕ) → IsPlain label →
    attributes no_attributes 0 (codes " charset=" ++ (label ++ (0x3E ∷ rest))) ≡ Some (noted no_attributes (codes "charset", label), 0x3E ∷ rest)
charset_read label rest plain =
    (attribute_read no_attributes (codes " charset=" ++ (label ++ (0x3E ∷ rest))) (0x3E ∷ rest) (codes "charset", label) (sym (charset_got label rest plain))).0
    ∙ attributes_end (noted no_attributes (codes "charset", label)) (0x3E ∷ rest) (0x3E ∷ rest) (none_got rest)

charset_declares : (label : List ℕ) (encoding : Encoding) → encoding_of label ≡ Some encoding → declared_by (noted no_attributes (codes "charset", label)) ≡ Some (of_markup encoding)
charset_declares label encoding is = ap (option_map of_markup) is

-- ---- the step

abbrev pub meta_with : List ℕ → List ℕ → List ℕ
meta_with label rest = codes "<meta charset=" ++ (label ++ (0x3E ∷ rest))

meta_step : (label rest : List ℕ) → step (meta_with label rest) ≡ of_meta (attributes no_attributes 0 (codes " charset=" ++ (label ++ (0x3E ∷ rest))))
unfolding step begins_with_word
meta_step label rest = refl

pub meta_prescan : (label rest : List ℕ) (encoding : Encoding) → IsPlain label → encoding_of label ≡ Some encoding → prescan 0 (meta_with label rest) ≡ Some (of_markup encoding)
meta_prescan label rest encoding plain is =
    sym (step_declares (meta_with label rest) (of_markup encoding)
    (sym (meta_step label rest ∙ ap of_meta (charset_read label rest plain) ∙ ap (λ found. or_next found (0x3E ∷ rest)) (charset_declares label encoding is))))

-- ---- the first bytes

cut : (label rest : List ℕ) → 15 + length label ≤ 1024 → take 1010 (label ++ (0x3E ∷ rest)) ≡ label ++ (0x3E ∷ take (1009 - length label) rest)
cut label rest few =
    let count : 1010 ≡ length label + suc (1009 - length label) = omega arith in
    ap (λ n. take n (label ++ (0x3E ∷ rest))) count ∙ take-append-add label (0x3E ∷ rest) (suc (1009 - length label))

in_front : (label rest : List ℕ) (encoding : Encoding) → prescan 0 (meta_with label rest) ≡ Some (of_markup encoding) → declared_in (meta_with label rest) ≡ Some (of_markup encoding)
unfolding declared_in
in_front label rest encoding is = ap (λ found. or_xml found (xml_encoding (meta_with label rest))) is

pub meta_declares : (label rest : List ℕ) (encoding : Encoding) → IsPlain label → encoding_of label ≡ Some encoding → 15 + length label ≤ looked_at →
    declared_encoding (meta_with label rest) ≡ Some (of_markup encoding)
unfolding declared_encoding
meta_declares label rest encoding plain is few =
    ap (λ value. declared_in (codes "<meta charset=" ++ value)) (cut label rest few)
    ∙ in_front label (take (1009 - length label) rest) encoding (meta_prescan label (take (1009 - length label) rest) encoding plain is)
