-- Characters as they are written, and the pieces that they are.
use Rattle.std.specs.Prelude.{◌≡◌, ℕ, Bool, true, false, ◌==◌, List, [], ◌∷◌, ◌++◌, map, codes, refl}
use Rattle.std.proofs.Common.{inl, inr}
use Rattle.std.specs.List.{flat_map, list_all}
use Rattle.std.specs.Str.{all_scalars}
use Rattle.std.specs.Cmp.Derive.{both_true}
use Rattle.std.proofs.lemmas.Bool.{and_parts, cases_Bool, eqb-true}
use lib.Utf8.{encode, scalar}
use mathlib.Core.Path.{◌∙◌, sym, ap}
use native.Mathlib.Omega.{arith}
use Rattle.dom_nodes.specs.Escaping.{value_char}
use Rattle.dom_markup.specs.Escaping.{text_char}
use Rattle.standard_tokens.specs.PlainMarkup.{Piece, Itself, Amp, Lt, Gt, Quot, Nbsp, character, is_plain_piece, is_raw_char, is_text_char, is_value_char, written_piece}
use Rattle.standard_laws.proofs.Encodings.{Encodes, encodes_each, encodes_one}
use Rattle.standard_laws.specs.TreeItems.{text_piece}
use Rattle.dom_markup.specs.WrittenTrees.{safe_char}
use Rattle.standard_laws.specs.Values.{WritesValues, safe_piece, value_piece}

-- ---- the five references

amp_is : Encodes (codes "&amp;") (codes "&amp;")
unfolding encode
amp_is = record { scalars = refl; same = refl }

lt_is : Encodes (codes "&lt;") (codes "&lt;")
unfolding encode
lt_is = record { scalars = refl; same = refl }

gt_is : Encodes (codes "&gt;") (codes "&gt;")
unfolding encode
gt_is = record { scalars = refl; same = refl }

quot_is : Encodes (codes "&quot;") (codes "&quot;")
unfolding encode
quot_is = record { scalars = refl; same = refl }

nbsp_is : Encodes (codes "&nbsp;") (codes "&nbsp;")
unfolding encode
nbsp_is = record { scalars = refl; same = refl }

-- ---- texts

text_writes : (c : ℕ) → scalar c ≡ true → Encodes (written_piece (text_piece c)) (text_char c)
text_writes c h =
    elim (cases_Bool (c == 38)) [
      | inl amp ↦ rw amp amp_is
      | inr no_amp ↦ elim (cases_Bool (c == 60)) [
        | inl lt ↦ rw (no_amp, lt) lt_is
        | inr no_lt ↦ elim (cases_Bool (c == 62)) [
          | inl gt ↦ rw (no_amp, no_lt, gt) gt_is
          | inr no_gt ↦ elim (cases_Bool (c == 160)) [
            | inl nbsp ↦ rw (no_amp, no_lt, no_gt, nbsp) nbsp_is
            | inr no_nbsp ↦ rw (no_amp, no_lt, no_gt, no_nbsp) (encodes_one c h)
          ]
        ]
      ]
    ]

text_means : (c : ℕ) → character (text_piece c) ≡ c
text_means c =
    elim (cases_Bool (c == 38)) [
      | inl amp ↦ rw amp (sym (eqb-true c 38 amp))
      | inr no_amp ↦ elim (cases_Bool (c == 60)) [
        | inl lt ↦ rw (no_amp, lt) (sym (eqb-true c 60 lt))
        | inr no_lt ↦ elim (cases_Bool (c == 62)) [
          | inl gt ↦ rw (no_amp, no_lt, gt) (sym (eqb-true c 62 gt))
          | inr no_gt ↦ elim (cases_Bool (c == 160)) [
            | inl nbsp ↦ rw (no_amp, no_lt, no_gt, nbsp) (sym (eqb-true c 160 nbsp))
            | inr no_nbsp ↦ rw (no_amp, no_lt, no_gt, no_nbsp) refl
          ]
        ]
      ]
    ]

itself_in_text : (c : ℕ) → is_raw_char c ≡ true → (c == 38) ≡ false → (c == 60) ≡ false → is_text_char c ≡ true
itself_in_text c h no_amp no_lt = grind arith

text_plain : (c : ℕ) → is_raw_char c ≡ true → is_plain_piece is_text_char (text_piece c) ≡ true
text_plain c h =
    elim (cases_Bool (c == 38)) [
      | inl amp ↦ rw amp refl
      | inr no_amp ↦ elim (cases_Bool (c == 60)) [
        | inl lt ↦ rw (no_amp, lt) refl
        | inr no_lt ↦ elim (cases_Bool (c == 62)) [
          | inl gt ↦ rw (no_amp, no_lt, gt) refl
          | inr no_gt ↦ elim (cases_Bool (c == 160)) [
            | inl nbsp ↦ rw (no_amp, no_lt, no_gt, nbsp) refl
            | inr no_nbsp ↦ rw (no_amp, no_lt, no_gt, no_nbsp) (itself_in_text c h no_amp no_lt)
          ]
        ]
      ]
    ]

-- ---- values

itself_in_value : (c : ℕ) → is_raw_char c ≡ true → (c == 38) ≡ false → (c == 34) ≡ false → is_value_char c ≡ true
itself_in_value c h no_amp no_quot = grind arith

value_writes : (c : ℕ) → scalar c ≡ true → Encodes (written_piece (value_piece c)) (value_char c)
value_writes c h =
    elim (cases_Bool (c == 38)) [
      | inl amp ↦ rw amp amp_is
      | inr no_amp ↦ elim (cases_Bool (c == 34)) [
        | inl quot ↦ rw (no_amp, quot) quot_is
        | inr no_quot ↦ elim (cases_Bool (c == 160)) [
          | inl nbsp ↦ rw (no_amp, no_quot, nbsp) nbsp_is
          | inr no_nbsp ↦ rw (no_amp, no_quot, no_nbsp) (encodes_one c h)
        ]
      ]
    ]

value_means : (c : ℕ) → character (value_piece c) ≡ c
value_means c =
    elim (cases_Bool (c == 38)) [
      | inl amp ↦ rw amp (sym (eqb-true c 38 amp))
      | inr no_amp ↦ elim (cases_Bool (c == 34)) [
        | inl quot ↦ rw (no_amp, quot) (sym (eqb-true c 34 quot))
        | inr no_quot ↦ elim (cases_Bool (c == 160)) [
          | inl nbsp ↦ rw (no_amp, no_quot, nbsp) (sym (eqb-true c 160 nbsp))
          | inr no_nbsp ↦ rw (no_amp, no_quot, no_nbsp) refl
        ]
      ]
    ]

value_plain : (c : ℕ) → is_raw_char c ≡ true → is_plain_piece is_value_char (value_piece c) ≡ true
value_plain c h =
    elim (cases_Bool (c == 38)) [
      | inl amp ↦ rw amp refl
      | inr no_amp ↦ elim (cases_Bool (c == 34)) [
        | inl quot ↦ rw (no_amp, quot) refl
        | inr no_quot ↦ elim (cases_Bool (c == 160)) [
          | inl nbsp ↦ rw (no_amp, no_quot, nbsp) refl
          | inr no_nbsp ↦ rw (no_amp, no_quot, no_nbsp) (itself_in_value c h no_amp no_quot)
        ]
      ]
    ]

-- a number that is a character
alone : (c : ℕ) → all_scalars (c ∷ []) ≡ true → scalar c ≡ true
alone c h = (and_parts (scalar c) true h).0

pub html_writes_values : WritesValues value_char value_piece
html_writes_values = record { writes = λ c h. (value_writes c (alone c h)).same; means = value_means; plain = value_plain }

safe_writes : (c : ℕ) → scalar c ≡ true → Encodes (written_piece (safe_piece c)) (safe_char c)
safe_writes c h = elim (cases_Bool (c == 34)) [ inl quot ↦ rw quot quot_is | inr no_quot ↦ rw no_quot (text_writes c h) ]

safe_means : (c : ℕ) → character (safe_piece c) ≡ c
safe_means c = elim (cases_Bool (c == 34)) [ inl quot ↦ rw quot (sym (eqb-true c 34 quot)) | inr no_quot ↦ rw no_quot (text_means c) ]

text_in_value : (c : ℕ) → is_raw_char c ≡ true → (c == 34) ≡ false → is_plain_piece is_value_char (text_piece c) ≡ true
text_in_value c h no_quot =
    elim (cases_Bool (c == 38)) [
      | inl amp ↦ rw amp refl
      | inr no_amp ↦ elim (cases_Bool (c == 60)) [
        | inl lt ↦ rw (no_amp, lt) refl
        | inr no_lt ↦ elim (cases_Bool (c == 62)) [
          | inl gt ↦ rw (no_amp, no_lt, gt) refl
          | inr no_gt ↦ elim (cases_Bool (c == 160)) [
            | inl nbsp ↦ rw (no_amp, no_lt, no_gt, nbsp) refl
            | inr no_nbsp ↦ rw (no_amp, no_lt, no_gt, no_nbsp) (itself_in_value c h no_amp no_quot)
          ]
        ]
      ]
    ]

safe_plain : (c : ℕ) → is_raw_char c ≡ true → is_plain_piece is_value_char (safe_piece c) ≡ true
safe_plain c h = elim (cases_Bool (c == 34)) [ inl quot ↦ rw quot refl | inr no_quot ↦ rw no_quot (text_in_value c h no_quot) ]

pub safe_writes_values : WritesValues safe_char safe_piece
safe_writes_values = record { writes = λ c h. (safe_writes c (alone c h)).same; means = safe_means; plain = safe_plain }

-- ---- all characters of a text

flat_pieces : (piece : ℕ → Piece) (cs : List ℕ) → flat_map written_piece (map piece cs) ≡ flat_map (λ c. written_piece (piece c)) cs
flat_pieces piece [] = refl
flat_pieces piece (c ∷ cs) = ap (λ text. written_piece (piece c) ++ text) (flat_pieces piece cs)

pub means_all : (piece : ℕ → Piece) → ((c : ℕ) → character (piece c) ≡ c) → (cs : List ℕ) → map character (map piece cs) ≡ cs
means_all piece means [] = refl
means_all piece means (c ∷ cs) = ap (λ d. d ∷ map character (map piece cs)) (means c) ∙ ap (λ ds. c ∷ ds) (means_all piece means cs)

pub plain_all : (piece : ℕ → Piece) (test : ℕ → Bool) → ((c : ℕ) → is_raw_char c ≡ true → is_plain_piece test (piece c) ≡ true) → (cs : List ℕ) → list_all is_raw_char cs ≡ true →
    list_all (is_plain_piece test) (map piece cs) ≡ true
plain_all piece test plain [] h = refl
plain_all piece test plain (c ∷ cs) h =
    let parts : (is_raw_char c ≡ true) × (list_all is_raw_char cs ≡ true) = and_parts (is_raw_char c) (list_all is_raw_char cs) h in
    both_true (plain c parts.0) (plain_all piece test plain cs parts.1)

pub text_encodes : (cs : List ℕ) → all_scalars cs ≡ true → Encodes (flat_map written_piece (map text_piece cs)) (flat_map text_char cs)
text_encodes cs h = rw (flat_pieces text_piece cs) (encodes_each (λ c. written_piece (text_piece c)) text_char text_writes cs h)

-- a piece holds characters alone
piece_scalars : (piece : Piece) (c : ℕ) → character piece ≡ c → scalar c ≡ true → all_scalars (written_piece piece) ≡ true
piece_scalars (Itself d) c same h = both_true (ap scalar same ∙ h) refl
piece_scalars Amp c same h = refl
piece_scalars Lt c same h = refl
piece_scalars Gt c same h = refl
piece_scalars Quot c same h = refl
piece_scalars Nbsp c same h = refl

pub value_encodes : (by : ℕ → List ℕ) (piece : ℕ → Piece) → WritesValues by piece → (cs : List ℕ) → all_scalars cs ≡ true →
    Encodes (flat_map written_piece (map piece cs)) (flat_map by cs)
value_encodes by piece writes cs h =
    rw (flat_pieces piece cs)
    (encodes_each (λ c. written_piece (piece c)) by (λ c is. record { scalars = piece_scalars (piece c) c (writes.means c) is; same = writes.writes c (both_true is refl) }) cs h)

pub text_means_all : (cs : List ℕ) → map character (map text_piece cs) ≡ cs
text_means_all cs = means_all text_piece text_means cs

pub text_plain_all : (cs : List ℕ) → list_all is_raw_char cs ≡ true → list_all (is_plain_piece is_text_char) (map text_piece cs) ≡ true
text_plain_all cs h = plain_all text_piece is_text_char text_plain cs h
