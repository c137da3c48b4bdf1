-- The table of names of known names.
use Rattle.std.proofs.Common.{◌≡◌, ℕ, zero, suc, ◌+◌, ◌<◌, Bool, true, false, List, [], ◌∷◌, get_or, map, ltb, ltb-true, ◌&&◌, refl, sym, ap, ◌∙◌, arith, if◌then◌else◌}
use Rattle.std.proofs.lemmas.Slice.Eq.{bytes_eq-Decides}
use Rattle.std.specs.List.{list_all}
use Rattle.std.specs.Str.{bytes_eq}
use Rattle.dom_nodes.specs.KnownNames.{IsUnknown, known_name}
use Rattle.page_trees.specs.Names.{html_rows, name_of, rare_rows, row_for}
use Rattle.page_trees.specs.declared.element_kinds.ElementCategory.{ElementCategory}
use Rattle.page_trees.specs.declared.name.Name.{Name}
use Rattle.page_trees.specs.declared.name.TheConstants.{KNOWN}

-- the values of a function at so many numbers from i on
abbrev values : (ℕ → Name) → ℕ → ℕ → List Name
values f i zero = []
values f i (suc count) = f i ∷ values f (i + 1) count

value_at : (f : ℕ → Name) (i count n : ℕ) (else_is : Name) → n < count → get_or (values f i count) n else_is ≡ f (i + n)
value_at f i zero n else_is h = absurd (omega arith)
value_at f i (suc count) zero else_is h = ap f (omega arith)
value_at f i (suc count) (suc n) else_is h = value_at f (i + 1) count n else_is (omega arith) ∙ ap f (omega arith)

abbrev names_in : List (Name × ElementCategory) → List Name
names_in [] = []
names_in (e ∷ es) = e.0 ∷ names_in es

name_in : (es : List (Name × ElementCategory)) (n : ℕ) (else_is : Name × ElementCategory) → (get_or es n else_is).0 ≡ get_or (names_in es) n else_is.0
name_in [] n else_is = refl
name_in (e ∷ es) zero else_is = refl
name_in (e ∷ es) (suc n) else_is = name_in es n else_is

-- computed
table_is : values (λ n. name_of (known_name n)) 0 247 ≡ names_in KNOWN
unfolding known_name html_rows rare_rows
table_is = refl

pub name_at : (n : ℕ) (else_is : Name × ElementCategory) → n < 247 → (get_or KNOWN n else_is).0 ≡ name_of (known_name n)
name_at n else_is h =
    let plain : 0 + n ≡ n = omega arith in
    name_in KNOWN n else_is
    ∙ (ap (λ (names : List Name). get_or names n else_is.0) (sym table_is) ∙ (value_at (λ n. name_of (known_name n)) 0 247 n else_is.0 h ∙ ap (λ k. name_of (known_name k)) plain))

-- ---- a text that is no known name is in no row of HTML

abbrev numbers : List ℕ
numbers = 1 ∷ 59 ∷ 167 ∷ 131 ∷ 60 ∷ 168 ∷ 95 ∷ 2 ∷ 61 ∷ 193 ∷ 170 ∷ 34 ∷ 229 ∷ 62 ∷ 9 ∷ 133 ∷ 171 ∷ 135 ∷ 64 ∷ 35 ∷ 194 ∷ 10 ∷ 177 ∷ 137 ∷ 38 ∷ 39 ∷ 11 ∷ 12 ∷ 13 ∷ 103 ∷ 202 ∷ 230 ∷ 138 ∷ 68 ∷ 139 ∷ 69 ∷ 104 ∷ 203 ∷ 14 ∷ 15 ∷ 16 ∷ 17 ∷ 18 ∷ 19 ∷ 70 ∷ 140 ∷ 142 ∷ 20 ∷ 72 ∷ 4 ∷ 144 ∷ 41 ∷ 105 ∷ 146 ∷ 107 ∷ 22 ∷ 74 ∷ 76 ∷ 181 ∷ 78 ∷ 207 ∷ 79 ∷ 48 ∷ 81 ∷ 182 ∷ 209 ∷ 210 ∷ 149 ∷ 23 ∷ 211 ∷ 151 ∷ 152 ∷ 5 ∷ 112 ∷ 226 ∷ 49 ∷ 24 ∷ 25 ∷ 84 ∷ 7 ∷ 154 ∷ 155 ∷ 189 ∷ 156 ∷ 116 ∷ 157 ∷ 88 ∷ 160 ∷ 162 ∷ 118 ∷ 53 ∷ 190 ∷ 54 ∷ 55 ∷ 119 ∷ 120 ∷ 26 ∷ 218 ∷ 219 ∷ 121 ∷ 27 ∷ 122 ∷ 123 ∷ 28 ∷ 124 ∷ 29 ∷ 8 ∷ 30 ∷ 56 ∷ 57 ∷ 58 ∷ []

abbrev texts : List (List ℕ × Name) → List (List ℕ)
texts [] = []
texts (row ∷ rows) = row.0 ∷ texts rows

-- computed
texts_are : texts html_rows ≡ map known_name numbers
unfolding known_name html_rows
texts_are = refl

numbers_below : list_all (λ n. ltb n 247) numbers ≡ true
numbers_below = refl

both : (a b : Bool) → (a && b) ≡ true → (a ≡ true) × (b ≡ true)
both true b e = (refl, e)
both false b e = absurd (cc)

false_unless : (b : Bool) → (b ≡ true → ⊥) → b ≡ false
false_unless true no_one = absurd (no_one refl)
false_unless false no_one = refl

no_row : (rows : List (List ℕ × Name)) (ns text : List ℕ) → texts rows ≡ map known_name ns → list_all (λ n. ltb n 247) ns ≡ true → IsUnknown text → row_for rows Name.Other text ≡ Name.Other
no_row [] ns text e below unknown = refl
no_row (row ∷ rows) [] text e below unknown = absurd (cc)
no_row (row ∷ rows) (n ∷ ns) text e below unknown =
    let head : row.0 ≡ known_name n = cc in
    let tail : texts rows ≡ map known_name ns = cc in
    let within = both (ltb n 247) (list_all (λ n. ltb n 247) ns) below in
    let differs = false_unless (bytes_eq row.0 text) (λ same. unknown n (ltb-true n 247 within.0, sym head ∙ (bytes_eq-Decides row.0 text).0 same)) in
    ap (λ b. if b then row.1 else row_for rows Name.Other text) differs ∙ no_row rows ns text tail within.1 unknown

-- so it has a rare name or none
pub name_unknown : (text : List ℕ) → IsUnknown text → row_for rare_rows Name.Other text ≡ name_of text
name_unknown text unknown = sym (ap (λ other. row_for rare_rows other text) (no_row html_rows numbers text texts_are numbers_below unknown))
