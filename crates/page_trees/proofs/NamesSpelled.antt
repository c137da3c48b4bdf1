-- The name of a tag is the same by its characters and by their bytes.
use Rattle.std.proofs.Common.{◌≡◌, ℕ, Bool, true, List, [], ◌∷◌, refl, sym, ap, ◌∙◌}
use Rattle.std.specs.List.{list_all}
use Rattle.std.specs.Prelude.{encode_utf8_all, if◌then◌else◌}
use Rattle.std.specs.Str.{bytes_eq}
use Rattle.std.proofs.lemmas.Bool.Decides.{same_from_decides, Decides-like}
use Rattle.std.proofs.lemmas.Slice.Eq.{bytes_eq-Decides}
use Rattle.std.proofs.lemmas.Str.{encodes_same}
use Rattle.page_trees.specs.Names.{html_rows, name_of, rare_rows, row_for}
use Rattle.page_trees.specs.declared.name.Name.{Name}
use Rattle.page_trees.proofs.NamesAgree.{both}

-- the texts of the rows are their own bytes
abbrev are_plain : List (List ℕ × Name) → Bool
are_plain rows = list_all (λ row. bytes_eq (encode_utf8_all row.0) row.0) rows

html_plain : are_plain html_rows ≡ true
unfolding html_rows lib.Utf8.encode
html_plain = refl

rare_plain : are_plain rare_rows ≡ true
unfolding rare_rows lib.Utf8.encode
rare_plain = refl

same_bytes : (text cs : List ℕ) → encode_utf8_all text ≡ text → bytes_eq text (encode_utf8_all cs) ≡ bytes_eq text cs
same_bytes text cs plain =
    same_from_decides _ _ (Decides-like _ (λ e. encodes_same text cs (plain ∙ e)) (λ e. sym plain ∙ ap encode_utf8_all e) (bytes_eq-Decides text (encode_utf8_all cs)))
    (bytes_eq-Decides text cs)

rows_agree : (rows : List (List ℕ × Name)) → are_plain rows ≡ true → (one two : Name) → one ≡ two → (cs : List ℕ) →
    row_for rows one (encode_utf8_all cs) ≡ row_for rows two cs
rows_agree [] h one two e cs = e
rows_agree (row ∷ rows) h one two e cs =
    let parts = both (bytes_eq (encode_utf8_all row.0) row.0) (are_plain rows) h in
    ap (λ (b : Bool). if b then row.1 else row_for rows one (encode_utf8_all cs)) (same_bytes row.0 cs ((bytes_eq-Decides (encode_utf8_all row.0) row.0).0 parts.0))
    ∙ ap (λ (n : Name). if bytes_eq row.0 cs then row.1 else n) (rows_agree rows parts.1 one two e cs)

pub name_spelled : (cs : List ℕ) → name_of (encode_utf8_all cs) ≡ name_of cs
name_spelled cs =
    rows_agree rare_rows rare_plain (row_for html_rows Name.Other (encode_utf8_all cs)) (row_for html_rows Name.Other cs)
    (rows_agree html_rows html_plain Name.Other Name.Other refl cs) cs
