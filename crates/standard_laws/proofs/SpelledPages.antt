-- Pages of markup that is spelled in any way, as the tokenizer reads them.
use Rattle.std.specs.Prelude.{◌≡◌, ℕ, true, false, not, ◌==◌, ◌&&◌, List, [], ◌∷◌, ◌++◌, map, flat_map, None, Some, bytes_eq, codes, refl}
use Rattle.std.specs.List.{list_all}
use Rattle.std.proofs.lemmas.Bool.{and_parts}
use Rattle.std.proofs.lemmas.List.{append-nil, append_assoc}
use Rattle.std.proofs.lemmas.Slice.Eq.{bytes_eq-Decides}
use mathlib.Core.Path.{◌∙◌, sym, ap, subst}
use Rattle.standard_tokens.proofs.Comments.{comment_read}
use Rattle.standard_tokens.proofs.Steps.{go_on}
use Rattle.standard_tokens.proofs.WordFacts.{from_not}
use Rattle.standard_tokens.specs.Laws.{PagesAreReadOneWay}
use Rattle.standard_tokens.specs.Machine.{Machine, at_state, normalized, start, step, taken}
use Rattle.standard_tokens.specs.PlainMarkup.{Piece, Itself, Amp, TextKind, character, state_of, written_piece}
use Rattle.standard_tokens.specs.Reading.{Feedback, IsFeedback, Reads, here, plain_feedback, reader}
use Rattle.standard_tokens.specs.States.{Data}
use Rattle.standard_tokens.specs.Table.{entries}
use Rattle.standard_tokens.specs.Tokens.{Token, AChar, AnEnd}
use Rattle.standard_agreement.proofs.Telling.{honest as plain_honest}
use Rattle.standard_laws.specs.SpelledLaws.{behind_start}
use Rattle.standard_laws.specs.SpelledMarkup.{NoValue, Single, SpelledAttr, Unquoted, Valued}
use Rattle.standard_laws.specs.SpelledMarkup.{SpelledTag, are_letters, are_own, is_gap_char, is_spelled_start, is_spelled_tag_name, lowered}
use Rattle.standard_laws.specs.SpelledMarkup.{start_token, written_end, written_start}
use Rattle.standard_laws.specs.SpelledPages.{IsAnswered, SpelledItem, SpelledItemsAreRead, SpelledPagesAreRead, TextOf, StartOf}
use Rattle.standard_laws.specs.SpelledPages.{EndOf, CommentOf, DoctypeOf, OwnOf, SpelledExampleIsRead, SpelledPagesAreReadOneWay, are_spelled, has_no_return}
use Rattle.standard_laws.specs.SpelledPages.{is_spelled, tokens, written}
use Rattle.standard_laws.proofs.SpelledDoctypes.{doctypes_read}
use Rattle.standard_laws.proofs.SpelledOwn.{own_texts_read}
use Rattle.standard_laws.proofs.SpelledTags.{ends_read, starts_read}
use Rattle.standard_laws.proofs.SpelledTexts.{texts_read}

-- from the data state to the data state
abbrev IsReadBefore : Feedback → List Token → List ℕ → List ℕ → List Token → Type 0
IsReadBefore f seen text rest found =
    (m : Machine) → (n : Machine) × Reads f (reader (at_state m Data) (text ++ rest) seen) (reader (at_state n Data) rest (seen ++ found))

own_read : (f : Feedback) → IsFeedback f → (seen : List Token) (kind : TextKind) (tag : SpelledTag) (pieces : List Piece) (name space rest : List ℕ) →
    is_spelled (OwnOf kind tag pieces name space) rest ≡ true → IsAnswered f seen (OwnOf kind tag pieces name space) →
    IsReadBefore f seen (written (OwnOf kind tag pieces name space)) rest (tokens (OwnOf kind tag pieces name space))
own_read f honest seen kind tag pieces name space rest h answer m =
    let token : Token = start_token tag in
    let text : List ℕ = flat_map written_piece pieces in
    let found : List Token = map AChar (map character pieces) ++ AnEnd (lowered name) ∷ [] in
    let tail : List ℕ = written_end name space ++ rest in
    let one : (is_spelled_start tag (text ++ tail) ≡ true) × (((bytes_eq (lowered name) (lowered tag.name) && are_letters name) && (list_all is_gap_char space && are_own kind pieces tail)) ≡ true) =
    and_parts (is_spelled_start tag (text ++ tail)) _ h in
    let two : ((bytes_eq (lowered name) (lowered tag.name) && are_letters name) ≡ true) × ((list_all is_gap_char space && are_own kind pieces tail) ≡ true) =
    and_parts (bytes_eq (lowered name) (lowered tag.name) && are_letters name) (list_all is_gap_char space && are_own kind pieces tail) one.1 in
    let names : (bytes_eq (lowered name) (lowered tag.name) ≡ true) × (are_letters name ≡ true) = and_parts (bytes_eq (lowered name) (lowered tag.name)) (are_letters name) two.0 in
    let parts : (list_all is_gap_char space ≡ true) × (are_own kind pieces tail ≡ true) = and_parts (list_all is_gap_char space) (are_own kind pieces tail) two.1 in
    let same : lowered name ≡ lowered tag.name = (bytes_eq-Decides (lowered name) (lowered tag.name)).0 names.0 in
    let first : (n : Machine) × Reads f (reader (at_state m Data) (written_start tag ++ (text ++ tail)) seen) (reader (behind_start n (Some (state_of kind)) (lowered tag.name)) (text ++ tail) (seen ++ token ∷ [])) =
    starts_read f seen tag (text ++ tail) (Some (state_of kind)) one.0 answer m in
    let begun : Reads f (reader (at_state m Data) (written_start tag ++ (text ++ tail)) seen) (reader (behind_start first.0 (Some (state_of kind)) (lowered name)) (text ++ tail) (seen ++ token ∷ [])) =
    subst (λ n. Reads f (reader (at_state m Data) (written_start tag ++ (text ++ tail)) seen) (reader (behind_start first.0 (Some (state_of kind)) n) (text ++ tail) (seen ++ token ∷ []))) (sym same) first.1 in
    let last : (n : Machine) × Reads f (reader (behind_start first.0 (Some (state_of kind)) (lowered name)) (text ++ tail) (seen ++ token ∷ [])) (reader (at_state n Data) rest (seen ++ token ∷ [] ++ found)) =
    own_texts_read f honest (seen ++ token ∷ []) kind pieces name space rest parts.1 names.1 parts.0 first.0 in
    let joined : (written_start tag ++ (text ++ written_end name space)) ++ rest ≡ written_start tag ++ (text ++ tail) =
    append_assoc (written_start tag) (text ++ written_end name space) rest ∙ ap (λ t. written_start tag ++ t) (append_assoc text (written_end name space) rest) in (
      last.0,
      subst (λ t. Reads f (reader (at_state m Data) t seen) (reader (at_state last.0 Data) rest (seen ++ token ∷ found))) (sym joined)
          (subst (λ ts. Reads f (reader (at_state m Data) (written_start tag ++ (text ++ tail)) seen) (reader (at_state last.0 Data) rest ts)) (append_assoc seen (token ∷ []) found) (go_on begun last.1)),
    )

item_read : (f : Feedback) → IsFeedback f → (seen : List Token) (item : SpelledItem) (rest : List ℕ) → is_spelled item rest ≡ true → IsAnswered f seen item →
    IsReadBefore f seen (written item) rest (tokens item)
item_read f honest seen (TextOf pieces) rest h answer = texts_read f honest seen pieces rest h
item_read f honest seen (StartOf tag) rest h answer = λ m.
    let one : (n : Machine) × Reads f (reader (at_state m Data) (written_start tag ++ rest) seen) (reader (behind_start n None (lowered tag.name)) rest (seen ++ start_token tag ∷ [])) =
    starts_read f seen tag rest None h answer m in
    (record one.0 { last_start = Some (lowered tag.name) }, one.1)
item_read f honest seen (EndOf name space) rest h answer = λ m.
    let parts : (is_spelled_tag_name name ≡ true) × (list_all is_gap_char space ≡ true) = and_parts (is_spelled_tag_name name) (list_all is_gap_char space) h in
    ends_read f honest seen name space parts.0 parts.1 m rest
item_read f honest seen (CommentOf text) rest h answer = λ m. comment_read f honest text h m rest seen
item_read f honest seen (DoctypeOf d) rest h answer = λ m. doctypes_read f honest seen d h m rest
item_read f honest seen (OwnOf kind tag pieces name space) rest h answer = own_read f honest seen kind tag pieces name space rest h answer

pub items_read : SpelledItemsAreRead
items_read f honest seen [] rest h answers = λ m. (m, rw (append-nil seen) here)
items_read f honest seen (item ∷ items) rest h answers = λ m.
    let tail : List ℕ = flat_map written items ++ rest in
    let parts : (is_spelled item tail ≡ true) × (are_spelled items rest ≡ true) = and_parts (is_spelled item tail) (are_spelled items rest) h in
    let one : (n : Machine) × Reads f (reader (at_state m Data) (written item ++ tail) seen) (reader (at_state n Data) tail (seen ++ tokens item)) =
    item_read f honest seen item tail parts.0 answers.0 m in
    let two : (n : Machine) × Reads f (reader (at_state one.0 Data) tail (seen ++ tokens item)) (reader (at_state n Data) rest (seen ++ tokens item ++ flat_map tokens items)) =
    items_read f honest (seen ++ tokens item) items rest parts.1 answers.1 one.0 in
    (two.0, rw (append_assoc (written item) (flat_map written items) rest, ← append_assoc seen (tokens item) (flat_map tokens items)) (go_on one.1 two.1))

-- ---- whole pages

unchanged : (text : List ℕ) → has_no_return text ≡ true → normalized text ≡ text
unchanged [] h = refl
unchanged (c ∷ text) h =
    let parts : (not (c == 13) ≡ true) × (has_no_return text ≡ true) = and_parts (not (c == 13)) (has_no_return text) h in
    rw (from_not (c == 13) parts.0) (ap (λ rest. c ∷ rest) (unchanged text parts.1))

pub pages_read : SpelledPagesAreRead
unfolding step taken entries
pages_read f honest items h answers kept =
    let page : List ℕ = flat_map written items in
    let a : (n : Machine) × Reads f (reader (at_state start Data) (page ++ []) []) (reader (at_state n Data) [] (flat_map tokens items)) =
    items_read f honest [] items [] h answers start in
    record {
      last = reader (at_state a.0 Data) [] (flat_map tokens items);
      reads = subst (λ text. Reads f (reader start text []) (reader (at_state a.0 Data) [] (flat_map tokens items))) (append-nil page ∙ sym (unchanged page kept)) a.1;
      stops = refl;
      all = refl;
    }

pub pages_read_one_way : PagesAreReadOneWay → SpelledPagesAreReadOneWay
pages_read_one_way once f honest items h answers kept found reads = once f (flat_map written items) found _ reads (pages_read f honest items h answers kept)

-- ---- the example

example_attrs : List SpelledAttr
example_attrs = record { gap = 32; space = []; name = codes "Class"; value = Valued (codes " ") (codes " ") Single (Itself 97 ∷ Amp ∷ Itself 98 ∷ []) }
    ∷ record { gap = 32; space = []; name = codes "ID"; value = Valued [] [] Unquoted (Itself 120 ∷ Itself 38 ∷ []) }
    ∷ record { gap = 32; space = []; name = codes "hidden"; value = NoValue } ∷ []

example : List SpelledItem
example = DoctypeOf (record { word = codes "DocType"; gap = 32; space = codes " "; name = codes "HTML"; close = codes " " })
    ∷ StartOf (record { name = codes "P"; attrs = example_attrs; space = []; slash = false })
    ∷ TextOf (map Itself (codes "1 < 2 & 3"))
    ∷ StartOf (record { name = codes "BR"; attrs = []; space = []; slash = true })
    ∷ EndOf (codes "p") (codes " ") ∷ []

pub example_read : SpelledExampleIsRead
unfolding example example_attrs
example_read = pages_read (plain_feedback false) plain_honest example refl (tt, (refl, (tt, (refl, (tt, tt))))) refl
