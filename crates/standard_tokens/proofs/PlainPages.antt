-- Plain markup, as the tokenizer reads it.
use Rattle.std.specs.Prelude.{◌≡◌, ℕ, Bool, true, false, not, ◌==◌, ◌&&◌, List, [], ◌∷◌, ◌++◌, map, flat_map, None, Some, codes, refl}
use Rattle.std.specs.List.{list_all}
use Rattle.std.proofs.lemmas.Bool.{and_parts, ne_eqb, true≢false}
use Rattle.std.proofs.lemmas.List.{append-nil, append_assoc}
use Rattle.std.proofs.lemmas.List.Folds.{list_all-append}
use Rattle.std.specs.Cmp.Derive.{both_true}
use Rattle.std.specs.Char.{is_ascii_lowercase}
use mathlib.Core.Path.{◌∙◌, sym, ap, subst}
use Rattle.standard_tokens.proofs.Comments.{comment_read}
use Rattle.standard_tokens.proofs.Doctypes.{doctype_read}
use Rattle.standard_tokens.proofs.OwnEnds.{letter_name_is_tag_name, within}
use Rattle.standard_tokens.proofs.OwnTexts.{own_text_read, raw_read}
use Rattle.standard_tokens.proofs.PlainParts.{piece_read}
use Rattle.standard_tokens.proofs.PlainTags.{end_read, start_read, started}
use Rattle.standard_tokens.proofs.Steps.{go_on}
use Rattle.standard_tokens.proofs.WordFacts.{from_not}
use Rattle.standard_tokens.specs.Laws.{AnyFeedbackStays, IsReadAnywhere, PagesAreReadOneWay, PlainMarkupIsRead, PlainPagesAreRead, PlainPagesAreReadOneWay, never_switches, page_of}
use Rattle.standard_tokens.specs.Machine.{Machine, at_state, normalized, start, step, taken}
use Rattle.standard_tokens.specs.PlainMarkup.{IsAnswered, TextKind, Rcdata, Rawtext, Script, Item, CharItem, StartTag, EndTag, CommentItem, DoctypeItem, TextElement, RawElement, Piece, Itself, Amp, Lt, Gt, Quot, Nbsp, PlainAttr, character, is_letter_name, is_name, is_name_char, is_own_char}
use Rattle.standard_tokens.specs.PlainMarkup.{is_plain_attr, is_plain_item, is_plain_piece, is_raw_char, is_tag_name, is_text_char, is_value_char, lacks_end, start_token, state_of, tokens, written, written_attr, written_end, written_piece, written_start}
use Rattle.standard_tokens.specs.Reading.{Feedback, IsFeedback, Reader, Reads, here, next, after, is_switching, reader, step_at}
use Rattle.standard_tokens.specs.States.{State, Data, RCDATA}
use Rattle.standard_tokens.specs.Table.{entries}
use Rattle.standard_tokens.specs.Tokens.{Token, AChar, AnEnd}

-- an element whose text is read in a state of its own
element_read : (f : Feedback) (name : List ℕ) (attrs : List PlainAttr) (state : State) (text : List ℕ) (found seen : List Token) →
    is_letter_name name ≡ true → list_all is_plain_attr attrs ≡ true → f.switch (seen ++ start_token name attrs ∷ []) ≡ Some state →
    ((m : Machine) (rest : List ℕ) → (n : Machine) × Reads f (reader (within state name m) (text ++ rest) (seen ++ start_token name attrs ∷ []))
    (reader (at_state n Data) rest (seen ++ start_token name attrs ∷ [] ++ found))) →
    IsReadAnywhere f seen (written_start name attrs ++ text) (start_token name attrs ∷ found)
element_read f name attrs state text found seen letters plain answers inner m rest =
    let token : Token = start_token name attrs in
    let one : (n : Machine) × Reads f (reader (at_state m Data) (written_start name attrs ++ (text ++ rest)) seen) (reader (started n (Some state) name) (text ++ rest) (seen ++ token ∷ [])) =
    start_read f name attrs (Some state) (letter_name_is_tag_name name letters) plain m (text ++ rest) seen answers in
    let two : (n : Machine) × Reads f (reader (within state name one.0) (text ++ rest) (seen ++ token ∷ [])) (reader (at_state n Data) rest (seen ++ token ∷ [] ++ found)) = inner one.0 rest in
    (two.0, rw (append_assoc (written_start name attrs) text rest, ← append_assoc seen (token ∷ []) found) (go_on one.1 two.1))

item_read : (f : Feedback) → IsFeedback f → (seen : List Token) (item : Item) → is_plain_item item ≡ true → IsAnswered f seen item → IsReadAnywhere f seen (written item) (tokens item)
item_read f honest seen (CharItem piece) h answers = λ m rest. piece_read f honest piece h m rest seen
item_read f honest seen (StartTag name attrs) h answers = λ m rest.
    let parts : (is_tag_name name ≡ true) × (list_all is_plain_attr attrs ≡ true) = and_parts (is_tag_name name) (list_all is_plain_attr attrs) h in
    let one : (n : Machine) × Reads f (reader (at_state m Data) (written_start name attrs ++ rest) seen) (reader (started n None name) rest (seen ++ start_token name attrs ∷ [])) =
    start_read f name attrs None parts.0 parts.1 m rest seen answers in
    (record one.0 { last_start = Some name }, one.1)
item_read f honest seen (EndTag name) h answers = λ m rest. end_read f honest name h m rest seen
item_read f honest seen (CommentItem text) h answers = λ m rest. comment_read f honest text h m rest seen
item_read f honest seen (DoctypeItem name) h answers = λ m rest. doctype_read f honest name h m rest seen
item_read f honest seen (TextElement name attrs text) h answers =
    let parts : (is_letter_name name ≡ true) × ((list_all is_plain_attr attrs && list_all (is_plain_piece is_text_char) text) ≡ true) =
    and_parts (is_letter_name name) (list_all is_plain_attr attrs && list_all (is_plain_piece is_text_char) text) h in
    let more : (list_all is_plain_attr attrs ≡ true) × (list_all (is_plain_piece is_text_char) text ≡ true) = and_parts (list_all is_plain_attr attrs) (list_all (is_plain_piece is_text_char) text) parts.1 in
    element_read f name attrs RCDATA (flat_map written_piece text ++ written_end name) (map AChar (map character text) ++ AnEnd name ∷ []) seen parts.0 more.0 answers
    (λ m rest. own_text_read f honest name text parts.0 more.1 m rest (seen ++ start_token name attrs ∷ []))
item_read f honest seen (RawElement kind name attrs text) h answers =
    let parts : (is_letter_name name ≡ true) × ((list_all is_plain_attr attrs && (list_all (is_own_char kind) text && lacks_end kind name text)) ≡ true) =
    and_parts (is_letter_name name) (list_all is_plain_attr attrs && (list_all (is_own_char kind) text && lacks_end kind name text)) h in
    let more : (list_all is_plain_attr attrs ≡ true) × ((list_all (is_own_char kind) text && lacks_end kind name text) ≡ true) =
    and_parts (list_all is_plain_attr attrs) (list_all (is_own_char kind) text && lacks_end kind name text) parts.1 in
    let most : (list_all (is_own_char kind) text ≡ true) × (lacks_end kind name text ≡ true) = and_parts (list_all (is_own_char kind) text) (lacks_end kind name text) more.1 in
    element_read f name attrs (state_of kind) (text ++ written_end name) (map AChar text ++ AnEnd name ∷ []) seen parts.0 more.0 answers
    (λ m rest. raw_read f honest kind name text parts.0 most.0 most.1 m rest (seen ++ start_token name attrs ∷ []))

-- from the data state to the data state, wherever it stands and whatever follows
pub items_read : PlainMarkupIsRead
items_read f honest seen [] h answers = λ m rest. (m, rw (append-nil seen) here)
items_read f honest seen (item ∷ items) h answers = λ m rest.
    let parts : (is_plain_item item ≡ true) × (list_all is_plain_item items ≡ true) = and_parts (is_plain_item item) (list_all is_plain_item items) h in
    let one : (n : Machine) × Reads f (reader (at_state m Data) (written item ++ (flat_map written items ++ rest)) seen) (reader (at_state n Data) (flat_map written items ++ rest) (seen ++ tokens item)) =
    item_read f honest seen item parts.0 answers.0 m (flat_map written items ++ rest) in
    let two : (n : Machine) × Reads f (reader (at_state one.0 Data) (flat_map written items ++ rest) (seen ++ tokens item)) (reader (at_state n Data) rest (seen ++ tokens item ++ flat_map tokens items)) =
    items_read f honest (seen ++ tokens item) items parts.1 answers.1 one.0 rest in
    (two.0, rw (append_assoc (written item) (flat_map written items) rest, ← append_assoc seen (tokens item) (flat_map tokens items)) (go_on one.1 two.1))

-- ---- whole pages

-- from one place reading comes to an end at one place alone
same_end : (f : Feedback) {r q c d : Reader} → r ≡ q → Reads f r c → Reads f q d → (step_at f c).stopped ≡ true → (step_at f d).stopped ≡ true → c ≡ d
same_end f e here here hc hd = e
same_end f {r} {q} e here (next s is runs reads) hc hd = absurd (true≢false (sym hc ∙ ap (λ p. (step_at f p).stopped) e ∙ ap (λ t. t.stopped) is ∙ runs))
same_end f {r} {q} e (next s is runs reads) here hc hd = absurd (true≢false (sym hd ∙ ap (λ p. (step_at f p).stopped) (sym e) ∙ ap (λ t. t.stopped) is ∙ runs))
same_end f {r} {q} e (next s is runs reads) (next t it runs' more) hc hd =
    let same : s ≡ t = sym is ∙ ap (step_at f) e ∙ it in
    same_end f (ap (λ x. after f x s) e ∙ ap (after f q) same) reads more hc hd

-- a page has one list of tokens
pub one_reading : PagesAreReadOneWay
one_reading f page s t a b =
    let same : a.last ≡ b.last = same_end f refl a.reads b.reads a.stops b.stops in
    a.all ∙ ap (λ r. r.seen ++ (step_at f r).tokens) same ∙ sym b.all

-- ---- no carriage returns

no_return : ℕ → Bool
no_return c = not (c == 13)

AllKeep : List ℕ → Type 0
AllKeep text = list_all no_return text ≡ true

passes_no_return : (test : ℕ → Bool) (c : ℕ) → test 13 ≡ false → test c ≡ true → no_return c ≡ true
unfolding no_return
passes_no_return test c at_return h = ap not (ne_eqb c 13 (λ e. true≢false (sym h ∙ ap test e ∙ at_return)))

joined : (front back : List ℕ) → AllKeep front → AllKeep back → AllKeep (front ++ back)
unfolding AllKeep
joined front back h k = list_all-append no_return front back ∙ both_true h k

all_so : (test : ℕ → Bool) (text : List ℕ) → test 13 ≡ false → list_all test text ≡ true → AllKeep text
unfolding AllKeep
all_so test [] at_return h = refl
all_so test (c ∷ text) at_return h =
    let parts : (test c ≡ true) × (list_all test text ≡ true) = and_parts (test c) (list_all test text) h in
    both_true (passes_no_return test c at_return parts.0) (all_so test text at_return parts.1)

flat_so : {X : Type 0} (spell : X → List ℕ) (test : X → Bool) → ((x : X) → test x ≡ true → AllKeep (spell x)) → (xs : List X) → list_all test xs ≡ true → AllKeep (flat_map spell xs)
unfolding AllKeep
flat_so spell test each [] h = refl
flat_so spell test each (x ∷ xs) h =
    let parts : (test x ≡ true) × (list_all test xs ≡ true) = and_parts (test x) (list_all test xs) h in
    joined (spell x) (flat_map spell xs) (each x parts.0) (flat_so spell test each xs parts.1)

piece_so : (test : ℕ → Bool) → test 13 ≡ false → (piece : Piece) → is_plain_piece test piece ≡ true → AllKeep (written_piece piece)
unfolding AllKeep no_return
piece_so test at_return (Itself c) h = both_true (passes_no_return test c at_return h) refl
piece_so test at_return Amp h = refl
piece_so test at_return Lt h = refl
piece_so test at_return Gt h = refl
piece_so test at_return Quot h = refl
piece_so test at_return Nbsp h = refl

name_so : (name : List ℕ) → is_name name ≡ true → AllKeep name
name_so [] h = cc
name_so (c ∷ name) h = all_so is_name_char (c ∷ name) refl h

tag_name_so : (name : List ℕ) → is_tag_name name ≡ true → AllKeep name
unfolding AllKeep
tag_name_so [] h = cc
tag_name_so (c ∷ name) h =
    let parts : (is_ascii_lowercase c ≡ true) × (list_all is_name_char name ≡ true) = and_parts (is_ascii_lowercase c) (list_all is_name_char name) h in
    both_true (passes_no_return is_ascii_lowercase c refl parts.0) (all_so is_name_char name refl parts.1)

attr_so : (a : PlainAttr) → is_plain_attr a ≡ true → AllKeep (written_attr a)
unfolding AllKeep no_return
attr_so a h =
    let parts : (is_name a.name ≡ true) × (list_all (is_plain_piece is_value_char) a.value ≡ true) = and_parts (is_name a.name) (list_all (is_plain_piece is_value_char) a.value) h in
    joined a.name (61 ∷ 34 ∷ (flat_map written_piece a.value ++ 34 ∷ [])) (name_so a.name parts.0)
    (joined (flat_map written_piece a.value) (34 ∷ []) (flat_so written_piece (is_plain_piece is_value_char) (piece_so is_value_char refl) a.value parts.1) refl)

start_so : (name : List ℕ) (attrs : List PlainAttr) → is_tag_name name ≡ true → list_all is_plain_attr attrs ≡ true → AllKeep (written_start name attrs)
unfolding AllKeep no_return
start_so name attrs h plain = joined name (flat_map written_attr attrs ++ 62 ∷ []) (tag_name_so name h) (joined (flat_map written_attr attrs) (62 ∷ []) (flat_so written_attr is_plain_attr attr_so attrs plain) refl)

end_so : (name : List ℕ) → is_tag_name name ≡ true → AllKeep (written_end name)
unfolding AllKeep no_return
end_so name h = joined name (62 ∷ []) (tag_name_so name h) refl

own_so : (kind : TextKind) (text : List ℕ) → list_all (is_own_char kind) text ≡ true → AllKeep text
own_so Rcdata text h = all_so (is_own_char Rcdata) text refl h
own_so Rawtext text h = all_so (is_own_char Rawtext) text refl h
own_so Script text h = all_so (is_own_char Script) text refl h

item_so : (item : Item) → is_plain_item item ≡ true → AllKeep (written item)
unfolding AllKeep no_return
item_so (CharItem piece) h = piece_so is_text_char refl piece h
item_so (StartTag name attrs) h =
    let parts : (is_tag_name name ≡ true) × (list_all is_plain_attr attrs ≡ true) = and_parts (is_tag_name name) (list_all is_plain_attr attrs) h in
    start_so name attrs parts.0 parts.1
item_so (EndTag name) h = end_so name h
item_so (CommentItem text) h = joined text (codes "-->") (all_so is_raw_char text refl (and_parts (list_all is_raw_char text) _ h).0) refl
item_so (DoctypeItem name) h = joined name (codes ">") (name_so name h) refl
item_so (TextElement name attrs text) h =
    let parts : (is_letter_name name ≡ true) × ((list_all is_plain_attr attrs && list_all (is_plain_piece is_text_char) text) ≡ true) =
    and_parts (is_letter_name name) (list_all is_plain_attr attrs && list_all (is_plain_piece is_text_char) text) h in
    let more : (list_all is_plain_attr attrs ≡ true) × (list_all (is_plain_piece is_text_char) text ≡ true) = and_parts (list_all is_plain_attr attrs) (list_all (is_plain_piece is_text_char) text) parts.1 in
    let named : is_tag_name name ≡ true = letter_name_is_tag_name name parts.0 in
    joined (written_start name attrs) (flat_map written_piece text ++ written_end name) (start_so name attrs named more.0)
    (joined (flat_map written_piece text) (written_end name) (flat_so written_piece (is_plain_piece is_text_char) (piece_so is_text_char refl) text more.1) (end_so name named))
item_so (RawElement kind name attrs text) h =
    let parts : (is_letter_name name ≡ true) × ((list_all is_plain_attr attrs && (list_all (is_own_char kind) text && lacks_end kind name text)) ≡ true) =
    and_parts (is_letter_name name) (list_all is_plain_attr attrs && (list_all (is_own_char kind) text && lacks_end kind name text)) h in
    let more : (list_all is_plain_attr attrs ≡ true) × ((list_all (is_own_char kind) text && lacks_end kind name text) ≡ true) =
    and_parts (list_all is_plain_attr attrs) (list_all (is_own_char kind) text && lacks_end kind name text) parts.1 in
    let named : is_tag_name name ≡ true = letter_name_is_tag_name name parts.0 in
    joined (written_start name attrs) (text ++ written_end name) (start_so name attrs named more.0)
    (joined text (written_end name) (own_so kind text (and_parts (list_all (is_own_char kind) text) (lacks_end kind name text) more.1).0) (end_so name named))

unchanged : (text : List ℕ) → AllKeep text → normalized text ≡ text
unfolding AllKeep no_return
unchanged [] h = refl
unchanged (c ∷ text) h =
    let parts : (not (c == 13) ≡ true) × (list_all no_return text ≡ true) = and_parts (not (c == 13)) (list_all no_return text) h in
    rw (from_not (c == 13) parts.0) (ap (λ rest. c ∷ rest) (unchanged text parts.1))

-- ---- pages of plain markup

pub plain_page : PlainPagesAreRead
unfolding step taken entries
plain_page f honest items h answers =
    let page : List ℕ = flat_map written items in
    let a : (n : Machine) × Reads f (reader (at_state start Data) (page ++ []) []) (reader (at_state n Data) [] (flat_map tokens items)) =
    items_read f honest [] items h answers start [] in
    let normal : normalized page ≡ page = unchanged page (flat_so written is_plain_item item_so items h) in
    record {
      last = reader (at_state a.0 Data) [] (flat_map tokens items);
      reads = subst (λ text. Reads f (reader start text []) (reader (at_state a.0 Data) [] (flat_map tokens items))) (append-nil page ∙ sym normal) a.1;
      stops = refl;
      all = refl;
    }

pub plain_page_only : PlainPagesAreReadOneWay
plain_page_only f honest items h answers all reads =
    one_reading f (flat_map written items) all (page_of items) reads (plain_page f honest items h answers)

-- ---- answers

pub any_stays : AnyFeedbackStays
any_stays f honest seen [] h = tt
any_stays f honest seen (item ∷ items) h =
    let parts : (never_switches item ≡ true) × (list_all never_switches items ≡ true) = and_parts (never_switches item) (list_all never_switches items) h in
    (stays item parts.0, any_stays f honest (seen ++ tokens item) items parts.1)
  where
    stays : (item : Item) → never_switches item ≡ true → IsAnswered f seen item
    stays (CharItem piece) h = tt
    stays (StartTag name attrs) h = honest seen (start_token name attrs) (from_not (is_switching name) h)
    stays (EndTag name) h = tt
    stays (CommentItem text) h = tt
    stays (DoctypeItem name) h = tt
    stays (TextElement name attrs text) h = cc
    stays (RawElement kind name attrs text) h = cc
