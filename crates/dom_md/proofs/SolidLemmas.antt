-- Formatting adds the words of a text and no others.
use Rattle.std.proofs.Common.{◌≡◌, ℕ, zero, suc, Bool, true, false, List, [], ◌∷◌, ◌++◌, length, take, replicate, refl, sym, ◌∙◌, ap, subst, arith, append-nil, append_assoc, encode_utf8_all, inl, inr}
use Rattle.std.specs.Prelude.{◌==◌, ◌&&◌, not, codes, cond, if◌then◌else◌}
use Rattle.std.specs.Char.{is_whitespace}
use Rattle.std.specs.List.{filter, flat_map}
use Rattle.std.specs.Str.{IsUtf8, all_scalars, chars, trim_start, trim_end, skip_leading_whitespace, drop_trailing_whitespace}
use Rattle.std.proofs.lemmas.Bool.{cases_Bool, eqb-true}
use Rattle.std.proofs.lemmas.List.Elements.{filter-append}
use Rattle.std.proofs.lemmas.Str.{IsCharBoundary-at_seam, IsUtf8-append, IsUtf8-nil, IsUtf8-take, chars-append, chars-encodes, scalars-chars, chars-nil}
use Rattle.dom_nodes.specs.Ascii.{space}
use Rattle.dom_md.specs.Formatted.{drop_spaces, joined_words, spaced_on, with_close, with_gap, with_open, with_text, with_words, ends_with_whitespace, begins_with_whitespace, is_fresh, is_parted}
use Rattle.dom_md.specs.Solid.{KeepsWords, is_solid, solid}
use Rattle.std.proofs.Common.{Option, Some, None, slice_get}
use Rattle.std.specs.Option.{option_map_or}
use Rattle.std.specs.Str.{bytes_eq}
use Rattle.dom_nodes.specs.Kinds.{children_allowed}
use Rattle.dom_nodes.specs.declared.node_data.NodeData.{NodeData}
use Rattle.dom_nodes.specs.declared.node_data.NodeData.TheVariants.{Document, Fragment, Doctype, Text, Comment, Element as AnElement, ProcessingInstruction}
use Rattle.dom_links.specs.Forest.{Forest, children_of}
use Rattle.dom_links.specs.Texts.{text_at, text_in, text_of}
use Rattle.dom_links.specs.Trees.{Trees, NoTrees, Tree, trees, walk}
use Rattle.dom_nodes.specs.Words.{is_among}
use Rattle.dom_md.specs.Formatted.{Event, block_names, cell_names, line_names, events, events_below, folded, formatted_below, joined_texts, node_events}
use Rattle.dom_md.specs.Formatted.Event.{opens, closes, has_text, keeps_text}
use Rattle.dom_md.specs.EdgeEvents.{AreUtf8, IsFolded}

pub solid-append : (xs ys : List ℕ) → IsUtf8 xs → solid (xs ++ ys) ≡ solid xs ++ solid ys
solid-append xs ys utf8 = ap (filter is_solid) (chars-append xs ys utf8) ∙ filter-append is_solid (chars xs) (chars ys)

-- ---- texts of whitespace

-- a text without words
pub record IsGap (text : List ℕ) : Type 0 where
  pub utf8 : IsUtf8 text
  pub empty : solid text ≡ []

pub gap-nil : IsGap []
gap-nil = record { utf8 = IsUtf8-nil; empty = ap (filter is_solid) chars-nil }

pub gap-space : IsGap (codes " ")
unfolding chars lib.Utf8.encode
gap-space = record { utf8 = (codes " ", (refl, refl)); empty = refl }

pub gap-line : IsGap (codes "\n")
unfolding chars lib.Utf8.encode
gap-line = record { utf8 = (codes "\n", (refl, refl)); empty = refl }

pub gap-lines : IsGap (codes "\n\n")
unfolding chars lib.Utf8.encode
gap-lines = record { utf8 = (codes "\n\n", (refl, refl)); empty = refl }

pub gap-append : (xs ys : List ℕ) → IsGap xs → IsGap ys → IsGap (xs ++ ys)
gap-append xs ys x y = record { utf8 = IsUtf8-append xs ys x.utf8 y.utf8; empty = solid-append xs ys x.utf8 ∙ (ap (λ t. t ++ solid ys) x.empty ∙ y.empty) }

gap-spaces : (n : ℕ) → IsGap (replicate n space)
gap-spaces zero = gap-nil
gap-spaces (suc n) = gap-append (codes " ") (replicate n space) gap-space (gap-spaces n)

-- ---- the same words

-- the new text is valid and has the words of the old one, and then those of the added one
pub record AddsWords (old added new : List ℕ) : Type 0 where
  pub utf8 : IsUtf8 new
  pub words : solid new ≡ solid old ++ solid added

pub adds : (old added : List ℕ) → IsUtf8 old → IsUtf8 added → AddsWords old added (old ++ added)
adds old added o a = record { utf8 = IsUtf8-append old added o a; words = solid-append old added o }

solid_nil : (old : List ℕ) → solid old ≡ solid old ++ solid []
solid_nil old = sym (append-nil (solid old)) ∙ ap (λ t. solid old ++ t) (sym gap-nil.empty)

pub adds-none : (old : List ℕ) → IsUtf8 old → AddsWords old [] old
adds-none old o = record { utf8 = o; words = solid_nil old }

-- a gap behind a text
pub adds-gap : (old added new gap : List ℕ) → AddsWords old added new → IsGap gap → AddsWords old added (new ++ gap)
adds-gap old added new gap a g = record {
  utf8 = IsUtf8-append new gap a.utf8 g.utf8;
  words = solid-append new gap a.utf8 ∙ (ap (λ t. solid new ++ t) g.empty ∙ (append-nil (solid new) ∙ a.words));
}

-- ---- opening and closing

trailing : (text : List ℕ) → (n : ℕ) × (text ≡ drop_spaces text ++ replicate n space)
trailing [] = (0, refl)
trailing (b ∷ text) =
    let rest = trailing text in
    elim (cases_Bool (b == space && length (drop_spaces text) == 0)) as (λ t. (n : ℕ) × (b ∷ text ≡ drop_spaces (b ∷ text) ++ replicate n space)) [
      | inl t ↦ (suc rest.0, rw t (ap (λ x. x ∷ text) (eqb-true b space (left _ _ t)) ∙ ap (λ r. space ∷ r) (rest.1 ∙ ap (λ d. d ++ replicate rest.0 space) (none (drop_spaces text) (eqb-true _ 0 (right _ _ t))))))
      | inr f ↦ (rest.0, rw f (ap (λ r. b ∷ r) rest.1))
    ]
  where
    left : (a c : Bool) → (a && c) ≡ true → a ≡ true
    left true c h = refl
    left false c h = h

    right : (a c : Bool) → (a && c) ≡ true → c ≡ true
    right true c h = h
    right false true h = refl
    right false false h = h

    none : (xs : List ℕ) → length xs ≡ 0 → xs ≡ []
    none [] h = refl
    none (x ∷ xs) h = absurd (omega (arith, h))

take_front : (xs ys : List ℕ) → take (length xs) (xs ++ ys) ≡ xs
take_front [] [] = refl
take_front [] (y ∷ ys) = refl
take_front (x ∷ xs) ys = ap (λ t. x ∷ t) (take_front xs ys)

pub adds-dropped : (old : List ℕ) → IsUtf8 old → AddsWords old [] (drop_spaces old)
adds-dropped old o =
    let t = trailing old in
    let gap = gap-spaces t.0 in
    let front : IsUtf8 (drop_spaces old) =
    subst IsUtf8 (ap (take (length (drop_spaces old))) t.1 ∙ take_front (drop_spaces old) (replicate t.0 space)) (IsUtf8-take old (length (drop_spaces old)) o (IsCharBoundary-at_seam old (drop_spaces old) (replicate t.0 space) t.1 gap.utf8)) in
    let whole : solid old ≡ solid (drop_spaces old) = ap solid t.1 ∙ (solid-append (drop_spaces old) (replicate t.0 space) front ∙ (ap (λ s. solid (drop_spaces old) ++ s) gap.empty ∙ append-nil (solid (drop_spaces old)))) in
    record { utf8 = front; words = sym whole ∙ solid_nil old }

pub open-words : (old name : List ℕ) → IsUtf8 old → AddsWords old [] (with_open old name)
open-words old name o = either (is_among name block_names && not (is_parted old))
  where
    either : (b : Bool) → AddsWords old [] (if b then old ++ codes "\n" else old)
    either true = adds-gap old [] old (codes "\n") (adds-none old o) gap-line
    either false = adds-none old o

pub close-words : (old name : List ℕ) → IsUtf8 old → AddsWords old [] (with_close old name)
close-words old name o = one (is_parted old) (is_among name block_names) (is_among name line_names) (is_among name cell_names && not (is_fresh old))
  where
    one : (a b c d : Bool) → AddsWords old [] (if a then old else if b then drop_spaces old ++ codes "\n\n" else if c then drop_spaces old ++ codes "\n" else if d then old ++ codes " " else old)
    one true b c d = adds-none old o
    one false true c d = adds-gap old [] (drop_spaces old) (codes "\n\n") (adds-dropped old o) gap-lines
    one false false true d = adds-gap old [] (drop_spaces old) (codes "\n") (adds-dropped old o) gap-line
    one false false false true = adds-gap old [] old (codes " ") (adds-none old o) gap-space
    one false false false false = adds-none old o

-- ---- words

and-right : (a b : Bool) → (a && b) ≡ true → b ≡ true
and-right true b h = h
and-right false b h = absurd (let no : false ≡ true = h in cc)

and-left : (a b : Bool) → (a && b) ≡ true → a ≡ true
and-left true b h = refl
and-left false b h = absurd (let no : false ≡ true = h in cc)

skip-solid : (cs : List ℕ) → filter is_solid (skip_leading_whitespace cs) ≡ filter is_solid cs
skip-solid [] = refl
skip-solid (c ∷ cs) = elim (cases_Bool (is_whitespace c)) as (λ t. filter is_solid (skip_leading_whitespace (c ∷ cs)) ≡ filter is_solid (c ∷ cs)) [
  | inl t ↦ rw t (skip-solid cs)
  | inr f ↦ ap (λ t. filter is_solid (cond t (skip_leading_whitespace cs) (c ∷ cs))) f
]

skip-scalars : (cs : List ℕ) → all_scalars cs ≡ true → all_scalars (skip_leading_whitespace cs) ≡ true
skip-scalars [] s = s
skip-scalars (c ∷ cs) s = elim (cases_Bool (is_whitespace c)) as (λ t. all_scalars (skip_leading_whitespace (c ∷ cs)) ≡ true) [
  | inl t ↦ rw t (skip-scalars cs (and-right _ _ s))
  | inr f ↦ rw f s
]

same-more : (c : ℕ) (xs ys : List ℕ) → filter is_solid xs ≡ filter is_solid ys → filter is_solid (c ∷ xs) ≡ filter is_solid (c ∷ ys)
same-more c xs ys e = ap (λ t. cond (is_solid c) (c ∷ t) t) e

trailing-solid : (cs : List ℕ) → filter is_solid (drop_trailing_whitespace cs) ≡ filter is_solid cs
trailing-solid [] = refl
trailing-solid (c ∷ cs) = elim (cases_Bool (is_whitespace c && length (drop_trailing_whitespace cs) == 0)) as (λ t. filter is_solid (drop_trailing_whitespace (c ∷ cs)) ≡ filter is_solid (c ∷ cs)) [
  | inl t ↦ (let none = empty (drop_trailing_whitespace cs) (eqb-true (length (drop_trailing_whitespace cs)) 0 (and-right (is_whitespace c) (length (drop_trailing_whitespace cs) == 0) t)) in
      let white = and-left (is_whitespace c) (length (drop_trailing_whitespace cs) == 0) t in
      ap (λ b. filter is_solid (cond b [] (c ∷ drop_trailing_whitespace cs))) t
      ∙ (sym (ap (filter is_solid) none) ∙ (trailing-solid cs ∙ sym (ap (λ b. cond (not b) (c ∷ filter is_solid cs) (filter is_solid cs)) white))))
  | inr f ↦ rw f (same-more c (drop_trailing_whitespace cs) cs (trailing-solid cs))
]
  where
    empty : (xs : List ℕ) → length xs ≡ 0 → xs ≡ []
    empty [] h = refl
    empty (x ∷ xs) h = absurd (omega (arith, h))

trailing-scalars : (cs : List ℕ) → all_scalars cs ≡ true → all_scalars (drop_trailing_whitespace cs) ≡ true
trailing-scalars [] s = s
trailing-scalars (c ∷ cs) s = elim (cases_Bool (is_whitespace c && length (drop_trailing_whitespace cs) == 0)) as (λ t. all_scalars (drop_trailing_whitespace (c ∷ cs)) ≡ true) [
  | inl t ↦ rw t refl
  | inr f ↦ rw f (both _ _ (and-left _ _ s) (trailing-scalars cs (and-right _ _ s)))
]
  where
    both : (a b : Bool) → a ≡ true → b ≡ true → (a && b) ≡ true
    both a b x y = rw (x, y) refl

spaced-solid : (gap : Bool) (cs : List ℕ) → filter is_solid (spaced_on gap cs) ≡ filter is_solid cs
spaced-solid gap [] = refl
spaced-solid gap (c ∷ cs) = elim (cases_Bool (is_whitespace c)) as (λ t. filter is_solid (spaced_on gap (c ∷ cs)) ≡ filter is_solid (c ∷ cs)) [
  | inl t ↦ rw t (spaced-solid true cs)
  | inr f ↦ ap (λ t. filter is_solid (if t then spaced_on true cs else if gap then space ∷ c ∷ spaced_on false cs else c ∷ spaced_on false cs)) f
      ∙ (one gap (spaced_on false cs) ∙ same-more c (spaced_on false cs) cs (spaced-solid false cs))
]
  where
    one : (gap : Bool) (xs : List ℕ) → filter is_solid (if gap then space ∷ c ∷ xs else c ∷ xs) ≡ filter is_solid (c ∷ xs)
    one true xs = refl
    one false xs = refl

spaced-scalars : (gap : Bool) (cs : List ℕ) → all_scalars cs ≡ true → all_scalars (spaced_on gap cs) ≡ true
spaced-scalars gap [] s = s
spaced-scalars gap (c ∷ cs) s = elim (cases_Bool (is_whitespace c)) as (λ t. all_scalars (spaced_on gap (c ∷ cs)) ≡ true) [
  | inl t ↦ rw t (spaced-scalars true cs (and-right _ _ s))
  | inr f ↦ ap (λ t. all_scalars (if t then spaced_on true cs else if gap then space ∷ c ∷ spaced_on false cs else c ∷ spaced_on false cs)) f
      ∙ one gap (spaced_on false cs) (spaced-scalars false cs (and-right _ _ s))
]
  where
    both : (a b : Bool) → a ≡ true → b ≡ true → (a && b) ≡ true
    both a b x y = rw (x, y) refl

    one : (gap : Bool) (xs : List ℕ) → all_scalars xs ≡ true → all_scalars (if gap then space ∷ c ∷ xs else c ∷ xs) ≡ true
    one true xs rest = both _ _ (and-left _ _ s) rest
    one false xs rest = both _ _ (and-left _ _ s) rest

-- the text of characters that are valid
pub record IsMadeOf (text cs : List ℕ) : Type 0 where
  pub utf8 : IsUtf8 text
  pub words : solid text ≡ filter is_solid cs

made : (cs : List ℕ) → all_scalars cs ≡ true → IsMadeOf (encode_utf8_all cs) cs
made cs s = record { utf8 = (cs, (s, refl)); words = ap (filter is_solid) (chars-encodes cs s) }

trimmed : (text : List ℕ) → IsUtf8 text → (solid (trim_start text) ≡ solid text) × (all_scalars (chars (trim_start text)) ≡ true)
unfolding trim_start
trimmed text utf8 =
    let cs = skip_leading_whitespace (chars text) in
    let s = skip-scalars (chars text) (scalars-chars text utf8) in
    let back = chars-encodes cs s in
    (ap (filter is_solid) back ∙ skip-solid (chars text), rw back s)

pub trim-words : (text : List ℕ) → IsUtf8 text → solid (trim_end text) ≡ solid text
unfolding trim_end
trim-words text utf8 = ap (filter is_solid) (chars-encodes (drop_trailing_whitespace (chars text)) (trailing-scalars (chars text) (scalars-chars text utf8))) ∙ trailing-solid (chars text)

pub record SameWords (text words : List ℕ) : Type 0 where
  pub utf8 : IsUtf8 words
  pub same : solid words ≡ solid text

joined : (text : List ℕ) → IsUtf8 text → SameWords text (joined_words text)
joined text utf8 =
    let t = trimmed text utf8 in
    let m = made (spaced_on false (chars (trim_start text))) (spaced-scalars false (chars (trim_start text)) t.1) in
    record { utf8 = m.utf8; same = m.words ∙ (spaced-solid false (chars (trim_start text)) ∙ t.0) }

words-none : (words : List ℕ) → length words ≡ 0 → solid words ≡ []
words-none [] h = gap-nil.empty
words-none (x ∷ words) h = absurd (omega (arith, h))

adds-empty : (old text words : List ℕ) → IsUtf8 old → SameWords text words → length words ≡ 0 → AddsWords old text old
adds-empty old text words o w none = record { utf8 = o; words = sym (append-nil (solid old)) ∙ ap (λ t. solid old ++ t) (sym (words-none words none) ∙ w.same) }

adds-same : (old text words : List ℕ) → IsUtf8 old → SameWords text words → AddsWords old text (old ++ words)
adds-same old text words o w = record { utf8 = IsUtf8-append old words o w.utf8; words = solid-append old words o ∙ ap (λ t. solid old ++ t) w.same }

adds-parted : (old text words : List ℕ) → IsUtf8 old → SameWords text words → AddsWords old text (old ++ (codes " " ++ words))
adds-parted old text words o w =
    let gap = gap-space in
    let parted : SameWords text (codes " " ++ words) = record { utf8 = IsUtf8-append (codes " ") words gap.utf8 w.utf8; same = solid-append (codes " ") words gap.utf8 ∙ (ap (λ t. t ++ solid words) gap.empty ∙ w.same) } in
    adds-same old text (codes " " ++ words) o parted

with_words-adds : (old text words : List ℕ) → IsUtf8 old → SameWords text words → AddsWords old text (with_words old text words)
with_words-adds old text words o w = elim (cases_Bool (length words == 0)) as (λ t. AddsWords old text (with_words old text words)) [
  | inl t ↦ rw t (adds-empty old text words o w (eqb-true _ 0 t))
  | inr f ↦ rw f (either (begins_with_whitespace text && not (is_fresh old)))
]
  where
    either : (b : Bool) → AddsWords old text (if b then old ++ (codes " " ++ words) else old ++ words)
    either true = adds-parted old text words o w
    either false = adds-same old text words o w

gap-adds : (old text now : List ℕ) → AddsWords old text now → AddsWords old text (with_gap text now)
gap-adds old text now a = either (ends_with_whitespace text && not (ends_with_whitespace now))
  where
    either : (b : Bool) → AddsWords old text (if b then now ++ codes " " else now)
    either true = adds-gap old text now (codes " ") a gap-space
    either false = a

pub text-words : (old text : List ℕ) → IsUtf8 old → IsUtf8 text → AddsWords old text (with_text old text)
text-words old text o x =
    let w = joined text x in
    elim (cases_Bool (is_fresh old && length (joined_words text) == 0)) as (λ t. AddsWords old text (with_text old text)) [
      | inl t ↦ rw t (adds-empty old text (joined_words text) o w (eqb-true _ 0 (and-right _ _ t)))
      | inr f ↦ rw f (gap-adds old text (with_words old text (joined_words text)) (with_words-adds old text (joined_words text) o w))
    ]

-- ---- the fold

abbrev event_text : Event → List ℕ
event_text (opens name) = []
event_text (closes name) = []
event_text (has_text text) = text
event_text (keeps_text text) = text

abbrev events_text : List Event → List ℕ
events_text es = flat_map event_text es

adds-then : (old x y mid new : List ℕ) → AddsWords old x mid → AddsWords mid y new → IsUtf8 x → AddsWords old (x ++ y) new
adds-then old x y mid new first second utf8 = record {
  utf8 = second.utf8;
  words = second.words ∙ (ap (λ t. t ++ solid y) first.words ∙ (append_assoc (solid old) (solid x) (solid y) ∙ ap (λ t. solid old ++ t) (sym (solid-append x y utf8))));
}

fold-words : (old : List ℕ) (es : List Event) → IsUtf8 old → AreUtf8 es → AddsWords old (events_text es) (folded old es)
fold-words old [] o valid = adds-none old o
fold-words old (opens name ∷ es) o valid =
    let one = open-words old name o in
    adds-then old [] (events_text es) (with_open old name) (folded (with_open old name) es) one (fold-words (with_open old name) es one.utf8 valid) IsUtf8-nil
fold-words old (closes name ∷ es) o valid =
    let one = close-words old name o in
    adds-then old [] (events_text es) (with_close old name) (folded (with_close old name) es) one (fold-words (with_close old name) es one.utf8 valid) IsUtf8-nil
fold-words old (has_text text ∷ es) o valid =
    let one = text-words old text o valid.0 in
    adds-then old text (events_text es) (with_text old text) (folded (with_text old text) es) one (fold-words (with_text old text) es one.utf8 valid.1) valid.0
fold-words old (keeps_text text ∷ es) o valid =
    let one = adds old text o valid.0 in
    adds-then old text (events_text es) (old ++ text) (folded (old ++ text) es) one (fold-words (old ++ text) es one.utf8 valid.1) valid.0

-- ---- the texts of the events are those of the nodes

events_text-append : (xs ys : List Event) → events_text (xs ++ ys) ≡ events_text xs ++ events_text ys
events_text-append [] ys = refl
events_text-append (x ∷ xs) ys = ap (λ t. event_text x ++ t) (events_text-append xs ys) ∙ sym (append_assoc (event_text x) (events_text xs) (events_text ys))

texts-append : (forest : Forest) (ms ns : List ℕ) → flat_map (text_at forest) (ms ++ ns) ≡ flat_map (text_at forest) ms ++ flat_map (text_at forest) ns
texts-append forest [] ns = refl
texts-append forest (m ∷ ms) ns = ap (λ t. text_at forest m ++ t) (texts-append forest ms ns) ∙ sym (append_assoc (text_at forest m) (flat_map (text_at forest) ms) (flat_map (text_at forest) ns))

node-text : (content : NodeData) (text : List ℕ) (below : List Event) → events_text below ≡ text → events_text (node_events content text below) ≡ text_in content ++ text
node-text Document text below is = is
node-text Fragment text below is = is
node-text (Doctype a b c) text below is = is
node-text (Text contents) text below is = ap (λ t. contents ++ t) is
node-text (Comment a) text below is = is
node-text (ProcessingInstruction a b) text below is = is
node-text (AnElement e) text below is = elim (cases_Bool (bytes_eq e.name.local (codes "pre"))) as (λ t. events_text (node_events (AnElement e) text below) ≡ text) [
  | inl t ↦ rw t (append-nil text)
  | inr f ↦ rw f (events_text-append below (closes e.name.local ∷ []) ∙ (append-nil (events_text below) ∙ is))
]

around : (found : Option NodeData) (text : List ℕ) (below : List Event) → events_text below ≡ text →
    events_text (option_map_or (λ content. node_events content text below) found below) ≡ option_map_or text_in found [] ++ text
around None text below is = is
around (Some content) text below is = node-text content text below is

trees-text : (forest : Forest) (ts : Trees) → events_text (events forest ts) ≡ joined_texts forest ts
trees-text forest NoTrees = refl
trees-text forest (Tree n contents children later) =
    let below = joined_texts forest children in
    let mine = option_map_or (λ content. node_events content below (events forest children)) (slice_get forest.content n) (events forest children) in
    events_text-append mine (events forest later)
    ∙ (ap (λ t. t ++ events_text (events forest later)) (around (slice_get forest.content n) below (events forest children) (trees-text forest children))
    ∙ (ap (λ t. (text_at forest n ++ below) ++ t) (trees-text forest later)
    ∙ (append_assoc (text_at forest n) below (joined_texts forest later) ∙ ap (λ t. text_at forest n ++ t) (sym (texts-append forest (walk children) (walk later))))))

bearing : (found : Option NodeData) → option_map_or children_allowed found false ≡ true → option_map_or text_in found [] ≡ []
bearing None h = refl
bearing (Some Document) h = refl
bearing (Some Fragment) h = refl
bearing (Some (Doctype a b c)) h = refl
bearing (Some (Text contents)) h = absurd (cc)
bearing (Some (Comment a)) h = refl
bearing (Some (ProcessingInstruction a b)) h = refl
bearing (Some (AnElement e)) h = refl

pub words-kept : (forest : Forest) (n : ℕ) (whole text : List ℕ) → IsFolded [] whole (events_below forest n) → text ≡ trim_end whole → KeepsWords forest n text
words-kept forest n whole text done is = λ bears.
    let a = fold-words [] (events_below forest n) IsUtf8-nil done.utf8 in
    let valid : IsUtf8 whole = subst IsUtf8 (sym done.is) a.utf8 in
    let words : solid whole ≡ solid (joined_texts forest (trees forest (children_of forest n))) =
    ap solid done.is ∙ (a.words ∙ (ap (λ t. t ++ solid (events_text (events_below forest n))) gap-nil.empty ∙ ap solid (trees-text forest (trees forest (children_of forest n))))) in
    let mine : text_of forest n ≡ joined_texts forest (trees forest (children_of forest n)) = ap (λ t. t ++ joined_texts forest (trees forest (children_of forest n))) (bearing (slice_get forest.content n) bears) in
    ap solid is ∙ (trim-words whole valid ∙ (words ∙ ap solid (sym mine)))

pub formatted-is : (forest : Forest) (n : ℕ) (whole text : List ℕ) → IsFolded [] whole (events_below forest n) → text ≡ trim_end whole → text ≡ formatted_below forest n
unfolding formatted_below
formatted-is forest n whole text done is = is ∙ ap trim_end done.is
