-- Explicit markup that passes the tests of calm pages is a calm document: its tree has the shape of a page.
use Rattle.std.specs.Prelude.{◌≡◌, ◌≢◌, ℕ, zero, Bool, true, false, not, ◌==◌, ◌&&◌, List, [], ◌∷◌, ◌++◌, None, Option, Some, bytes_eq, codes, encode_utf8, filter, find, length, refl, slice_get, if◌then◌else◌}
use Rattle.std.specs.Option.{option_map_or}
use Rattle.std.proofs.Common.{arith, inl, inr}
use Rattle.std.proofs.lemmas.Bool.{and_parts, eqb-true, or_cases, true≢false}
use Rattle.std.proofs.lemmas.List.{append_assoc, append-nil}
use Rattle.std.proofs.lemmas.Slice.Eq.{bytes_eq-Decides}
use Rattle.std.proofs.lemmas.Str.{len_utf8_bounds, length-encode}
use mathlib.Core.Path.{◌∙◌, sym, ap, subst}
use Rattle.dom_nodes.specs.Kinds.{is_comment, is_doctype}
use Rattle.dom_nodes.specs.Words.{is_among}
use Rattle.dom_nodes.specs.declared.node_data.NodeData.TheVariants.{Doctype, Text}
use Rattle.dom_links.specs.Forest.{Forest, children_of}
use Rattle.dom_links.specs.ListMoves.{element_at}
use Rattle.dom_links.specs.Lists.{first, last}
use Rattle.dom_trees.specs.Views.{node_is}
use Rattle.dom_markup.specs.Markup.{Begins, Item, Spells, SpellsItemsUpTo, characters, comment, doctype, end_tag, items_of, mode_after, start_tag, text_front}
use Rattle.dom_markup.specs.Names.{Mode, markup, raw_text_of, text_of, void_names}
use Rattle.dom_markup.specs.Numbered.{document_of}
use Rattle.dom_markup.specs.Plain.{IsElement, Represents}
use Rattle.dom_markup.specs.References.{decoded, decoded_after, reference}
use Rattle.dom_markup.specs.ValueTrees.{Attribute, ValueTrees}
use Rattle.dom_markup.specs.ValueTrees.ValueTrees.{no_trees, text_node, comment_node, doctype_node, element_node}
use Rattle.dom_markup.proofs.grammar.OneReading.{Begins-same}
use Rattle.dom_markup.proofs.plain.PlainRead.{front_ends, no_second}
use Rattle.dom_markup.proofs.plain.PlainRows.{document-represents}
use Rattle.calm_pages.specs.Calm.{IsCalmDocument, admits, are_calm, behind, behind_text, has_elements_at_ends, inside, is_element_at, may_hold_comment, may_hold_text, top}
use Rattle.calm_pages.specs.declared.nesting.Scope.{Scope}
use Rattle.calm_pages.proofs.FramedPages.{Opens, doctype_begins, opens}
use Rattle.page_trees.specs.ElementKinds.{holds_doctype, kind_of, names_of}
use Rattle.page_trees.specs.Framed.{IsFramed}
use Rattle.page_trees.specs.Shape.{IsPage, are_parts, elements_of, has_parts, is_html, is_top}
use Rattle.page_trees.specs.declared.element_kinds.ElementCategory.TheVariants.{Document, Html}

-- ---- where trees stand in the markup

-- the items of the trees were read somewhere in a text
record At (t : ValueTrees) : Type 0 where
  mode : Mode
  text : List ℕ
  more : List Item
  end : List ℕ
  spelled : SpellsItemsUpTo mode text (items_of t ++ more) end

items_behind : (mode : Mode) (text : List ℕ) (xs ys : List Item) (end : List ℕ) → SpellsItemsUpTo mode text (xs ++ ys) end → (m : Mode) × (mid : List ℕ) × SpellsItemsUpTo m mid ys end
items_behind mode text [] ys end spelled = (mode, text, spelled)
items_behind mode text (x ∷ xs) ys end spelled = items_behind (mode_after mode x) spelled.0 xs ys end spelled.2

later_items : (name : List ℕ) (attributes : List Attribute) (children later : ValueTrees) → (xs : List Item) × (items_of (element_node name attributes children later) ≡ xs ++ items_of later)
later_items name attributes children later = by_void (is_among name void_names)
  where
    start : Item
    start = start_tag name attributes

    by_void : (x : Bool) → (xs : List Item) × (start ∷ (if x then items_of later else (items_of children ++ end_tag name ∷ items_of later)) ≡ xs ++ items_of later)
    by_void true = (start ∷ [], refl)
    by_void false = (start ∷ (items_of children ++ end_tag name ∷ []), ap (λ (is : List Item). start ∷ is) (sym (append_assoc (items_of children) (end_tag name ∷ []) (items_of later))))

at_later : (name : List ℕ) (attributes : List Attribute) (children later : ValueTrees) → At (element_node name attributes children later) → At later
at_later name attributes children later a =
    let l = later_items name attributes children later in
    let b = items_behind a.mode a.text l.0 (items_of later ++ a.more) a.end
    (subst (λ (is : List Item). SpellsItemsUpTo a.mode a.text is a.end) (ap (λ (is : List Item). is ++ a.more) l.1 ∙ append_assoc l.0 (items_of later) a.more) a.spelled) in
    record { mode = b.0; text = b.1; more = a.more; end = a.end; spelled = b.2 }

at_children : (name : List ℕ) (attributes : List Attribute) (children later : ValueTrees) → is_among name void_names ≡ false → At (element_node name attributes children later) → At children
at_children name attributes children later unvoid a =
    let s : SpellsItemsUpTo a.mode a.text (start_tag name attributes ∷ ((items_of children ++ end_tag name ∷ items_of later) ++ a.more)) a.end = rw unvoid at a.spelled in
    record {
      mode = mode_after a.mode (start_tag name attributes);
      text = s.0;
      more = end_tag name ∷ (items_of later ++ a.more);
      end = a.end;
      spelled = subst (λ (is : List Item). SpellsItemsUpTo (mode_after a.mode (start_tag name attributes)) s.0 is a.end) (append_assoc (items_of children) (end_tag name ∷ items_of later) a.more) s.2;
    }

at_behind : (contents : List ℕ) (later : ValueTrees) → At (text_node contents later) → At later
at_behind contents later a = record { mode = mode_after a.mode (characters contents); text = a.spelled.0; more = a.more; end = a.end; spelled = a.spelled.2 }

-- a text is not empty
encoded_some : (c : ℕ) (bytes : List ℕ) → encode_utf8 c ++ bytes ≢ []
encoded_some c bytes none = by_list (encode_utf8 c) refl none
  where
    by_list : (xs : List ℕ) → encode_utf8 c ≡ xs → xs ++ bytes ≡ [] → ⊥
    by_list [] e k = omega (arith, length-encode c, (len_utf8_bounds c).0, ap length e)
    by_list (x ∷ xs) e k = cc

decoded_some : (text : List ℕ) → text ≢ [] → decoded text ≢ []
decoded_some [] some none = some refl
decoded_some (b ∷ rest) some none = by_byte (b == 38) (reference rest) _ (λ found. encoded_some found.character (decoded_after found.len rest)) none
  where
    by_byte : {A : Type 0} (x : Bool) (r : Option A) (g : A → List ℕ) → ((a : A) → g a ≢ []) → (if x then option_map_or g r (38 ∷ decoded_after zero rest) else b ∷ decoded_after zero rest) ≡ [] → ⊥
    by_byte true (Some found) g h e = h found e
    by_byte true None g h e = cc
    by_byte false r g h e = cc

some_in : (mode : Mode) (text contents rest : List ℕ) → Begins mode text (characters contents) rest → contents ≢ []
some_in markup text contents rest b none = decoded_some (text_front text) b.0 (sym b.2 ∙ none)
some_in (text_of name) text contents rest b none = decoded_some b.0 b.1 (sym b.3 ∙ none)
some_in (raw_text_of name) text contents rest b none = b.0 none

at_some : (contents : List ℕ) (later : ValueTrees) → At (text_node contents later) → contents ≢ []
at_some contents later a = some_in a.mode a.text contents a.spelled.0 a.spelled.1

-- no text follows a text
pair_in : (mode : Mode) (text first second middle rest : List ℕ) → Begins mode text (characters first) middle → Begins mode middle (characters second) rest → ⊥
pair_in markup text first second middle rest a b = b.0 (front_ends text middle a.1)
pair_in (text_of name) text first second middle rest a b = no_second name text a.0 middle b.0 rest a.2 b.2 b.1
pair_in (raw_text_of name) text first second middle rest a b = no_second name text first middle second rest a.1 b.1 b.0

at_pair : (first second : List ℕ) (later : ValueTrees) → At (text_node first (text_node second later)) → ⊥
at_pair first second later a = pair_in a.mode a.text first second a.spelled.0 a.spelled.2.0 a.spelled.1 a.spelled.2.1

-- ---- elements of a forest

is_name : (f : Forest) (n : ℕ) (name : List ℕ) (attributes : List Attribute) (below : List ℕ) → IsElement f n name attributes below → (word : List ℕ) → is_html f n word ≡ bytes_eq name word
is_name f n name attributes below e word = rw e.read refl

is_one : (f : Forest) (n : ℕ) (name : List ℕ) (attributes : List Attribute) (below : List ℕ) → IsElement f n name attributes below → element_at f n ≡ true
is_one f n name attributes below e = rw e.read refl

text_none : (f : Forest) (n : ℕ) (contents : List ℕ) → slice_get f.content n ≡ Some (Text contents) → element_at f n ≡ false
text_none f n contents got = rw got refl

-- ---- the parts of `html`

-- neither comments nor doctypes stand in it
abbrev in_html : Scope
in_html = inside top Html

no_frameset : (name : List ℕ) → admits in_html (kind_of name) ≡ true → bytes_eq name (codes "frameset") ≡ false
unfolding kind_of names_of
no_frameset name h = by_test (bytes_eq name (codes "frameset")) refl
  where
    by_test : (x : Bool) → bytes_eq name (codes "frameset") ≡ x → x ≡ false
    by_test true e = absurd (true≢false (sym (subst (λ (n : List ℕ). admits in_html (kind_of n) ≡ true) ((bytes_eq-Decides name (codes "frameset")).0 e) h)))
    by_test false e = refl

record Two (first second : List ℕ) (others : List ℕ) : Type 0 where
  head : first ≡ codes "head"
  body : second ≡ codes "body"
  none : others ≡ []

two_parts : (f : Forest) (h d : ℕ) (first second : List ℕ) (a b : List Attribute) (under over others : List ℕ) → IsElement f h first a under → IsElement f d second b over → bytes_eq second (codes "frameset") ≡ false →
    are_parts f (h ∷ d ∷ others) ≡ true → Two first second others
two_parts f h d first second a b under over others e k frameset parts =
    let p = and_parts (is_html f h (codes "head")) _ parts in
    elim (or_cases (is_html f d (codes "body") && length others == 0) (is_html f d (codes "frameset")) p.1) [
      | inl body ↦
          (let q = and_parts (is_html f d (codes "body")) (length others == 0) body in
          record {
            head = (bytes_eq-Decides first (codes "head")).0 (sym (is_name f h first a under e (codes "head")) ∙ p.0);
            body = (bytes_eq-Decides second (codes "body")).0 (sym (is_name f d second b over k (codes "body")) ∙ q.0);
            none = no_items others (eqb-true (length others) 0 q.1);
          })
      | inr other ↦ absurd (true≢false (sym other ∙ is_name f d second b over k (codes "frameset") ∙ frameset))
    ]
  where
    no_items : (ns : List ℕ) → length ns ≡ 0 → ns ≡ []
    no_items [] e = refl
    no_items (n ∷ ns) e = absurd (omega (arith, e))

record Parts (inner : ValueTrees) : Type 0 where
  head_attributes : List Attribute
  body_attributes : List Attribute
  head : ValueTrees
  space : List ℕ
  body : ValueTrees
  is : inner ≡ element_node (codes "head") head_attributes head (behind_text space (element_node (codes "body") body_attributes body no_trees))

no_comment : (contents : List ℕ) (later : ValueTrees) → are_calm in_html (comment_node contents later) ≡ true → ⊥
no_comment contents later c = true≢false (sym (and_parts (may_hold_comment Html contents) (are_calm (behind in_html) later) c).0)

no_doctype : (name public system : List ℕ) (later : ValueTrees) → are_calm in_html (doctype_node name public system later) ≡ true → ⊥
no_doctype name public system later c = true≢false (sym (and_parts (holds_doctype Html) (are_calm (behind in_html) later) c).0)

-- the front of the list ends in an element, and no element follows; nor does a text, which would be the last one
abbrev Ends : Forest → List ℕ → Type 0
Ends f ns = is_element_at f (last ns) ≡ true

tail_none : (f : Forest) (front : List ℕ) (later : ValueTrees) (ns : List ℕ) → At later → are_calm in_html later ≡ true → Represents f ns later → filter (element_at f) ns ≡ [] →
    ((t : ℕ) → ns ≡ t ∷ [] → element_at f t ≡ true) → later ≡ no_trees
tail_none f front no_trees ns at c r elements ends = refl
tail_none f front (text_node contents no_trees) ns at c (t, others, is, got, rest) elements ends =
    absurd (true≢false (sym (ends t (is ∙ ap (λ (ms : List ℕ). t ∷ ms) rest)) ∙ text_none f t contents got))
tail_none f front (text_node contents (text_node more later)) ns at c r elements ends = absurd (at_pair contents more later at)
tail_none f front (text_node contents (comment_node more later)) ns at c r elements ends =
    absurd (no_comment more later (and_parts (may_hold_text Html contents) (are_calm in_html (comment_node more later)) c).1)
tail_none f front (text_node contents (doctype_node name public system later)) ns at c r elements ends =
    absurd (no_doctype name public system later (and_parts (may_hold_text Html contents) (are_calm in_html (doctype_node name public system later)) c).1)
tail_none f front (text_node contents (element_node name attributes children later)) ns at c (t, others, is, got, (k, last, below, is2, e, inner, rest)) elements ends =
    let all : ns ≡ t ∷ k ∷ last = is ∙ ap (λ (ms : List ℕ). t ∷ ms) is2 in
    let some : filter (element_at f) (t ∷ k ∷ last) ≡ k ∷ filter (element_at f) last = rw (text_none f t contents got, is_one f k name attributes below e) refl in
    let none : k ∷ filter (element_at f) last ≡ [] = sym some ∙ ap (filter (element_at f)) (sym all) ∙ elements in
    cc
tail_none f front (comment_node contents later) ns at c r elements ends = absurd (no_comment contents later c)
tail_none f front (doctype_node name public system later) ns at c r elements ends = absurd (no_doctype name public system later c)
tail_none f front (element_node name attributes children later) ns at c (k, last, below, is, e, inner, rest) elements ends =
    let some : filter (element_at f) (k ∷ last) ≡ k ∷ filter (element_at f) last = rw (is_one f k name attributes below e) refl in
    let none : k ∷ filter (element_at f) last ≡ [] = sym some ∙ ap (filter (element_at f)) (sym is) ∙ elements in
    cc

text_first : (space : List ℕ) (later : ValueTrees) → space ≢ [] → behind_text space later ≡ text_node space later
text_first [] later some = absurd (some refl)
text_first (b ∷ space) later some = refl

-- behind the head: white space or none, and the body
body_part : (f : Forest) (h d : ℕ) (name : List ℕ) (attributes : List Attribute) (children : ValueTrees) (second : List ℕ) (b : List Attribute) (body later : ValueTrees) (under over others : List ℕ) →
    IsElement f h name attributes under → IsElement f d second b over → At (element_node second b body later) → are_calm in_html (element_node second b body later) ≡ true → Represents f others later →
    are_parts f (h ∷ d ∷ filter (element_at f) others) ≡ true → ((t : ℕ) → others ≡ t ∷ [] → element_at f t ≡ true) → (space : List ℕ) →
    Parts (element_node name attributes children (behind_text space (element_node second b body later)))
body_part f h d name attributes children second b body later under over others e k at c rest parts ends space =
    let g = and_parts (admits in_html (kind_of second) && are_calm (inside in_html (kind_of second)) body) (are_calm (behind in_html) later) c in
    let a = and_parts (admits in_html (kind_of second)) (are_calm (inside in_html (kind_of second)) body) g.0 in
    let two : Two name second (filter (element_at f) others) = two_parts f h d name second attributes b under over (filter (element_at f) others) e k (no_frameset second a.0) parts in
    let none : later ≡ no_trees = tail_none f [] later others (at_later second b body later at) g.1 rest two.none ends in
    record {
      head_attributes = attributes;
      body_attributes = b;
      head = children;
      space = space;
      body = body;
      is = ap (λ n. element_node n attributes children (behind_text space (element_node second b body later))) two.head
          ∙ ap (λ n. element_node (codes "head") attributes children (behind_text space (element_node n b body later))) two.body
          ∙ ap (λ t. element_node (codes "head") attributes children (behind_text space (element_node (codes "body") b body t))) none;
    }

parts_of : (f : Forest) (inner : ValueTrees) (below : List ℕ) → At inner → are_calm in_html inner ≡ true → Represents f below inner → are_parts f (filter (element_at f) below) ≡ true →
    is_element_at f (first below) ≡ true → is_element_at f (last below) ≡ true → Parts inner
parts_of f no_trees below at c r parts begins ends = absurd (true≢false (sym parts ∙ ap (λ (ns : List ℕ). are_parts f (filter (element_at f) ns)) r))
parts_of f (text_node contents later) below at c (t, others, is, got, rest) parts begins ends =
    absurd (true≢false (sym begins ∙ ap (λ (ns : List ℕ). is_element_at f (first ns)) is ∙ text_none f t contents got))
parts_of f (comment_node contents later) below at c r parts begins ends = absurd (no_comment contents later c)
parts_of f (doctype_node name public system later) below at c r parts begins ends = absurd (no_doctype name public system later c)
parts_of f (element_node name attributes children no_trees) below at c (h, others, under, is, e, inner, rest) parts begins ends =
    let all : below ≡ h ∷ [] = is ∙ ap (λ (ns : List ℕ). h ∷ ns) rest in
    let one : filter (element_at f) (h ∷ []) ≡ h ∷ [] = rw (is_one f h name attributes under e) refl in
    absurd (true≢false (sym parts ∙ ap (λ (ns : List ℕ). are_parts f (filter (element_at f) ns)) all ∙ ap (are_parts f) one))
parts_of f (element_node name attributes children (text_node contents no_trees)) below at c (h, others, under, is, e, inner, (t, more, is2, got, rest)) parts begins ends =
    let all : below ≡ h ∷ t ∷ [] = is ∙ ap (λ (ns : List ℕ). h ∷ ns) (is2 ∙ ap (λ (ns : List ℕ). t ∷ ns) rest) in
    absurd (true≢false (sym ends ∙ ap (λ (ns : List ℕ). is_element_at f (last ns)) all ∙ text_none f t contents got))
parts_of f (element_node name attributes children (text_node contents (text_node more later))) below at c r parts begins ends =
    absurd (at_pair contents more later (at_later name attributes children (text_node contents (text_node more later)) at))
parts_of f (element_node name attributes children (text_node contents (comment_node more later))) below at c r parts begins ends =
    absurd (no_comment more later (and_parts (may_hold_text Html contents) (are_calm in_html (comment_node more later))
    (and_parts (admits in_html (kind_of name) && are_calm (inside in_html (kind_of name)) children) (are_calm in_html (text_node contents (comment_node more later))) c).1).1)
parts_of f (element_node name attributes children (text_node contents (doctype_node n p s later))) below at c r parts begins ends =
    absurd (no_doctype n p s later (and_parts (may_hold_text Html contents) (are_calm in_html (doctype_node n p s later))
    (and_parts (admits in_html (kind_of name) && are_calm (inside in_html (kind_of name)) children) (are_calm in_html (text_node contents (doctype_node n p s later))) c).1).1)
parts_of f (element_node name attributes children (text_node contents (element_node second b body later))) below at c (h, others, under, is, e, inner, (t, more, is2, got, (d, tail, over, is3, k, inner2, rest))) parts begins ends =
    let all : below ≡ h ∷ t ∷ d ∷ tail = is ∙ ap (λ (ns : List ℕ). h ∷ ns) (is2 ∙ ap (λ (ns : List ℕ). t ∷ ns) is3) in
    let elements : filter (element_at f) (h ∷ t ∷ d ∷ tail) ≡ h ∷ d ∷ filter (element_at f) tail = rw (is_one f h name attributes under e, text_none f t contents got, is_one f d second b over k) refl in
    let at_text : At (text_node contents (element_node second b body later)) = at_later name attributes children (text_node contents (element_node second b body later)) at in
    let calm = (and_parts (may_hold_text Html contents) (are_calm in_html (element_node second b body later))
    (and_parts (admits in_html (kind_of name) && are_calm (inside in_html (kind_of name)) children) (are_calm in_html (text_node contents (element_node second b body later))) c).1).1 in
    subst (λ x. Parts (element_node name attributes children x)) (text_first contents (element_node second b body later) (at_some contents (element_node second b body later) at_text))
    (body_part f h d name attributes children second b body later under over tail e k (at_behind contents (element_node second b body later) at_text) calm rest
    (ap (are_parts f) (sym elements) ∙ ap (λ (ns : List ℕ). are_parts f (filter (element_at f) ns)) (sym all) ∙ parts)
    (λ z only. ap (λ (ns : List ℕ). is_element_at f (last (h ∷ t ∷ d ∷ ns))) (sym only) ∙ ap (λ (ns : List ℕ). is_element_at f (last ns)) (sym all) ∙ ends) contents)
parts_of f (element_node name attributes children (comment_node contents later)) below at c r parts begins ends =
    absurd (no_comment contents later (and_parts (admits in_html (kind_of name) && are_calm (inside in_html (kind_of name)) children) (are_calm in_html (comment_node contents later)) c).1)
parts_of f (element_node name attributes children (doctype_node n p s later)) below at c r parts begins ends =
    absurd (no_doctype n p s later (and_parts (admits in_html (kind_of name) && are_calm (inside in_html (kind_of name)) children) (are_calm in_html (doctype_node n p s later)) c).1)
parts_of f (element_node name attributes children (element_node second b body later)) below at c (h, others, under, is, e, inner, (d, tail, over, is3, k, inner2, rest)) parts begins ends =
    let all : below ≡ h ∷ d ∷ tail = is ∙ ap (λ (ns : List ℕ). h ∷ ns) is3 in
    let elements : filter (element_at f) (h ∷ d ∷ tail) ≡ h ∷ d ∷ filter (element_at f) tail = rw (is_one f h name attributes under e, is_one f d second b over k) refl in
    body_part f h d name attributes children second b body later under over tail e k (at_later name attributes children (element_node second b body later) at)
    (and_parts (admits in_html (kind_of name) && are_calm (inside in_html (kind_of name)) children) (are_calm in_html (element_node second b body later)) c).1 rest
    (ap (are_parts f) (sym elements) ∙ ap (λ (ns : List ℕ). are_parts f (filter (element_at f) ns)) (sym all) ∙ parts)
    (λ z only. ap (λ (ns : List ℕ). is_element_at f (last (h ∷ d ∷ ns))) (sym only) ∙ ap (λ (ns : List ℕ). is_element_at f (last ns)) (sym all) ∙ ends) []

-- ---- the root

record Root (t : ValueTrees) : Type 0 where
  attributes : List Attribute
  inner : ValueTrees
  is : t ≡ element_node (codes "html") attributes inner no_trees
  parts : Parts inner

abbrev kept : Forest → List ℕ → List ℕ
kept f ns = filter (λ child. not (node_is is_comment f child)) ns

no_third : (f : Forest) (n m k : ℕ) (ns : List ℕ) → is_top f (n ∷ m ∷ k ∷ ns) ≡ true → ⊥
no_third f n m k ns h = true≢false (sym h)

no_html : (f : Forest) (n : ℕ) (name public system : List ℕ) → slice_get f.content n ≡ Some (Doctype name public system) → has_parts f n ≡ true → ⊥
no_html f n name public system got h = let none : has_parts f n ≡ false = rw got refl in true≢false (sym h ∙ none)

two_doctypes : (f : Forest) (n m : ℕ) (name public system : List ℕ) (ns : List ℕ) → slice_get f.content m ≡ Some (Doctype name public system) → is_top f (n ∷ m ∷ ns) ≡ true → ⊥
two_doctypes f n m name public system [] got h = no_html f m name public system got (and_parts (node_is is_doctype f n) (has_parts f m) h).1
two_doctypes f n m name public system (k ∷ ns) got h = no_third f n m k ns h

html_root : (f : Forest) (n m : ℕ) (name public system : List ℕ) (attributes : List Attribute) (inner : ValueTrees) (below : List ℕ) → slice_get f.content n ≡ Some (Doctype name public system) →
    IsElement f m (codes "html") attributes below → children_of f 0 ≡ n ∷ m ∷ [] → At (element_node (codes "html") attributes inner no_trees) → are_calm top (element_node (codes "html") attributes inner no_trees) ≡ true →
    Represents f below inner → are_parts f (elements_of f m) ≡ true → has_elements_at_ends f ≡ true → Parts inner
unfolding kind_of names_of void_names
html_root f n m name public system attributes inner below got e all at c r parts ends =
    let same : below ≡ children_of f m = e.holds.1 in
    let found : find (element_at f) (children_of f 0) ≡ Some m = ap (find (element_at f)) all ∙ rw (got, e.read) refl in
    let both : (is_element_at f (first (children_of f m)) && is_element_at f (last (children_of f m))) ≡ true =
    ap (λ (o : Option ℕ). option_map_or (λ html. is_element_at f (first (children_of f html)) && is_element_at f (last (children_of f html))) o false) (sym found) ∙ ends in
    let two = and_parts (is_element_at f (first (children_of f m))) (is_element_at f (last (children_of f m))) both in
    let calm = and_parts (admits top Html && are_calm in_html inner) true c in
    parts_of f inner below (at_children (codes "html") attributes inner no_trees refl at) (and_parts (admits top Html) (are_calm in_html inner) calm.0).1 r
    (ap (λ (ns : List ℕ). are_parts f (filter (element_at f) ns)) same ∙ parts) (ap (λ (ns : List ℕ). is_element_at f (first ns)) same ∙ two.0) (ap (λ (ns : List ℕ). is_element_at f (last ns)) same ∙ two.1)

root_of : (f : Forest) (n : ℕ) (name public system : List ℕ) (t : ValueTrees) (others : List ℕ) → slice_get f.content n ≡ Some (Doctype name public system) → At t → are_calm top t ≡ true → Represents f others t →
    children_of f 0 ≡ n ∷ others → is_top f (kept f (n ∷ others)) ≡ true → has_elements_at_ends f ≡ true → Root t
root_of f n name public system no_trees others got at c r all tops ends =
    let one : kept f (n ∷ []) ≡ n ∷ [] = rw got refl in
    absurd (no_html f n name public system got (ap (is_top f) (sym one ∙ ap (λ (ns : List ℕ). kept f (n ∷ ns)) (sym r)) ∙ tops))
root_of f n name public system (text_node contents later) others got at c r all tops ends = absurd (true≢false (sym (and_parts (may_hold_text Document contents) (are_calm top later) c).0))
root_of f n name public system (comment_node contents later) others got at c r all tops ends = absurd (true≢false (sym (and_parts (may_hold_comment Document contents) (are_calm top later) c).0))
root_of f n name public system (doctype_node name2 public2 system2 later) others got at c (m, rest, is, got2, r) all tops ends =
    let two : kept f (n ∷ m ∷ rest) ≡ n ∷ m ∷ kept f rest = rw (got, got2) refl in
    absurd (two_doctypes f n m name2 public2 system2 (kept f rest) got2 (ap (is_top f) (sym two ∙ ap (λ (ns : List ℕ). kept f (n ∷ ns)) (sym is)) ∙ tops))
root_of f n name public system (element_node word attributes inner no_trees) others got at c (m, rest, below, is, e, r, none) all tops ends =
    let list : n ∷ others ≡ n ∷ m ∷ [] = ap (λ (ns : List ℕ). n ∷ ns) (is ∙ ap (λ (ns : List ℕ). m ∷ ns) none) in
    let two : kept f (n ∷ m ∷ []) ≡ n ∷ m ∷ [] = rw (got, e.read) refl in
    let top_is : is_top f (n ∷ m ∷ []) ≡ true = ap (is_top f) (sym two ∙ ap (kept f) (sym list)) ∙ tops in
    let parts = and_parts (node_is is_doctype f n) (has_parts f m) top_is in
    let html = and_parts (is_html f m (codes "html")) (are_parts f (elements_of f m)) parts.1 in
    let same : word ≡ codes "html" = (bytes_eq-Decides word (codes "html")).0 (sym (is_name f m word attributes below e (codes "html")) ∙ html.0) in
    record {
      attributes = attributes;
      inner = inner;
      is = ap (λ w. element_node w attributes inner no_trees) same;
      parts = html_root f n m name public system attributes inner below got (subst (λ (w : List ℕ). IsElement f m w attributes below) same e) (all ∙ list)
          (subst (λ (w : List ℕ). At (element_node w attributes inner no_trees)) same at) (subst (λ (w : List ℕ). are_calm top (element_node w attributes inner no_trees) ≡ true) same c) r html.1 ends;
    }
root_of f n name public system (element_node word attributes inner (text_node contents later)) others got at c r all tops ends =
    absurd (true≢false (sym (and_parts (may_hold_text Document contents) (are_calm top later) (and_parts (admits top (kind_of word) && are_calm (inside top (kind_of word)) inner) (are_calm top (text_node contents later)) c).1).0))
root_of f n name public system (element_node word attributes inner (comment_node contents later)) others got at c r all tops ends =
    absurd (true≢false (sym (and_parts (may_hold_comment Document contents) (are_calm top later) (and_parts (admits top (kind_of word) && are_calm (inside top (kind_of word)) inner) (are_calm top (comment_node contents later)) c).1).0))
root_of f n name public system (element_node word attributes inner (doctype_node name2 public2 system2 later)) others got at c (m, rest, below, is, e, r, (k, last, is2, got2, r2)) all tops ends =
    let list : n ∷ others ≡ n ∷ m ∷ k ∷ last = ap (λ (ns : List ℕ). n ∷ ns) (is ∙ ap (λ (ns : List ℕ). m ∷ ns) is2) in
    let three : kept f (n ∷ m ∷ k ∷ last) ≡ n ∷ m ∷ k ∷ kept f last = rw (got, e.read, got2) refl in
    absurd (no_third f n m k (kept f last) (ap (is_top f) (sym three ∙ ap (kept f) (sym list)) ∙ tops))
root_of f n name public system (element_node word attributes inner (element_node word2 attributes2 inner2 later)) others got at c (m, rest, below, is, e, r, (k, last, below2, is2, e2, r2, r3)) all tops ends =
    let list : n ∷ others ≡ n ∷ m ∷ k ∷ last = ap (λ (ns : List ℕ). n ∷ ns) (is ∙ ap (λ (ns : List ℕ). m ∷ ns) is2) in
    let three : kept f (n ∷ m ∷ k ∷ last) ≡ n ∷ m ∷ k ∷ kept f last = rw (got, e.read, e2.read) refl in
    absurd (no_third f n m k (kept f last) (ap (is_top f) (sym three ∙ ap (kept f) (sym list)) ∙ tops))

-- ---- documents

framed_first : (text : List ℕ) (item : Item) (rest : List ℕ) → IsFramed text → Begins markup text item rest → item ≡ doctype (codes "html") [] []
framed_first text item rest framed b = let o : Opens text = opens text framed in (Begins-same markup text item (doctype (codes "html") [] []) rest o.rest b (doctype_begins text o)).0

pub calm_back : (text : List ℕ) (trees : ValueTrees) → IsFramed text → Spells text trees → IsPage (document_of trees) → has_elements_at_ends (document_of trees) ≡ true → are_calm top trees ≡ true → IsCalmDocument trees
calm_back text no_trees framed s page ends c = let o : Opens text = opens text framed in let none : 60 ∷ 33 ∷ (o.word ++ (32 ∷ (o.name ++ (62 ∷ o.rest)))) ≡ [] = sym o.is ∙ s.items in cc
calm_back text (text_node contents later) framed s page ends c = let is : characters contents ≡ doctype (codes "html") [] [] = framed_first text (characters contents) s.items.0 framed s.items.1 in cc
calm_back text (comment_node contents later) framed s page ends c = let is : comment contents ≡ doctype (codes "html") [] [] = framed_first text (comment contents) s.items.0 framed s.items.1 in cc
calm_back text (element_node name attributes children later) framed s page ends c =
    let is : start_tag name attributes ≡ doctype (codes "html") [] [] = framed_first text (start_tag name attributes) s.items.0 framed s.items.1 in cc
calm_back text (doctype_node name public system later) framed s page ends c =
    let f : Forest = document_of (doctype_node name public system later) in
    let is : doctype name public system ≡ doctype (codes "html") [] [] = framed_first text (doctype name public system) s.items.0 framed s.items.1 in
    let name_is : name ≡ codes "html" = cc in
    let public_is : public ≡ [] = cc in
    let system_is : system ≡ [] = cc in
    let r = document-represents (doctype_node name public system later) in
    let at : At later = record { mode = markup; text = s.items.0; more = []; end = []; spelled = subst (λ (is : List Item). SpellsItemsUpTo markup s.items.0 is []) (sym (append-nil (items_of later))) s.items.2 } in
    let root : Root later = root_of f r.0 name public system later r.1 r.3 at (and_parts (holds_doctype Document) (are_calm top later) c).1 r.4 r.2 (ap (λ (ns : List ℕ). is_top f (kept f ns)) (sym r.2) ∙ page) ends in
    let p : Parts root.inner = root.parts in
    record {
      html_attributes = root.attributes;
      head_attributes = p.head_attributes;
      body_attributes = p.body_attributes;
      head = p.head;
      space = p.space;
      body = p.body;
      is = ap (λ x. doctype_node x public system later) name_is ∙ ap (λ x. doctype_node (codes "html") x system later) public_is ∙ ap (λ x. doctype_node (codes "html") [] x later) system_is
          ∙ ap (doctype_node (codes "html") [] []) (root.is ∙ ap (λ x. element_node (codes "html") root.attributes x no_trees) p.is);
      calm = c;
    }
