-- What stands in a page.
use Rattle.std.proofs.Common.{ℕ, ◌≡◌, ◌⊎◌, inl, inr, true, false, Bool, List, [], ◌∷◌, Option, Some, refl, sym, ap, ◌∙◌, cond}
use Rattle.std.specs.Prelude.{◌==◌, ◌&&◌, codes, filter, find, length, not, slice_get}
use Rattle.std.specs.Option.{option_and_then, option_map, option_map_or}
use Rattle.std.specs.Str.{bytes_eq}
use Rattle.std.proofs.lemmas.Bool.{cases_Bool, or_cases, true≢false}
use Rattle.std.proofs.lemmas.Slice.Eq.{bytes_eq-Decides}
use Rattle.dom_nodes.specs.Attrs.{element_of, name_in}
use Rattle.dom_nodes.specs.Kinds.{is_comment, is_doctype, is_element}
use Rattle.dom_nodes.specs.Names.{same_namespace}
use Rattle.dom_nodes.specs.declared.name.Namespace.TheVariants.{Html}
use Rattle.dom_nodes.specs.declared.node_data.NodeData.{NodeData}
use Rattle.dom_nodes.specs.declared.node_data.NodeData.TheVariants.{Comment, Element as AnElement}
use Rattle.dom_links.specs.Forest.{Forest, children_of}
use Rattle.dom_links.specs.ListMoves.{element_at}
use Rattle.dom_trees.specs.Views.{child_named, has_local_name, node_is, page_part}
use Rattle.page_trees.specs.Shape.{IsFound, IsPage, are_parts, besides_comments, elements_of, has_parts, is_contents, is_html, is_top}

both : (a b : Bool) → (a && b) ≡ true → (a ≡ true) × (b ≡ true)
both true b h = (refl, h)
both false b h = absurd (true≢false (sym h))

-- a search finds the same among what passes a test that all it may find pass
find_among : {X : Type 0} (p q : X → Bool) → ((x : X) → p x ≡ true → q x ≡ true) → (xs : List X) → find p (filter q xs) ≡ find p xs
find_among p q passes [] = refl
find_among p q passes (x ∷ xs) = elim (cases_Bool (q x)) [
  | inl t ↦ ap (λ b. find p (cond b (x ∷ filter q xs) (filter q xs))) t ∙ ap (cond (p x) (Some x)) (find_among p q passes xs)
  | inr f ↦ (
      let fails : p x ≡ false = elim (cases_Bool (p x)) [
        | inl t ↦ absurd (true≢false (sym (passes x t) ∙ f))
        | inr lacks ↦ lacks
      ] in
      ap (λ b. find p (cond b (x ∷ filter q xs) (filter q xs))) f ∙ find_among p q passes xs ∙ sym (ap (λ b. cond b (Some x) (find p xs)) fails))
]

-- the same tests of what stands at a number
abbrev html_in : Option NodeData → List ℕ → Bool
html_in node name = option_map_or (λ known. same_namespace known.ns Html && bytes_eq known.local name) (option_map (λ element. element.name) (option_and_then element_of node)) false

abbrev local_in : Option NodeData → List ℕ → Bool
local_in node name = option_map_or (λ local. bytes_eq local name) (option_and_then name_in node) false

local_of_html : (node : Option NodeData) (name : List ℕ) → html_in node name ≡ true → local_in node name ≡ true
local_of_html (Some (AnElement element)) name h = (both _ _ h).1
local_of_html _ name h = h

one_local : (node : Option NodeData) (name other : List ℕ) → bytes_eq name other ≡ false → local_in node name ≡ true → local_in node other ≡ false
one_local (Some (AnElement element)) name other differ h = ap (λ local. bytes_eq local other) ((bytes_eq-Decides element.name.local name).0 h) ∙ differ
one_local _ name other differ h = refl

element_in : (node : Option NodeData) (name : List ℕ) → local_in node name ≡ true → option_map_or is_element node false ≡ true
element_in (Some (AnElement element)) name h = refl
element_in _ name h = h

no_comment_in : (node : Option NodeData) → option_map_or is_element node false ≡ true → not (option_map_or is_comment node false) ≡ true
no_comment_in (Some (Comment _)) h = h
no_comment_in _ h = refl

doctype_in : (node : Option NodeData) → option_map_or is_doctype node false ≡ true → option_map_or is_element node false ≡ false
doctype_in (Some (AnElement element)) h = sym h
doctype_in _ h = refl

named : (forest : Forest) (n : ℕ) (name : List ℕ) → is_html forest n name ≡ true → has_local_name forest n name ≡ true
named forest n name h = local_of_html (slice_get forest.content n) name h

named_else : (forest : Forest) (n : ℕ) (name other : List ℕ) → bytes_eq name other ≡ false → is_html forest n name ≡ true → has_local_name forest n other ≡ false
named_else forest n name other differ h = one_local (slice_get forest.content n) name other differ (named forest n name h)

element_named : (forest : Forest) (name : List ℕ) (n : ℕ) → has_local_name forest n name ≡ true → element_at forest n ≡ true
element_named forest name n h = element_in (slice_get forest.content n) name h

no_comment : (forest : Forest) (n : ℕ) → element_at forest n ≡ true → not (node_is is_comment forest n) ≡ true
no_comment forest n h = no_comment_in (slice_get forest.content n) h

-- what no element is has no local name
no_name : (forest : Forest) (name : List ℕ) (n : ℕ) → element_at forest n ≡ false → has_local_name forest n name ≡ false
no_name forest name n none = elim (cases_Bool (has_local_name forest n name)) [
  | inl t ↦ absurd (true≢false (sym (element_named forest name n t) ∙ none))
  | inr f ↦ f
]

found_first : {X : Type 0} (p : X → Bool) (x : X) (xs : List X) → p x ≡ true → find p (x ∷ xs) ≡ Some x
found_first p x xs h = ap (λ b. cond b (Some x) (find p xs)) h

found_later : {X : Type 0} (p : X → Bool) (x : X) (xs : List X) → p x ≡ false → find p (x ∷ xs) ≡ find p xs
found_later p x xs h = ap (λ b. cond b (Some x) (find p xs)) h

-- the element `html` of a page
record HasTop (forest : Forest) (tops : List ℕ) : Type 0 where
  html : ℕ
  parts : has_parts forest html ≡ true
  element : find (element_at forest) tops ≡ Some html
  by_name : find (λ n. has_local_name forest n (codes "html")) tops ≡ Some html

tops_have : (forest : Forest) (tops : List ℕ) → is_top forest tops ≡ true → HasTop forest tops
tops_have forest [] h = absurd (true≢false (sym h))
tops_have forest (html ∷ []) h =
    let name = named forest html (codes "html") (both _ _ h).0 in
    record {
      html = html;
      parts = h;
      element = found_first (element_at forest) html [] (element_named forest (codes "html") html name);
      by_name = found_first (λ n. has_local_name forest n (codes "html")) html [] name;
    }
tops_have forest (doctype ∷ html ∷ []) h =
    let two = both (node_is is_doctype forest doctype) _ h in
    let none : element_at forest doctype ≡ false = doctype_in (slice_get forest.content doctype) two.0 in
    let name = named forest html (codes "html") (both _ _ two.1).0 in
    record {
      html = html;
      parts = two.1;
      element = found_later (element_at forest) doctype (html ∷ []) none ∙ found_first (element_at forest) html [] (element_named forest (codes "html") html name);
      by_name = found_later (λ n. has_local_name forest n (codes "html")) doctype (html ∷ []) (no_name forest (codes "html") doctype none)
          ∙ found_first (λ n. has_local_name forest n (codes "html")) html [] name;
    }
tops_have forest (_ ∷ _ ∷ _ ∷ _) h = absurd (true≢false (sym h))

-- the first child of a name, among the children that are elements
child_among : (forest : Forest) (n : ℕ) (name : List ℕ) → child_named forest n name ≡ find (λ child. has_local_name forest child name) (elements_of forest n)
child_among forest n name = sym (find_among (λ child. has_local_name forest child name) (element_at forest) (element_named forest name) (children_of forest n))

top_of : (forest : Forest) → IsPage forest → HasTop forest (children_of forest 0)
top_of forest page =
    let top = tops_have forest (besides_comments forest 0) page in
    let cs = children_of forest 0 in
    let keeps : ℕ → Bool = λ child. not (node_is is_comment forest child) in
    let name : ℕ → Bool = λ n. has_local_name forest n (codes "html") in
    record {
      html = top.html;
      parts = top.parts;
      element = sym (find_among (element_at forest) keeps (no_comment forest) cs) ∙ top.element;
      by_name = sym (find_among name keeps (λ n h. no_comment forest n (element_named forest (codes "html") n h)) cs) ∙ top.by_name;
    }

pub html_found : (forest : Forest) → IsPage forest → IsFound forest (codes "html") (find (element_at forest) (children_of forest 0))
html_found forest page =
    let top = top_of forest page in
    ap (λ found. option_map_or (λ n. is_html forest n (codes "html")) found false) top.element ∙ (both _ _ top.parts).0

-- what a name finds in the element `html`
part_found : (forest : Forest) (name : List ℕ) (top : HasTop forest (children_of forest 0)) (n : ℕ) →
    find (λ child. has_local_name forest child name) (elements_of forest top.html) ≡ Some n → is_html forest n name ≡ true → IsFound forest name (page_part forest name)
part_found forest name top n found is =
    let here : page_part forest name ≡ Some n = ap (option_and_then (λ html. child_named forest html name)) top.by_name ∙ child_among forest top.html name ∙ found in
    ap (λ o. option_map_or (λ m. is_html forest m name) o false) here ∙ is

parts_head : (forest : Forest) (parts : List ℕ) → are_parts forest parts ≡ true →
    (n : ℕ) × (find (λ child. has_local_name forest child (codes "head")) parts ≡ Some n) × (is_html forest n (codes "head") ≡ true)
parts_head forest [] h = absurd (true≢false (sym h))
parts_head forest (_ ∷ []) h = absurd (true≢false (sym h))
parts_head forest (head ∷ contents ∷ others) h =
    let is = (both _ _ h).0 in
    (head, found_first (λ child. has_local_name forest child (codes "head")) head (contents ∷ others) (named forest head (codes "head") is), is)

pub head_found : (forest : Forest) → IsPage forest → IsFound forest (codes "head") (page_part forest (codes "head"))
head_found forest page =
    let top = top_of forest page in
    let head = parts_head forest (elements_of forest top.html) (both (is_html forest top.html (codes "html")) (are_parts forest (elements_of forest top.html)) top.parts).1 in
    part_found forest (codes "head") top head.0 head.1 head.2

-- the second of a page's parts, where it has that name
second_found : (forest : Forest) (name : List ℕ) (head contents : ℕ) (others : List ℕ) → bytes_eq (codes "head") name ≡ false →
    is_html forest head (codes "head") ≡ true → is_html forest contents name ≡ true → find (λ child. has_local_name forest child name) (head ∷ contents ∷ others) ≡ Some contents
second_found forest name head contents others differ is second =
    found_later (λ child. has_local_name forest child name) head (contents ∷ others) (named_else forest head (codes "head") name differ is)
    ∙ found_first (λ child. has_local_name forest child name) contents others (named forest contents name second)

abbrev HasPart : Forest → List ℕ → List ℕ → Type 0
HasPart forest parts name = (n : ℕ) × (find (λ child. has_local_name forest child name) parts ≡ Some n) × (is_html forest n name ≡ true)

parts_contents : (forest : Forest) (parts : List ℕ) → are_parts forest parts ≡ true → HasPart forest parts (codes "body") ⊎ HasPart forest parts (codes "frameset")
parts_contents forest [] h = absurd (true≢false (sym h))
parts_contents forest (_ ∷ []) h = absurd (true≢false (sym h))
parts_contents forest (head ∷ contents ∷ others) h =
    let two = both (is_html forest head (codes "head")) (is_contents forest contents others) h in
    elim (or_cases (is_html forest contents (codes "body") && (length others == 0)) _ two.1) [
      | inl body ↦ (let is = (both (is_html forest contents (codes "body")) (length others == 0) body).0 in inl (contents, second_found forest (codes "body") head contents others refl two.0 is, is))
      | inr frames ↦ inr (contents, second_found forest (codes "frameset") head contents others refl two.0 frames, frames)
    ]

pub contents_found : (forest : Forest) → IsPage forest → IsFound forest (codes "body") (page_part forest (codes "body")) ⊎ IsFound forest (codes "frameset") (page_part forest (codes "frameset"))
contents_found forest page =
    let top = top_of forest page in
    elim (parts_contents forest (elements_of forest top.html) (both _ _ top.parts).1) [
      | inl body ↦ inl (part_found forest (codes "body") top body.0 body.1 body.2)
      | inr frames ↦ inr (part_found forest (codes "frameset") top frames.0 frames.1 frames.2)
    ]
