-- Characters that are inserted leave the open elements as they are, and after the active formatting elements are reconstructed none is left
-- to be reconstructed.
use Rattle.std.proofs.Common.{◌≡◌, ℕ, suc, Bool, true, false, ◌&&◌, ◌||◌, List, [], ◌∷◌, ◌++◌, drop, length, reverse, refl, sym, ap, ◌∙◌, Option, Some, None, subst, true≢false, codes, arith, inl, inr}
use Rattle.std.specs.Prelude.{cond, unwrap_or}
use Rattle.std.proofs.lemmas.Bool.{cases_Bool, eq-eqb}
use Rattle.standard_trees.specs.Building.{is_empty}
use Rattle.standard_trees.specs.Formatting.{attrs_of, closed_entries, local_of, reconstructed, reopened}
use Rattle.standard_trees.specs.GrowingTree.{Entry, Formatting, GrowingTree, Marker, created, created_at, created_element, current, fresh, has_value, inserted, is_among}
use Rattle.standard_trees.specs.GrowingTree.{is_single, is_template, kind_of, place, place_is_document, text_behind, with_char, with_text}
use Rattle.standard_trees.specs.NameLists.{html_encodings, html_points, text_points}
use Rattle.standard_trees.specs.TreeStore.{ContentsNode, ElementNode, Html, Kind, Node, NodeAttr, Place, Space, TextNode, attrs_in, is_html, is_member, key_in, leaf, node_at, node_before}
use Rattle.standard_trees.specs.TreeStore.{put_at, space_in, text_in}
use Rattle.page_trees.specs.CharacterSteps.{goes_to_mode, takes_characters}
use Rattle.page_trees.proofs.CharacterRuns.{Looks, looks_kept}
use Rattle.page_trees.proofs.StoreLemmas.{kind_from, kinds_put, length_nodes, new_node, old_node}
use Rattle.page_trees.proofs.TextRuns.{char_is}

-- ---- the list of active formatting elements

abbrev pub closed_in : GrowingTree → List ℕ
closed_in t = closed_entries t.stack t.listed

none_dropped : (stack : List ℕ) (es : List Entry) → closed_entries stack (drop (length (closed_entries stack es)) es) ≡ []
none_dropped stack [] = refl
none_dropped stack (Marker ∷ es) = refl
none_dropped stack (Formatting n ∷ es) = elim (cases_Bool (is_member n stack)) [
  | inl t ↦
      ap (λ (b : Bool). (let ns : List ℕ = elim b [ true ↦ [] | false ↦ n ∷ closed_entries stack es ] in closed_entries stack (drop (length ns) (Formatting n ∷ es)))) t
      ∙ ap (λ (b : Bool). (let ns : List ℕ = elim b [ true ↦ [] | false ↦ n ∷ closed_entries stack es ] in ns)) t
  | inr f ↦
      ap (λ (b : Bool). (let ns : List ℕ = elim b [ true ↦ [] | false ↦ n ∷ closed_entries stack es ] in closed_entries stack (drop (length ns) (Formatting n ∷ es)))) f
      ∙ none_dropped stack es
]

-- an element that was opened just now is no closed one
none_reopened : (ns : List ℕ) (t : GrowingTree) → closed_in t ≡ [] → closed_in (reopened ns t) ≡ []
none_reopened [] t none = none
none_reopened (n ∷ ns) t none =
    let after : GrowingTree = inserted Html (local_of t n) (attrs_of t n) t in
    none_reopened ns (record after { listed = Formatting (current after) ∷ after.listed })
    (ap (λ (b : Bool). (let ns : List ℕ = elim (b || is_member (fresh t) (created_element Html (local_of t n) (attrs_of t n) t).stack) [ true ↦ [] | false ↦ fresh t ∷ closed_entries after.stack after.listed ] in ns)) (eq-eqb (fresh t) (fresh t) refl))

pub none_closed : (t : GrowingTree) → closed_in (reconstructed t) ≡ []
none_closed t =
    none_reopened (reverse (closed_in t)) (record t { listed = drop (length (closed_in t)) t.listed }) (none_dropped t.stack t.listed)

pub nothing_reopened : (t : GrowingTree) → closed_in t ≡ [] → reconstructed t ≡ t
nothing_reopened t none = ap (λ (entries : List ℕ). reopened (reverse entries) (record t { listed = drop (length entries) t.listed })) none

-- ---- characters

pub char_nodes : (c : ℕ) (t : GrowingTree) → with_char c t ≡ record t { nodes = (with_char c t).nodes }
char_nodes c t = by_place (place_is_document t (place t)) refl
  where
    spot : Place
    spot = place t

    made : List Node
    made = (created_at spot (TextNode (c ∷ [])) t).nodes

    by_text : (n : ℕ) (o : Option (List ℕ)) →
        (nodes : List Node) × ((elim o [ Some text ↦ with_text t n (text ++ c ∷ []) | None ↦ created_at spot (TextNode (c ∷ [])) t ]) ≡ record t { nodes = nodes })
    by_text n (Some text) = ((with_text t n (text ++ c ∷ [])).nodes, refl)
    by_text n None = (made, refl)

    by_node : (o : Option ℕ) → (nodes : List Node) × (text_behind o spot c t ≡ record t { nodes = nodes })
    by_node None = (made, refl)
    by_node (Some n) = by_text n (text_in (kind_of t n))

    told : (u : GrowingTree) → (nodes : List Node) × (u ≡ record t { nodes = nodes }) → u ≡ record t { nodes = u.nodes }
    told u h = h.1 ∙ ap (λ (nodes : List Node). record t { nodes = nodes }) (sym (ap (λ (v : GrowingTree). v.nodes) h.1))

    by_place : (b : Bool) → place_is_document t (place t) ≡ b → with_char c t ≡ record t { nodes = (with_char c t).nodes }
    by_place true e =
        let same : with_char c t ≡ t = ap (λ (b : Bool). elim b [ true ↦ t | false ↦ text_behind (node_before t.nodes spot) spot c t ]) e in
        told (with_char c t) (t.nodes, same)
    by_place false e =
        let same : with_char c t ≡ text_behind (node_before t.nodes spot) spot c t =
        ap (λ (b : Bool). elim b [ true ↦ t | false ↦ text_behind (node_before t.nodes spot) spot c t ]) e in
        let h = by_node (node_before t.nodes spot) in
        told (with_char c t) (h.0, same ∙ h.1)

-- nodes look as before
pub char_looks : (c : ℕ) (t : GrowingTree) (n : ℕ) → Looks (kind_of t n) (kind_of (with_char c t) n)
char_looks c t n = by_place (place_is_document t (place t)) refl
  where
    spot : Place
    spot = place t

    same_look : Looks (kind_of t n) (kind_of t n)
    same_look = record { key = refl; contents = refl; document = refl; space = refl; attrs = refl }

    by_place : (b : Bool) → place_is_document t (place t) ≡ b → Looks (kind_of t n) (kind_of (with_char c t) n)
    by_place true e =
        let same : with_char c t ≡ t = ap (λ (b : Bool). elim b [ true ↦ t | false ↦ text_behind (node_before t.nodes spot) spot c t ]) e in
        subst (λ (u : GrowingTree). Looks (kind_of t n) (kind_of u n)) (sym same) same_look
    by_place false e =
        let same : with_char c t ≡ text_behind (node_before t.nodes spot) spot c t =
        ap (λ (b : Bool). elim b [ true ↦ t | false ↦ text_behind (node_before t.nodes spot) spot c t ]) e in
        subst (λ (nodes : List Node). Looks (kind_of t n) (node_at nodes n).kind) (sym (ap (λ (u : GrowingTree). u.nodes) same ∙ char_is t spot c))
        (looks_kept t.nodes spot (c ∷ []) n)

-- ---- the dispatcher

-- what the dispatcher asks of a kind
abbrev by_parts : Space → List ℕ → List NodeAttr → Bool
by_parts space key attrs =
    is_html space || (is_among key text_points || (is_among key html_points || (is_among key (codes "math annotation-xml" ∷ []) && has_value (codes "encoding") html_encodings attrs)))

takes_alike : (old new : Kind) → Looks old new → takes_characters new ≡ takes_characters old
takes_alike old new same =
    ap (λ (space : Space). by_parts space (key_in new) (attrs_in new)) same.space
    ∙ ap (λ (key : List ℕ). by_parts (space_in old) key (attrs_in new)) same.key
    ∙ ap (λ (attrs : List NodeAttr). by_parts (space_in old) (key_in old) attrs) same.attrs

adjusted_alike : (single : Bool) (context : Option Kind) (old new : Kind) → takes_characters new ≡ takes_characters old →
    takes_characters (cond single (unwrap_or context new) new) ≡ takes_characters (cond single (unwrap_or context old) old)
adjusted_alike true None old new e = e
adjusted_alike true (Some kind) old new e = refl
adjusted_alike false context old new e = e

-- a tree that takes characters by the rules for the current mode, and has no active formatting element to be reconstructed
pub record IsSettled (t : GrowingTree) : Type 0 where
  pub mode : goes_to_mode t ≡ true
  pub none : closed_in t ≡ []

pub char_mode : (c : ℕ) (t : GrowingTree) → goes_to_mode (with_char c t) ≡ goes_to_mode t
char_mode c t =
    let u : GrowingTree = record t { nodes = (with_char c t).nodes } in
    ap goes_to_mode (char_nodes c t)
    ∙ ap (λ (b : Bool). is_empty t.stack || b) (adjusted_alike (is_single t.stack) t.context (kind_of t (current t)) (kind_of u (current t)) (takes_alike _ _ (char_looks c t (current t))))

pub char_closed : (c : ℕ) (t : GrowingTree) → closed_in (with_char c t) ≡ closed_in t
char_closed c t = ap closed_in (char_nodes c t)

pub char_settled : (c : ℕ) (t : GrowingTree) → IsSettled t → IsSettled (with_char c t)
char_settled c t is = record { mode = char_mode c t ∙ is.mode; none = char_closed c t ∙ is.none }

-- ---- elements that are opened again

made_kind : (space : Space) (name : List ℕ) (attrs : List NodeAttr) (t : GrowingTree) → space_in (kind_of (created_element space name attrs t) (fresh t)) ≡ space
made_kind space name attrs t = by (is_template space name)
  where
    by : (b : Bool) → space_in (kind_of (elim b [
      | true ↦ created ContentsNode (created (ElementNode space name attrs (Some (suc (fresh t)))) t)
      | false ↦ created (ElementNode space name attrs None) t
    ]) (fresh t)) ≡ space
    by true =
        let one : Node = leaf (ElementNode space name attrs (Some (suc (fresh t)))) in
        let long = length_nodes t.nodes one in
        ap (λ (node : Node). space_in node.kind) (old_node (t.nodes ++ one ∷ []) (leaf ContentsNode) (length t.nodes) (omega (arith, long)) ∙ new_node t.nodes one)
    by false = ap (λ (node : Node). space_in node.kind) (new_node t.nodes (leaf (ElementNode space name attrs None)))

made_stack : (space : Space) (name : List ℕ) (attrs : List NodeAttr) (t : GrowingTree) → (created_element space name attrs t).stack ≡ t.stack
made_stack space name attrs t = by (is_template space name)
  where
    by : (b : Bool) → (let u : GrowingTree = elim b [
      | true ↦ created ContentsNode (created (ElementNode space name attrs (Some (suc (fresh t)))) t)
      | false ↦ created (ElementNode space name attrs None) t
    ] in u.stack) ≡ t.stack
    by true = refl
    by false = refl

inserted_mode : (name : List ℕ) (attrs : List NodeAttr) (t : GrowingTree) → is_empty t.stack ≡ false → goes_to_mode (inserted Html name attrs t) ≡ true
inserted_mode name attrs t some = by made.stack refl
  where
    made : GrowingTree
    made = created_element Html name attrs t

    after : GrowingTree
    after = inserted Html name attrs t

    html : space_in (kind_of after (fresh t)) ≡ Html
    html =
        ap space_in (kind_from (put_at (fresh t) (place t) made.nodes) made.nodes (fresh t) (kinds_put (fresh t) (place t) made.nodes))
        ∙ made_kind Html name attrs t

    by : (s : List ℕ) → made.stack ≡ s → goes_to_mode after ≡ true
    by [] e = absurd (true≢false (sym (ap is_empty (sym (made_stack Html name attrs t) ∙ e)) ∙ some))
    by (m ∷ ms) e =
        ap (λ (s : List ℕ). takes_characters (cond (is_single (fresh t ∷ s)) (unwrap_or after.context (kind_of after (fresh t))) (kind_of after (fresh t)))) e
        ∙ ap (λ (space : Space). by_parts space (key_in (kind_of after (fresh t))) (attrs_in (kind_of after (fresh t)))) html

reopened_mode : (ns : List ℕ) (t : GrowingTree) → is_empty t.stack ≡ false → goes_to_mode t ≡ true → goes_to_mode (reopened ns t) ≡ true
reopened_mode [] t some mode = mode
reopened_mode (n ∷ ns) t some mode =
    let after : GrowingTree = inserted Html (local_of t n) (attrs_of t n) t in
    reopened_mode ns (record after { listed = Formatting (current after) ∷ after.listed }) refl (inserted_mode (local_of t n) (attrs_of t n) t some)

pub settles : (t : GrowingTree) → is_empty t.stack ≡ false → goes_to_mode t ≡ true → IsSettled (reconstructed t)
settles t some mode = record {
  mode = reopened_mode (reverse (closed_in t)) (record t { listed = drop (length (closed_in t)) t.listed }) some mode;
  none = none_closed t;
}
