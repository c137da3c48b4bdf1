-- What the actions of the definition make of the list of nodes.
use Rattle.std.proofs.Common.{◌≡◌, ℕ, suc, Bool, true, false, List, refl, sym, ap, ◌∙◌, length, Some, None}
use Rattle.std.specs.Prelude.{cond}
use Rattle.standard_trees.specs.Formatting.{attrs_of, copied, local_of, wrapped}
use Rattle.standard_trees.specs.GrowingTree.{GrowingTree, created, created_element, fresh, inserted_at, is_template, kind_of, with_comment}
use Rattle.standard_trees.specs.TreeStore.{CommentNode, ContentsNode, ElementNode, Html, Kind, NodeAttr, Place, Space, put_at, space_in}
use Rattle.page_trees.specs.SameNodes.{with_copy, with_kind, with_kind_at, wrapped_by}

pub comment_nodes : (text : List ℕ) (spot : Place) (t : GrowingTree) → (with_comment text spot t).nodes ≡ with_kind_at (CommentNode text) spot t.nodes
comment_nodes text spot t = refl

-- the kind of the element that is created for a token, as the next node
abbrev pub created_kind : Space → List ℕ → List NodeAttr → ℕ → Kind
created_kind space name attrs next = ElementNode space name attrs (cond (is_template space name) (Some (suc next)) None)

pub element_nodes : (space : Space) (name : List ℕ) (attrs : List NodeAttr) (t : GrowingTree) →
    (created_element space name attrs t).nodes ≡ with_kind (created_kind space name attrs (length t.nodes)) t.nodes
element_nodes space name attrs t = by (is_template space name)
  where
    by : (b : Bool) → (let u : GrowingTree = elim b [
      | true ↦ created ContentsNode (created (ElementNode space name attrs (Some (suc (fresh t)))) t)
      | false ↦ created (ElementNode space name attrs None) t
    ] in u.nodes) ≡ with_kind (ElementNode space name attrs (cond b (Some (suc (length t.nodes))) None)) t.nodes
    by true = refl
    by false = refl

pub inserted_nodes : (spot : Place) (space : Space) (name : List ℕ) (attrs : List NodeAttr) (t : GrowingTree) →
    (inserted_at spot space name attrs t).nodes ≡ with_kind_at (created_kind space name attrs (length t.nodes)) spot t.nodes
inserted_nodes spot space name attrs t = ap (put_at (length t.nodes) spot) (element_nodes space name attrs t)

-- a formatting element is in the HTML namespace, and no template
pub copy_nodes : (t : GrowingTree) (n : ℕ) → space_in (kind_of t n) ≡ Html → is_template Html (local_of t n) ≡ false → (copied n t).nodes ≡ with_copy n t.nodes
copy_nodes t n html plain =
    element_nodes Html (local_of t n) (attrs_of t n) t
    ∙ ap (λ (b : Bool). with_kind (ElementNode Html (local_of t n) (attrs_of t n) (cond b (Some (suc (length t.nodes))) None)) t.nodes) plain
    ∙ ap (λ (space : Space). with_kind (ElementNode space (local_of t n) (attrs_of t n) None) t.nodes) (sym html)

pub wrapped_nodes : (block new : ℕ) (t : GrowingTree) → (wrapped block new t).nodes ≡ wrapped_by block new t.nodes
wrapped_nodes block new t = refl
