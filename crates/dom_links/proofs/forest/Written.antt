-- What the links of an arena are after one node is written.
use Rattle.std.proofs.Common.{ℕ, zero, suc, ◌≡◌, ◌<◌, false, List, [], ◌∷◌, Option, Some, None, refl, sym, ap, ◌∙◌, arith, cond, inl, inr, length, get_or, map}
use Rattle.std.specs.Prelude.{◌==◌, slice_get, slice_set, option_and_then}
use Rattle.std.proofs.lemmas.List.{length-set}
use Rattle.std.proofs.lemmas.Bool.{cases_eq, eq-eqb, ne_eqb}
use Rattle.dom_nodes.specs.declared.node_data.TreeNode.{TreeNode}
use Rattle.dom_links.specs.Forest.{parent_link, prev_link, next_link, first_link, last_link}
use Rattle.dom_links.specs.Writes.{Relinked, RightSet, LeftSet, LinksSet}

pub eqb-suc : (m n : ℕ) → (suc m == suc n) ≡ (m == n)
eqb-suc m n = elim (cases_eq m n) [
  | inl e ↦ eq-eqb (suc m) (suc n) (omega arith) ∙ sym (eq-eqb m n e)
  | inr ne ↦ ne_eqb (suc m) (suc n) (λ e. ne (omega arith)) ∙ sym (ne_eqb m n ne)
]

-- a link that the write gives
pub link-set : (field : TreeNode → Option ℕ) (nodes : List TreeNode) (i : ℕ) (node : TreeNode) → i < length nodes → (n : ℕ) →
    option_and_then field (slice_get (slice_set nodes i node) n) ≡ cond (i == n) (field node) (option_and_then field (slice_get nodes n))
link-set field [] i node h n = absurd (omega arith)
link-set field (x ∷ nodes) zero node h zero = refl
link-set field (x ∷ nodes) zero node h (suc n) = let e : (0 == suc n) ≡ false = ne_eqb 0 (suc n) (λ e. omega arith) in rw e refl
link-set field (x ∷ nodes) (suc i) node h zero = let e : (suc i == 0) ≡ false = ne_eqb (suc i) 0 (λ e. omega arith) in rw e refl
link-set field (x ∷ nodes) (suc i) node h (suc n) = rw (eqb-suc i n) (link-set field nodes i node (omega arith) n)

-- a link that the write keeps
pub link-kept : (field : TreeNode → Option ℕ) (nodes : List TreeNode) (i : ℕ) (node d : TreeNode) → i < length nodes → field node ≡ field (get_or nodes i d) → (n : ℕ) →
    option_and_then field (slice_get (slice_set nodes i node) n) ≡ option_and_then field (slice_get nodes n)
link-kept field [] i node d h e n = absurd (omega arith)
link-kept field (x ∷ nodes) zero node d h e zero = e
link-kept field (x ∷ nodes) zero node d h e (suc n) = refl
link-kept field (x ∷ nodes) (suc i) node d h e zero = refl
link-kept field (x ∷ nodes) (suc i) node d h e (suc n) = link-kept field nodes i node d (omega arith) e n

pub map-kept : {X : Type 0} (f : TreeNode → X) (nodes : List TreeNode) (i : ℕ) (node d : TreeNode) → i < length nodes → f node ≡ f (get_or nodes i d) →
    map f (slice_set nodes i node) ≡ map f nodes
map-kept f [] i node d h e = refl
map-kept f (x ∷ nodes) zero node d h e = ap (λ y. y ∷ map f nodes) e
map-kept f (x ∷ nodes) (suc i) node d h e = ap (λ ys. f x ∷ ys) (map-kept f nodes i node d (omega arith) e)

-- a node is written that keeps its data and number
relinked : (nodes : List TreeNode) (i : ℕ) (node d : TreeNode) {above on back down end : ℕ → Option ℕ} → i < length nodes → node.content ≡ (get_or nodes i d).content → node.id ≡ (get_or nodes i d).id →
    ((n : ℕ) → parent_link (slice_set nodes i node) n ≡ above n) → ((n : ℕ) → next_link (slice_set nodes i node) n ≡ on n) → ((n : ℕ) → prev_link (slice_set nodes i node) n ≡ back n) →
    ((n : ℕ) → first_link (slice_set nodes i node) n ≡ down n) → ((n : ℕ) → last_link (slice_set nodes i node) n ≡ end n) → Relinked nodes (slice_set nodes i node) above on back down end
relinked nodes i node d h content number parents nexts prevs firsts lasts = record {
  same_length = length-set nodes i node;
  contents = map-kept (λ x. x.content) nodes i node d h content;
  ids = map-kept (λ x. x.id) nodes i node d h number;
  parents = parents;
  nexts = nexts;
  prevs = prevs;
  firsts = firsts;
  lasts = lasts;
}

pub next_written : (nodes : List TreeNode) (i : ℕ) (d : TreeNode) (owner left right : Option ℕ) → i < length nodes → left ≡ Some i →
    RightSet nodes (slice_set nodes i (record (get_or nodes i d) { next_sibling = right })) owner left right
next_written nodes i d owner left right h e =
    let node : TreeNode = record (get_or nodes i d) { next_sibling = right } in
    rw e (relinked nodes i node d h refl refl (link-kept (λ x. x.parent) nodes i node d h refl) (link-set (λ x. x.next_sibling) nodes i node h)
    (link-kept (λ x. x.prev_sibling) nodes i node d h refl) (link-kept (λ x. x.first_child) nodes i node d h refl) (link-kept (λ x. x.last_child) nodes i node d h refl))

pub first_written : (nodes : List TreeNode) (i : ℕ) (d : TreeNode) (owner left right : Option ℕ) → i < length nodes → left ≡ None → owner ≡ Some i →
    RightSet nodes (slice_set nodes i (record (get_or nodes i d) { first_child = right })) owner left right
first_written nodes i d owner left right h e o =
    let node : TreeNode = record (get_or nodes i d) { first_child = right } in
    rw (e, o) (relinked nodes i node d h refl refl (link-kept (λ x. x.parent) nodes i node d h refl) (link-kept (λ x. x.next_sibling) nodes i node d h refl)
    (link-kept (λ x. x.prev_sibling) nodes i node d h refl) (link-set (λ x. x.first_child) nodes i node h) (link-kept (λ x. x.last_child) nodes i node d h refl))

pub prev_written : (nodes : List TreeNode) (i : ℕ) (d : TreeNode) (owner right left : Option ℕ) → i < length nodes → right ≡ Some i →
    LeftSet nodes (slice_set nodes i (record (get_or nodes i d) { prev_sibling = left })) owner right left
prev_written nodes i d owner right left h e =
    let node : TreeNode = record (get_or nodes i d) { prev_sibling = left } in
    rw e (relinked nodes i node d h refl refl (link-kept (λ x. x.parent) nodes i node d h refl) (link-kept (λ x. x.next_sibling) nodes i node d h refl)
    (link-set (λ x. x.prev_sibling) nodes i node h) (link-kept (λ x. x.first_child) nodes i node d h refl) (link-kept (λ x. x.last_child) nodes i node d h refl))

pub last_written : (nodes : List TreeNode) (i : ℕ) (d : TreeNode) (owner right left : Option ℕ) → i < length nodes → right ≡ None → owner ≡ Some i →
    LeftSet nodes (slice_set nodes i (record (get_or nodes i d) { last_child = left })) owner right left
last_written nodes i d owner right left h e o =
    let node : TreeNode = record (get_or nodes i d) { last_child = left } in
    rw (e, o) (relinked nodes i node d h refl refl (link-kept (λ x. x.parent) nodes i node d h refl) (link-kept (λ x. x.next_sibling) nodes i node d h refl)
    (link-kept (λ x. x.prev_sibling) nodes i node d h refl) (link-kept (λ x. x.first_child) nodes i node d h refl) (link-set (λ x. x.last_child) nodes i node h))

pub place_written : (nodes : List TreeNode) (i x : ℕ) (d : TreeNode) (parent prev next : Option ℕ) → i < length nodes → i ≡ x →
    LinksSet nodes (slice_set nodes i (record (get_or nodes i d) { parent = parent; prev_sibling = prev; next_sibling = next })) x parent prev next
place_written nodes i x d parent prev next h e =
    let node : TreeNode = record (get_or nodes i d) { parent = parent; prev_sibling = prev; next_sibling = next } in
    rw (← e) (relinked nodes i node d h refl refl (link-set (λ x. x.parent) nodes i node h) (link-set (λ x. x.next_sibling) nodes i node h)
    (link-set (λ x. x.prev_sibling) nodes i node h) (link-kept (λ x. x.first_child) nodes i node d h refl) (link-kept (λ x. x.last_child) nodes i node d h refl))

-- a link that is read
pub link-read : (field : TreeNode → Option ℕ) (nodes : List TreeNode) (i : ℕ) (d : TreeNode) → i < length nodes → field (get_or nodes i d) ≡ option_and_then field (slice_get nodes i)
link-read field [] i d h = absurd (omega arith)
link-read field (x ∷ nodes) zero d h = refl
link-read field (x ∷ nodes) (suc i) d h = link-read field nodes i d (omega arith)
