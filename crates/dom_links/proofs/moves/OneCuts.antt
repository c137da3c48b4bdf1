-- A node is detached: which links the nodes then have.
use Rattle.std.proofs.Common.{ℕ, ◌≡◌, ◌<◌, true, false, List, [], ◌∷◌, Option, Some, None, refl, sym, ap, ◌∙◌, arith, cond, inl, inr, length}
use Rattle.std.specs.Prelude.{◌==◌, ◌&&◌}
use Rattle.std.specs.Option.{is_none}
use Rattle.std.proofs.lemmas.Bool.{cases_Bool, true≢false, eq-eqb, eqb-true, eqb-false}
use Rattle.dom_nodes.specs.declared.node_data.TreeNode.{TreeNode}
use Rattle.dom_links.specs.Lists.{is_member, IsDistinct, first, last, after, before, without, names}
use Rattle.dom_links.specs.Forest.{Forest, StandsOnce, AreLinks, IsArenaOf, children_of, parent, siblings}
use Rattle.dom_links.specs.Moves.{detach}
use Rattle.dom_links.specs.Writes.{Joined, LinksSet}
use Rattle.dom_links.proofs.forest.Neighbours.{without_one-none, after_cut, before_cut, first_cut, last_cut, names-true, names-same, before-stands, after-stands}
use Rattle.dom_links.proofs.forest.Places.{siblings_child, siblings_once, Beside, beside}
use Rattle.dom_links.proofs.moves.Cuts.{children-detach, length-contents, no_other, one-stands, one_here, parent-detach}
use Rattle.dom_links.proofs.moves.BlockCuts.{once-detach, siblings-cut_in, siblings-cut_out}

-- whose list x isn't in
no_neighbour : (forest : Forest) (x n : ℕ) (o : Option ℕ) → StandsOnce forest → x < length forest.content → is_member x (siblings forest n) ≡ false →
    (o ≡ Some n → is_member n (siblings forest x) ≡ true) → names o n ≡ false
no_neighbour forest x n o once hx f stands = elim (cases_Bool (names o n)) [
  | inl t ↦ (let same = Beside.same_siblings (beside forest x n once (stands (names-true o n t))) in
      absurd (true≢false (sym (once.placed x hx) ∙ ap (is_member x) (sym same) ∙ f)))
  | inr g ↦ g
]

-- a step to a neighbour: only the node on the other side of x gets another one
step-detach : (step back : List ℕ → ℕ → Option ℕ) →
    ((ns : List ℕ) (x n : ℕ) → IsDistinct ns → is_member x ns ≡ true → (x ≡ n → ⊥) → step (without (x ∷ []) ns) n ≡ cond (names (back ns x) n) (step ns x) (step ns n)) →
    ((ns : List ℕ) (x n : ℕ) → back ns x ≡ Some n → is_member n ns ≡ true) → (forest : Forest) (x n : ℕ) → StandsOnce forest → x < length forest.content → n < length forest.content → (x ≡ n → ⊥) →
    step (siblings (detach (x ∷ []) forest) n) n ≡ cond (names (back (siblings forest x) x) n) (step (siblings forest x) x) (step (siblings forest n) n)
step-detach step back less stands forest x n once hx hn ne =
    rw (siblings-cut_out forest (x ∷ []) n once hn (no_other n x ne))
    (elim (cases_Bool (is_member x (siblings forest n))) [
      | inl t ↦ rw (Beside.same_siblings (beside forest n x once t)) (less (siblings forest n) x n (siblings_once forest n once) t ne)
      | inr f ↦ (let other = no_neighbour forest x n (back (siblings forest x) x) once hx f (stands (siblings forest x) x n) in rw (without_one-none (siblings forest n) x f, other) refl)
    ])

-- whose child x isn't
not_parent : (forest : Forest) (x p : ℕ) → StandsOnce forest → x < length forest.content → is_member x (children_of forest p) ≡ false → names (parent forest x) p ≡ false
not_parent forest x p once hx f = elim (cases_Bool (names (parent forest x) p)) [
  | inl t ↦ (let some : parent forest x ≡ Some p = names-true (parent forest x) p t in
      absurd (true≢false (sym (once.placed x hx) ∙ ap (is_member x) (siblings_child forest x p some) ∙ f)))
  | inr g ↦ g
]

-- an end of a list of children, where x is the last one on the near side
end-detach : (end : List ℕ → Option ℕ) (near far : List ℕ → ℕ → Option ℕ) →
    ((ns : List ℕ) (x : ℕ) → IsDistinct ns → is_member x ns ≡ true → end (without (x ∷ []) ns) ≡ cond (is_none (near ns x)) (far ns x) (end ns)) →
    (forest : Forest) (x p : ℕ) → StandsOnce forest → x < length forest.content →
    end (children_of (detach (x ∷ []) forest) p) ≡ cond (is_none (near (siblings forest x) x) && names (parent forest x) p) (far (siblings forest x) x) (end (children_of forest p))
end-detach end near far less forest x p once hx =
    rw (children-detach (x ∷ []) forest p)
    (elim (cases_Bool (is_member x (children_of forest p))) [
      | inl t ↦ (let some : parent forest x ≡ Some p = (once.in_children p x t).1 in
          let named : names (parent forest x) p ≡ true = ap (λ o. names o p) some ∙ names-same p in
          rw (named, siblings_child forest x p some)
          (less (children_of forest p) x (once.children_once p) t
          ∙ (elim (is_none (near (children_of forest p) x)) as (λ t. cond t (far (children_of forest p) x) (end (children_of forest p)) ≡ cond (t && true) (far (children_of forest p) x) (end (children_of forest p))) [ true ↦ refl | false ↦ refl ])))
      | inr f ↦ rw (without_one-none (children_of forest p) x f, not_parent forest x p once hx f)
          (elim (is_none (near (siblings forest x) x)) as (λ t. end (children_of forest p) ≡ cond (t && false) (far (siblings forest x) x) (end (children_of forest p))) [ true ↦ refl | false ↦ refl ])
    ])

-- The two writes of a detachment make the links of the forest without x in its list
pub links-detach : (forest : Forest) (old joined new : List TreeNode) (x : ℕ) → StandsOnce forest → AreLinks forest old → x < length old →
    Joined old joined (parent forest x) (before (siblings forest x) x) (after (siblings forest x) x) → LinksSet joined new x None None None →
    AreLinks (detach (x ∷ []) forest) new
links-detach forest old joined new x once links hx join place =
    let long : length old ≡ length forest.content = length-contents forest old links in
    let same : length new ≡ length old = place.same_length ∙ join.same_length in
    let hx' : x < length forest.content = omega arith in
    record {
      contents = place.contents ∙ join.contents ∙ links.contents;
      ids = λ n h. rw (place.ids, join.ids) (links.ids n (omega arith));
      parents = λ n h. rw (place.parents n, join.parents n, parent-detach (x ∷ []) forest n, one-stands x n, links.parents n (omega arith)) refl;
      prevs = λ n h. rw (place.prevs n, join.prevs n, links.prevs n (omega arith))
          (elim (cases_Bool (x == n)) [
            | inl t ↦ rw (t, ← eqb-true x n t, siblings-cut_in forest (x ∷ []) x once hx' (one_here x)) (rw (eq-eqb x x refl) refl)
            | inr f ↦ rw f (sym (step-detach before after before_cut after-stands forest x n once hx' (omega arith) (eqb-false x n f)))
          ]);
      nexts = λ n h. rw (place.nexts n, join.nexts n, links.nexts n (omega arith))
          (elim (cases_Bool (x == n)) [
            | inl t ↦ rw (t, ← eqb-true x n t, siblings-cut_in forest (x ∷ []) x once hx' (one_here x)) (rw (eq-eqb x x refl) refl)
            | inr f ↦ rw f (sym (step-detach after before after_cut before-stands forest x n once hx' (omega arith) (eqb-false x n f)))
          ]);
      firsts = λ n h. rw (place.firsts n, join.firsts n, links.firsts n (omega arith)) (sym (end-detach first before after first_cut forest x n once hx'));
      lasts = λ n h. rw (place.lasts n, join.lasts n, links.lasts n (omega arith)) (sym (end-detach last after before last_cut forest x n once hx'));
    }

pub arena-detach : (forest : Forest) (old joined new : List TreeNode) (x : ℕ) (owner left right : Option ℕ) → IsArenaOf forest old → x < length old →
    owner ≡ parent forest x → left ≡ before (siblings forest x) x → right ≡ after (siblings forest x) x →
    Joined old joined owner left right → LinksSet joined new x None None None → IsArenaOf (detach (x ∷ []) forest) new
arena-detach forest old joined new x owner left right arena h o l r join place =
    let long : length old ≡ length forest.content = length-contents forest old arena.links in
    record {
      once = once-detach forest x arena.once (omega arith);
      links = links-detach forest old joined new x arena.once arena.links h (rw (o, l, r) at join) place;
    }
