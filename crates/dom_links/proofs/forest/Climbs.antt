-- Going up from a node, by parents and by hosts of contents.
use Rattle.std.proofs.Common.{ℕ, zero, suc, ◌≡◌, ◌<◌, ◌≤◌, ◌+◌, true, false, List, [], ◌∷◌, Option, Some, None, refl, sym, ap, ◌∙◌, subst, arith, inl, inr, length, get_or}
use Rattle.std.specs.Prelude.{◌==◌, ◌||◌, slice_get, option_and_then}
use Rattle.std.specs.Option.{option_map_or, IfSome}
use Rattle.std.proofs.lemmas.Bool.{cases_Bool, eqb-true, cases_lt}
use Rattle.std.proofs.lemmas.Option.{slice_get_past, slice_get_read}
use Rattle.dom_nodes.specs.declared.node_data.NodeData.{NodeData}
use Rattle.dom_nodes.specs.declared.node_data.NodeData.TheVariants.{Document, Element, Fragment}
use Rattle.dom_nodes.specs.declared.node_data.TreeNode.{TreeNode}
use Rattle.dom_nodes.specs.Kinds.{children_allowed, contents_named, is_element, is_fragment, is_top}
use Rattle.dom_links.specs.Lists.{is_member, IsDistinct, first}
use Rattle.dom_links.specs.Forest.{Forest, IsArenaOf, StandsOnce, children_of, parent, contents_of, arena_ids}
use Rattle.dom_links.specs.Sound.{IsParentOrHost, IsHostAncestor, one_step, then_step, contents_at, IsForest, AtOrBelow}
use Rattle.dom_links.proofs.moves.Cuts.{length-contents, parent_known}
use Rattle.dom_links.proofs.forest.Chains.{length_below}
use Rattle.dom_links.proofs.forest.Nodes.{node_read}
use Rattle.dom_links.proofs.forest.Places.{siblings_child}
use Rattle.dom_links.proofs.moves.Acyclicity.{further, onward}
use Rattle.dom_links.proofs.forest.Neighbours.{first_none}
use Rattle.dom_links.proofs.forest.Grown.{new_parentless}

contents_read : (nodes : List TreeNode) (m : ℕ) (d : TreeNode) → m < length nodes → option_and_then contents_named (slice_get (contents_of nodes) m) ≡ contents_named (get_or nodes m d).content
contents_read [] m d h = absurd (omega arith)
contents_read (x ∷ nodes) zero d h = refl
contents_read (x ∷ nodes) (suc m) d h = contents_read nodes m d (omega arith)

pub contents_at-read : (forest : Forest) (nodes : List TreeNode) (m : ℕ) (d : TreeNode) → IsArenaOf forest nodes → m < length nodes → contents_at forest m ≡ contents_named (get_or nodes m d).content
contents_at-read forest nodes m d arena h = ap (λ contents. option_and_then contents_named (slice_get contents m)) (sym arena.links.contents) ∙ contents_read nodes m d h

pub contents_at-known : (forest : Forest) (m c : ℕ) → contents_at forest m ≡ Some c → m < length forest.content
contents_at-known forest m c e = elim (cases_lt m (length forest.content)) [
  | inl h ↦ h
  | inr past ↦ (let none : contents_at forest m ≡ None = ap (option_and_then contents_named) (slice_get_past forest.content m past) in cc)
]

id_read : (nodes : List TreeNode) (m : ℕ) (d : TreeNode) → m < length nodes → slice_get (arena_ids nodes) m ≡ Some (get_or nodes m d).id
id_read [] m d h = absurd (omega arith)
id_read (x ∷ nodes) zero d h = refl
id_read (x ∷ nodes) (suc m) d h = id_read nodes m d (omega arith)

pub id_is_place : (forest : Forest) (nodes : List TreeNode) (m : ℕ) (d : TreeNode) → IsArenaOf forest nodes → m < length nodes → (get_or nodes m d).id ≡ m
id_is_place forest nodes m d arena h = let two = sym (id_read nodes m d h) ∙ arena.links.ids m h in cc

pub element_bears : (content : NodeData) → is_element content ≡ true → children_allowed content ≡ true
element_bears (Element element) e = refl
element_bears _ e = cc

pub fragment_is_top : (o : Option NodeData) → option_map_or is_fragment o false ≡ true → option_map_or is_top o false ≡ true
fragment_is_top None h = h
fragment_is_top (Some Document) h = refl
fragment_is_top (Some Fragment) h = refl
fragment_is_top _ h = cc

-- a held fragment has no parent
held : (forest : Forest) (a p n : ℕ) → IsForest forest → n < length forest.content → contents_at forest a ≡ Some n → parent forest n ≡ Some p → {X : Type 0} → X
held forest a p n good h c q =
    let top = fragment_is_top (slice_get forest.content n) (good.contents_known a n c).1 in
    let none = (good.alone n h (elim (n == 0) as (λ t. (t || option_map_or is_top (slice_get forest.content n) false) ≡ true) [ true ↦ refl | false ↦ top ])).0 in
    cc

-- only one node has a step to n
pub one_above : (forest : Forest) (a b n : ℕ) → IsForest forest → n < length forest.content → IsParentOrHost forest a n → IsParentOrHost forest b n → a ≡ b
one_above forest a b n good h (inl p) (inl q) = cc
one_above forest a b n good h (inr c) (inr d) = good.contents_once a b n c d
one_above forest a b n good h (inl p) (inr d) = held forest b a n good h d p
one_above forest a b n good h (inr c) (inl q) = held forest a b n good h c q

-- how far a climb from t to n has come: it met these nodes, none of which is x
pub record Climb (forest : Forest) (t x n steps : ℕ) : Type 0 where
  pub met : List ℕ
  pub met_once : IsDistinct met
  pub counted : length met ≡ steps
  pub met_known : (m : ℕ) → is_member m met ≡ true → (m < length forest.content) × IsHostAncestor forest n m
  pub known : n < length forest.content
  pub onto : AtOrBelow forest x t → AtOrBelow forest x n
  pub back : AtOrBelow forest x n → AtOrBelow forest x t

step_known : (forest : Forest) (nodes : List TreeNode) (m n : ℕ) → IsArenaOf forest nodes → n < length forest.content → IsParentOrHost forest m n → m < length forest.content
step_known forest nodes m n arena h (inr c) = contents_at-known forest m n c
step_known forest nodes m n arena h (inl p) =
    let long = length-contents forest nodes arena.links in
    let known : m < length nodes = subst (λ o. IfSome o (λ k. k < length nodes)) p (parent_known forest nodes n (parent forest n) arena (omega arith) refl) in
    omega arith

last_step : (forest : Forest) (x above n : ℕ) → IsForest forest → n < length forest.content → IsParentOrHost forest above n → IsHostAncestor forest x n → AtOrBelow forest x above
last_step forest _ above _ good h up (one_step x n step) = inl (one_above forest x above n good h step up)
last_step forest _ above _ good h up (then_step x k n way step) = inr (subst (IsHostAncestor forest x) (one_above forest k above n good h step up) way)

pub climb_more : (forest : Forest) (nodes : List TreeNode) (t x n above steps : ℕ) → IsArenaOf forest nodes → IsForest forest → Climb forest t x n steps → (n ≡ x → ⊥) → IsParentOrHost forest above n → Climb forest t x above (steps + 1)
climb_more forest nodes t x n above steps arena good climb ne up = record {
  met = n ∷ climb.met;
  met_once = (elim (cases_Bool (is_member n climb.met)) [ inr f ↦ f | inl s ↦ absurd (good.acyclic n (climb.met_known n s).1) ], climb.met_once);
  counted = (let c = climb.counted in omega arith);
  met_known = λ m s. elim (cases_Bool (n == m)) [
    | inl e ↦ (let is = eqb-true n m e in (subst (λ (k : ℕ). k < length forest.content) is climb.known, subst (IsHostAncestor forest above) is (one_step above n up)))
    | inr f ↦ (let there = climb.met_known m (rw f at s) in (there.0, onward forest above n m (one_step above n up) there.1))
  ];
  known = step_known forest nodes above n arena climb.known up;
  onto = λ w. (elim (climb.onto w) [ inl e ↦ absurd (ne (sym e)) | inr way ↦ last_step forest x above n good climb.known up way ]);
  back = λ w. climb.back (inr (further forest x above n w up));
}

pub climb_ends : (forest : Forest) (t x n steps : ℕ) → IsForest forest → Climb forest t x n steps → length forest.content ≤ steps → ⊥
climb_ends forest t x n steps good climb h =
    let once : is_member n climb.met ≡ false = elim (cases_Bool (is_member n climb.met)) [ inr f ↦ f | inl s ↦ absurd (good.acyclic n (climb.met_known n s).1) ] in
    let few : length (n ∷ climb.met) ≤ length forest.content = length_below (n ∷ climb.met) (length forest.content) (once, climb.met_once)
    (λ m s. elim (cases_Bool (n == m)) [
      | inl e ↦ subst (λ (k : ℕ). k < length forest.content) (eqb-true n m e) climb.known
      | inr f ↦ (climb.met_known m (rw f at s)).0
    ]) in
    omega (arith, climb.counted)

pub no_way : (forest : Forest) (x n : ℕ) → ((m : ℕ) → IsParentOrHost forest m n → ⊥) → IsHostAncestor forest x n → ⊥
no_way forest _ _ none (one_step x n step) = none x step
no_way forest _ _ none (then_step x k n way step) = none k step

pub free_at_top : (forest : Forest) (t x n steps : ℕ) → Climb forest t x n steps → (n ≡ x → ⊥) → ((m : ℕ) → IsParentOrHost forest m n → ⊥) → AtOrBelow forest x t → ⊥
free_at_top forest t x n steps climb ne none w = elim (climb.onto w) [ inl e ↦ ne (sym e) | inr way ↦ no_way forest x n none way ]

pub met_it : (forest : Forest) (t x n steps : ℕ) → Climb forest t x n steps → n ≡ x → AtOrBelow forest x t
met_it forest t x n steps climb e = climb.back (inl (sym e))

pub holder_found : (forest : Forest) (nodes : List TreeNode) (i k n : ℕ) (node : TreeNode) → IsArenaOf forest nodes → i < length nodes → node ≡ get_or nodes i node → contents_named node.content ≡ Some k → k ≡ n →
    contents_at forest node.id ≡ Some n
holder_found forest nodes i k n node arena h is holds e =
    let id : node.id ≡ i = ap (λ x. x.id) is ∙ id_is_place forest nodes i node arena h in
    ap (contents_at forest) id ∙ contents_at-read forest nodes i node arena h ∙ ap (λ x. contents_named x.content) (sym is) ∙ holds ∙ ap Some e

pub holder_passed : (forest : Forest) (nodes : List TreeNode) (i n : ℕ) (node : TreeNode) → IsArenaOf forest nodes → i < length nodes → node ≡ get_or nodes i node → (contents_named node.content ≡ Some n → ⊥) →
    contents_at forest i ≡ Some n → ⊥
holder_passed forest nodes i n node arena h is other holds =
    other (ap (λ x. contents_named x.content) is ∙ sym (contents_at-read forest nodes i node arena h) ∙ holds)

child_stands : (forest : Forest) (n p : ℕ) → StandsOnce forest → parent forest n ≡ Some p → is_member n (children_of forest p) ≡ true
child_stands forest n p once child =
    let known : n < length forest.content = elim (cases_lt n (length forest.content)) [ inl h ↦ h | inr past ↦ (let none = new_parentless forest n once past in cc) ] in
    subst (λ (ns : List ℕ). is_member n ns ≡ true) (siblings_child forest n p child) (once.placed n known)

-- a node without children and contents reaches none
pub leaf_reaches_none : (forest : Forest) (nodes : List TreeNode) (x n : ℕ) (node : TreeNode) → IsArenaOf forest nodes → x < length nodes → node ≡ get_or nodes x node →
    node.first_child ≡ None → contents_named node.content ≡ None → IsHostAncestor forest x n → ⊥
leaf_reaches_none forest nodes _ _ node arena here is no_child no_contents (one_step x n (inl child)) =
    let read = slice_get_read nodes (length nodes) x node refl here is in
    let firsts : first (children_of forest x) ≡ None = sym (node_read forest nodes x node arena read).first_is ∙ no_child in
    let stands : is_member n (children_of forest x) ≡ true = child_stands forest n x arena.once child in
    let lacks : is_member n (children_of forest x) ≡ false = ap (is_member n) (first_none (children_of forest x) firsts) in
    cc
leaf_reaches_none forest nodes _ _ node arena here is no_child no_contents (one_step x n (inr held)) =
    let read : contents_at forest x ≡ contents_named node.content = contents_at-read forest nodes x node arena here ∙ ap (λ z. contents_named z.content) (sym is) in
    cc
leaf_reaches_none forest nodes _ _ node arena here is no_child no_contents (then_step x k n way step) = leaf_reaches_none forest nodes x k node arena here is no_child no_contents way
