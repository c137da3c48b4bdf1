-- What the checks of single nodes read.
use Rattle.std.proofs.Common.{ℕ, zero, suc, ◌≡◌, ◌<◌, ◌≤◌, ◌+◌, true, false, List, [], ◌∷◌, ◌++◌, Option, Some, None, refl, sym, ap, ◌∙◌, subst, arith, inl, inr, length, get_or, Bool}
use Rattle.std.specs.Prelude.{slice_get, option_and_then, IfSome, IsSomeAnd, MatchBool, EachIndex, is_some, IfOk, Result, ◌==◌}
use Rattle.std.specs.Option.{option_or}
use Rattle.std.proofs.lemmas.Bool.{cases_Bool, cases_lt, eqb-true, eqb-false}
use Rattle.std.proofs.lemmas.Result.{IfOk-weaker}
use Rattle.std.proofs.lemmas.List.{get_or-set_same, get_or-set_other, length-set, get_or_past, length-map, get_or_append_left, get_or_push, length-append}
use Rattle.std.proofs.lemmas.Option.{slice_get_past, slice_get_read}
use Rattle.std.proofs.Math.ListN.{set}
use Rattle.dom_nodes.specs.declared.node_data.TreeNode.{TreeNode}
use Rattle.dom_nodes.specs.Kinds.{contents_named}
use Rattle.dom_links.specs.Forest.{parent_link, prev_link, next_link, first_link, last_link, arena_ids, contents_of}
use Rattle.dom_links.specs.Validation.{LinkPath, one_link, then_link, Ends, last_one, link_then, HasCycle, IsLinkKnown, LinksAstray, LinksKnown, AreHosts, AreLinksBy, link_at, contents_link, parent_or_host}
use Rattle.dom_links.proofs.forest.Places.{cases_Option}
use Rattle.dom_links.proofs.moves.Cuts.{if_some}

-- the links of the node that is read at n
pub record LinksRead (nodes : List TreeNode) (n : ℕ) (node : TreeNode) : Type 0 where
  pub parent_is : parent_link nodes n ≡ node.parent
  pub prev_is : prev_link nodes n ≡ node.prev_sibling
  pub next_is : next_link nodes n ≡ node.next_sibling
  pub first_is : first_link nodes n ≡ node.first_child
  pub last_is : last_link nodes n ≡ node.last_child

pub links_read : (nodes : List TreeNode) (n : ℕ) (node : TreeNode) → n < length nodes → node ≡ get_or nodes n node → LinksRead nodes n node
links_read nodes n node h is =
    let read : slice_get nodes n ≡ Some node = slice_get_read nodes (length nodes) n node refl h is in
    record {
      parent_is = ap (option_and_then (λ x. x.parent)) read;
      prev_is = ap (option_and_then (λ x. x.prev_sibling)) read;
      next_is = ap (option_and_then (λ x. x.next_sibling)) read;
      first_is = ap (option_and_then (λ x. x.first_child)) read;
      last_is = ap (option_and_then (λ x. x.last_child)) read;
    }

-- a link to no node
pub astray : (nodes : List TreeNode) (link : Option ℕ) → IsSomeAnd link (λ k. length nodes ≤ k) → (k : ℕ) × (link ≡ Some k) × (length nodes ≤ k)
astray nodes None h = absurd h
astray nodes (Some k) h = (k, refl, h)

pub all_known : (nodes : List TreeNode) (n : ℕ) (node : TreeNode) → LinksRead nodes n node → IsLinkKnown nodes node.parent → IsLinkKnown nodes node.prev_sibling → IsLinkKnown nodes node.next_sibling → IsLinkKnown nodes node.first_child →
    IsLinkKnown nodes node.last_child → LinksKnown nodes n
all_known nodes n node read a b c d e = record {
  parent_known = subst (IsLinkKnown nodes) (sym read.parent_is) a;
  prev_known = subst (IsLinkKnown nodes) (sym read.prev_is) b;
  next_known = subst (IsLinkKnown nodes) (sym read.next_is) c;
  first_known = subst (IsLinkKnown nodes) (sym read.first_is) d;
  last_known = subst (IsLinkKnown nodes) (sym read.last_is) e;
}

pub last_known_or : (nodes : List TreeNode) (n : ℕ) (node : TreeNode) (known : Bool) → LinksRead nodes n node → IsLinkKnown nodes node.parent → IsLinkKnown nodes node.prev_sibling → IsLinkKnown nodes node.next_sibling → IsLinkKnown nodes node.first_child →
    MatchBool known (IsLinkKnown nodes node.last_child) (IsSomeAnd node.last_child (λ k. length nodes ≤ k)) → MatchBool known (LinksKnown nodes n) (LinksAstray nodes n)
last_known_or nodes n node true read a b c d e = all_known nodes n node read a b c d e
last_known_or nodes n node false read a b c d e = (let to = astray nodes node.last_child e in (to.0, inr (inr (inr (inr (read.last_is ∙ to.1)))), to.2))

-- links that are the same have the same ways
way_same : (f g : ℕ → Option ℕ) → ((n : ℕ) → f n ≡ g n) → (m n : ℕ) → LinkPath f m n → LinkPath g m n
way_same f g same _ _ (one_link m n e) = one_link m n (sym (same m) ∙ e)
way_same f g same _ _ (then_link m k n way e) = then_link m k n (way_same f g same m k way) (sym (same k) ∙ e)

ends_same : (f g : ℕ → Option ℕ) → ((n : ℕ) → f n ≡ g n) → (n : ℕ) → Ends f n → Ends g n
ends_same f g same _ (last_one n e) = last_one n (sym (same n) ∙ e)
ends_same f g same _ (link_then m n e rest) = link_then m n (sym (same m) ∙ e) (ends_same f g same n rest)

pub ring_same : (f g : ℕ → Option ℕ) (ring : Bool) → ((n : ℕ) → f n ≡ g n) → MatchBool ring (HasCycle f) ((n : ℕ) → Ends f n) → MatchBool ring (HasCycle g) ((n : ℕ) → Ends g n)
ring_same f g true same has = (has.0, way_same f g same has.0 has.0 has.1)
ring_same f g false same all = λ n. ends_same f g same n (all n)

-- one link more
pub links_more : (links : List (Option ℕ)) (count : ℕ) (link : ℕ → Option ℕ) (o : Option ℕ) → AreLinksBy links count link → o ≡ link count → AreLinksBy (links ++ o ∷ []) (count + 1) link
links_more links count link o so e = record {
  long = (let l = so.long in let m = length-append links (o ∷ []) in omega arith);
  each = λ n h. elim (cases_lt n count) [
    | inl less ↦ get_or_append_left links (o ∷ []) None n (let l = so.long in omega arith) ∙ so.each n less
    | inr past ↦ (let is : n ≡ count = omega arith in let l = so.long in get_or_push links o None n (omega arith) ∙ e ∙ ap link (sym is))
  ];
}

-- links given by a function, and those past the last of them
pub links_all : (links : List (Option ℕ)) (count : ℕ) (link : ℕ → Option ℕ) (n : ℕ) → AreLinksBy links count link → ((m : ℕ) → count ≤ m → link m ≡ None) → link_at links n ≡ link n
links_all links count link n so none = elim (cases_lt n count) [
  | inl here ↦ so.each n here
  | inr past ↦ (let l = so.long in get_or_past links n None (omega arith) ∙ sym (none n past))
]

-- for each number a node among the first `count` that names it as its contents, where there is one
pub record Holds (nodes : List TreeNode) (hosts : List (Option ℕ)) (count : ℕ) : Type 0 where
  pub long : length hosts ≡ length nodes
  pub truly : (c m : ℕ) → link_at hosts c ≡ Some m → contents_link nodes m ≡ Some c
  pub complete : (m c : ℕ) → m < count → contents_link nodes m ≡ Some c → c < length nodes → (k : ℕ) × (link_at hosts c ≡ Some k)

pub id_read_at : (nodes : List TreeNode) (n : ℕ) (node : TreeNode) → n < length nodes → node ≡ get_or nodes n node → slice_get (arena_ids nodes) n ≡ Some node.id
id_read_at [] n node h is = absurd (omega arith)
id_read_at (x ∷ nodes) zero node h is = ap (λ y. Some y.id) (sym is)
id_read_at (x ∷ nodes) (suc n) node h is = id_read_at nodes n node (omega arith) is

pub has_link : (o : Option ℕ) → is_some o ≡ true → (p : ℕ) × (o ≡ Some p)
has_link None e = cc
has_link (Some p) e = (p, refl)

-- no node has a number past the last
pub no_parent_past : (nodes : List TreeNode) (n : ℕ) → length nodes ≤ n → parent_link nodes n ≡ None
no_parent_past nodes n past = ap (option_and_then (λ node. node.parent)) (slice_get_past nodes n past)

pub no_prev_past : (nodes : List TreeNode) (n : ℕ) → length nodes ≤ n → prev_link nodes n ≡ None
no_prev_past nodes n past = ap (option_and_then (λ node. node.prev_sibling)) (slice_get_past nodes n past)

pub no_step_past : (nodes : List TreeNode) (hosts : List (Option ℕ)) (n : ℕ) → length hosts ≡ length nodes → length nodes ≤ n → parent_or_host nodes hosts n ≡ None
no_step_past nodes hosts n long past = rw (no_parent_past nodes n past) (get_or_past hosts n None (omega arith))

-- who names a node as its contents is a node
pub names_inside : (nodes : List TreeNode) (m c : ℕ) → contents_link nodes m ≡ Some c → m < length nodes
names_inside nodes m c e = elim (cases_lt m (length nodes)) [
  | inl here ↦ here
  | inr past ↦ (let long = length-map nodes (λ node. node.content) in
      let none : contents_link nodes m ≡ None = ap (option_and_then contents_named) (slice_get_past (contents_of nodes) m (omega arith)) in cc)
]

-- a step up leads to a node
pub step_known : (nodes : List TreeNode) (hosts : List (Option ℕ)) (n : ℕ) → EachIndex nodes (λ k. LinksKnown nodes k) → AreHosts nodes hosts → IfSome (parent_or_host nodes hosts n) (λ m. m < length nodes)
step_known nodes hosts n known hold = elim (cases_lt n (length nodes)) [
  | inr past ↦ subst (λ o. IfSome o (λ m. m < length nodes)) (sym (no_step_past nodes hosts n hold.long past)) tt
  | inl here ↦ elim (cases_Option (parent_link nodes n)) [
    | inr (p, some) ↦ (let at : p < length nodes = subst (λ o. IfSome o (λ m. m < length nodes)) some (LinksKnown.parent_known (known n here)) in
        subst (λ o. IfSome (option_or o (link_at hosts n)) (λ m. m < length nodes)) (sym some) at)
    | inl none ↦ subst (λ o. IfSome (option_or o (link_at hosts n)) (λ m. m < length nodes)) (sym none)
        (if_some (link_at hosts n) (λ m. m < length nodes) (λ m e. names_inside nodes m n (hold.truly n m e)))
  ]
]

pub cycles_given : {E : Type 0} (now links : List (Option ℕ)) (count : ℕ) (link : ℕ → Option ℕ) (r : Result Bool E) → now ≡ links → AreLinksBy links count link → ((m : ℕ) → count ≤ m → link m ≡ None) →
    IfOk r (λ ring. MatchBool ring (HasCycle (link_at now)) ((n : ℕ) → Ends (link_at now) n)) → IfOk r (λ ring. MatchBool ring (HasCycle link) ((n : ℕ) → Ends link n))
cycles_given now links count link r e so none h =
    IfOk-weaker r (λ ring. MatchBool ring (HasCycle (link_at now)) ((n : ℕ) → Ends (link_at now) n)) (λ ring. MatchBool ring (HasCycle link) ((n : ℕ) → Ends link n))
    (λ ring complete. ring_same (link_at now) link ring (λ n. ap (λ ks. link_at ks n) e ∙ links_all links count link n so none) complete) h

pub known_given : (now links : List (Option ℕ)) (count : ℕ) (link : ℕ → Option ℕ) → now ≡ links → AreLinksBy links count link → ((m : ℕ) → count ≤ m → link m ≡ None) →
    ((n : ℕ) → IfSome (link n) (λ m. m < count)) → (n : ℕ) → IfSome (link_at now n) (λ m. m < length now)
known_given now links count link e so none known n =
    let same : link n ≡ link_at now n = sym (ap (λ ks. link_at ks n) e ∙ links_all links count link n so none) in
    let long : count ≡ length now = sym (ap length e ∙ so.long) in
    subst (λ o. IfSome o (λ m. m < length now)) same (subst (λ (k : ℕ). IfSome (link n) (λ m. m < k)) long (known n))

-- Holders

contents_read_at : (nodes : List TreeNode) (n : ℕ) (node : TreeNode) → n < length nodes → node ≡ get_or nodes n node → contents_link nodes n ≡ contents_named node.content
contents_read_at [] n node h is = absurd (omega arith)
contents_read_at (x ∷ nodes) zero node h is = ap (λ y. contents_named y.content) (sym is)
contents_read_at (x ∷ nodes) (suc n) node h is = contents_read_at nodes n node (omega arith) is

-- a node that names no node
pub holds_on : (nodes : List TreeNode) (hosts : List (Option ℕ)) (i : ℕ) (node : TreeNode) → Holds nodes hosts i → i < length nodes → node ≡ get_or nodes i node →
    ((c : ℕ) → contents_named node.content ≡ Some c → c < length nodes → ⊥) → Holds nodes hosts (i + 1)
holds_on nodes hosts i node hold h is none = record {
  long = hold.long;
  truly = hold.truly;
  complete = λ m c less names here. elim (cases_lt m i) [
    | inl before ↦ hold.complete m c before names here
    | inr past ↦ (let same : m ≡ i = omega arith in
        absurd (none c (sym (contents_read_at nodes i node h is) ∙ ap (contents_link nodes) (sym same) ∙ names) here))
  ];
}

-- a node that names a node
pub holds_set : (nodes : List TreeNode) (hosts : List (Option ℕ)) (i c : ℕ) (node : TreeNode) → Holds nodes hosts i → i < length nodes → node ≡ get_or nodes i node → node.id ≡ i →
    contents_named node.content ≡ Some c → c < length nodes → Holds nodes (set hosts c (Some node.id)) (i + 1)
holds_set nodes hosts i c node hold h is id its here =
    let inside : c < length hosts = (let l = hold.long in omega arith) in
    let its_link : contents_link nodes node.id ≡ Some c = ap (contents_link nodes) id ∙ contents_read_at nodes i node h is ∙ its in
    record {
      long = length-set hosts c (Some node.id) ∙ hold.long;
      truly = λ k m e. elim (cases_Bool (k == c)) [
        | inl t ↦ (let same : k ≡ c = eqb-true k c t in
            let two : Some node.id ≡ Some m = sym (ap (link_at (set hosts c (Some node.id))) same ∙ get_or-set_same hosts c (Some node.id) None inside) ∙ e in
            let by : node.id ≡ m = (cc) in
            ap (contents_link nodes) (sym by) ∙ its_link ∙ ap Some (sym same))
        | inr f ↦ hold.truly k m (sym (get_or-set_other hosts c k (Some node.id) None (eqb-false k c f)) ∙ e)
      ];
      complete = λ m k less names there. elim (cases_Bool (k == c)) [
        | inl t ↦ (let same : k ≡ c = eqb-true k c t in (node.id, ap (link_at (set hosts c (Some node.id))) same ∙ get_or-set_same hosts c (Some node.id) None inside))
        | inr f ↦ (let other = eqb-false k c f in elim (cases_lt m i) [
          | inl before ↦ (let old = hold.complete m k before names there in (old.0, get_or-set_other hosts c k (Some node.id) None other ∙ old.1))
          | inr past ↦ (let same : m ≡ i = omega arith in
              let two : Some k ≡ Some c = sym (ap (contents_link nodes) (sym same) ∙ names) ∙ contents_read_at nodes i node h is ∙ its in
              absurd (other (cc)))
        ])
      ];
    }

pub holds_all : (nodes : List TreeNode) (hosts : List (Option ℕ)) (count : ℕ) → Holds nodes hosts count → length nodes ≤ count → AreHosts nodes hosts
holds_all nodes hosts count hold all = record {
  long = hold.long;
  truly = hold.truly;
  complete = λ m c names here. (let inside = names_inside nodes m c names in hold.complete m c (omega arith) names here);
}
