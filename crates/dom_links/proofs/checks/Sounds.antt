-- In a sound arena every check passes.
use Rattle.std.proofs.Common.{ℕ, ◌≡◌, ◌<◌, ◌≤◌, true, false, List, ◌∷◌, ◌++◌, Option, Some, None, refl, sym, ap, ◌∙◌, subst, arith, cond, inl, inr, length, reverse}
use Rattle.std.specs.Prelude.{◌||◌, ◌≢◌, slice_get, IfSome, option_and_then}
use Rattle.std.specs.Option.{option_map_or, option_or}
use Rattle.std.proofs.lemmas.Bool.{cases_lt, true≢false}
use Rattle.std.proofs.lemmas.List.{length-map, reverse-append, reverse-reverse}
use Rattle.std.proofs.lemmas.Option.{slice_get_past}
use Rattle.dom_nodes.specs.declared.node_data.TreeNode.{TreeNode}
use Rattle.dom_nodes.specs.Kinds.{contents_named, is_fragment}
use Rattle.dom_links.specs.Lists.{is_member, IsDistinct, first, last, after, before, names}
use Rattle.dom_links.specs.Forest.{forest_of, children_of, parent, siblings, parent_link, prev_link, next_link, first_link, last_link, contents_of}
use Rattle.dom_links.specs.Sound.{IsSoundArena, IsHostAncestor, one_step, IsParentOrHost, contents_at}
use Rattle.dom_links.specs.Validation.{LinkPath, one_link, then_link, HasCycle, LinksKnown, Agrees, IsLinked, HostsAlone, HostsContents, IsAbove, Climbs, one_up, then_up, AreHosts, LinksAstray, link_at, parent_or_host, contents_link}
use Rattle.dom_links.proofs.forest.Neighbours.{is_member-append, after-append, after-stands, before-stands, before_here, after_with, first-stands, last-stands, last_names, last-reverse, names-true, names-same, around, distinct-reverse, distinct_parts, is_member-reverse}
use Rattle.dom_links.proofs.forest.Places.{cases_Option, siblings_child, siblings_once, beside}
use Rattle.dom_links.proofs.moves.Cuts.{length-contents, if_some, parent_known, prev_known, next_known}
use Rattle.dom_links.proofs.moves.Acyclicity.{onward}
use Rattle.dom_links.proofs.forest.Grown.{within}

-- Lists without repetition

-- who stands before n has n after it
pub after_before : (ns : List ℕ) (n m : ℕ) → IsDistinct ns → is_member n ns ≡ true → before ns n ≡ Some m → after ns m ≡ Some n
after_before ns n m once inside e =
    let parts = around n ns once inside in
    let is_last : last parts.front ≡ Some m = sym (before_here parts.front parts.back n parts.not_back) ∙ ap (λ ks. before ks n) (sym parts.is) ∙ e in
    let in_front : is_member m parts.front ≡ true = last-stands parts.front m is_last in
    let ne : n ≡ m → ⊥ = λ same. true≢false (sym in_front ∙ ap (λ (k : ℕ). is_member k parts.front) (sym same) ∙ parts.not_front) in
    let named : names (last parts.front) m ≡ true = ap (λ o. names o m) is_last ∙ names-same m in
    ap (λ ks. after ks m) parts.is ∙ after_with parts.front parts.back n m parts.front_once ne ∙ ap (λ t. cond t (Some n) (after (parts.front ++ parts.back) m)) named

-- and who stands after it has it before
pub before_after : (ns : List ℕ) (n m : ℕ) → IsDistinct ns → is_member n ns ≡ true → after ns n ≡ Some m → before ns m ≡ Some n
before_after ns n m once inside e =
    after_before (reverse ns) n m (distinct-reverse ns once) (is_member-reverse ns n ∙ inside) (ap (λ ks. after ks n) (reverse-reverse ns) ∙ e)

-- who has none after it is the last
pub is_last_one : (ns : List ℕ) (n : ℕ) → IsDistinct ns → is_member n ns ≡ true → after ns n ≡ None → last ns ≡ Some n
is_last_one ns n once inside e = names-true (last ns) n (last_names ns n once ∙ rw (inside, e) refl)

pub is_first_one : (ns : List ℕ) (n : ℕ) → IsDistinct ns → is_member n ns ≡ true → before ns n ≡ None → first ns ≡ Some n
is_first_one ns n once inside e = sym (last-reverse ns) ∙ is_last_one (reverse ns) n (distinct-reverse ns once) (is_member-reverse ns n ∙ inside) e

-- who stands before one of the front stands in the front
pub before_in_front : (front back : List ℕ) (k m : ℕ) → IsDistinct (front ++ back) → is_member k front ≡ true → before (front ++ back) k ≡ Some m → is_member m front ≡ true
before_in_front front back k m once inside e =
    let apart : is_member k (reverse back) ≡ false = is_member-reverse back k ∙ (distinct_parts front back once).2 k inside in
    let here : before (front ++ back) k ≡ before front k = ap (λ ks. after ks k) (reverse-append front back) ∙ after-append (reverse back) (reverse front) k ∙ ap (λ t. cond t (option_or (after (reverse back) k) (first (reverse front))) (before front k)) apart in
    before-stands front k m (sym here ∙ e)

-- The checks

pub sound_rooted : (nodes : List TreeNode) → IsSoundArena nodes → 0 < length nodes
sound_rooted nodes sound = (let long = length-contents (forest_of nodes) nodes sound.arena.links in let some = sound.forest.rooted in omega arith)

pub sound_root : (nodes : List TreeNode) → IsSoundArena nodes → parent_link nodes 0 ≡ None
sound_root nodes sound = sound.arena.links.parents 0 (sound_rooted nodes sound) ∙ (sound.forest.alone 0 sound.forest.rooted refl).0

-- a node has links
linked : (nodes : List TreeNode) (n : ℕ) → IsSoundArena nodes → n < length nodes → n < length (forest_of nodes).content
linked nodes n sound h = (let long = length-contents (forest_of nodes) nodes sound.arena.links in omega arith)

node_of : (nodes : List TreeNode) (n : ℕ) → IsSoundArena nodes → n < length (forest_of nodes).content → n < length nodes
node_of nodes n sound h = (let long = length-contents (forest_of nodes) nodes sound.arena.links in omega arith)

-- a child of n
child : (nodes : List TreeNode) (n c : ℕ) → IsSoundArena nodes → is_member c (children_of (forest_of nodes) n) ≡ true → (c < length nodes) × (parent_link nodes c ≡ Some n)
child nodes n c sound s =
    let facts = sound.arena.once.in_children n c s in
    let here = node_of nodes c sound facts.0 in
    (here, sound.arena.links.parents c here ∙ facts.1)

pub sound_known : (nodes : List TreeNode) (n : ℕ) → IsSoundArena nodes → n < length nodes → LinksKnown nodes n
sound_known nodes n sound h = record {
  parent_known = parent_known (forest_of nodes) nodes n (parent_link nodes n) sound.arena h (sound.arena.links.parents n h);
  prev_known = prev_known (forest_of nodes) nodes n (prev_link nodes n) sound.arena h (sound.arena.links.prevs n h);
  next_known = next_known (forest_of nodes) nodes n (next_link nodes n) sound.arena h (sound.arena.links.nexts n h);
  first_known = if_some (first_link nodes n) (λ m. m < length nodes) (λ c e. (child nodes n c sound (first-stands (children_of (forest_of nodes) n) c (sym (sound.arena.links.firsts n h) ∙ e))).0);
  last_known = if_some (last_link nodes n) (λ m. m < length nodes) (λ c e. (child nodes n c sound (last-stands (children_of (forest_of nodes) n) c (sym (sound.arena.links.lasts n h) ∙ e))).0);
}

pub sound_not_astray : (nodes : List TreeNode) (n : ℕ) → IsSoundArena nodes → n < length nodes → LinksAstray nodes n → ⊥
sound_not_astray nodes n sound h away =
    let all = sound_known nodes n sound h in
    elim away.1 [
      | inl e ↦ outside (parent_link nodes n) away.0 e all.parent_known away.2
      | inr (inl e) ↦ outside (prev_link nodes n) away.0 e all.prev_known away.2
      | inr (inr (inl e)) ↦ outside (next_link nodes n) away.0 e all.next_known away.2
      | inr (inr (inr (inl e))) ↦ outside (first_link nodes n) away.0 e all.first_known away.2
      | inr (inr (inr (inr e))) ↦ outside (last_link nodes n) away.0 e all.last_known away.2
    ]
  where
    outside : (o : Option ℕ) (k : ℕ) → o ≡ Some k → IfSome o (λ m. m < length nodes) → length nodes ≤ k → ⊥
    outside o k e known past = (let inside : k < length nodes = subst (λ p. IfSome p (λ m. m < length nodes)) e known in omega arith)

-- the siblings of n
row : (nodes : List TreeNode) (n : ℕ) → IsSoundArena nodes → n < length nodes → IsDistinct (siblings (forest_of nodes) n) × (is_member n (siblings (forest_of nodes) n) ≡ true)
row nodes n sound h = (siblings_once (forest_of nodes) n sound.arena.once, sound.arena.once.placed n (linked nodes n sound h))

pub sound_agrees : (nodes : List TreeNode) (n : ℕ) → IsSoundArena nodes → n < length nodes → Agrees nodes n
sound_agrees nodes n sound h =
    let its = row nodes n sound h in
    record {
      with_prev = if_some (prev_link nodes n) (λ m. next_link nodes m ≡ Some n) (λ m e.
          let is : before (siblings (forest_of nodes) n) n ≡ Some m = sym (sound.arena.links.prevs n h) ∙ e in
          let by = beside (forest_of nodes) n m sound.arena.once (before-stands (siblings (forest_of nodes) n) n m is) in
          sound.arena.links.nexts m (node_of nodes m sound by.known) ∙ ap (λ ks. after ks m) by.same_siblings ∙ after_before (siblings (forest_of nodes) n) n m its.0 its.1 is);
      with_next = if_some (next_link nodes n) (λ m. prev_link nodes m ≡ Some n) (λ m e.
          let is : after (siblings (forest_of nodes) n) n ≡ Some m = sym (sound.arena.links.nexts n h) ∙ e in
          let by = beside (forest_of nodes) n m sound.arena.once (after-stands (siblings (forest_of nodes) n) n m is) in
          sound.arena.links.prevs m (node_of nodes m sound by.known) ∙ ap (λ ks. before ks m) by.same_siblings ∙ before_after (siblings (forest_of nodes) n) n m its.0 its.1 is);
    }

-- the parent of n
above : (nodes : List TreeNode) (n p : ℕ) → IsSoundArena nodes → n < length nodes → parent_link nodes n ≡ Some p → (p < length nodes) × (parent (forest_of nodes) n ≡ Some p)
above nodes n p sound h e =
    let known : p < length nodes = subst (λ o. IfSome o (λ m. m < length nodes)) e (LinksKnown.parent_known (sound_known nodes n sound h)) in
    (known, sym (sound.arena.links.parents n h) ∙ e)

pub sound_linked : (nodes : List TreeNode) (n : ℕ) → IsSoundArena nodes → n < length nodes → IsLinked nodes n
sound_linked nodes n sound h =
    let its = row nodes n sound h in
    record {
      beside = if_some (prev_link nodes n) (λ m. parent_link nodes m ≡ parent_link nodes n) (λ m e.
          let is : before (siblings (forest_of nodes) n) n ≡ Some m = sym (sound.arena.links.prevs n h) ∙ e in
          let by = beside (forest_of nodes) n m sound.arena.once (before-stands (siblings (forest_of nodes) n) n m is) in
          sound.arena.links.parents m (node_of nodes m sound by.known) ∙ by.same_parent ∙ sym (sound.arena.links.parents n h));
      first_here = if_some (first_link nodes n) (λ c. parent_link nodes c ≡ Some n) (λ c e. (child nodes n c sound (first-stands (children_of (forest_of nodes) n) c (sym (sound.arena.links.firsts n h) ∙ e))).1);
      last_here = if_some (last_link nodes n) (λ c. parent_link nodes c ≡ Some n) (λ c e. (child nodes n c sound (last-stands (children_of (forest_of nodes) n) c (sym (sound.arena.links.lasts n h) ∙ e))).1);
      at_front = if_some (parent_link nodes n) (λ p. prev_link nodes n ≡ None → first_link nodes p ≡ Some n) (λ p e none.
          let up = above nodes n p sound h e in
          let children = siblings_child (forest_of nodes) n p up.1 in
          sound.arena.links.firsts p up.0 ∙ ap first (sym children) ∙ is_first_one (siblings (forest_of nodes) n) n its.0 its.1 (sym (sound.arena.links.prevs n h) ∙ none));
      at_back = if_some (parent_link nodes n) (λ p. next_link nodes n ≡ None → last_link nodes p ≡ Some n) (λ p e none.
          let up = above nodes n p sound h e in
          let children = siblings_child (forest_of nodes) n p up.1 in
          sound.arena.links.lasts p up.0 ∙ ap last (sym children) ∙ is_last_one (siblings (forest_of nodes) n) n its.0 its.1 (sym (sound.arena.links.nexts n h) ∙ none));
    }

named_at : (nodes : List TreeNode) (n c : ℕ) → IsSoundArena nodes → contents_link nodes n ≡ Some c → contents_at (forest_of nodes) n ≡ Some c
named_at nodes n c sound e = ap (λ contents. option_and_then contents_named (slice_get contents n)) (sym sound.arena.links.contents) ∙ e

-- contents that no other node names are held
pub held_alone : (nodes : List TreeNode) (hosts : List (Option ℕ)) (n : ℕ) → AreHosts nodes hosts → HostsAlone nodes n → HostsContents nodes hosts n
held_alone nodes hosts n hold alone = if_some (contents_link nodes n)
    (λ c. (c ≢ 0) × (option_map_or is_fragment (slice_get (contents_of nodes) c) false ≡ true) × (link_at hosts c ≡ Some n)) (λ c e.
    let its = at_name (contents_link nodes n) c e alone in
    let here : c < length nodes = omega (arith, within is_fragment (contents_of nodes) c its.1, length-map nodes (λ node. node.content)) in
    let host = hold.complete n c e here in
    (its.0, its.1, host.1 ∙ ap Some (its.2 host.0 (hold.truly c host.0 host.1))))
  where
    at_name : (o : Option ℕ) (c : ℕ) → o ≡ Some c →
        IfSome o (λ k. (k ≢ 0) × (option_map_or is_fragment (slice_get (contents_of nodes) k) false ≡ true) × ((m : ℕ) → contents_link nodes m ≡ Some k → m ≡ n)) →
        (c ≢ 0) × (option_map_or is_fragment (slice_get (contents_of nodes) c) false ≡ true) × ((m : ℕ) → contents_link nodes m ≡ Some c → m ≡ n)
    at_name o c e h = subst (λ p. IfSome p (λ k. (k ≢ 0) × (option_map_or is_fragment (slice_get (contents_of nodes) k) false ≡ true) × ((m : ℕ) → contents_link nodes m ≡ Some k → m ≡ n))) e h

pub sound_held : (nodes : List TreeNode) (n : ℕ) → IsSoundArena nodes → HostsAlone nodes n
sound_held nodes n sound = if_some (contents_link nodes n)
    (λ c. (c ≢ 0) × (option_map_or is_fragment (slice_get (contents_of nodes) c) false ≡ true) × ((m : ℕ) → contents_link nodes m ≡ Some c → m ≡ n)) (λ c e.
    let at = named_at nodes n c sound e in
    let known = sound.forest.contents_known n c at in (
      known.0,
      ap (λ contents. option_map_or is_fragment (slice_get contents c) false) sound.arena.links.contents ∙ known.1,
      λ m f. sound.forest.contents_once m n c (named_at nodes m c sound f) at,
    ))

-- Steps up are steps of the forest

link_inside : (nodes : List TreeNode) (n p : ℕ) → parent_link nodes n ≡ Some p → n < length nodes
link_inside nodes n p e = elim (cases_lt n (length nodes)) [
  | inl here ↦ here
  | inr past ↦ (let none : parent_link nodes n ≡ None = ap (option_and_then (λ node. node.parent)) (slice_get_past nodes n past) in cc)
]

a_step : (nodes : List TreeNode) (n m : ℕ) → IsSoundArena nodes → IsAbove nodes m n → IsParentOrHost (forest_of nodes) m n
a_step nodes n m sound (inl e) = inl (above nodes n m sound (link_inside nodes n m e) e).1
a_step nodes n m sound (inr e) = inr (named_at nodes m n sound e)

climbs_reach : (nodes : List TreeNode) (n m : ℕ) → IsSoundArena nodes → Climbs nodes n m → IsHostAncestor (forest_of nodes) m n
climbs_reach nodes _ _ sound (one_up n m e) = one_step m n (a_step nodes n m sound e)
climbs_reach nodes _ _ sound (then_up n k m way e) = onward (forest_of nodes) m k n (one_step m k (a_step nodes k m sound e)) (climbs_reach nodes n k sound way)

pub sound_no_cycle : (nodes : List TreeNode) → IsSoundArena nodes → (n : ℕ) × Climbs nodes n n → ⊥
sound_no_cycle nodes sound round = sound.forest.acyclic round.0 (climbs_reach nodes round.0 round.0 sound round.1)

step_above : (nodes : List TreeNode) (hosts : List (Option ℕ)) (n m : ℕ) → AreHosts nodes hosts → parent_or_host nodes hosts n ≡ Some m → IsAbove nodes m n
step_above nodes hosts n m hold e = elim (cases_Option (parent_link nodes n)) [
  | inr (p, some) ↦ inl (some ∙ sym (ap (λ o. option_or o (link_at hosts n)) some) ∙ e)
  | inl none ↦ inr (hold.truly n m (sym (ap (λ o. option_or o (link_at hosts n)) none) ∙ e))
]

steps_climb : (nodes : List TreeNode) (hosts : List (Option ℕ)) (n m : ℕ) → AreHosts nodes hosts → LinkPath (parent_or_host nodes hosts) n m → Climbs nodes n m
steps_climb nodes hosts _ _ hold (one_link n m e) = one_up n m (step_above nodes hosts n m hold e)
steps_climb nodes hosts _ _ hold (then_link n k m way e) = then_up n k m (steps_climb nodes hosts n k hold way) (step_above nodes hosts k m hold e)

-- a ring of steps up is a cycle
pub a_cycle : (nodes : List TreeNode) (hosts : List (Option ℕ)) → AreHosts nodes hosts → HasCycle (parent_or_host nodes hosts) → (n : ℕ) × Climbs nodes n n
a_cycle nodes hosts hold ring = (ring.0, steps_climb nodes hosts ring.0 ring.0 hold ring.1)

prev_inside : (nodes : List TreeNode) (n m : ℕ) → prev_link nodes n ≡ Some m → n < length nodes
prev_inside nodes n m e = elim (cases_lt n (length nodes)) [
  | inl here ↦ here
  | inr past ↦ (let none : prev_link nodes n ≡ None = ap (option_and_then (λ node. node.prev_sibling)) (slice_get_past nodes n past) in cc)
]

way_inside : (nodes : List TreeNode) (n m : ℕ) → LinkPath (prev_link nodes) n m → n < length nodes
way_inside nodes _ _ (one_link n m e) = prev_inside nodes n m e
way_inside nodes _ _ (then_link n k m way e) = way_inside nodes n k way

-- who is met on the way back from n stands before it among its siblings
back_in_front : (nodes : List TreeNode) (front back : List ℕ) (n m : ℕ) → IsSoundArena nodes → siblings (forest_of nodes) n ≡ front ++ n ∷ back → is_member n back ≡ false → IsDistinct (front ++ n ∷ back) →
    LinkPath (prev_link nodes) n m → is_member m front ≡ true
back_in_front nodes front back _ _ sound is apart once (one_link n m e) =
    last-stands front m (sym (before_here front back n apart) ∙ ap (λ ks. before ks n) (sym is) ∙ sym (sound.arena.links.prevs n (prev_inside nodes n m e)) ∙ e)
back_in_front nodes front back _ _ sound is apart once (then_link n k m way e) =
    let there = back_in_front nodes front back n k sound is apart once way in
    let among : is_member k (siblings (forest_of nodes) n) ≡ true = ap (is_member k) is ∙ is_member-append front (n ∷ back) k ∙ ap (λ t. t || is_member k (n ∷ back)) there in
    let by = beside (forest_of nodes) n k sound.arena.once among in
    before_in_front front (n ∷ back) k m once there (ap (λ ks. before ks k) (sym is ∙ sym by.same_siblings) ∙ sym (sound.arena.links.prevs k (node_of nodes k sound by.known)) ∙ e)

pub sound_no_ring : (nodes : List TreeNode) → IsSoundArena nodes → HasCycle (prev_link nodes) → ⊥
sound_no_ring nodes sound ring =
    let n = ring.0 in
    let h = way_inside nodes n n ring.1 in
    let its = row nodes n sound h in
    let parts = around n (siblings (forest_of nodes) n) its.0 its.1 in
    true≢false (sym (back_in_front nodes parts.front parts.back n n sound parts.is parts.not_back (subst IsDistinct parts.is its.0) ring.1) ∙ parts.not_front)
