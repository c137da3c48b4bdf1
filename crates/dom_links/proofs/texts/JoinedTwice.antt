-- Joining rows of texts keeps the text, and to join them twice is to join them once.
use Rattle.std.proofs.Common.{ℕ, zero, suc, ◌≡◌, ◌+◌, Bool, true, false, List, [], ◌∷◌, ◌++◌, Option, Some, None, refl, sym, ap, ◌∙◌, subst, arith, inl, inr, length, append_assoc, append-nil, cond, map, reverse}
use Rattle.std.specs.Prelude.{◌==◌, ◌<◌, ◌&&◌, ◌||◌, find, not, option_and_then, slice_get}
use Rattle.std.specs.List.{flat_map}
use Rattle.std.specs.Option.{option_map, option_map_or}
use Rattle.std.proofs.lemmas.Bool.{cases_Bool, eqb-true, false≢true, ne_eqb}
use Rattle.dom_nodes.specs.Kinds.{contents_named, is_fragment, is_text, children_allowed}
use Rattle.dom_nodes.specs.declared.node_data.NodeData.{NodeData}
use Rattle.dom_nodes.specs.declared.node_data.NodeData.TheVariants.{Text}
use Rattle.dom_links.specs.Lists.{is_member, IsDistinct, map_from, without}
use Rattle.dom_links.specs.Forest.{Forest, children_of, owner_from, parent, siblings}
use Rattle.dom_links.specs.Normalized.{dropped, front_texts, is_empty_text, joined, starts_text_run, nearest_before, normalized}
use Rattle.dom_links.specs.Readings.{JoinsTexts, Reading, ReadsAlike, read_as}
use Rattle.dom_links.specs.SetTexts.{is_text_at, with_text_data}
use Rattle.dom_links.specs.Sound.{IsForest, children_allowed_at, contents_at, stays}
use Rattle.dom_links.specs.Texts.{text_at, text_in, text_of}
use Rattle.dom_links.specs.Trees.{ancestors, contents_list, Trees, NoTrees, Tree, trees, trees_to, upward, walk, descendants_in_order}
use Rattle.dom_links.specs.Walk.{later, rest_after}
use Rattle.dom_links.proofs.walks.Apart.{walk-inside}
use Rattle.dom_links.proofs.moves.BlockMoves.{rest_here}
use Rattle.dom_links.proofs.moves.Cuts.{one-stands}
use Rattle.dom_links.proofs.forest.Climbs.{fragment_is_top}
use Rattle.dom_links.proofs.forest.Depth.{here_stands, later_stands, parent_inside, trees-none, trees-some, upward-none}
use Rattle.dom_links.proofs.walks.DownUp.{below_or_above}
use Rattle.dom_links.proofs.forest.Grown.{within}
use Rattle.dom_links.proofs.texts.JoinedNodes.{Leaves, and-false, bearing_kept, either, leaves, no_bytes, text_joins, text_reading, text_walked, got_held, length_held, text_kept, text_leaf, text_put, without_reverse}
use Rattle.dom_links.proofs.walks.Later.{ancestors-parent, ancestors-same, not_above_itself}
use Rattle.dom_links.proofs.forest.Neighbours.{around, reverse_around, is_member-append, is_member-reverse, is_member-without, without-append}
use Rattle.dom_links.proofs.forest.Places.{children_mapped, owner-without, siblings_child}
use Rattle.dom_links.proofs.texts.Rewriting.{forest_with, held, left_run, map_from_none, map_here, runs_nothing}
use Rattle.dom_links.proofs.texts.SettingTexts.{other_stays}
use Rattle.dom_links.proofs.moves.Stripping.{has_parent, only_here, is_member-filter}
use Rattle.dom_links.proofs.moves.TwoSteps.{map_without_nothing}

module _ (forest : Forest) (x : ℕ) (good : IsForest forest) where
  abbrev nodes : List ℕ
  nodes = descendants_in_order forest x

  abbrev out : List ℕ
  out = dropped forest nodes

  abbrev after_it : Forest
  after_it = normalized x forest

  got : (n : ℕ) → slice_get after_it.content n ≡ option_map (held forest nodes n) (slice_get forest.content n)
  got n = got_held 0 (held forest nodes) forest.content n ∙ (let z : 0 + n ≡ n = omega arith in ap (λ (k : ℕ). option_map (held forest nodes k) (slice_get forest.content n)) z)

  kind : (n : ℕ) → is_text_at after_it n ≡ is_text_at forest n
  kind n = ap (λ o. option_map_or is_text o false) (got n) ∙ go (slice_get forest.content n)
    where
      go : (o : Option NodeData) → option_map_or is_text (option_map (held forest nodes n) o) false ≡ option_map_or is_text o false
      go None = refl
      go (Some c) = elim (cases_Bool (is_member n nodes)) [ inl t ↦ rw t (text_kept (joined forest n) c) | inr f ↦ rw f refl ]

  text_joined : (n : ℕ) → is_member n nodes ≡ true → is_text_at forest n ≡ true → text_at after_it n ≡ joined forest n
  text_joined n s text = ap (λ o. option_map_or text_in o []) (got n) ∙ go (slice_get forest.content n) text
    where
      go : (o : Option NodeData) → option_map_or is_text o false ≡ true → option_map_or text_in (option_map (held forest nodes n) o) [] ≡ joined forest n
      go None h = cc
      go (Some c) h = ap (λ b. text_in (cond b (with_text_data (joined forest n) c) c)) s ∙ text_put (joined forest n) c h

  text_same : (n : ℕ) → is_member n nodes ≡ false → text_at after_it n ≡ text_at forest n
  text_same n s = ap (λ o. option_map_or text_in o []) (got n) ∙ go (slice_get forest.content n)
    where
      go : (o : Option NodeData) → option_map_or text_in (option_map (held forest nodes n) o) [] ≡ option_map_or text_in o []
      go None = refl
      go (Some c) = ap (λ b. text_in (cond b (with_text_data (joined forest n) c) c)) s

  is_out : (n : ℕ) → is_member n out ≡ (is_member n nodes && (is_text_at forest n && not (starts_text_run forest n)))
  is_out n = is_member-filter (λ m. is_text_at forest m && not (starts_text_run forest m)) nodes n

  children_then : (q : ℕ) → children_of after_it q ≡ without out (children_of forest q)
  children_then q = children_mapped (without out) forest.children q refl

  -- ---- the walk then

  no_walk : (f : Forest) (ns : List ℕ) → walk (trees_to f zero ns) ≡ []
  no_walk f [] = refl
  no_walk f (n ∷ ns) = refl

  walks_then : (most : ℕ) (ns : List ℕ) → walk (trees_to after_it most (without out ns)) ≡ without out (walk (trees_to forest most ns))
  walks_then most [] = refl
  walks_then zero (n ∷ ns) = no_walk after_it (without out (n ∷ ns))
  walks_then (suc most) (n ∷ ns) =
      let below = walks_then most (children_of forest n) in
      let others = walks_then (suc most) ns in
      let kids = walk (trees_to forest most (children_of forest n)) in
      let rest = walk (trees_to forest (suc most) ns) in
      elim (cases_Bool (is_member n out)) [
        | inl t ↦ (let text = and_text (is_member n nodes) (is_text_at forest n) (not (starts_text_run forest n)) (sym (is_out n) ∙ t) in
            let leaf : kids ≡ [] = ap (λ ks. walk (trees_to forest most ks)) (text_leaf forest n good text) in
            rw t (others ∙ ap (λ ks. without out (ks ++ rest)) (sym leaf)))
        | inr f ↦ rw f (ap (λ ms. n ∷ ms ++ walk (trees_to after_it (suc most) (without out ns))) (ap (λ ks. walk (trees_to after_it most ks)) (children_then n) ∙ below)
            ∙ ap (λ ms. n ∷ without out kids ++ ms) others ∙ ap (λ ms. n ∷ ms) (sym (without-append out kids rest)))
      ]
    where
      and_text : (a b c : Bool) → (a && (b && c)) ≡ true → b ≡ true
      and_text true true c h = refl
      and_text true false c h = cc
      and_text false b c h = cc

  pub walk_then : descendants_in_order after_it x ≡ without out nodes
  unfolding trees
  walk_then =
      ap (λ most. walk (trees_to after_it most (children_of after_it x))) (length_held 0 (held forest nodes) forest.content)
      ∙ ap (λ ks. walk (trees_to after_it (length forest.content) ks)) (children_then x) ∙ walks_then (length forest.content) (children_of forest x)

  -- ---- where a node stands in its row

  -- the nearest node before, going back over empty texts, is a text
  abbrev inside : List ℕ → Bool
  inside before = option_map_or (is_text_at forest) (find (λ m. not (is_empty_text forest m)) (reverse before)) false

  inside_next : (before : List ℕ) (n : ℕ) → inside (before ++ n ∷ []) ≡ cond (not (is_empty_text forest n)) (is_text_at forest n) (inside before)
  inside_next before n = ap (λ ms. option_map_or (is_text_at forest) (find (λ m. not (is_empty_text forest m)) ms) false) (reverse_around before [] n) ∙ go (not (is_empty_text forest n)) refl
    where
      go : (b : Bool) → not (is_empty_text forest n) ≡ b → option_map_or (is_text_at forest) (find (λ m. not (is_empty_text forest m)) (n ∷ reverse before)) false ≡ cond (not (is_empty_text forest n)) (is_text_at forest n) (inside before)
      go true is = rw is refl
      go false is = rw is refl

  -- n stands between these in the children of p
  record Stands (p n : ℕ) (before behind : List ℕ) : Type 0 where
    up : parent forest n ≡ Some p
    back : later forest true n ≡ reverse before
    on : later forest false n ≡ behind
    not_before : is_member n before ≡ false
    not_behind : is_member n behind ≡ false

  stands_there : (p n : ℕ) (before behind : List ℕ) → children_of forest p ≡ before ++ n ∷ behind → Stands p n before behind
  stands_there p n before behind is =
      let here : is_member n (children_of forest p) ≡ true = ap (is_member n) is ∙ is_member-append before (n ∷ behind) n ∙ or-true (is_member n before) _ (here_stands n behind) in
      let up = (good.once.in_children p n here).1 in
      let row = siblings_child forest n p up ∙ is in
      let apart = only_here before behind n (subst IsDistinct is (good.once.children_once p)) in
      let turned = is_member-reverse behind n ∙ apart.1 in
      record {
        up = up;
        back = ap (λ ms. rest_after (reverse ms) n) row ∙ ap (λ ms. rest_after ms n) (reverse_around before behind n) ∙ rest_here (reverse behind) (reverse before) n turned;
        on = ap (λ ms. rest_after ms n) row ∙ rest_here before behind n apart.0;
        not_before = apart.0;
        not_behind = apart.1;
      }
    where
      or-true : (a b : Bool) → b ≡ true → (a || b) ≡ true
      or-true true b h = refl
      or-true false b h = h

  starts_run_is : (p n : ℕ) (before behind : List ℕ) → Stands p n before behind → is_text_at forest n ≡ true → starts_text_run forest n ≡ (not (is_empty_text forest n) && not (inside before))
  starts_run_is p n before behind there text =
      ap (λ b. b && not (is_empty_text forest n) && not (option_map_or (is_text_at forest) (nearest_before forest n) false)) text
      ∙ ap (λ ms. not (is_empty_text forest n) && not (option_map_or (is_text_at forest) (find (λ m. not (is_empty_text forest m)) ms) false)) there.back

  out_text : (n : ℕ) → is_member n nodes ≡ true → is_text_at forest n ≡ true → is_member n out ≡ not (starts_text_run forest n)
  out_text n s text = is_out n ∙ ap (λ b. b && (is_text_at forest n && not (starts_text_run forest n))) s ∙ ap (λ b. b && not (starts_text_run forest n)) text

  out_other : (n : ℕ) → is_text_at forest n ≡ false → is_member n out ≡ false
  out_other n other = is_out n ∙ ap (λ b. is_member n nodes && (b && not (starts_text_run forest n))) other ∙ and-false (is_member n nodes)

  -- ---- what is read then

  not_itself : is_member x nodes ≡ false
  not_itself = elim (cases_Bool (is_member x nodes)) [
    | inr f ↦ f
    | inl t ↦ absurd (not_above_itself forest x x good (sym (below_or_above forest good x x) ∙ t) refl)
  ]

  -- a child stands below x where its parent is x or stands below it
  child_stands : (n m : ℕ) → is_member m (children_of forest n) ≡ true → is_member m nodes ≡ ((n == x) || is_member x (ancestors forest n))
  child_stands n m s =
      let up = (good.once.in_children n m s).1 in
      below_or_above forest good x m ∙ ap (is_member x) (ancestors-parent forest m n good up (parent_inside forest m n good up))

  held_is : (n m : ℕ) → is_member m (contents_list forest n) ≡ true → contents_at forest n ≡ Some m
  held_is n m s = go (contents_at forest n) refl
    where
      go : (o : Option ℕ) → contents_at forest n ≡ o → contents_at forest n ≡ Some m
      go None e = (let empty : contents_list forest n ≡ [] = rw e refl in absurd (false≢true (ap (is_member m) (sym empty) ∙ s)))
      go (Some c) e = (let one : contents_list forest n ≡ c ∷ [] = rw e refl in e ∙ ap Some (eqb-true c m (sym (one-stands c m) ∙ ap (is_member m) (sym one) ∙ s)))

  held_known : (n m : ℕ) → is_member m (contents_list forest n) ≡ true → m < length forest.content
  held_known n m s = within is_fragment forest.content m (good.contents_known n m (held_is n m s)).1

  -- contents stand alone, so they stand below nothing
  held_outside : (n m : ℕ) → is_member m (contents_list forest n) ≡ true → is_member m nodes ≡ false
  held_outside n m s =
      let fragment = (good.contents_known n m (held_is n m s)).1 in
      let none = (good.alone m (held_known n m s) (top_stays m fragment)).0 in
      below_or_above forest good x m ∙ ap (is_member x) (ap (upward forest) none ∙ upward-none forest)
    where
      or-true : (a b : Bool) → b ≡ true → (a || b) ≡ true
      or-true true b h = refl
      or-true false b h = h

      top_stays : (m : ℕ) → option_map_or is_fragment (slice_get forest.content m) false ≡ true → stays forest m ≡ true
      top_stays m h = or-true (m == 0) _ (fragment_is_top (slice_get forest.content m) h)

  -- the trees without the nodes that are detached
  abbrev pruned : Trees → Trees
  pruned NoTrees = NoTrees
  pruned (Tree n contents children later) = cond (is_member n out) (pruned later) (Tree n (pruned contents) (pruned children) (pruned later))

  same_there : (n : ℕ) → is_member n nodes ≡ false → slice_get after_it.content n ≡ slice_get forest.content n
  same_there n s = got n ∙ go (slice_get forest.content n)
    where
      go : (o : Option NodeData) → option_map (held forest nodes n) o ≡ o
      go None = refl
      go (Some c) = ap (λ b. Some (cond b (with_text_data (joined forest n) c) c)) s

  same_other : (n : ℕ) → is_text_at forest n ≡ false → slice_get after_it.content n ≡ slice_get forest.content n
  same_other n other = got n ∙ go (slice_get forest.content n) other
    where
      go : (o : Option NodeData) → option_map_or is_text o false ≡ false → option_map (held forest nodes n) o ≡ o
      go None h = refl
      go (Some c) h = elim (cases_Bool (is_member n nodes)) [
        | inl t ↦ ap (λ b. Some (cond b (with_text_data (joined forest n) c) c)) t ∙ ap Some (other_stays (joined forest n) c h)
        | inr f ↦ ap (λ b. Some (cond b (with_text_data (joined forest n) c) c)) f
      ]

  named_then : (n : ℕ) → contents_at after_it n ≡ contents_at forest n
  named_then n = elim (cases_Bool (is_text_at forest n)) [
    | inr other ↦ ap (option_and_then contents_named) (same_other n other)
    | inl text ↦ unnamed after_it n (kind n ∙ text) ∙ sym (unnamed forest n text)
  ]
    where
      unnamed : (f : Forest) (m : ℕ) → is_text_at f m ≡ true → contents_at f m ≡ None
      unnamed f m text = go (slice_get f.content m) text
        where
          go : (o : Option NodeData) → option_map_or is_text o false ≡ true → option_and_then contents_named o ≡ None
          go (Some (Text a)) h = refl
          go _ h = cc

  -- contents are fragments, so they are no texts
  held_no_text : (n c : ℕ) → contents_at forest n ≡ Some c → is_text_at forest c ≡ false
  held_no_text n c has = go (slice_get forest.content c) (good.contents_known n c has).1
    where
      go : (o : Option NodeData) → option_map_or is_fragment o false ≡ true → option_map_or is_text o false ≡ false
      go (Some (Text a)) h = cc
      go _ h = refl

  contents_then : (n : ℕ) → contents_list after_it n ≡ without out (contents_list forest n)
  contents_then n = go (contents_at forest n) refl
    where
      go : (o : Option ℕ) → contents_at forest n ≡ o → contents_list after_it n ≡ without out (contents_list forest n)
      go None e = (let now = named_then n ∙ e in rw (now, e) refl)
      go (Some c) e = (let now = named_then n ∙ e in rw (now, e, out_other c (held_no_text n c e)) refl)

  none_zero : (f : Forest) (ns : List ℕ) → trees_to f zero ns ≡ NoTrees
  none_zero f [] = refl
  none_zero f (n ∷ ns) = refl

  pruned_to : (most : ℕ) (ns : List ℕ) → trees_to after_it most (without out ns) ≡ pruned (trees_to forest most ns)
  pruned_to most [] = refl
  pruned_to zero (n ∷ ns) = none_zero after_it (without out (n ∷ ns))
  pruned_to (suc most) (n ∷ ns) = elim (cases_Bool (is_member n out)) [
    | inl t ↦ rw t (pruned_to (suc most) ns)
    | inr f ↦ rw f (ap (λ ts. Tree n ts (trees_to after_it most (children_of after_it n)) (trees_to after_it (suc most) (without out ns))) (ap (trees_to after_it most) (contents_then n) ∙ pruned_to most (contents_list forest n))
        ∙ ap (λ ts. Tree n (pruned (trees_to forest most (contents_list forest n))) ts (trees_to after_it (suc most) (without out ns))) (ap (trees_to after_it most) (children_then n) ∙ pruned_to most (children_of forest n))
        ∙ ap (λ ts. Tree n (pruned (trees_to forest most (contents_list forest n))) (pruned (trees_to forest most (children_of forest n))) ts) (pruned_to (suc most) ns))
  ]

  trees_then : (ns : List ℕ) → trees after_it (without out ns) ≡ pruned (trees forest ns)
  unfolding trees
  trees_then ns = ap (λ most. trees_to after_it most (without out ns)) (length_held 0 (held forest nodes) forest.content) ∙ pruned_to (length forest.content) ns

  abbrev old_read : Reading → Bool → List ℕ → List ℕ
  old_read reading place ns = read_as reading forest place (trees forest ns)

  abbrev new_read : Reading → Bool → List ℕ → List ℕ
  new_read reading place ns = read_as reading after_it place (pruned (trees forest ns))

  -- what the first node is read as, of what is read below it
  abbrev first_read : Reading → Bool → List ℕ → (Bool → List ℕ) → Option NodeData → List ℕ
  first_read reading place inner below o = option_map_or (λ content. reading.node content place inner (below (reading.below content))) o []

  abbrev text_read : Reading → Bool → List ℕ → List ℕ
  text_read reading place text = reading.node (Text text) place [] []

  -- a list is read then as before; where its rows are joined and a text is right before it, what its first texts hold is read there
  record SameReading (reading : Reading) (is_row : Bool) (before behind : List ℕ) : Type 0 where
    within : is_row ≡ true → inside before ≡ true → (place : Bool) → text_read reading place (front_texts forest behind) ++ new_read reading place behind ≡ old_read reading place behind
    apart : (is_row ≡ true → inside before ≡ false) → (place : Bool) → new_read reading place behind ≡ old_read reading place behind

  text_is : (f : Forest) (n : ℕ) → is_text_at f n ≡ true → slice_get f.content n ≡ Some (Text (text_at f n))
  text_is f n text = go (slice_get f.content n) text
    where
      go : (o : Option NodeData) → option_map_or is_text o false ≡ true → o ≡ Some (Text (option_map_or text_in o []))
      go (Some (Text a)) h = refl
      go _ h = cc

  read_alike : (reading : Reading) (place : Bool) (inner inner' : List ℕ) (below below' : Bool → List ℕ) → inner ≡ inner' → ((b : Bool) → below b ≡ below' b) → (o : Option NodeData) → first_read reading place inner below o ≡ first_read reading place inner' below' o
  read_alike reading place inner inner' below below' same all None = refl
  read_alike reading place inner inner' below below' same all (Some c) = ap (λ ts. reading.node c place ts (below (reading.below c))) same ∙ ap (λ ts. reading.node c place inner' ts) (all (reading.below c))

  readings_then : (reading : Reading) → JoinsTexts reading forest → (t : Trees) (p : ℕ) (is_row : Bool) (before behind : List ℕ) → t ≡ trees forest behind → (is_row ≡ true → children_of forest p ≡ before ++ behind) → ((m : ℕ) → is_member m behind ≡ true → is_member m nodes ≡ is_row) →
      ((m : ℕ) → is_member m behind ≡ true → m < length forest.content) → SameReading reading is_row before behind
  readings_then reading joins t p is_row before [] e row in_row known =
      let none = trees-none forest in
      let old : (place : Bool) → old_read reading place [] ≡ [] = λ place. ap (λ ts. read_as reading forest place ts) none in
      let new : (place : Bool) → new_read reading place [] ≡ [] = λ place. ap (λ ts. read_as reading after_it place (pruned ts)) none in
      record {
        within = λ _ h place. ap (λ ms. ms ++ new_read reading place []) (joins.none place) ∙ new place ∙ sym (old place);
        apart = λ h place. new place ∙ sym (old place);
      }
  readings_then reading joins NoTrees p is_row before (n ∷ behind) e row in_row known = (let no = e ∙ trees-some forest n behind good known in cc)
  readings_then reading joins (Tree r c k l) p is_row before (n ∷ behind) e row in_row known =
      let whole = trees-some forest n behind good known in
      let same = e ∙ whole in
      let held_are : c ≡ trees forest (contents_list forest n) = cc in
      let kids_are : k ≡ trees forest (children_of forest n) = cc in
      let rest_are : l ≡ trees forest behind = cc in
      let here = in_row n (here_stands n behind) in
      let inside_here = known n (here_stands n behind) in
      let contents = readings_then reading joins c n false [] (contents_list forest n) held_are (λ no. absurd (false≢true no)) (λ m s. held_outside n m s) (λ m s. held_known n m s) in
      let kids = readings_then reading joins k n ((n == x) || is_member x (ancestors forest n)) [] (children_of forest n) kids_are (λ _. refl) (λ m s. child_stands n m s) (λ m s. (good.once.in_children n m s).0) in
      let rest = readings_then reading joins l p is_row (before ++ n ∷ []) behind rest_are (λ h. row h ∙ sym (append_assoc before (n ∷ []) behind)) (λ m s. in_row m (later_stands n m behind s)) (λ m s. known m (later_stands n m behind s)) in
      let inner : Bool → List ℕ = λ place. new_read reading place (children_of forest n) in
      let old : (place : Bool) → old_read reading place (n ∷ behind) ≡ first_read reading place (old_read reading false (contents_list forest n)) (λ b. old_read reading b (children_of forest n)) (slice_get forest.content n) ++ old_read reading place behind
      = λ place. ap (read_as reading forest place) whole in
      let left : (place : Bool) → new_read reading place (n ∷ behind) ≡ read_as reading after_it place (cond (is_member n out) (pruned (trees forest behind)) (Tree n (pruned (trees forest (contents_list forest n))) (pruned (trees forest (children_of forest n))) (pruned (trees forest behind))))
      = λ place. ap (λ ts. read_as reading after_it place (pruned ts)) whole in
      let gone : is_member n out ≡ true → (place : Bool) → new_read reading place (n ∷ behind) ≡ new_read reading place behind
      = λ t place. left place ∙ ap (λ b. read_as reading after_it place (cond b (pruned (trees forest behind)) (Tree n (pruned (trees forest (contents_list forest n))) (pruned (trees forest (children_of forest n))) (pruned (trees forest behind))))) t in
      let kept : is_member n out ≡ false → (place : Bool) → new_read reading place (n ∷ behind) ≡ first_read reading place (new_read reading false (contents_list forest n)) inner (slice_get after_it.content n) ++ new_read reading place behind
      = λ f place. left place ∙ ap (λ b. read_as reading after_it place (cond b (pruned (trees forest behind)) (Tree n (pruned (trees forest (contents_list forest n))) (pruned (trees forest (children_of forest n))) (pruned (trees forest behind))))) f in
      let alike : (place : Bool) → first_read reading place (new_read reading false (contents_list forest n)) inner (slice_get forest.content n) ≡ first_read reading place (old_read reading false (contents_list forest n)) (λ b. old_read reading b (children_of forest n)) (slice_get forest.content n)
      = λ place. read_alike reading place _ _ inner (λ b. old_read reading b (children_of forest n)) (contents.apart (λ no. absurd (false≢true no)) false) (λ b. kids.apart (λ _. refl) b) (slice_get forest.content n) in
      -- the node is what it was, and what is behind it is read as before
      let stayed : is_member n out ≡ false → slice_get after_it.content n ≡ slice_get forest.content n → (place : Bool) → new_read reading place behind ≡ old_read reading place behind → new_read reading place (n ∷ behind) ≡ old_read reading place (n ∷ behind)
      = λ f is place later_same. kept f place ∙ ap (λ o. first_read reading place (new_read reading false (contents_list forest n)) inner o ++ new_read reading place behind) is
      ∙ ap (λ ms. ms ++ new_read reading place behind) (alike place)
      ∙ ap (λ ms. first_read reading place (old_read reading false (contents_list forest n)) (λ b. old_read reading b (children_of forest n)) (slice_get forest.content n) ++ ms) later_same ∙ sym (old place) in
      elim (cases_Bool is_row) [
        | inr f ↦ (let away = here ∙ f in
            record {
              within = λ t h. absurd (false≢true (sym f ∙ t));
              apart = λ h place. stayed (is_out n ∙ ap (λ b. b && (is_text_at forest n && not (starts_text_run forest n))) away) (same_there n away) place (rest.apart (λ t. absurd (false≢true (sym f ∙ t))) place);
            })
        | inl t ↦ elim (cases_Bool (is_text_at forest n)) [
          | inr other ↦ (let empty : is_empty_text forest n ≡ false = ap (λ b. b && length (text_at forest n) == 0) other in
              let outside : inside (before ++ n ∷ []) ≡ false = inside_next before n ∙ ap (λ b. cond (not b) (is_text_at forest n) (inside before)) empty ∙ other in
              let new : (place : Bool) → new_read reading place (n ∷ behind) ≡ old_read reading place (n ∷ behind) = λ place. stayed (out_other n other) (same_other n other) place (rest.apart (λ _. outside) place) in
              record {
                within = λ _ h place. ap (λ b. text_read reading place (cond b (text_at forest n ++ front_texts forest behind) []) ++ new_read reading place (n ∷ behind)) other
                    ∙ ap (λ ms. ms ++ new_read reading place (n ∷ behind)) (joins.none place) ∙ new place;
                apart = λ h. new;
              })
          | inl text ↦ (let in_nodes = here ∙ t in
              let there = stands_there p n before behind (row t) in
              let leading = starts_run_is p n before behind there text in
              let old_is : (place : Bool) → old_read reading place (n ∷ behind) ≡ text_read reading place (text_at forest n) ++ old_read reading place behind
              = λ place. old place ∙ ap (λ o. first_read reading place (old_read reading false (contents_list forest n)) (λ b. old_read reading b (children_of forest n)) o ++ old_read reading place behind) (text_is forest n text)
              ∙ ap (λ ms. ms ++ old_read reading place behind) (joins.leaf (text_at forest n) place _ _) in
              let front : front_texts forest (n ∷ behind) ≡ text_at forest n ++ front_texts forest behind = ap (λ b. cond b (text_at forest n ++ front_texts forest behind) []) text in
              let then_gone : starts_text_run forest n ≡ false → (place : Bool) → new_read reading place (n ∷ behind) ≡ new_read reading place behind = λ f. gone (out_text n in_nodes text ∙ ap not f) in
              -- the text and what its row holds behind it
              let all : (place : Bool) → inside (before ++ n ∷ []) ≡ true → text_read reading place (text_at forest n ++ front_texts forest behind) ++ new_read reading place behind ≡ old_read reading place (n ∷ behind)
              = λ place more. ap (λ ms. ms ++ new_read reading place behind) (joins.joins n (front_texts forest behind) place)
              ∙ append_assoc (text_read reading place (text_at forest n)) (text_read reading place (front_texts forest behind)) (new_read reading place behind)
              ∙ ap (λ ms. text_read reading place (text_at forest n) ++ ms) (rest.within t more place) ∙ sym (old_is place) in
              record {
                within = λ _ h place. (let f : starts_text_run forest n ≡ false = leading ∙ ap (λ b. not (is_empty_text forest n) && not b) h ∙ and-false (not (is_empty_text forest n)) in
                    let more : inside (before ++ n ∷ []) ≡ true = inside_next before n ∙ either (not (is_empty_text forest n)) (is_text_at forest n) (inside before) text h in
                    ap (λ ms. text_read reading place ms ++ new_read reading place (n ∷ behind)) front ∙ ap (λ ms. text_read reading place (text_at forest n ++ front_texts forest behind) ++ ms) (then_gone f place) ∙ all place more);
                apart = λ apart place. (let h = apart t in elim (cases_Bool (is_empty_text forest n)) [
                  | inl nothing ↦ (let f : starts_text_run forest n ≡ false = leading ∙ ap (λ b. not b && not (inside before)) nothing in
                      let less : inside (before ++ n ∷ []) ≡ false = inside_next before n ∙ ap (λ b. cond (not b) (is_text_at forest n) (inside before)) nothing ∙ h in
                      let no : text_at forest n ≡ [] = no_bytes (text_at forest n) (sym (ap (λ b. b && length (text_at forest n) == 0) text) ∙ nothing) in
                      then_gone f place ∙ rest.apart (λ _. less) place ∙ sym (old_is place ∙ ap (λ ms. text_read reading place ms ++ old_read reading place behind) no ∙ ap (λ ms. ms ++ old_read reading place behind) (joins.none place)))
                  | inr full ↦ (let starts_run_it : starts_text_run forest n ≡ true = leading ∙ ap (λ b. not b && not (inside before)) full ∙ ap not h in
                      let more : inside (before ++ n ∷ []) ≡ true = inside_next before n ∙ ap (λ b. cond (not b) (is_text_at forest n) (inside before)) full ∙ text in
                      let held_now : text_at after_it n ≡ text_at forest n ++ front_texts forest behind = text_joined n in_nodes text ∙ ap (λ b. cond b (text_at forest n ++ front_texts forest (later forest false n)) []) starts_run_it ∙ ap (λ ms. text_at forest n ++ front_texts forest ms) there.on in
                      kept (out_text n in_nodes text ∙ ap not starts_run_it) place
                      ∙ ap (λ o. first_read reading place (new_read reading false (contents_list forest n)) inner o ++ new_read reading place behind) (text_is after_it n (kind n ∙ text) ∙ ap (λ ts. Some (Text ts)) held_now)
                      ∙ ap (λ ms. ms ++ new_read reading place behind) (joins.leaf (text_at forest n ++ front_texts forest behind) place _ _) ∙ all place more)
                ]);
              })
        ]
      ]

  -- ---- the rows then

  record LaterThen (n : ℕ) (before behind : List ℕ) : Type 0 where
    back : later after_it true n ≡ without out (reverse before)
    on : later after_it false n ≡ without out behind

  later_then : (p n : ℕ) (before behind : List ℕ) → children_of forest p ≡ before ++ n ∷ behind → is_member n out ≡ false → LaterThen n before behind
  later_then p n before behind is stays =
      let there = stands_there p n before behind is in
      let up : parent after_it n ≡ Some p = owner-without 0 out forest.children n ∙ ap (λ b. cond b None (owner_from 0 forest.children n)) stays ∙ there.up in
      let kept : without out (n ∷ behind) ≡ n ∷ without out behind = ap (λ b. cond b (without out behind) (n ∷ without out behind)) stays in
      let row : siblings after_it n ≡ without out before ++ n ∷ without out behind =
      siblings_child after_it n p up ∙ children_then p ∙ ap (without out) is ∙ without-append out before (n ∷ behind) ∙ ap (λ ms. without out before ++ ms) kept in
      let front : is_member n (without out before) ≡ false = is_member-without out before n ∙ ap (λ b. b && not (is_member n out)) there.not_before in
      let rear : is_member n (reverse (without out behind)) ≡ false = is_member-reverse (without out behind) n ∙ is_member-without out behind n ∙ ap (λ b. b && not (is_member n out)) there.not_behind in
      record {
        back = ap (λ ms. rest_after (reverse ms) n) row ∙ ap (λ ms. rest_after ms n) (reverse_around (without out before) (without out behind) n)
            ∙ rest_here (reverse (without out behind)) (reverse (without out before)) n rear ∙ sym (without_reverse out before);
        on = ap (λ ms. rest_after ms n) row ∙ rest_here (without out before) (without out behind) n front;
      }

  empty_follows : (n : ℕ) → is_text_at forest n ≡ true → is_empty_text forest n ≡ true → starts_text_run forest n ≡ false
  empty_follows n text empty =
      ap (λ b. b && not (is_empty_text forest n) && not (option_map_or (is_text_at forest) (nearest_before forest n) false)) text
      ∙ ap (λ b. not b && not (option_map_or (is_text_at forest) (nearest_before forest n) false)) empty

  empty_is_text : (n : ℕ) → is_empty_text forest n ≡ true → is_text_at forest n ≡ true
  empty_is_text n h = go (is_text_at forest n) (length (text_at forest n) == 0) h
    where
      go : (a b : Bool) → (a && b) ≡ true → a ≡ true
      go true b h = refl
      go false b h = h

  -- going back, no text is met then where none was
  back_then : (ns : List ℕ) → ((m : ℕ) → is_member m ns ≡ true → is_member m nodes ≡ true) → option_map_or (is_text_at forest) (find (λ m. not (is_empty_text forest m)) ns) false ≡ false →
      option_map_or (is_text_at after_it) (find (λ m. not (is_empty_text after_it m)) (without out ns)) false ≡ false
  back_then [] in_it none = refl
  back_then (m ∷ ns) in_it none = elim (cases_Bool (is_empty_text forest m)) [
    | inl e ↦ (let text = empty_is_text m e in
        let gone : is_member m out ≡ true = out_text m (in_it m (here_stands m ns)) text ∙ ap not (empty_follows m text e) in
        let less = sym (ap (λ b. option_map_or (is_text_at forest) (cond (not b) (Some m) (find (λ k. not (is_empty_text forest k)) ns)) false) e) ∙ none in
        ap (λ b. option_map_or (is_text_at after_it) (find (λ k. not (is_empty_text after_it k)) (cond b (without out ns) (m ∷ without out ns))) false) gone
        ∙ back_then ns (λ k s. in_it k (later_stands m k ns s)) less)
    | inr f ↦ (let other : is_text_at forest m ≡ false = sym (ap (λ b. option_map_or (is_text_at forest) (cond (not b) (Some m) (find (λ k. not (is_empty_text forest k)) ns)) false) f) ∙ none in
        let still : is_text_at after_it m ≡ false = kind m ∙ other in
        let full : is_empty_text after_it m ≡ false = ap (λ b. b && length (text_at after_it m) == 0) still in
        ap (λ b. option_map_or (is_text_at after_it) (find (λ k. not (is_empty_text after_it k)) (cond b (without out ns) (m ∷ without out ns))) false) (out_other m other)
        ∙ ap (λ b. option_map_or (is_text_at after_it) (cond (not b) (Some m) (find (λ k. not (is_empty_text after_it k)) (without out ns))) false) full ∙ still)
  ]

  -- no text is left right after one that starts its text run
  front_then : (p : ℕ) (before behind : List ℕ) → children_of forest p ≡ before ++ behind → ((m : ℕ) → is_member m behind ≡ true → is_member m nodes ≡ true) → inside before ≡ true → front_texts after_it (without out behind) ≡ []
  front_then p before [] row in_it h = refl
  front_then p before (m ∷ behind) row in_it h = elim (cases_Bool (is_text_at forest m)) [
    | inl text ↦ (let there = stands_there p m before behind row in
        let f : starts_text_run forest m ≡ false = starts_run_is p m before behind there text ∙ ap (λ b. not (is_empty_text forest m) && not b) h ∙ and-false (not (is_empty_text forest m)) in
        let gone : is_member m out ≡ true = out_text m (in_it m (here_stands m behind)) text ∙ ap not f in
        let more : inside (before ++ m ∷ []) ≡ true = inside_next before m ∙ either (not (is_empty_text forest m)) (is_text_at forest m) (inside before) text h in
        ap (λ b. front_texts after_it (cond b (without out behind) (m ∷ without out behind))) gone
        ∙ front_then p (before ++ m ∷ []) behind (row ∙ sym (append_assoc before (m ∷ []) behind)) (λ k s. in_it k (later_stands m k behind s)) more)
    | inr other ↦ ap (λ b. front_texts after_it (cond b (without out behind) (m ∷ without out behind))) (out_other m other)
        ∙ ap (λ b. cond b (text_at after_it m ++ front_texts after_it (without out behind)) []) (kind m ∙ other)
  ]

  record Settled (n : ℕ) : Type 0 where
    first_one : starts_text_run after_it n ≡ true
    no_other : front_texts after_it (later after_it false n) ≡ []

  both_parts : (a b : Bool) → (not a && not b) ≡ true → (a ≡ false) × (b ≡ false)
  both_parts false false h = (refl, refl)
  both_parts false true h = cc
  both_parts true b h = cc

  settled : (n : ℕ) → is_member n nodes ≡ true → is_member n out ≡ false → is_text_at forest n ≡ true → Settled n
  settled n s stays text =
      let up = has_parent forest x n (sym (below_or_above forest good x n) ∙ s) in
      let p = up.0 in
      let child : is_member n (children_of forest p) ≡ true = ap (is_member n) (sym (siblings_child forest n p up.1)) ∙ good.once.placed n (walk-inside forest x n good s) in
      let parts = around n (children_of forest p) (good.once.children_once p) child in
      let in_it : (m : ℕ) → is_member m (children_of forest p) ≡ true → is_member m nodes ≡ true = λ m c.
      below_or_above forest good x m ∙ ap (is_member x) (ancestors-same forest n m ((good.once.in_children p m c).1 ∙ sym up.1)) ∙ (sym (below_or_above forest good x n) ∙ s) in
      let there = stands_there p n parts.front parts.back parts.is in
      let then' = later_then p n parts.front parts.back parts.is stays in
      let leading : starts_text_run forest n ≡ true = not-true (starts_text_run forest n) (sym (out_text n s text) ∙ stays) in
      let facts = both_parts (is_empty_text forest n) (inside parts.front) (sym (starts_run_is p n parts.front parts.back there text) ∙ leading) in
      let front_in : (m : ℕ) → is_member m (reverse parts.front) ≡ true → is_member m nodes ≡ true = λ m c.
      in_it m (ap (is_member m) parts.is ∙ is_member-append parts.front (n ∷ parts.back) m ∙ ap (λ b. b || is_member m (n ∷ parts.back)) (sym (is_member-reverse parts.front m) ∙ c)) in
      let back_in : (m : ℕ) → is_member m parts.back ≡ true → is_member m nodes ≡ true = λ m c.
      in_it m (ap (is_member m) parts.is ∙ is_member-append parts.front (n ∷ parts.back) m ∙ or-true (is_member m parts.front) (is_member m (n ∷ parts.back)) (later_stands n m parts.back c)) in
      let still : is_text_at after_it n ≡ true = kind n ∙ text in
      let held_now : text_at after_it n ≡ text_at forest n ++ front_texts forest (later forest false n) = text_joined n s text ∙ ap (λ b. cond b (text_at forest n ++ front_texts forest (later forest false n)) []) leading in
      let some : (length (text_at forest n) == 0) ≡ false = sym (ap (λ b. b && length (text_at forest n) == 0) text) ∙ facts.0 in
      let full : is_empty_text after_it n ≡ false = ap (λ b. b && length (text_at after_it n) == 0) still ∙ ap (λ ts. length ts == 0) held_now ∙ more_bytes (text_at forest n) (front_texts forest (later forest false n)) some in
      let none = ap (λ ms. option_map_or (is_text_at after_it) (find (λ m. not (is_empty_text after_it m)) ms) false) then'.back ∙ back_then (reverse parts.front) front_in facts.1 in
      let more : inside (parts.front ++ n ∷ []) ≡ true = inside_next parts.front n ∙ ap (λ b. cond (not b) (is_text_at forest n) (inside parts.front)) facts.0 ∙ text in
      record {
        first_one = ap (λ b. b && not (is_empty_text after_it n) && not (option_map_or (is_text_at after_it) (nearest_before after_it n) false)) still
            ∙ ap (λ b. not b && not (option_map_or (is_text_at after_it) (nearest_before after_it n) false)) full ∙ ap not none;
        no_other = ap (front_texts after_it) then'.on ∙ front_then p (parts.front ++ n ∷ []) parts.back (parts.is ∙ sym (append_assoc parts.front (n ∷ []) parts.back)) back_in more;
      }
    where
      or-true : (a b : Bool) → b ≡ true → (a || b) ≡ true
      or-true true b h = refl
      or-true false b h = h

      not-true : (b : Bool) → not b ≡ false → b ≡ true
      not-true true h = refl
      not-true false h = cc

      more_bytes : (ts us : List ℕ) → (length ts == 0) ≡ false → (length (ts ++ us) == 0) ≡ false
      more_bytes [] us h = cc
      more_bytes (t ∷ ts) us h = ne_eqb (length (t ∷ (ts ++ us))) 0 (λ e. absurd (omega (arith, e)))

  -- who stands below then
  below_then : (n : ℕ) → is_member n (descendants_in_order after_it x) ≡ true → (is_member n nodes ≡ true) × (is_member n out ≡ false)
  below_then n s = go (is_member n nodes) (is_member n out) (sym (is_member-without out nodes n) ∙ sym (ap (is_member n) walk_then) ∙ s)
    where
      go : (a b : Bool) → (a && not b) ≡ true → (a ≡ true) × (b ≡ false)
      go true false h = (refl, refl)
      go true true h = cc
      go false b h = cc

  none_out : (ns : List ℕ) → ((n : ℕ) → is_member n ns ≡ true → is_member n (descendants_in_order after_it x) ≡ true) → dropped after_it ns ≡ []
  none_out [] in_it = refl
  none_out (n ∷ ns) in_it =
      let rest = none_out ns (λ m s. in_it m (later_stands n m ns s)) in
      let place = below_then n (in_it n (here_stands n ns)) in
      let stays : (is_text_at after_it n && not (starts_text_run after_it n)) ≡ false = elim (cases_Bool (is_text_at forest n)) [
        | inl text ↦ ap (λ b. is_text_at after_it n && not b) (Settled.first_one (settled n place.0 place.1 text)) ∙ and-false (is_text_at after_it n)
        | inr other ↦ ap (λ b. b && not (starts_text_run after_it n)) (kind n ∙ other)
      ] in
      ap (λ b. cond b (n ∷ dropped after_it ns) (dropped after_it ns)) stays ∙ rest

  same_held : (n : ℕ) (content : NodeData) → slice_get after_it.content n ≡ Some content → held after_it (descendants_in_order after_it x) (0 + n) content ≡ content
  same_held n content is =
      let z : 0 + n ≡ n = omega arith in
      subst (λ (k : ℕ). held after_it (descendants_in_order after_it x) k content ≡ content) (sym z) (elim (cases_Bool (is_member n (descendants_in_order after_it x))) [
        | inr f ↦ ap (λ b. cond b (with_text_data (joined after_it n) content) content) f
        | inl s ↦ ap (λ b. cond b (with_text_data (joined after_it n) content) content) s ∙ (let place = below_then n s in
            elim (cases_Bool (is_text_at forest n)) [
              | inr other ↦ other_stays (joined after_it n) content (sym (ap (λ o. option_map_or is_text o false) is) ∙ kind n ∙ other)
              | inl text ↦ (let done = settled n place.0 place.1 text in
                  let all : joined after_it n ≡ text_in content = ap (λ b. cond b (text_at after_it n ++ front_texts after_it (later after_it false n)) []) done.first_one
                  ∙ ap (λ ts. text_at after_it n ++ ts) done.no_other ∙ append-nil (text_at after_it n) ∙ ap (λ o. option_map_or text_in o []) is in
                  ap (λ ts. with_text_data ts content) all ∙ text_again content)
            ])
      ])
    where
      text_again : (c : NodeData) → with_text_data (text_in c) c ≡ c
      text_again (Text a) = refl
      text_again _ = refl

  pub joined_again : normalized x after_it ≡ after_it
  joined_again =
      let ns = descendants_in_order after_it x in
      let none = none_out ns (λ n s. s) in
      let content = map_here 0 (held after_it ns) (λ n c. c) after_it.content same_held ∙ map_from_none 0 after_it.content in
      ap (λ ms. forest_with (map_from 0 (held after_it ns) after_it.content) (map (without ms) after_it.children) (map_from 0 (left_run ms) after_it.runs)) none
      ∙ ap (λ cs. forest_with cs (map (without []) after_it.children) (map_from 0 (left_run []) after_it.runs)) content
      ∙ ap (λ ls. forest_with after_it.content ls (map_from 0 (left_run []) after_it.runs)) (map_without_nothing after_it.children)
      ∙ ap (λ ls. forest_with after_it.content after_it.children ls) (runs_nothing 0 after_it.runs)

  -- the children of x are read as before
  children_alike : (reading : Reading) → JoinsTexts reading forest → (place : Bool) → read_as reading after_it place (trees after_it (children_of after_it x)) ≡ read_as reading forest place (trees forest (children_of forest x))
  children_alike reading joins place =
      let kids = readings_then reading joins (trees forest (children_of forest x)) x ((x == x) || is_member x (ancestors forest x)) [] (children_of forest x) refl (λ _. refl) (λ m s. child_stands x m s) (λ m s. (good.once.in_children x m s).0) in
      ap (read_as reading after_it place) (ap (trees after_it) (children_then x) ∙ trees_then (children_of forest x)) ∙ kids.apart (λ _. refl) place

  pub read_alike_then : (reading : Reading) → JoinsTexts reading forest → x < length forest.content → ReadsAlike reading x after_it forest
  read_alike_then reading joins known =
      let alone : is_member x nodes ≡ false = not_itself in
      let left : without out (x ∷ []) ≡ x ∷ [] = ap (λ b. cond b [] (x ∷ [])) (is_out x ∙ ap (λ b. b && (is_text_at forest x && not (starts_text_run forest x))) alone) in
      let one : (m : ℕ) → is_member m (x ∷ []) ≡ true → m ≡ x = λ m s. sym (eqb-true x m (sym (one-stands x m) ∙ s)) in
      let top = readings_then reading joins (trees forest (x ∷ [])) x false [] (x ∷ []) refl (λ no. absurd (false≢true no)) (λ m s. ap (λ k. is_member k nodes) (one m s) ∙ alone) (λ m s. subst (λ (k : ℕ). k < length forest.content) (sym (one m s)) known) in
      record {
        node = λ place. ap (read_as reading after_it place) (ap (trees after_it) (sym left) ∙ trees_then (x ∷ [])) ∙ top.apart (λ no. absurd (false≢true no)) place;
        children = children_alike reading joins;
        above = owner-without 0 out forest.children x ∙ ap (λ b. cond b None (owner_from 0 forest.children x)) (is_out x ∙ ap (λ b. b && (is_text_at forest x && not (starts_text_run forest x))) alone);
        others = same_other;
        texts = kind;
      }

  -- a node that may have no children has none then either
  leaves_then : Leaves after_it
  leaves_then n none = children_then n ∙ ap (without out) (leaves forest good n (bears_too n none))
    where
      bears_too : (n : ℕ) → children_allowed_at after_it n ≡ false → children_allowed_at forest n ≡ false
      bears_too n none = go (slice_get forest.content n) (ap (λ o. option_map_or children_allowed o false) (sym (got n)) ∙ none)
        where
          go : (o : Option NodeData) → option_map_or children_allowed (option_map (held forest nodes n) o) false ≡ false → option_map_or children_allowed o false ≡ false
          go None h = refl
          go (Some c) h = elim (cases_Bool (is_member n nodes)) [
            | inl t ↦ sym (bearing_kept (joined forest n) c) ∙ (sym (ap (λ b. children_allowed (cond b (with_text_data (joined forest n) c) c)) t) ∙ h)
            | inr f ↦ sym (ap (λ b. children_allowed (cond b (with_text_data (joined forest n) c) c)) f) ∙ h
          ]

  pub text_stays : text_of after_it x ≡ text_of forest x
  text_stays =
      ap (λ ts. text_at after_it x ++ ts) (text_walked after_it leaves_then false (children_of after_it x) ∙ children_alike text_reading (text_joins forest) false ∙ sym (text_walked forest (leaves forest good) false (children_of forest x)))
      ∙ ap (λ ts. ts ++ flat_map (text_at forest) (descendants_in_order forest x)) (text_same x not_itself)
