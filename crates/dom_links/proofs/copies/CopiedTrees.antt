-- Copies are the trees of the nodes that were copied, numbered on.
use Rattle.std.proofs.Common.{ℕ, zero, suc, ◌≡◌, ◌<◌, ◌≤◌, ◌+◌, true, false, List, [], ◌∷◌, ◌++◌, Option, Some, None, refl, sym, ap, ◌∙◌, subst, arith, inl, inr, length, get_or, append_assoc}
use Rattle.std.specs.Prelude.{◌==◌, slice_get, option_and_then, IfSome}
use Rattle.std.specs.Option.{option_map}
use Rattle.std.proofs.lemmas.Bool.{cases_eq, ne_eqb, eq-eqb}
use Rattle.std.proofs.lemmas.List.{append-nil, get_or_past, length_push}
use Rattle.dom_nodes.specs.declared.node_data.NodeData.{NodeData}
use Rattle.dom_nodes.specs.declared.node_data.NodeData.TheVariants.{Fragment}
use Rattle.dom_nodes.specs.Kinds.{contents_named, is_fragment}
use Rattle.dom_links.specs.Copies.{Extends, copied, copied_data, data_at, root_numbers, node_count, with_copies, with_node_below}
use Rattle.dom_links.specs.CopiedTrees.{AreCopies, HoldCopies, renumbered}
use Rattle.dom_links.specs.Copying.{AreNodesOf}
use Rattle.dom_links.specs.Lists.{is_member}
use Rattle.dom_links.specs.Forest.{Forest, children_of, run_of}
use Rattle.dom_links.specs.Growth.{with_node}
use Rattle.dom_links.specs.Moves.{children_with, run_with, end_of}
use Rattle.dom_links.specs.Sound.{IsForest, contents_at}
use Rattle.dom_links.specs.Trees.{NoTrees, Tree, Trees, contents_list, trees}
use Rattle.dom_links.proofs.forest.Places.{cases_Option, get_or-map_all, length-map_from}
use Rattle.dom_links.proofs.moves.Cuts.{one-stands, one_known}
use Rattle.dom_links.proofs.forest.Depth.{trees-none, trees-some}
use Rattle.dom_links.proofs.forest.Grown.{children-more, slice_get-there, get_or-before, within}
use Rattle.dom_links.proofs.copies.Copied.{all_copies_keep, copies_keep, named_at, node_count-below, node_count-copies}
use Rattle.dom_links.proofs.copies.CopiedForests.{AreInside, Contents, Parts, contents_are, content-below, content-kept, copied_kept, inside_all, names-copied, no_held, parts}

-- each node has a list of children and a run
record Aligned (forest : Forest) : Type 0 where
  children_each : length forest.children ≡ length forest.content
  runs_each : length forest.runs ≡ length forest.content

aligned-node : (content : NodeData) (forest : Forest) → Aligned forest → Aligned (with_node content forest)
aligned-node content forest fits = record {
  children_each = length_push forest.children [] ∙ ap (λ (k : ℕ). k + 1) fits.children_each ∙ sym (length_push forest.content content);
  runs_each = length_push forest.runs (length forest.content ∷ []) ∙ ap (λ (k : ℕ). k + 1) fits.runs_each ∙ sym (length_push forest.content content);
}

aligned-below : (p : Option ℕ) (content : NodeData) (forest : Forest) → Aligned forest → Aligned (with_node_below p content forest)
aligned-below None content forest fits = aligned-node content forest fits
aligned-below (Some p) content forest fits =
    let more = with_node content forest in
    let moved = length forest.content ∷ [] in
    let plain = aligned-node content forest fits in
    record {
      children_each = length-map_from 0 (children_with (end_of p) moved) more.children ∙ plain.children_each;
      runs_each = length-map_from 0 (λ n run. run_with (end_of p) moved more n) more.runs ∙ plain.runs_each;
    }

aligned-copies : (source : Forest) (p : Option ℕ) (ts : Trees) (forest : Forest) → Aligned forest → Aligned (with_copies source p ts forest)
aligned-copies source p ts forest fits = all_copies_keep source Aligned (λ q content f. aligned-below q (copied_data (length f.content) content) f) p ts forest fits

-- ---- children

children_below : (p : Option ℕ) (n : ℕ) (content : NodeData) (forest : Forest) → Aligned forest → n < length forest.content → (p ≡ Some n → ⊥) → children_of (with_node_below p content forest) n ≡ children_of forest n
children_below None n content forest fits known other = children-more content forest n
children_below (Some p) n content forest fits known other =
    let more = with_node content forest in
    let inside : n < length more.children = omega (arith, length_push forest.children [], fits.children_each) in
    let apart : (n == p) ≡ false = ne_eqb n p (λ e. other (ap Some (sym e))) in
    get_or-map_all (children_with (end_of p) (length forest.content ∷ [])) more.children n inside ∙ rw apart (children-more content forest n)

no_children : (content : NodeData) (forest : Forest) → Aligned forest → children_of (with_node content forest) (length forest.content) ≡ []
no_children content forest fits = children-more content forest (length forest.content) ∙ get_or_past forest.children (length forest.content) [] (omega (arith, fits.children_each))

children_new : (p : Option ℕ) (content : NodeData) (forest : Forest) → Aligned forest → IfSome p (λ q. q < length forest.content) → children_of (with_node_below p content forest) (length forest.content) ≡ []
children_new None content forest fits place = no_children content forest fits
children_new (Some p) content forest fits place =
    let more = with_node content forest in
    let n = length forest.content in
    let inside : n < length more.children = omega (arith, length_push forest.children [], fits.children_each) in
    let apart : (n == p) ≡ false = ne_eqb n p (λ e. absurd (omega (arith, e))) in
    get_or-map_all (children_with (end_of p) (n ∷ [])) more.children n inside ∙ rw apart (no_children content forest fits)

children_given : (q : ℕ) (content : NodeData) (forest : Forest) → Aligned forest → q < length forest.content → children_of (with_node_below (Some q) content forest) q ≡ children_of forest q ++ length forest.content ∷ []
children_given q content forest fits known =
    let more = with_node content forest in
    let inside : q < length more.children = omega (arith, length_push forest.children [], fits.children_each) in
    let same : (q == q) ≡ true = eq-eqb q q refl in
    get_or-map_all (children_with (end_of q) (length forest.content ∷ [])) more.children q inside ∙ rw same (ap (λ ns. ns ++ length forest.content ∷ []) (children-more content forest q))

not_it : (k n : ℕ) → Some k ≡ Some n → n < k → ⊥
not_it k n e h = (let same : k ≡ n = cc in omega (arith, same))

keep : (source : Forest) (p : Option ℕ) (ts : Trees) (forest : Forest) (n : ℕ) → Aligned forest → n < length forest.content → (p ≡ Some n → ⊥) → children_of (with_copies source p ts forest) n ≡ children_of forest n
keep source p ts forest n fits known other = (copies_keep source (λ f. Aligned f × (n < length f.content) × (children_of f n ≡ children_of forest n)) (λ q. q ≡ Some n → ⊥)
    (λ e. cc) (λ f kept e. not_it (length f.content) n e kept.1)
    (λ q content f other' kept. (let data' = copied_data (length f.content) content in
    (aligned-below q data' f kept.0, omega (arith, kept.1, node_count-below q data' f), children_below q n data' f kept.0 kept.1 other' ∙ kept.2)))
    p ts forest other (fits, known, refl)).2

-- the forest once a node is copied, then its contents too, then its children too
abbrev made_of : Forest → Option ℕ → ℕ → Forest → Forest
made_of source p n forest = with_node_below p (copied_data (length forest.content) (data_at source n)) forest

abbrev held_of : Forest → Option ℕ → ℕ → Trees → Forest → Forest
held_of source p n contents forest = with_copies source None contents (made_of source p n forest)

abbrev whole_of : Forest → Option ℕ → ℕ → Trees → Trees → Forest → Forest
whole_of source p n contents children forest = with_copies source (Some (length forest.content)) children (held_of source p n contents forest)

record TreeCopied (source : Forest) (p : Option ℕ) (n : ℕ) (contents children : Trees) (forest : Forest) : Type 0 where
  made_fits : Aligned (made_of source p n forest)
  held_fits : Aligned (held_of source p n contents forest)
  whole_fits : Aligned (whole_of source p n contents children forest)
  made_is : length (made_of source p n forest).content ≡ length forest.content + 1
  held_is : length (held_of source p n contents forest).content ≡ length forest.content + 1 + node_count contents
  whole_is : length (whole_of source p n contents children forest).content ≡ length forest.content + node_count (Tree n contents children NoTrees)

tree_copied : (source : Forest) (p : Option ℕ) (n : ℕ) (contents children : Trees) (forest : Forest) → Aligned forest → TreeCopied source p n contents children forest
tree_copied source p n contents children forest fits =
    let made = made_of source p n forest in
    let held = held_of source p n contents forest in
    let made_fits = aligned-below p (copied_data (length forest.content) (data_at source n)) forest fits in
    let held_fits = aligned-copies source None contents made made_fits in
    let one = node_count-below p (copied_data (length forest.content) (data_at source n)) forest in
    let two = node_count-copies source None contents made in
    let three = node_count-copies source (Some (length forest.content)) children held in
    record {
      made_fits = made_fits;
      held_fits = held_fits;
      whole_fits = aligned-copies source (Some (length forest.content)) children held held_fits;
      made_is = one;
      held_is = omega arith;
      whole_is = omega arith;
    }

given : (source : Forest) (q : ℕ) (ts : Trees) (forest : Forest) → Aligned forest → q < length forest.content → children_of (with_copies source (Some q) ts forest) q ≡ children_of forest q ++ root_numbers (length forest.content) ts
given source q NoTrees forest fits known = sym (append-nil (children_of forest q))
given source q (Tree m contents children later) forest fits known =
    let k = length forest.content in
    let made = made_of source (Some q) m forest in
    let held = held_of source (Some q) m contents forest in
    let whole = whole_of source (Some q) m contents children forest in
    let done = tree_copied source (Some q) m contents children forest fits in
    given source q later whole done.whole_fits (omega (arith, done.whole_is, known))
    ∙ ap (λ ns. ns ++ root_numbers (length whole.content) later) (keep source (Some k) children held q done.held_fits (omega (arith, done.held_is, known)) (λ e. not_it k q e known)
    ∙ keep source None contents made q done.made_fits (omega (arith, done.made_is, known)) (λ e. cc)
    ∙ children_given q (copied_data k (data_at source m)) forest fits known)
    ∙ append_assoc (children_of forest q) (k ∷ []) (root_numbers (length whole.content) later)
    ∙ ap (λ (j : ℕ). children_of forest q ++ k ∷ root_numbers j later) done.whole_is

-- ---- what stays

run_node : (n : ℕ) (content : NodeData) (forest : Forest) → Aligned forest → n < length forest.content → run_of (with_node content forest) n ≡ run_of forest n
run_node n content forest fits known = get_or-before forest.runs (length forest.content ∷ []) n (omega (arith, fits.runs_each))

runs_below : (p : Option ℕ) (n : ℕ) (content : NodeData) (forest : Forest) → Aligned forest → n < length forest.content → run_of (with_node_below p content forest) n ≡ run_of forest n
runs_below None n content forest fits known = run_node n content forest fits known
runs_below (Some p) n content forest fits known =
    let more = with_node content forest in
    let moved = length forest.content ∷ [] in
    let inside : n < length more.runs = omega (arith, length_push forest.runs moved, fits.runs_each) in
    let other : is_member n moved ≡ false = one-stands (length forest.content) n ∙ ne_eqb (length forest.content) n (λ e. absurd (omega (arith, e))) in
    get_or-map_all (λ m run. run_with (end_of p) moved more m) more.runs n inside ∙ rw other (run_node n content forest fits known)

runs_kept : (source : Forest) (p : Option ℕ) (ts : Trees) (forest : Forest) (n : ℕ) → Aligned forest → n < length forest.content → run_of (with_copies source p ts forest) n ≡ run_of forest n
runs_kept source p ts forest n fits known = (all_copies_keep source (λ f. Aligned f × (n < length f.content) × (run_of f n ≡ run_of forest n))
    (λ q content f kept. (let data' = copied_data (length f.content) content in
    (aligned-below q data' f kept.0, omega (arith, kept.1, node_count-below q data' f), runs_below q n data' f kept.0 kept.1 ∙ kept.2)))
    p ts forest (fits, known, refl)).2

all_kept : (source : Forest) (ts : Trees) (forest : Forest) → Aligned forest → Extends forest (with_copies source None ts forest)
all_kept source ts forest fits = record {
  longer = omega (arith, node_count-copies source None ts forest);
  contents = λ n h. content-kept source None ts forest n h;
  children = λ n h. keep source None ts forest n fits h (λ e. cc);
  runs = λ n h. runs_kept source None ts forest n fits h;
}

-- ---- trees

roots_inside : (ts : Trees) (k m : ℕ) → is_member m (root_numbers k ts) ≡ true → m < k + node_count ts
roots_inside NoTrees k m s = cc
roots_inside (Tree n contents children later) k m s = elim (cases_eq k m) [
  | inl e ↦ omega (arith, e)
  | inr ne ↦ (let other : (k == m) ≡ false = ne_eqb k m ne in omega (arith, roots_inside later (k + node_count (Tree n contents children NoTrees)) m (rw other at s)))
]

-- from k on, the other forest has what the first one has there
record Above (forest other : Forest) (k : ℕ) : Type 0 where
  longer : length forest.content ≤ length other.content
  content : (n : ℕ) → k ≤ n → n < length forest.content → slice_get other.content n ≡ slice_get forest.content n
  children : (n : ℕ) → k ≤ n → n < length forest.content → children_of other n ≡ children_of forest n

under : (p : Option ℕ) (n k : ℕ) → IfSome p (λ q. q < k) → p ≡ Some n → k ≤ n → ⊥
under None n k place e low = cc
under (Some q) n k place e low = (let same : q ≡ n = cc in omega (arith, same))

-- what stands there before more copies are made
above-copies : (source : Forest) (p : Option ℕ) (ts : Trees) (forest other : Forest) (k : ℕ) → Aligned forest → IfSome p (λ q. q < k) → Above (with_copies source p ts forest) other k → Above forest other k
above-copies source p ts forest other k fits place above =
    let many = node_count-copies source p ts forest in
    record {
      longer = omega (arith, above.longer);
      content = λ n low high. above.content n low (omega arith) ∙ content-kept source p ts forest n high;
      children = λ n low high. above.children n low (omega arith) ∙ keep source p ts forest n fits high (λ e. under p n k place e low);
    }

above-on : (forest other : Forest) (k j : ℕ) → k ≤ j → Above forest other k → Above forest other j
above-on forest other k j more above = record { longer = above.longer; content = λ n low high. above.content n (omega arith) high; children = λ n low high. above.children n (omega arith) high }

-- the contents of a copy
contents-copied : (source other : Forest) (n k : ℕ) (contents : Trees) → IsForest source → trees source (contents_list source n) ≡ contents → slice_get other.content k ≡ Some (copied_data k (data_at source n)) → contents_list other k ≡ root_numbers (k + 1) contents
contents-copied source other n k NoTrees good is read =
    let none = no_held source n good is in
    let named : contents_at other k ≡ None = ap (option_and_then contents_named) read ∙ names-copied k (data_at source n) ∙ ap (option_map (λ _. k + 1)) (sym (named_at source n) ∙ none) in
    rw named refl
contents-copied source other n k (Tree c contents children later) good is read =
    let held = contents_are source n c contents children later good is in
    let named : contents_at other k ≡ Some (k + 1) = ap (option_and_then contents_named) read ∙ names-copied k (data_at source n) ∙ ap (option_map (λ _. k + 1)) (sym (named_at source n) ∙ Contents.is held) in
    rw (named, Contents.last_one held) refl

place_on : (p : Option ℕ) (k j : ℕ) → IfSome p (λ q. q < k) → k ≤ j → IfSome p (λ q. q < j)
place_on None k j place more = tt
place_on (Some q) k j place more = omega arith

got_data : (xs : List NodeData) (n : ℕ) → n < length xs → slice_get xs n ≡ Some (get_or xs n Fragment)
got_data [] n h = absurd (omega arith)
got_data (x ∷ xs) zero h = refl
got_data (x ∷ xs) (suc n) h = got_data xs n (omega arith)

contents_inside : (source : Forest) (n : ℕ) → IsForest source → AreInside source (contents_list source n)
contents_inside source n good m s = elim (cases_Option (contents_at source n)) [
  | inl none ↦ (let no = rw none at s in cc)
  | inr (c, is) ↦ one_known source c (within is_fragment source.content c (good.contents_known n c is).1) m (rw is at s)
]

record Numbered (source : Forest) (ts : Trees) (k : ℕ) (other : Forest) : Type 0 where
  same_trees : trees other (root_numbers k ts) ≡ renumbered k ts
  same_data : HoldCopies source ts k other

trees_copied : (source : Forest) (ts : Trees) (p : Option ℕ) (ns : List ℕ) (forest other : Forest) → IsForest source → IsForest other → AreInside source ns → trees source ns ≡ ts → Aligned forest → IfSome p (λ q. q < length forest.content) →
    Above (with_copies source p ts forest) other (length forest.content) → Numbered source ts (length forest.content) other
trees_copied source NoTrees p ns forest other good fine known is fits place above = record { same_trees = trees-none other; same_data = tt }
trees_copied source (Tree n contents children later) p ns forest other good fine known is fits place above =
    let part = parts source ns n contents children later good known is in
    let rest = Parts.rest part in
    let k = length forest.content in
    let data' = copied_data k (data_at source n) in
    let made = made_of source p n forest in
    let held = held_of source p n contents forest in
    let whole = whole_of source p n contents children forest in
    let done = tree_copied source p n contents children forest fits in
    let made_is = done.made_is in
    let held_is = done.held_is in
    let whole_is = done.whole_is in
    let four = node_count-copies source p later whole in
    let above3 : Above whole other k = above-copies source p later whole other k done.whole_fits place above in
    let above2 : Above held other (k + 1) = above-copies source (Some k) children held other (k + 1) done.held_fits (omega arith) (above-on whole other k (k + 1) (omega arith) above3) in
    let at_k : slice_get other.content k ≡ Some data' = above3.content k (omega arith) (omega arith) ∙ content-kept source (Some k) children held k (omega arith) ∙ content-kept source None contents made k (omega arith)
    ∙ ap (λ xs. slice_get xs k) (content-below p data' forest) ∙ slice_get-there forest.content data' k refl in
    let kids : children_of other k ≡ root_numbers (length held.content) children = above3.children k (omega arith) (omega arith) ∙ given source k children held done.held_fits (omega arith)
    ∙ ap (λ ns. ns ++ root_numbers (length held.content) children) (keep source None contents made k done.made_fits (omega arith) (λ e. cc) ∙ children_new p data' forest fits place) in
    let inner = trees_copied source contents None (contents_list source n) made other good fine (contents_inside source n good) (Parts.contents_is part) done.made_fits tt
    (above-on held other (k + 1) (length made.content) (omega arith) above2) in
    let below = trees_copied source children (Some k) (children_of source n) held other good fine (λ m s. (good.once.in_children n m s).0) (Parts.children_is part) done.held_fits (omega arith)
    (above-on whole other k (length held.content) (omega arith) above3) in
    let after = trees_copied source later p rest whole other good fine (Parts.rest_known part) (Parts.later_is part) done.whole_fits (place_on p k (length whole.content) place (omega arith))
    (above-on (with_copies source p later whole) other k (length whole.content) (omega arith) above) in
    record {
      same_trees = trees-some other k (root_numbers (k + node_count (Tree n contents children NoTrees)) later) fine (λ m s. omega (arith, roots_inside (Tree n contents children later) k m s, above.longer))
          ∙ ap (λ ts. Tree k ts (trees other (children_of other k)) (trees other (root_numbers (k + node_count (Tree n contents children NoTrees)) later)))
          (ap (trees other) (contents-copied source other n k contents good (Parts.contents_is part) at_k) ∙ subst (λ (j : ℕ). trees other (root_numbers j contents) ≡ renumbered j contents) made_is inner.same_trees)
          ∙ ap (λ ts. Tree k (renumbered (k + 1) contents) ts (trees other (root_numbers (k + node_count (Tree n contents children NoTrees)) later)))
          (ap (trees other) kids ∙ below.same_trees ∙ ap (λ (j : ℕ). renumbered j children) held_is)
          ∙ ap (Tree k (renumbered (k + 1) contents) (renumbered (k + 1 + node_count contents) children))
          (subst (λ (j : ℕ). trees other (root_numbers j later) ≡ renumbered j later) whole_is after.same_trees);
      same_data = (got_data source.content n (Parts.known part), at_k, subst (λ (j : ℕ). HoldCopies source contents j other) made_is inner.same_data, subst (λ (j : ℕ). HoldCopies source children j other) held_is below.same_data, subst (λ (j : ℕ). HoldCopies source later j other) whole_is after.same_data);
    }

-- what the law says
pub are_copies : (source : Forest) (ns : List ℕ) (forest : Forest) → IsForest source → IsForest forest → AreNodesOf source ns → AreCopies source ns forest
are_copies source ns forest good fine known =
    let whole = copied source ns forest in
    let whole_fine = copied_kept source ns forest good (inside_all source ns known) fine in
    let fits : Aligned forest = record { children_each = fine.once.children_each; runs_each = fine.once.runs_each } in
    let all = trees_copied source (trees source ns) None ns forest whole good whole_fine (inside_all source ns known) refl fits tt
    (record { longer = omega arith; content = λ n low high. refl; children = λ n low high. refl }) in
    record {
      fine = whole_fine;
      kept = all_kept source (trees source ns) forest fits;
      many = node_count-copies source None (trees source ns) forest;
      same_trees = all.same_trees;
      same_data = all.same_data;
    }
