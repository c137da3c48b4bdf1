-- Copies: what stays, how many there are, and what the steps that make them come to.
use Rattle.std.proofs.Common.{ℕ, zero, suc, ◌≡◌, ◌<◌, ◌≤◌, ◌+◌, true, false, List, [], ◌∷◌, ◌++◌, Option, Some, None, refl, sym, ap, ◌∙◌, subst, arith, inl, inr, length, take, drop, map, get_or, reverse, append_assoc}
use Rattle.std.specs.Prelude.{◌==◌, slice_get, option_and_then}
use Rattle.std.specs.Option.{option_map_or, IfSome}
use Rattle.std.specs.Borrow.{Bor}
use Rattle.std.specs.Global.{Vec}
use Rattle.std.specs.Prelude.{Result, Err, IfErr, IfOk, MatchResult, OnOk, vec_len}
use Rattle.std.proofs.lemmas.Bool.{cases_eq, ne_eqb}
use Rattle.std.proofs.lemmas.List.{drop_more, length_push}
use Rattle.dom_nodes.specs.declared.fault.EditFault.{EditFault}
use Rattle.dom_nodes.specs.declared.fault.EditFault.TheVariants.{TooManyNodes, Memory, UnknownNode}
use Rattle.dom_nodes.specs.declared.node_data.NodeData.{NodeData}
use Rattle.dom_nodes.specs.declared.node_data.NodeData.TheVariants.{Fragment, Element}
use Rattle.dom_nodes.specs.declared.node_data.TreeNode.{TreeNode}
use Rattle.dom_nodes.specs.Kinds.{contents_named, is_fragment}
use Rattle.dom_links.specs.Copies.{Extends, copied_below, copied_data, copy_numbers, data_at, root_numbers, node_count, with_copies, with_node_below}
use Rattle.dom_links.specs.Copying.{AreNodesOf, AreRows, CopiesAll, CopiesAlone, CopiesAndNotes, Copying, IsPlaceFor, IsRow, IsTooLarge, IsUnderWay, LacksRoom, read_nodes, row_from, with_row, with_rows}
use Rattle.dom_links.specs.declared.ops.copies.Row.{Row}
use Rattle.dom_links.specs.Lists.{is_member, first, after, before}
use Rattle.dom_links.specs.Forest.{Forest, StandsOnce, IsArenaOf, children_of, run_of, parent, siblings, arena_ids, forest_of}
use Rattle.dom_links.specs.Growth.{with_node, with_child}
use Rattle.dom_links.specs.Moves.{children_with, run_with, end_of}
use Rattle.dom_links.specs.Sound.{IsForest, contents_at}
use Rattle.dom_links.specs.Trees.{NoTrees, Tree, Trees, contents_list, trees}
use Rattle.dom_links.specs.Walk.{IsNodeOf, IsWithin, later, row_on}
use Rattle.dom_links.proofs.forest.Places.{cases_Option, siblings_child, siblings_run, get_or-map_all}
use Rattle.dom_links.proofs.moves.Cuts.{length-contents, one-stands, one_known}
use Rattle.dom_links.proofs.forest.Depth.{parent_inside, trees-none, trees-some}
use Rattle.dom_links.proofs.forest.Grown.{slice_get-before, children-more, run-more, within}
use Rattle.dom_links.proofs.forest.Nodes.{node_read}
use Rattle.dom_links.proofs.walks.Later.{Begins, begins, Follows, follows, tree_at}

-- ---- what stays

pub keeps-itself : (forest : Forest) → Extends forest forest
keeps-itself forest = record { longer = omega arith; contents = λ n h. refl; children = λ n h. refl; runs = λ n h. refl }

pub keeps-node : (base forest : Forest) (content : NodeData) → StandsOnce forest → Extends base forest → Extends base (with_node content forest)
keeps-node base forest content once kept =
    let few = kept.longer in
    record {
      longer = omega (arith, length_push forest.content content);
      contents = λ n h. slice_get-before forest.content content n (omega arith) ∙ kept.contents n h;
      children = λ n h. children-more content forest n ∙ kept.children n h;
      runs = λ n h. run-more content forest n once (omega arith) ∙ kept.runs n h;
    }

children-child : (p n : ℕ) (content : NodeData) (forest : Forest) → StandsOnce forest → n < length forest.content → (n ≡ p → ⊥) → children_of (with_child p content forest) n ≡ children_of forest n
children-child p n content forest once known ne =
    let more = with_node content forest in
    let moved = length forest.content ∷ [] in
    let inside : n < length more.children = omega (arith, length_push forest.children [], once.children_each) in
    let other : (n == p) ≡ false = ne_eqb n p ne in
    get_or-map_all (children_with (end_of p) moved) more.children n inside ∙ rw other (children-more content forest n)

runs-child : (p n : ℕ) (content : NodeData) (forest : Forest) → StandsOnce forest → n < length forest.content → run_of (with_child p content forest) n ≡ run_of forest n
runs-child p n content forest once known =
    let more = with_node content forest in
    let moved = length forest.content ∷ [] in
    let inside : n < length more.runs = omega (arith, length_push forest.runs (length forest.content ∷ []), once.runs_each) in
    let other : is_member n moved ≡ false = one-stands (length forest.content) n ∙ ne_eqb (length forest.content) n (λ e. absurd (omega (arith, e))) in
    get_or-map_all (λ m run. run_with (end_of p) moved more m) more.runs n inside ∙ rw other (run-more content forest n once known)

pub keeps-child : (base forest : Forest) (p : ℕ) (content : NodeData) → StandsOnce forest → length base.content ≤ p → Extends base forest → Extends base (with_child p content forest)
keeps-child base forest p content once new kept =
    let few = kept.longer in
    record {
      longer = omega (arith, length_push forest.content content);
      contents = λ n h. slice_get-before forest.content content n (omega arith) ∙ kept.contents n h;
      children = λ n h. children-child p n content forest once (omega arith) (λ e. absurd (omega (arith, e))) ∙ kept.children n h;
      runs = λ n h. runs-child p n content forest once (omega arith) ∙ kept.runs n h;
    }

pub parent_kept : (old new : Forest) (n : ℕ) → IsForest old → StandsOnce new → Extends old new → n < length old.content → parent new n ≡ parent old n
parent_kept old new n good once kept known = elim (cases_Option (parent old n)) [
  | inl none ↦
      (let there : is_member n (run_of old n) ≡ true = ap (is_member n) (sym (siblings_run old n none)) ∙ good.once.placed n known in
      (once.in_run n n (ap (is_member n) (kept.runs n known) ∙ there)).1 ∙ sym none)
  | inr (p, some) ↦
      (let there : is_member n (children_of old p) ≡ true = ap (is_member n) (sym (siblings_child old n p some)) ∙ good.once.placed n known in
      (once.in_children p n (ap (is_member n) (kept.children p (parent_inside old n p good some)) ∙ there)).1 ∙ sym some)
]

pub siblings_kept : (old new : Forest) (n : ℕ) → IsForest old → StandsOnce new → Extends old new → n < length old.content → siblings new n ≡ siblings old n
siblings_kept old new n good once kept known =
    let above = parent_kept old new n good once kept known in
    elim (cases_Option (parent old n)) [
      | inl none ↦ siblings_run new n (above ∙ none) ∙ kept.runs n known ∙ sym (siblings_run old n none)
      | inr (p, some) ↦ siblings_child new n p (above ∙ some) ∙ kept.children p (parent_inside old n p good some) ∙ sym (siblings_child old n p some)
    ]

-- an old node is read as it was
pub node_kept : (old new : Forest) (n : ℕ) (node : TreeNode) → IsForest old → StandsOnce new → Extends old new → n < length old.content → IsNodeOf new n node → IsNodeOf old n node
node_kept old new n node good once kept known is =
    let beside = siblings_kept old new n good once kept known in
    record {
      content_is = sym (kept.contents n known) ∙ is.content_is;
      id_is = is.id_is;
      parent_is = is.parent_is ∙ parent_kept old new n good once kept known;
      prev_is = is.prev_is ∙ ap (λ ns. before ns n) beside;
      next_is = is.next_is ∙ ap (λ ns. after ns n) beside;
      first_is = is.first_is ∙ ap first (kept.children n known);
      last_is = is.last_is ∙ ap (λ ns. first (reverse ns)) (kept.children n known);
    }

-- ---- the copies are taken away again

take_same : {X : Type 0} (xs ys : List X) → length ys ≤ length xs → ((n : ℕ) → n < length ys → slice_get xs n ≡ slice_get ys n) → take (length ys) xs ≡ ys
take_same xs [] long same = refl
take_same [] (y ∷ ys) long same = absurd (omega arith)
take_same (x ∷ xs) (y ∷ ys) long same =
    let head : Some x ≡ Some y = same 0 (omega arith) in
    let rest = take_same xs ys (omega arith) (λ n h. same (suc n) (omega arith)) in
    let is : x ≡ y = cc in
    ap (λ z. z ∷ take (length ys) xs) is ∙ ap (λ zs. y ∷ zs) rest

map-take : {X Y : Type 0} (f : X → Y) (k : ℕ) (xs : List X) → map f (take k xs) ≡ take k (map f xs)
map-take f zero xs = refl
map-take f (suc k) [] = refl
map-take f (suc k) (x ∷ xs) = ap (λ ys. f x ∷ ys) (map-take f k xs)

got-take : {X : Type 0} (k n : ℕ) (xs : List X) → n < k → slice_get (take k xs) n ≡ slice_get xs n
got-take zero n xs h = absurd (omega arith)
got-take (suc k) n [] h = refl
got-take (suc k) zero (x ∷ xs) h = refl
got-take (suc k) (suc n) (x ∷ xs) h = got-take k n xs (omega arith)

long-take : {X : Type 0} (k : ℕ) (xs : List X) → k ≤ length xs → length (take k xs) ≡ k
long-take zero xs h = refl
long-take (suc k) [] h = absurd (omega arith)
long-take (suc k) (x ∷ xs) h = ap suc (long-take k xs (omega arith))

pub shrunk : (old new : Forest) (nodes : List TreeNode) → IsForest old → IsArenaOf new nodes → Extends old new → IsArenaOf old (take (length old.content) nodes)
shrunk old new nodes good arena kept =
    let few = kept.longer in
    let long = length-contents new nodes arena.links in
    let count : length (take (length old.content) nodes) ≡ length old.content = long-take (length old.content) nodes (omega arith) in
    record {
      once = good.once;
      links = record {
        contents = map-take (λ x. x.content) (length old.content) nodes ∙ ap (take (length old.content)) arena.links.contents ∙ take_same new.content old.content few kept.contents;
        ids = λ n h. ap (λ ids. slice_get ids n) (map-take (λ x. x.id) (length old.content) nodes) ∙ got-take (length old.content) n (arena_ids nodes) (omega arith) ∙ arena.links.ids n (omega arith);
        parents = λ n h. ap (option_and_then (λ x. x.parent)) (got-take (length old.content) n nodes (omega arith)) ∙ arena.links.parents n (omega arith) ∙ parent_kept old new n good arena.once kept (omega arith);
        prevs = λ n h. ap (option_and_then (λ x. x.prev_sibling)) (got-take (length old.content) n nodes (omega arith)) ∙ arena.links.prevs n (omega arith) ∙ ap (λ ns. before ns n) (siblings_kept old new n good arena.once kept (omega arith));
        nexts = λ n h. ap (option_and_then (λ x. x.next_sibling)) (got-take (length old.content) n nodes (omega arith)) ∙ arena.links.nexts n (omega arith) ∙ ap (λ ns. after ns n) (siblings_kept old new n good arena.once kept (omega arith));
        firsts = λ n h. ap (option_and_then (λ x. x.first_child)) (got-take (length old.content) n nodes (omega arith)) ∙ arena.links.firsts n (omega arith) ∙ ap first (kept.children n (omega arith));
        lasts = λ n h. ap (option_and_then (λ x. x.last_child)) (got-take (length old.content) n nodes (omega arith)) ∙ arena.links.lasts n (omega arith) ∙ ap (λ ns. first (reverse ns)) (kept.children n (omega arith));
      };
    }

-- ---- how many nodes there are then

pub node_count-below : (p : Option ℕ) (content : NodeData) (forest : Forest) → length (with_node_below p content forest).content ≡ length forest.content + 1
node_count-below None content forest = length_push forest.content content
node_count-below (Some p) content forest = length_push forest.content content

pub node_count-copies : (source : Forest) (p : Option ℕ) (ts : Trees) (forest : Forest) → length (with_copies source p ts forest).content ≡ length forest.content + node_count ts
node_count-copies source p NoTrees forest = omega arith
node_count-copies source p (Tree n contents children later) forest =
    let made = with_node_below p (copied_data (length forest.content) (data_at source n)) forest in
    let held = with_copies source None contents made in
    let whole = with_copies source (Some (length forest.content)) children held in
    omega (arith, node_count-below p (copied_data (length forest.content) (data_at source n)) forest, node_count-copies source None contents made, node_count-copies source (Some (length forest.content)) children held, node_count-copies source p later whole)

-- what each new node keeps that stands alone, or below a node where it may, copies keep
pub copies_keep : (source : Forest) (Keeps : Forest → Type 0) (May : Option ℕ → Type 0) → May None → ((forest : Forest) → Keeps forest → May (Some (length forest.content))) →
    ((p : Option ℕ) (content : NodeData) (forest : Forest) → May p → Keeps forest → Keeps (with_node_below p (copied_data (length forest.content) content) forest)) →
    (p : Option ℕ) (ts : Trees) (forest : Forest) → May p → Keeps forest → Keeps (with_copies source p ts forest)
copies_keep source Keeps May alone below new p NoTrees forest may kept = kept
copies_keep source Keeps May alone below new p (Tree n contents children later) forest may kept =
    copies_keep source Keeps May alone below new p later _ may
    (copies_keep source Keeps May alone below new (Some (length forest.content)) children _ (below forest kept)
    (copies_keep source Keeps May alone below new None contents _ alone (new p (data_at source n) forest may kept)))

-- the same of what every new node keeps
pub all_copies_keep : (source : Forest) (Keeps : Forest → Type 0) → ((p : Option ℕ) (content : NodeData) (forest : Forest) → Keeps forest → Keeps (with_node_below p (copied_data (length forest.content) content) forest)) →
    (p : Option ℕ) (ts : Trees) (forest : Forest) → Keeps forest → Keeps (with_copies source p ts forest)
all_copies_keep source Keeps new p ts forest kept = copies_keep source Keeps (λ _. Unit {0}) tt (λ f k. tt) (λ q content f may k. new q content f k) p ts forest tt kept

pub node_count-row : (source : Forest) (rows : List Row) (forest : Forest) → length forest.content ≤ length (with_rows source rows forest).content
node_count-row source [] forest = omega arith
node_count-row source (row ∷ rows) forest = omega (arith, node_count-row source rows forest, node_count-copies source (Some row.parent) (trees source (row_on source false (Some row.first))) (with_rows source rows forest))

-- ---- the steps

pub one_tree : (source : Forest) (p : Option ℕ) (n : ℕ) (forest : Forest) → IsForest source → n < length source.content →
    with_copies source p (trees source (n ∷ [])) forest ≡
    with_copies source (Some (length forest.content)) (trees source (children_of source n)) (with_copies source None (trees source (contents_list source n)) (with_node_below p (copied_data (length forest.content) (data_at source n)) forest))
one_tree source p n forest good known =
    ap (λ ts. with_copies source p ts forest) (trees-some source n [] good (one_known source n known))
    ∙ ap (λ ts. with_copies source p ts (with_copies source (Some (length forest.content)) (trees source (children_of source n)) (with_copies source None (trees source (contents_list source n)) (with_node_below p (copied_data (length forest.content) (data_at source n)) forest)))) (trees-none source)

no_contents : (o : Option NodeData) → option_map_or is_fragment o false ≡ true → option_and_then contents_named o ≡ None
no_contents (Some (Element e)) h = cc
no_contents _ h = refl

-- a fragment that is held names no contents itself
pub held_none : (source : Forest) (n c : ℕ) → IsForest source → contents_at source n ≡ Some c → contents_at source c ≡ None
held_none source n c good is = no_contents (slice_get source.content c) (good.contents_known n c is).1

pub row_end : (source : Forest) (rows : List Row) (from : Option ℕ) (p : ℕ) (forest : Forest) →
    with_rows source (rows ++ row_from from p) forest ≡ with_rows source rows (with_copies source (Some p) (trees source (row_on source false from)) forest)
row_end source [] None p forest = ap (λ ts. with_copies source (Some p) ts forest) (sym (trees-none source))
row_end source [] (Some n) p forest = refl
row_end source (row ∷ rows) from p forest = ap (with_row source row) (row_end source rows from p forest)

-- the children of a node, as a row
pub children_end : (source : Forest) (rows : List Row) (n p : ℕ) (forest : Forest) → IsForest source →
    with_rows source (rows ++ row_from (first (children_of source n)) p) forest ≡ with_rows source rows (with_copies source (Some p) (trees source (children_of source n)) forest)
children_end source rows n p forest good =
    row_end source rows (first (children_of source n)) p forest
    ∙ ap (λ ns. with_rows source rows (with_copies source (Some p) (trees source ns) forest)) (sym (Begins.all (begins source false n (first (children_of source n)) good refl)))

-- a node without contents was copied
pub plain_copied : (source : Forest) (rows : List Row) (n : ℕ) (p : Option ℕ) (forest : Forest) → IsForest source → n < length source.content → contents_at source n ≡ None →
    with_rows source (rows ++ row_from (first (children_of source n)) (length forest.content)) (with_node_below p (copied_data (length forest.content) (data_at source n)) forest) ≡ with_rows source rows (with_copies source p (trees source (n ∷ [])) forest)
plain_copied source rows n p forest good known none =
    let k = length forest.content in
    let made = with_node_below p (copied_data k (data_at source n)) forest in
    let nothing : contents_list source n ≡ [] = rw none refl in
    children_end source rows n k made good
    ∙ ap (with_rows source rows) (ap (with_copies source (Some k) (trees source (children_of source n))) (ap (λ ts. with_copies source None ts made) (sym (ap (trees source) nothing ∙ trees-none source))) ∙ sym (one_tree source p n forest good known))

-- a node with contents was copied, and then its contents
pub held_copied : (source : Forest) (rows : List Row) (n c : ℕ) (p : Option ℕ) (forest mid : Forest) → IsForest source → n < length source.content → contents_at source n ≡ Some c →
    mid ≡ with_node_below p (copied_data (length forest.content) (data_at source n)) forest →
    with_rows source ((rows ++ row_from (first (children_of source n)) (length forest.content)) ++ row_from (first (children_of source c)) (length mid.content)) (with_node_below None (copied_data (length mid.content) (data_at source c)) mid)
    ≡ with_rows source rows (with_copies source p (trees source (n ∷ [])) forest)
held_copied source rows n c p forest mid good known is mid_is =
    let k = length forest.content in
    let one : contents_list source n ≡ c ∷ [] = rw is refl in
    let inside : c < length source.content = within is_fragment source.content c (good.contents_known n c is).1 in
    plain_copied source (rows ++ row_from (first (children_of source n)) k) c None mid good inside (held_none source n c good is)
    ∙ children_end source rows n k (with_copies source None (trees source (c ∷ [])) mid) good
    ∙ ap (with_rows source rows)
    (ap (λ ns. with_copies source (Some k) (trees source (children_of source n)) (with_copies source None (trees source ns) mid)) (sym one)
    ∙ ap (λ f. with_copies source (Some k) (trees source (children_of source n)) (with_copies source None (trees source (contents_list source n)) f)) mid_is
    ∙ sym (one_tree source p n forest good known))

-- a row is its first node and the row behind
pub row_split : (source : Forest) (row : Row) (forest : Forest) → IsForest source → row.first < length source.content →
    with_row source row forest ≡ with_copies source (Some row.parent) (trees source (row_on source false (after (siblings source row.first) row.first))) (with_copies source (Some row.parent) (trees source (row.first ∷ [])) forest)
row_split source row forest good known =
    let n = row.first in
    let p = Some row.parent in
    ap (λ ts. with_copies source p ts forest) (tree_at source n good known)
    ∙ ap (λ ns. with_copies source p (trees source ns) (with_copies source (Some (length forest.content)) (trees source (children_of source n)) (with_copies source None (trees source (contents_list source n)) (with_node_below p (copied_data (length forest.content) (data_at source n)) forest)))) (Follows.rest (follows source false n _ good refl))
    ∙ ap (with_copies source p (trees source (row_on source false (after (siblings source n) n)))) (sym (one_tree source p n forest good known))

-- ---- what is read

pub other_read : (at : Copying) (other : Bor (List TreeNode)) (nodes : List TreeNode) (n : ℕ) (node : TreeNode) → IsUnderWay at (Some other) nodes → slice_get other.now n ≡ Some node → IsNodeOf at.source n node
other_read at other nodes n node way read = node_read at.source other.now n node way.read read

pub same_read : (at : Copying) (nodes : List TreeNode) (n : ℕ) (node : TreeNode) → IsUnderWay at None nodes → n < length at.source.content → slice_get nodes n ≡ Some node → IsNodeOf at.source n node
same_read at nodes n node way known read =
    node_kept at.source (forest_of nodes) n node way.good way.linked.once (subst (λ (f : Forest). Extends f (forest_of nodes)) (sym way.read) way.kept) known (node_read (forest_of nodes) nodes n node way.linked read)

pub readable : (at : Copying) (other : Option (Bor (List TreeNode))) (nodes : List TreeNode) (n : ℕ) → IsUnderWay at other nodes → n < length at.source.content → n < length (read_nodes other nodes)
readable at None nodes n way known =
    let same = ap (λ (f : Forest). length f.content) way.read in
    let long = length-contents (forest_of nodes) nodes way.linked.links in
    let few = way.kept.longer in
    omega arith
readable at (Some other) nodes n way known =
    let long = length-contents at.source other.now way.read.links in
    omega arith

keeps-below : (base forest : Forest) (p : Option ℕ) (content : NodeData) → StandsOnce forest → IfSome p (λ k. length base.content ≤ k) → Extends base forest → Extends base (with_node_below p content forest)
keeps-below base forest None content once new kept = keeps-node base forest content once kept
keeps-below base forest (Some p) content once new kept = keeps-child base forest p content once new kept

is_new : (at : Copying) (count : ℕ) (p : Option ℕ) → IsPlaceFor at count p → IfSome p (λ k. length at.base.content ≤ k)
is_new at count None place = tt
is_new at count (Some p) place = place.0

pub is_made : (at : Copying) (count : ℕ) (p : Option ℕ) → IsPlaceFor at count p → IfSome p (λ k. k < count)
is_made at count None place = tt
is_made at count (Some p) place = place.1

-- one more copy was made
pub way_on : (at : Copying) (other : Option (Bor (List TreeNode))) (old new : List TreeNode) (count : ℕ) (p : Option ℕ) (content : NodeData) → IsUnderWay at other old → IsPlaceFor at count p →
    forest_of new ≡ with_node_below p content (forest_of old) → IsArenaOf (forest_of new) new → length new ≤ 4294967295 → IsUnderWay at other new
way_on at other old new count p content way place made arena few = record {
  good = way.good;
  linked = arena;
  numbered = few;
  kept = subst (Extends at.base) (sym made) (keeps-below at.base (forest_of old) p content way.linked.once (is_new at count p place) way.kept);
  read = way.read;
}

-- the data and the first child of what is copied
pub data_read : (source : Forest) (n : ℕ) (node : TreeNode) → IsNodeOf source n node → data_at source n ≡ node.content
data_read source n node is = get_read source.content n node.content is.content_is
  where
    get_read : (xs : List NodeData) (n : ℕ) (x : NodeData) → slice_get xs n ≡ Some x → get_or xs n Fragment ≡ x
    get_read [] n x e = cc
    get_read (y ∷ xs) zero x e = cc
    get_read (y ∷ xs) (suc n) x e = get_read xs n x e

pub first_inside : (source : Forest) (n : ℕ) → IsForest source → IfSome (first (children_of source n)) (λ k. k < length source.content)
first_inside source n good = within_some (first (children_of source n)) (Begins.within (begins source false n (first (children_of source n)) good refl))
  where
    within_some : (o : Option ℕ) → IsWithin source o → IfSome o (λ k. k < length source.content)
    within_some None h = tt
    within_some (Some k) h = h

pub lent_node : (at : Copying) (other : Option (Bor (List TreeNode))) (nodes lent : List TreeNode) (n : ℕ) (node : TreeNode) → lent ≡ nodes → IsUnderWay at other nodes → n < length at.source.content →
    ((to : Copying) → IsUnderWay to other lent → n < length to.source.content → IsNodeOf to.source n node) → IsNodeOf at.source n node
lent_node at other nodes lent n node same way known reads = reads at (subst (λ (ns : List TreeNode). IsUnderWay at other ns) (sym same) way) known

-- the exit of a `?`
pub fault_passed : {T : Type 0} (r : Result T EditFault) (e : EditFault) (F : EditFault → Type 0) → (y : EditFault) × (r ≡ Err y) × (y ≡ e) → F e → IfErr r F
fault_passed r e F p h = subst (λ x. IfErr x F) (sym p.1) (subst F (sym p.2) h)

no_ok : {T : Type 0} (r : Result T EditFault) (e : EditFault) (P : Type 0) → (y : EditFault) × (r ≡ Err y) × (y ≡ e) → OnOk r P
no_ok r e P p = subst (λ x. OnOk x P) (sym p.1) tt

pub all_refused : {T : Type 0} (at : Copying) (other : Option (Bor (List TreeNode))) (r : Result T EditFault) (e : EditFault) (old new : Vec TreeNode) (after : Forest → Forest) → (y : EditFault) × (r ≡ Err y) × (y ≡ e) →
    IsUnderWay at other new.items → IsTooLarge (after (forest_of old.items)) e → CopiesAll at other r old new after
all_refused at other r e old new after p way h = record {
  under_way = way;
  made = no_ok r e (forest_of new.items ≡ after (forest_of old.items)) p;
  cause = fault_passed r e (IsTooLarge (after (forest_of old.items))) p h;
}

pub notes_refused : {T : Type 0} (at : Copying) (other : Option (Bor (List TreeNode))) (r : Result T EditFault) (e : EditFault) (old new : Vec TreeNode) (rows noted : List Row) (after : Forest → Forest) → (y : EditFault) × (r ≡ Err y) × (y ≡ e) →
    IsUnderWay at other new.items → IsTooLarge (after (forest_of old.items)) e → CopiesAndNotes at other r old new rows noted after
notes_refused at other r e old new rows noted after p way h = record {
  under_way = way;
  are_rows = no_ok r e (AreRows at (vec_len new) noted) p;
  made = no_ok r e (with_rows at.source noted (forest_of new.items) ≡ with_rows at.source rows (after (forest_of old.items))) p;
  grown = no_ok r e (vec_len old < vec_len new) p;
  cause = fault_passed r e (IsTooLarge (after (forest_of old.items))) p h;
}

pub alone_refused : (at : Copying) (other : Option (Bor (List TreeNode))) (r : Result ℕ EditFault) (e : EditFault) (old new : Vec TreeNode) (n : ℕ) (parent : Option ℕ) → (y : EditFault) × (r ≡ Err y) × (y ≡ e) →
    IsUnderWay at other new.items → LacksRoom (vec_len old) (data_at at.source n) e → CopiesAlone at other r old new n parent
alone_refused at other r e old new n parent p way h = record {
  under_way = way;
  made = no_ok r e (forest_of new.items ≡ with_node_below parent (copied_data (vec_len old) (data_at at.source n)) (forest_of old.items)) p;
  number = subst (λ x. IfOk x (λ made. made ≡ vec_len old)) (sym p.1) tt;
  grown = no_ok r e (vec_len new ≡ vec_len old + 1) p;
  cause = fault_passed r e (LacksRoom (vec_len old) (data_at at.source n)) p h;
}

pub passed_on : {T : Type 0} (r : Result T EditFault) (e : EditFault) (P : T → Type 0) (F : EditFault → Type 0) → (y : EditFault) × (r ≡ Err y) × (y ≡ e) → F e → MatchResult r P F
passed_on r e P F p h = rw p.1 (rw p.2 h)

-- ---- rows

pub rows_more : (at : Copying) (count more : ℕ) (rows : List Row) → count ≤ more → AreRows at count rows → AreRows at more rows
rows_more at count more [] few all = tt
rows_more at count more (row ∷ rows) few all = (record { known = all.0.known; new = all.0.new; made = omega (arith, all.0.made) }, rows_more at count more rows few all.1)

pub rows_pushed : (at : Copying) (count : ℕ) (rows : List Row) (from : Option ℕ) (p : ℕ) → AreRows at count rows → IfSome from (λ n. n < length at.source.content) → length at.base.content ≤ p → p < count → AreRows at count (rows ++ row_from from p)
rows_pushed at count [] None p all known new made = tt
rows_pushed at count [] (Some n) p all known new made = (record { known = known; new = new; made = made }, tt)
rows_pushed at count (row ∷ rows) from p all known new made = (all.0, rows_pushed at count rows from p all.1 known new made)

pub rows_popped : (at : Copying) (count : ℕ) (rows : List Row) (row : Row) → AreRows at count (rows ++ row ∷ []) → AreRows at count rows × IsRow at count row
rows_popped at count [] row all = (tt, all.0)
rows_popped at count (r ∷ rows) row all = let rest = rows_popped at count rows row all.1 in ((all.0, rest.0), rest.1)

pub last_row : (source : Forest) (rows : List Row) (row : Row) (forest : Forest) → with_rows source (rows ++ row ∷ []) forest ≡ with_rows source rows (with_row source row forest)
last_row source [] row forest = refl
last_row source (r ∷ rows) row forest = ap (with_row source r) (last_row source rows row forest)

-- ---- why not

-- what data names at its place in the list
pub named_at : (source : Forest) (n : ℕ) → contents_at source n ≡ contents_named (data_at source n)
named_at source n = same source.content n
  where
    same : (xs : List NodeData) (n : ℕ) → option_and_then contents_named (slice_get xs n) ≡ contents_named (get_or xs n Fragment)
    same [] n = refl
    same (x ∷ xs) zero = refl
    same (x ∷ xs) (suc n) = same xs n

node_count-tree : (source : Forest) (n : ℕ) → IsForest source → n < length source.content → node_count (trees source (n ∷ [])) ≡ 1 + node_count (trees source (contents_list source n)) + node_count (trees source (children_of source n)) + node_count (trees source [])
node_count-tree source n good known = ap node_count (trees-some source n [] good (one_known source n known))

node_count-one : (source : Forest) (n : ℕ) → IsForest source → n < length source.content → 1 ≤ node_count (trees source (n ∷ []))
node_count-one source n good known = omega (arith, node_count-tree source n good known)

node_count-two : (source : Forest) (n c : ℕ) → IsForest source → n < length source.content → contents_at source n ≡ Some c → 2 ≤ node_count (trees source (n ∷ []))
node_count-two source n c good known is =
    let one : contents_list source n ≡ c ∷ [] = rw is refl in
    let inside : c < length source.content = within is_fragment source.content c (good.contents_known n c is).1 in
    omega (arith, node_count-tree source n good known, ap (λ ns. node_count (trees source ns)) one, node_count-one source c good inside)

node_count-held : (source : Forest) (n : ℕ) → IsForest source → n < length source.content → (contents_named (data_at source n) ≡ None → ⊥) → 2 ≤ node_count (trees source (n ∷ []))
node_count-held source n good known some = elim (cases_Option (contents_at source n)) [
  | inl none ↦ absurd (some (sym (named_at source n) ∙ none))
  | inr (c, is) ↦ node_count-two source n c good known is
]

pub larger : (one other : Forest) (fault : EditFault) → length one.content ≤ length other.content → IsTooLarge one fault → IsTooLarge other fault
larger one other TooManyNodes few h = omega arith
larger one other Memory few h = tt
larger one other _ few h = h

-- the copy of a node, and of its contents, has no room
pub no_room : (source : Forest) (p : Option ℕ) (n count : ℕ) (forest : Forest) (fault : EditFault) → IsForest source → n < length source.content → count ≡ length forest.content →
    LacksRoom count (data_at source n) fault → IsTooLarge (with_copies source p (trees source (n ∷ [])) forest) fault
no_room source p n count forest Memory good known here h = tt
no_room source p n count forest TooManyNodes good known here h =
    let all = node_count-copies source p (trees source (n ∷ [])) forest in
    let whole = node_count-one source n good known in
    elim h [
      | inl past ↦ omega arith
      | inr both ↦ (let more = node_count-held source n good known both.1 in omega (arith, both.0))
    ]
no_room source p n count forest UnknownNode good known here h = h
no_room source p n count forest _ good known here h = h

-- the copy of its contents has no room
pub no_room_held : (source : Forest) (p : Option ℕ) (n c count : ℕ) (forest : Forest) (fault : EditFault) → IsForest source → n < length source.content → contents_at source n ≡ Some c → count ≡ length forest.content + 1 →
    LacksRoom count (data_at source c) fault → IsTooLarge (with_copies source p (trees source (n ∷ [])) forest) fault
no_room_held source p n c count forest Memory good known is one h = tt
no_room_held source p n c count forest TooManyNodes good known is one h =
    let all = node_count-copies source p (trees source (n ∷ [])) forest in
    let more = node_count-two source n c good known is in
    elim h [
      | inl past ↦ omega arith
      | inr both ↦ absurd (both.1 (sym (named_at source c) ∙ held_none source n c good is))
    ]
no_room_held source p n c count forest UnknownNode good known is one h = h
no_room_held source p n c count forest _ good known is one h = h

pub plain_made : (source : Forest) (rows rows1 : List Row) (n k : ℕ) (p : Option ℕ) (forest mid : Forest) → IsForest source → n < length source.content → contents_at source n ≡ None → k ≡ length forest.content →
    rows1 ≡ rows ++ row_from (first (children_of source n)) k → mid ≡ with_node_below p (copied_data k (data_at source n)) forest →
    with_rows source rows1 mid ≡ with_rows source rows (with_copies source p (trees source (n ∷ [])) forest)
plain_made source rows rows1 n k p forest mid good known none k_is rows1_is mid_is = rw (rows1_is, mid_is, k_is) (plain_copied source rows n p forest good known none)

pub held_made : (source : Forest) (rows rows1 rows2 : List Row) (n c k k1 : ℕ) (p : Option ℕ) (forest mid whole : Forest) → IsForest source → n < length source.content → contents_at source n ≡ Some c → k ≡ length forest.content → k1 ≡ length mid.content →
    rows1 ≡ rows ++ row_from (first (children_of source n)) k → rows2 ≡ rows1 ++ row_from (first (children_of source c)) k1 → mid ≡ with_node_below p (copied_data k (data_at source n)) forest → whole ≡ with_node_below None (copied_data k1 (data_at source c)) mid →
    with_rows source rows2 whole ≡ with_rows source rows (with_copies source p (trees source (n ∷ [])) forest)
held_made source rows rows1 rows2 n c k k1 p forest mid whole good known is k_is k1_is rows1_is rows2_is mid_is whole_is =
    rw (rows2_is, whole_is, rows1_is, k1_is, k_is) (held_copied source rows n c p forest mid good known is (mid_is ∙ ap (λ (j : ℕ). with_node_below p (copied_data j (data_at source n)) forest) k_is))

pub held_is : (source : Forest) (n : ℕ) (node : TreeNode) (held : Option ℕ) → IsNodeOf source n node → held ≡ contents_named node.content → contents_at source n ≡ held
held_is source n node held is named = ap (option_and_then contents_named) is.content_is ∙ sym named

pub held_known : (source : Forest) (n c : ℕ) → IsForest source → contents_at source n ≡ Some c → c < length source.content
held_known source n c good is = within is_fragment source.content c (good.contents_known n c is).1

pub count_is : (at : Copying) (other : Option (Bor (List TreeNode))) (nodes : List TreeNode) (count : ℕ) → IsUnderWay at other nodes → count ≡ length nodes → count ≡ length (forest_of nodes).content
count_is at other nodes count way e = e ∙ length-contents (forest_of nodes) nodes way.linked.links

pub next_known : (source : Forest) (n : ℕ) → IsForest source → IfSome (after (siblings source n) n) (λ k. k < length source.content)
next_known source n good = within_some (after (siblings source n) n) (Follows.within (follows source false n (after (siblings source n) n) good refl))
  where
    within_some : (o : Option ℕ) → IsWithin source o → IfSome o (λ k. k < length source.content)
    within_some None h = tt
    within_some (Some k) h = h

pub row_made : (source : Forest) (rows rows1 rows2 : List Row) (row : Row) (next : Option ℕ) (forest whole : Forest) → IsForest source → row.first < length source.content → next ≡ after (siblings source row.first) row.first →
    rows1 ≡ rows ++ row_from next row.parent → with_rows source rows2 whole ≡ with_rows source rows1 (with_copies source (Some row.parent) (trees source (row.first ∷ [])) forest) →
    with_rows source rows2 whole ≡ with_rows source rows (with_row source row forest)
row_made source rows rows1 rows2 row next forest whole good known next_is rows1_is made =
    let one = with_copies source (Some row.parent) (trees source (row.first ∷ [])) forest in
    made ∙ ap (λ (rs : List Row). with_rows source rs one) rows1_is ∙ row_end source rows next row.parent one
    ∙ ap (with_rows source rows) (ap (λ o. with_copies source (Some row.parent) (trees source (row_on source false o)) one) next_is ∙ sym (row_split source row forest good known))

pub row_larger : (source : Forest) (row : Row) (forest : Forest) (fault : EditFault) → IsForest source → row.first < length source.content →
    IsTooLarge (with_copies source (Some row.parent) (trees source (row.first ∷ [])) forest) fault → IsTooLarge (with_row source row forest) fault
row_larger source row forest fault good known h =
    let one = with_copies source (Some row.parent) (trees source (row.first ∷ [])) forest in
    let rest = trees source (row_on source false (after (siblings source row.first) row.first)) in
    larger one (with_row source row forest) fault (omega (arith, ap (λ (f : Forest). length f.content) (row_split source row forest good known), node_count-copies source (Some row.parent) rest one)) h

-- what is left of some rows is too large where it is
pub rows_larger : (source : Forest) (rows : List Row) (forest : Forest) (fault : EditFault) → IsTooLarge forest fault → IsTooLarge (with_rows source rows forest) fault
rows_larger source rows forest fault h = larger forest (with_rows source rows forest) fault (node_count-row source rows forest) h

-- a list of nodes is its first and the others

pub all_known : (source : Forest) (ns : List ℕ) → AreNodesOf source ns → (m : ℕ) → is_member m ns ≡ true → m < length source.content
all_known source [] known m s = cc
all_known source (n ∷ ns) known m s = elim (cases_eq n m) [
  | inl e ↦ subst (λ (k : ℕ). k < length source.content) e known.0
  | inr ne ↦ all_known source ns known.1 m (rw (ne_eqb n m ne) at s)
]

pub first_copied : (source : Forest) (p : Option ℕ) (n : ℕ) (ns : List ℕ) (forest : Forest) → IsForest source → AreNodesOf source (n ∷ ns) → copied_below source p (n ∷ ns) forest ≡ copied_below source p ns (copied_below source p (n ∷ []) forest)
first_copied source p n ns forest good known =
    ap (λ ts. with_copies source p ts forest) (trees-some source n ns good (all_known source (n ∷ ns) known))
    ∙ ap (with_copies source p (trees source ns)) (sym (one_tree source p n forest good known.0))

pub first_number : (source : Forest) (p : Option ℕ) (n : ℕ) (ns : List ℕ) (forest : Forest) → IsForest source → AreNodesOf source (n ∷ ns) → copy_numbers source (n ∷ ns) forest ≡ length forest.content ∷ copy_numbers source ns (copied_below source p (n ∷ []) forest)
first_number source p n ns forest good known =
    let k = length forest.content in
    let contents = trees source (contents_list source n) in
    let children = trees source (children_of source n) in
    let one : trees source (n ∷ []) ≡ Tree n contents children NoTrees = trees-some source n [] good (one_known source n known.0) ∙ ap (Tree n contents children) (trees-none source) in
    ap (root_numbers k) (trees-some source n ns good (all_known source (n ∷ ns) known))
    ∙ ap (λ j. k ∷ root_numbers j (trees source ns)) (ap (λ ts. k + node_count ts) (sym one) ∙ sym (node_count-copies source p (trees source (n ∷ [])) forest))

pub none_copied : (source : Forest) (p : Option ℕ) (forest : Forest) → copied_below source p [] forest ≡ forest
none_copied source p forest = ap (λ ts. with_copies source p ts forest) (trees-none source)

pub no_numbers : (source forest : Forest) → copy_numbers source [] forest ≡ []
no_numbers source forest = ap (root_numbers (length forest.content)) (trees-none source)

-- ---- the loops

pub rows_step : (source : Forest) (rows rows0 rows1 : List Row) (row : Row) (forest whole goal : Forest) → rows ≡ rows0 ++ row ∷ [] → with_rows source rows1 whole ≡ with_rows source rows0 (with_row source row forest) → with_rows source rows forest ≡ goal →
    with_rows source rows1 whole ≡ goal
rows_step source rows rows0 rows1 row forest whole goal is made left =
    made ∙ sym (last_row source rows0 row forest) ∙ ap (λ (rs : List Row). with_rows source rs forest) (sym is) ∙ left

pub rows_refused : (source : Forest) (rows rows0 : List Row) (row : Row) (forest goal : Forest) (fault : EditFault) → rows ≡ rows0 ++ row ∷ [] → with_rows source rows forest ≡ goal → IsTooLarge (with_row source row forest) fault → IsTooLarge goal fault
rows_refused source rows rows0 row forest goal fault is left h =
    subst (λ (f : Forest). IsTooLarge f fault) (sym (last_row source rows0 row forest) ∙ ap (λ (rs : List Row). with_rows source rs forest) (sym is) ∙ left) (rows_larger source rows0 (with_row source row forest) fault h)

pub rows_left : (source : Forest) (rows1 : List Row) (whole goal : Forest) → with_rows source rows1 whole ≡ goal → length whole.content ≤ length goal.content
rows_left source rows1 whole goal left = omega (arith, node_count-row source rows1 whole, ap (λ (f : Forest). length f.content) left)

pub known_on : (source : Forest) (ns : List ℕ) (i : ℕ) → AreNodesOf source ns → AreNodesOf source (drop i ns)
known_on source ns zero known = known
known_on source [] (suc i) known = tt
known_on source (n ∷ ns) (suc i) known = known_on source ns i known.1

pub here_first : (ns : List ℕ) (i n : ℕ) → i < length ns → n ≡ get_or ns i n → drop i ns ≡ n ∷ drop (i + 1) ns
here_first ns i n here is = drop_more ns i n here ∙ ap (λ k. k ∷ drop (i + 1) ns) (sym is)

-- one more of some nodes was copied
pub next_copied : (source : Forest) (p : Option ℕ) (ns : List ℕ) (i n : ℕ) (forest whole goal : Forest) → IsForest source → AreNodesOf source ns → i < length ns → n ≡ get_or ns i n →
    whole ≡ copied_below source p (n ∷ []) forest → copied_below source p (drop i ns) forest ≡ goal → copied_below source p (drop (i + 1) ns) whole ≡ goal
next_copied source p ns i n forest whole goal good known here is made left =
    let split = here_first ns i n here is in
    ap (copied_below source p (drop (i + 1) ns)) made ∙ sym (first_copied source p n (drop (i + 1) ns) forest good (subst (AreNodesOf source) split (known_on source ns i known))) ∙ ap (λ ks. copied_below source p ks forest) (sym split) ∙ left

pub next_numbered : (source : Forest) (p : Option ℕ) (ns : List ℕ) (i n k : ℕ) (numbers_so_far : List ℕ) (forest whole : Forest) (goal : List ℕ) → IsForest source → AreNodesOf source ns → i < length ns → n ≡ get_or ns i n → k ≡ length forest.content →
    whole ≡ copied_below source p (n ∷ []) forest → numbers_so_far ++ copy_numbers source (drop i ns) forest ≡ goal → (numbers_so_far ++ k ∷ []) ++ copy_numbers source (drop (i + 1) ns) whole ≡ goal
next_numbered source p ns i n k numbers_so_far forest whole goal good known here is number made left =
    let split = here_first ns i n here is in
    append_assoc numbers_so_far (k ∷ []) (copy_numbers source (drop (i + 1) ns) whole)
    ∙ ap (λ ks. numbers_so_far ++ ks) (ap (λ j. j ∷ copy_numbers source (drop (i + 1) ns) whole) number ∙ ap (λ (f : Forest). length forest.content ∷ copy_numbers source (drop (i + 1) ns) f) made
    ∙ sym (first_number source p n (drop (i + 1) ns) forest good (subst (AreNodesOf source) split (known_on source ns i known))) ∙ ap (λ ks. copy_numbers source ks forest) (sym split))
    ∙ left

pub next_refused : (source : Forest) (p : Option ℕ) (ns : List ℕ) (i n : ℕ) (forest goal : Forest) (fault : EditFault) → IsForest source → AreNodesOf source ns → i < length ns → n ≡ get_or ns i n →
    copied_below source p (drop i ns) forest ≡ goal → IsTooLarge (copied_below source p (n ∷ []) forest) fault → IsTooLarge goal fault
next_refused source p ns i n forest goal fault good known here is left h =
    let one = copied_below source p (n ∷ []) forest in
    let rest = next_copied source p ns i n forest one goal good known here is refl left in
    larger one goal fault (omega (arith, node_count-copies source p (trees source (drop (i + 1) ns)) one, ap (λ (f : Forest). length f.content) rest)) h

pub here_known : (source : Forest) (ns : List ℕ) (i n : ℕ) → AreNodesOf source ns → i < length ns → n ≡ get_or ns i n → n < length source.content
here_known source ns i n known here is = (subst (AreNodesOf source) (here_first ns i n here is) (known_on source ns i known)).0

pub place_more : (at : Copying) (count more : ℕ) (p : Option ℕ) → IsPlaceFor at count p → count ≤ more → IsPlaceFor at more p
place_more at count more None place few = tt
place_more at count more (Some p) place few = (place.0, omega (arith, place.1))

pub more_copied : (source : Forest) (p : Option ℕ) (ns : List ℕ) (forest whole : Forest) → whole ≡ copied_below source p ns forest → length forest.content ≤ length whole.content
more_copied source p ns forest whole made = omega (arith, ap (λ (f : Forest). length f.content) made, node_count-copies source p (trees source ns) forest)
