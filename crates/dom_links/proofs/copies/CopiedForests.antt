-- A forest with copies of a forest's nodes is a forest.
use Rattle.std.proofs.Common.{ℕ, zero, suc, ◌≡◌, ◌<◌, ◌≤◌, ◌+◌, Bool, true, false, List, [], ◌∷◌, ◌++◌, Option, Some, None, Ok, Err, refl, sym, ap, ◌∙◌, subst, arith, inl, inr, length, take, get_or}
use Rattle.std.specs.Prelude.{◌==◌, slice_get}
use Rattle.std.specs.Option.{option_map, option_map_or}
use Rattle.std.proofs.lemmas.Bool.{cases_Bool, eqb-true, eq-eqb, or_right}
use Rattle.std.proofs.lemmas.List.{length_push}
use Rattle.dom_nodes.specs.declared.fault.EditFault.{EditFault}
use Rattle.dom_nodes.specs.declared.fault.EditFault.TheVariants.{TooManyNodes, Memory}
use Rattle.dom_nodes.specs.Elements.{Element}
use Rattle.dom_nodes.specs.declared.node_data.NodeData.{NodeData}
use Rattle.dom_nodes.specs.declared.node_data.NodeData.TheVariants.{Document, Fragment, Element as AnElement}
use Rattle.dom_nodes.specs.Kinds.{contents_named, is_element, is_fragment, is_top, children_allowed}
use Rattle.dom_nodes.specs.declared.node_data.TreeNode.{TreeNode}
use Rattle.dom_links.specs.Copying.{AreNodesOf, IsTooLarge}
use Rattle.dom_links.specs.Copies.{CopiesNodes, CopyCause, Extends, MayCopy, copied, copy_numbers, fragment_of, copied_data, data_at, with_copies, with_node_below}
use Rattle.dom_links.specs.Lists.{is_member}
use Rattle.dom_links.specs.Forest.{Forest, IsArenaOf, children_of, forest_of}
use Rattle.dom_links.specs.Growth.{lone, with_child, with_node}
use Rattle.dom_links.specs.Sound.{IsForest, IsSoundArena, children_allowed_at, contents_at, stays}
use Rattle.dom_links.specs.Trees.{NoTrees, Tree, Trees, contents_list, trees}
use Rattle.dom_links.proofs.forest.Places.{cases_Option}
use Rattle.dom_links.proofs.moves.Cuts.{length-contents, one_known}
use Rattle.dom_links.proofs.forest.Chains.{forest_of-arena}
use Rattle.dom_links.proofs.forest.Depth.{here_stands, later_stands, trees-none, trees-some}
use Rattle.dom_links.proofs.forest.Grown.{forest-more, slice_get-before, slice_get-there, within}
use Rattle.dom_links.proofs.forest.Templates.{child_kept, lone_template_kept, template_kept}
use Rattle.dom_links.proofs.copies.Copied.{all_copies_keep, all_known, shrunk, named_at, node_count-below, node_count-copies, held_none}
use Rattle.dom_links.proofs.forest.Climbs.{element_bears}

-- ---- the data of a copy

-- what doesn't read an element's contents reads the same of a copy
pub copied_same : {X : Type 0} (read : NodeData → X) → ((element : Element) (contents : Option ℕ) → read (AnElement (record element { template_contents = contents })) ≡ read (AnElement element)) →
    (k : ℕ) (content : NodeData) → read (copied_data k content) ≡ read content
copied_same read same k (AnElement element) = same element (option_map (λ _. k + 1) element.template_contents)
copied_same read same k _ = refl

pub top-copied : (k : ℕ) (content : NodeData) → is_top (copied_data k content) ≡ is_top content
top-copied = copied_same is_top (λ element contents. refl)

children_allowed_at-copied : (k : ℕ) (content : NodeData) → children_allowed (copied_data k content) ≡ children_allowed content
children_allowed_at-copied = copied_same children_allowed (λ element contents. refl)

pub names-copied : (k : ℕ) (content : NodeData) → contents_named (copied_data k content) ≡ option_map (λ _. k + 1) (contents_named content)
names-copied k (AnElement element) = refl
names-copied k _ = refl

-- who names contents is no document or fragment
no_top : (content : NodeData) (c : ℕ) → contents_named content ≡ Some c → is_top content ≡ false
no_top Document c e = cc
no_top Fragment c e = cc
no_top _ c e = refl

fragment_is : (content : NodeData) → is_fragment content ≡ true → content ≡ Fragment
fragment_is Fragment e = refl
fragment_is _ e = cc

-- a test of the data at a known number
pub test_at : (test : NodeData → Bool) (source : Forest) (n : ℕ) → n < length source.content → option_map_or test (slice_get source.content n) false ≡ test (data_at source n)
test_at test source n known = same source.content n known
  where
    same : (xs : List NodeData) (n : ℕ) → n < length xs → option_map_or test (slice_get xs n) false ≡ test (get_or xs n Fragment)
    same [] n h = absurd (omega arith)
    same (x ∷ xs) zero h = refl
    same (x ∷ xs) (suc n) h = same xs n (omega arith)

-- ---- what stays

pub content-below : (p : Option ℕ) (content : NodeData) (forest : Forest) → (with_node_below p content forest).content ≡ forest.content ++ content ∷ []
content-below None content forest = refl
content-below (Some p) content forest = refl

pub content-kept : (source : Forest) (p : Option ℕ) (ts : Trees) (forest : Forest) (n : ℕ) → n < length forest.content → slice_get (with_copies source p ts forest).content n ≡ slice_get forest.content n
content-kept source p ts forest n known = (all_copies_keep source (λ f. (n < length f.content) × (slice_get f.content n ≡ slice_get forest.content n))
    (λ q content f kept. (let data' = copied_data (length f.content) content in
    (omega (arith, kept.0, node_count-below q data' f), ap (λ xs. slice_get xs n) (content-below q data' f) ∙ slice_get-before f.content data' n kept.0 ∙ kept.1)))
    p ts forest (known, refl)).1

children_allowed_at-kept : (source : Forest) (p : Option ℕ) (ts : Trees) (forest : Forest) (n : ℕ) → n < length forest.content → children_allowed_at (with_copies source p ts forest) n ≡ children_allowed_at forest n
children_allowed_at-kept source p ts forest n known = ap (λ o. option_map_or children_allowed o false) (content-kept source p ts forest n known)

children_allowed_at-new : (p : Option ℕ) (content : NodeData) (forest : Forest) → children_allowed_at (with_node_below p content forest) (length forest.content) ≡ children_allowed content
children_allowed_at-new p content forest = ap (λ xs. option_map_or children_allowed (slice_get xs (length forest.content)) false) (content-below p content forest) ∙ ap (λ o. option_map_or children_allowed o false) (slice_get-there forest.content content (length forest.content) refl)

-- ---- where copies may go

-- the roots may be children of q
abbrev MayTake : Forest → Option ℕ → List ℕ → Forest → Type 0
MayTake source None ns forest = Unit {0}
MayTake source (Some q) ns forest = (q < length forest.content) × ((m : ℕ) → is_member m ns ≡ true → (children_allowed_at forest q ≡ true) × (is_top (data_at source m) ≡ false))

take_on : (source : Forest) (p q : Option ℕ) (n : ℕ) (ns : List ℕ) (ts : Trees) (forest : Forest) → MayTake source p (n ∷ ns) forest → MayTake source p ns (with_copies source q ts forest)
take_on source None q n ns ts forest may = tt
take_on source (Some t) q n ns ts forest may = (omega (arith, may.0, node_count-copies source q ts forest), λ m s. (children_allowed_at-kept source q ts forest t may.0 ∙ (may.1 m (later_stands n m ns s)).0, (may.1 m (later_stands n m ns s)).1))

take_same : (source : Forest) (p q : Option ℕ) (ns : List ℕ) (ts : Trees) (forest : Forest) → MayTake source p ns forest → MayTake source p ns (with_copies source q ts forest)
take_same source None q ns ts forest may = tt
take_same source (Some t) q ns ts forest may = (omega (arith, may.0, node_count-copies source q ts forest), λ m s. (children_allowed_at-kept source q ts forest t may.0 ∙ (may.1 m s).0, (may.1 m s).1))

take_below : (source : Forest) (p : Option ℕ) (ns : List ℕ) (content : NodeData) (q : Option ℕ) (forest : Forest) → MayTake source p ns forest → MayTake source p ns (with_node_below q content forest)
take_below source None ns content q forest may = tt
take_below source (Some t) ns content q forest may = (
  omega (arith, may.0, node_count-below q content forest),
  λ m s. (ap (λ xs. option_map_or children_allowed (slice_get xs t) false) (content-below q content forest) ∙ ap (λ o. option_map_or children_allowed o false) (slice_get-before forest.content content t may.0) ∙ (may.1 m s).0, (may.1 m s).1),
)

-- the children of a node may be children of its copy
take_children : (source : Forest) (n k : ℕ) (forest : Forest) → IsForest source → k < length forest.content → children_allowed_at forest k ≡ children_allowed (data_at source n) → n < length source.content → MayTake source (Some k) (children_of source n) forest
take_children source n k forest good known parents_allow inside = (
  known,
  λ m s.
      let facts = good.once.in_children n m s in (
        parents_allow ∙ sym (test_at children_allowed source n inside) ∙ good.parents_allow n m facts.1,
        elim (cases_Bool (is_top (data_at source m))) [
          | inr f ↦ f
          | inl t ↦ (let stay : stays source m ≡ true = or_right (m == 0) (option_map_or is_top (slice_get source.content m) false) (test_at is_top source m facts.0 ∙ t) in
              let none = (good.alone m facts.0 stay).0 in
              let some = facts.1 in cc)
        ],
      ),
)

-- ---- the steps

plain_kept : (source : Forest) (p : Option ℕ) (n : ℕ) (ns : List ℕ) (forest : Forest) → IsForest forest → MayTake source p (n ∷ ns) forest → contents_at source n ≡ None → IsForest (with_node_below p (copied_data (length forest.content) (data_at source n)) forest)
plain_kept source None n ns forest good may none =
    let named : contents_named (copied_data (length forest.content) (data_at source n)) ≡ None = names-copied (length forest.content) (data_at source n) ∙ ap (option_map (λ _. length forest.content + 1)) (sym (named_at source n) ∙ none) in
    forest-more (copied_data (length forest.content) (data_at source n)) forest good (λ c e. cc)
plain_kept source (Some q) n ns forest good may none =
    let named : contents_named (copied_data (length forest.content) (data_at source n)) ≡ None = names-copied (length forest.content) (data_at source n) ∙ ap (option_map (λ _. length forest.content + 1)) (sym (named_at source n) ∙ none) in
    let both = may.1 n (here_stands n ns) in
    child_kept forest q (copied_data (length forest.content) (data_at source n)) good
    (record { target_known = may.0; open_here = both.0; no_top = top-copied (length forest.content) (data_at source n) ∙ both.1; free = λ c e. cc; apart = λ c e. cc })

held_kept : (source : Forest) (p : Option ℕ) (n c : ℕ) (ns : List ℕ) (forest : Forest) → IsForest forest → MayTake source p (n ∷ ns) forest → contents_at source n ≡ Some c → IsForest (with_node Fragment (with_node_below p (copied_data (length forest.content) (data_at source n)) forest))
held_kept source None n c ns forest good may some =
    let named : contents_named (copied_data (length forest.content) (data_at source n)) ≡ Some (length forest.content + 1) = names-copied (length forest.content) (data_at source n) ∙ ap (option_map (λ _. length forest.content + 1)) (sym (named_at source n) ∙ some) in
    lone_template_kept forest (copied_data (length forest.content) (data_at source n)) good (no_top (copied_data (length forest.content) (data_at source n)) (length forest.content + 1) named) named
held_kept source (Some q) n c ns forest good may some =
    let named : contents_named (copied_data (length forest.content) (data_at source n)) ≡ Some (length forest.content + 1) = names-copied (length forest.content) (data_at source n) ∙ ap (option_map (λ _. length forest.content + 1)) (sym (named_at source n) ∙ some) in
    template_kept forest q (copied_data (length forest.content) (data_at source n)) good
    (record { target_known = may.0; open_here = (may.1 n (here_stands n ns)).0; no_top = no_top (copied_data (length forest.content) (data_at source n)) (length forest.content + 1) named; named = named })

abbrev pub AreInside : Forest → List ℕ → Type 0
AreInside source ns = (m : ℕ) → is_member m ns ≡ true → m < length source.content

-- what trees are made of
pub record Parts (source : Forest) (ns : List ℕ) (n : ℕ) (contents children later : Trees) : Type 0 where
  pub rest : List ℕ
  pub all : ns ≡ n ∷ rest
  pub contents_is : trees source (contents_list source n) ≡ contents
  pub children_is : trees source (children_of source n) ≡ children
  pub later_is : trees source rest ≡ later
  pub known : n < length source.content
  pub rest_known : AreInside source rest

pub parts : (source : Forest) (ns : List ℕ) (n : ℕ) (contents children later : Trees) → IsForest source → AreInside source ns → trees source ns ≡ Tree n contents children later → Parts source ns n contents children later
parts source [] n contents children later good known e = (let none = sym (trees-none source) ∙ e in cc)
parts source (m ∷ ms) n contents children later good known e =
    let both : Tree m (trees source (contents_list source m)) (trees source (children_of source m)) (trees source ms) ≡ Tree n contents children later = sym (trees-some source m ms good known) ∙ e in
    let same : m ≡ n = cc in
    let one : trees source (contents_list source m) ≡ contents = cc in
    let two : trees source (children_of source m) ≡ children = cc in
    let three : trees source ms ≡ later = cc in
    record {
      known = subst (λ (k : ℕ). k < length source.content) same (known m (here_stands m ms));
      rest_known = λ k s. known k (later_stands m k ms s);
      rest = ms;
      all = ap (λ k. k ∷ ms) same;
      contents_is = subst (λ (k : ℕ). trees source (contents_list source k) ≡ contents) same one;
      children_is = subst (λ (k : ℕ). trees source (children_of source k) ≡ children) same two;
      later_is = three;
    }

children_inside : (source : Forest) (n : ℕ) → IsForest source → AreInside source (children_of source n)
children_inside source n good m s = (good.once.in_children n m s).0

pub no_held : (source : Forest) (n : ℕ) → IsForest source → trees source (contents_list source n) ≡ NoTrees → contents_at source n ≡ None
no_held source n good e = elim (cases_Option (contents_at source n)) [
  | inl none ↦ none
  | inr (c, is) ↦
      (let one : contents_list source n ≡ c ∷ [] = rw is refl in
      let inside : AreInside source (c ∷ []) = one_known source c (within is_fragment source.content c (good.contents_known n c is).1) in
      let both : Tree c (trees source (contents_list source c)) (trees source (children_of source c)) (trees source []) ≡ NoTrees = sym (trees-some source c [] good inside) ∙ ap (trees source) (sym one) ∙ e in
      cc)
]

-- contents are one fragment without contents
pub record Contents (source : Forest) (n c : ℕ) (contents children later : Trees) : Type 0 where
  pub is : contents_at source n ≡ Some c
  pub known : c < length source.content
  pub fragment : data_at source c ≡ Fragment
  pub none : contents ≡ NoTrees
  pub last_one : later ≡ NoTrees
  pub below : trees source (children_of source c) ≡ children

pub contents_are : (source : Forest) (n c : ℕ) (contents children later : Trees) → IsForest source → trees source (contents_list source n) ≡ Tree c contents children later → Contents source n c contents children later
contents_are source n c contents children later good e = elim (cases_Option (contents_at source n)) [
  | inl none ↦
      (let empty : contents_list source n ≡ [] = rw none refl in
      let no : NoTrees ≡ Tree c contents children later = sym (ap (trees source) empty ∙ trees-none source) ∙ e in
      cc)
  | inr (d, is) ↦
      (let one : contents_list source n ≡ d ∷ [] = rw is refl in
      let facts = good.contents_known n d is in
      let inside : d < length source.content = within is_fragment source.content d facts.1 in
      let part = parts source (d ∷ []) c contents children later good (one_known source d inside) (ap (trees source) (sym one) ∙ e) in
      let all : d ∷ [] ≡ c ∷ part.rest = part.all in
      let same : d ≡ c = cc in
      let empty : part.rest ≡ [] = cc in
      let named : contents_at source c ≡ None = subst (λ (k : ℕ). contents_at source k ≡ None) same (held_none source n d good is) in
      let nothing : contents_list source c ≡ [] = rw named refl in
      record {
        is = is ∙ ap Some same;
        known = subst (λ (k : ℕ). k < length source.content) same inside;
        fragment = fragment_is (data_at source c) (sym (test_at is_fragment source c (subst (λ (k : ℕ). k < length source.content) same inside)) ∙ subst (λ (k : ℕ). option_map_or is_fragment (slice_get source.content k) false ≡ true) same facts.1);
        none = sym part.contents_is ∙ ap (trees source) nothing ∙ trees-none source;
        last_one = sym part.later_is ∙ ap (trees source) empty ∙ trees-none source;
        below = part.children_is;
      })
]

inner : (source : Forest) (n c : ℕ) (contents children later : Trees) (made : Forest) → Contents source n c contents children later →
    with_copies source None (Tree c contents children later) made ≡ with_copies source (Some (length made.content)) children (with_node Fragment made)
inner source n c contents children later made held =
    let k = length made.content in
    ap (λ ts. with_copies source None ts (with_copies source (Some k) children (with_copies source None contents (with_node (copied_data k (data_at source c)) made)))) held.last_one
    ∙ ap (λ ts. with_copies source (Some k) children (with_copies source None ts (with_node (copied_data k (data_at source c)) made))) held.none
    ∙ ap (λ content. with_copies source (Some k) children (with_node (copied_data k content) made)) held.fragment

-- the forest is still one
pub copies_kept : (source : Forest) (ts : Trees) (p : Option ℕ) (ns : List ℕ) (forest : Forest) → IsForest source → AreInside source ns → trees source ns ≡ ts → IsForest forest → MayTake source p ns forest → IsForest (with_copies source p ts forest)
copies_kept source NoTrees p ns forest good known e fine may = fine
copies_kept source (Tree n NoTrees children later) p ns forest good known e fine may =
    let part = parts source ns n NoTrees children later good known e in
    let may_all : MayTake source p (n ∷ part.rest) forest = subst (λ (ks : List ℕ). MayTake source p ks forest) part.all may in
    let k = length forest.content in
    let data' = copied_data k (data_at source n) in
    let made = with_node_below p data' forest in
    let first = plain_kept source p n part.rest forest fine may_all (no_held source n good part.contents_is) in
    let below = copies_kept source children (Some k) (children_of source n) made good (children_inside source n good) part.children_is first
    (take_children source n k made good (omega (arith, node_count-below p data' forest)) (children_allowed_at-new p data' forest ∙ children_allowed_at-copied k (data_at source n)) part.known) in
    copies_kept source later p part.rest (with_copies source (Some k) children made) good part.rest_known part.later_is below
    (take_on source p (Some k) n part.rest children made (take_below source p (n ∷ part.rest) data' p forest may_all))
copies_kept source (Tree n (Tree c contents inmost beside) children later) p ns forest good known e fine may =
    let part = parts source ns n (Tree c contents inmost beside) children later good known e in
    let may_all : MayTake source p (n ∷ part.rest) forest = subst (λ (ks : List ℕ). MayTake source p ks forest) part.all may in
    let k = length forest.content in
    let data' = copied_data k (data_at source n) in
    let made = with_node_below p data' forest in
    let held = contents_are source n c contents inmost beside good part.contents_is in
    let outer = with_node Fragment made in
    let j = length made.content in
    let one = node_count-below p data' forest in
    let two = length_push made.content Fragment in
    let filled = copies_kept source inmost (Some j) (children_of source c) outer good (children_inside source c good) held.below (held_kept source p n c part.rest forest fine may_all held.is)
    (take_children source c j outer good (omega arith) (children_allowed_at-new None Fragment made ∙ ap children_allowed (sym held.fragment)) held.known) in
    let first = subst IsForest (sym (inner source n c contents inmost beside made held)) filled in
    let second = with_copies source None (Tree c contents inmost beside) made in
    let three = node_count-copies source None (Tree c contents inmost beside) made in
    let below = copies_kept source children (Some k) (children_of source n) second good (children_inside source n good) part.children_is first
    (take_children source n k second good (omega arith) (children_allowed_at-kept source None (Tree c contents inmost beside) made k (omega arith) ∙ children_allowed_at-new p data' forest ∙ children_allowed_at-copied k (data_at source n)) part.known) in
    copies_kept source later p part.rest (with_copies source (Some k) children second) good part.rest_known part.later_is below
    (take_on source p (Some k) n part.rest children second (take_same source p None (n ∷ part.rest) (Tree c contents inmost beside) made (take_below source p (n ∷ part.rest) data' p forest may_all)))

pub copied_kept : (source : Forest) (ns : List ℕ) (forest : Forest) → IsForest source → AreInside source ns → IsForest forest → IsForest (with_copies source None (trees source ns) forest)
copied_kept source ns forest good known fine = copies_kept source (trees source ns) None ns forest good known refl fine tt

-- ---- the whole

pub inside_all : (source : Forest) (ns : List ℕ) → AreNodesOf source ns → AreInside source ns
inside_all source ns known = all_known source ns known

-- the copies were taken away again
pub taken_back : (old nodes taken : List TreeNode) (base : Forest) (count : ℕ) → IsSoundArena old → base ≡ forest_of old → IsArenaOf (forest_of nodes) nodes → Extends base (forest_of nodes) → count ≡ length old → taken ≡ take count nodes → IsArenaOf (forest_of old) taken
taken_back old nodes taken base count sound is arena kept count_is' taken_is =
    let long = length-contents (forest_of old) old sound.arena.links in
    let all : count ≡ length (forest_of old).content = omega arith in
    rw (taken_is, all) (shrunk (forest_of old) (forest_of nodes) nodes sound.forest arena (subst (λ (f : Forest). Extends f (forest_of nodes)) is kept))

pub sound_again : (old taken : List TreeNode) → IsSoundArena old → IsArenaOf (forest_of old) taken → IsSoundArena taken
sound_again old taken sound arena =
    let is = forest_of-arena (forest_of old) taken arena in
    let long = length-contents (forest_of old) old sound.arena.links in
    let same = length-contents (forest_of old) taken arena.links in
    record {
      arena = subst (λ (f : Forest). IsArenaOf f taken) (sym is) arena;
      forest = subst IsForest (sym is) sound.forest;
      numbered = omega (arith, sound.numbered);
    }

-- an element of a list stands in it
pub stands_here : (ns : List ℕ) (i n : ℕ) → i < length ns → n ≡ get_or ns i n → is_member n ns ≡ true
stands_here [] i n h e = absurd (omega arith)
stands_here (m ∷ ns) zero n h e = rw (eq-eqb m n (sym e)) refl
stands_here (m ∷ ns) (suc i) n h e = later_stands m n ns (stands_here ns i n (omega arith) e)

pub all_may : (source : Forest) (ns : List ℕ) → MayCopy source ns → AreNodesOf source ns
all_may source [] may = tt
all_may source (n ∷ ns) may = (may.0.known, all_may source ns may.1)

-- copies that are too large are refused for that cause
pub too_large : (source : Forest) (ns : List ℕ) (forest : Forest) (fault : EditFault) → IsTooLarge (copied source ns forest) fault → CopyCause source ns forest fault
too_large source ns forest TooManyNodes h = h
too_large source ns forest Memory h = h
too_large source ns forest _ h = absurd h

-- the copies were all made
pub all_copied : {A : Type 0} {named : A → List ℕ} (source : Forest) (ns : List ℕ) (old new : List TreeNode) (made : A) → IsForest source → MayCopy source ns → IsSoundArena old → IsArenaOf (forest_of new) new → length new ≤ 4294967295 →
    forest_of new ≡ copied source ns (forest_of old) → named made ≡ copy_numbers source ns (forest_of old) → CopiesNodes named (Ok made) source old new ns
all_copied source ns old new made good may sound linked few is numbers = record {
  made = is;
  numbers = numbers;
  allowed = may;
  err = tt;
  cause = tt;
  sound = record {
    arena = linked;
    forest = subst IsForest (sym is) (copied_kept source ns (forest_of old) good (inside_all source ns (all_may source ns may)) sound.forest);
    numbered = few;
  };
}

-- they were too large, and were taken away again
pub none_left : {A : Type 0} {named : A → List ℕ} (source : Forest) (ns : List ℕ) (old taken : List TreeNode) (fault : EditFault) → IsSoundArena old → IsArenaOf (forest_of old) taken → IsTooLarge (copied source ns (forest_of old)) fault →
    CopiesNodes named (Err fault) source old taken ns
none_left source ns old taken fault sound back large = record {
  made = tt;
  numbers = tt;
  allowed = tt;
  err = forest_of-arena (forest_of old) taken back;
  cause = too_large source ns (forest_of old) fault large;
  sound = sound_again old taken sound back;
}

-- ---- fragments

may_be_child : (source : Forest) (ns : List ℕ) (m : ℕ) → MayCopy source ns → is_member m ns ≡ true → is_top (data_at source m) ≡ false
may_be_child source [] m may s = cc
may_be_child source (n ∷ ns) m may s = elim (cases_Bool (n == m)) [
  | inl t ↦ subst (λ (k : ℕ). is_top (data_at source k) ≡ false) (eqb-true n m t) (sym (test_at is_top source n may.0.known) ∙ may.0.no_top)
  | inr f ↦ may_be_child source ns m may.1 (rw f at s)
]

pub fragment_kept : (source : Forest) (ns : List ℕ) (html : NodeData) → IsForest source → MayCopy source ns → is_element html ≡ true → IsForest (with_child 0 html (lone Fragment)) → IsForest (fragment_of html source ns)
fragment_kept source ns html good may element fine =
    copies_kept source (trees source ns) (Some 1) ns (with_child 0 html (lone Fragment)) good (inside_all source ns (all_may source ns may)) refl fine
    (omega arith, λ m s. (element_bears html element, may_be_child source ns m may s))
