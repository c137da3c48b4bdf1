-- What a path leads to is what a traversal with its flags finds.
use Rattle.std.proofs.Common.{◌≡◌, ◌⊎◌, ◌<◌, ◌≤◌, ℕ, List, [], ◌∷◌, ◌++◌, length, replicate, Bool, true, false, Option, Some, None, inl, inr, refl, sym, ap, ◌∙◌, subst, true≢false, arith}
use Rattle.std.specs.Prelude.{◌==◌}
use Rattle.std.proofs.lemmas.Bool.{or_cases, eqb-true, eq-eqb}
use Rattle.dom_nodes.specs.Kinds.{is_element}
use Rattle.dom_nodes.specs.declared.node_data.NodeData.{NodeData}
use Rattle.dom_nodes.specs.declared.node_data.NodeData.TheVariants.{Element}
use Rattle.dom_links.specs.Forest.{Forest, children_of, parent, run_of, siblings, children_or}
use Rattle.dom_links.specs.Laws.{AreLines, AreTrees}
use Rattle.dom_links.specs.ListMoves.{element_at}
use Rattle.dom_links.specs.Lists.{IsDistinct, after, before, first, is_member}
use Rattle.dom_links.specs.Sound.{IsForest}
use Rattle.dom_links.specs.Trees.{Trees, NoTrees, Tree, trees, walk}
use Rattle.dom_links.specs.Walk.{IsWithin, later, row_on}
use Rattle.dom_links.proofs.forest.Neighbours.{before_here}
use Rattle.dom_selectors.specs.declared.syntax.Combinator.{Combinator}
use Rattle.dom_selectors.specs.declared.syntax.Combinator.TheVariants.{Descendant, Child, Adjacent, Sibling}
use Rattle.dom_selectors.specs.MiniSyntax.{Mini, combinator_of}
use Rattle.dom_selectors.specs.MiniTruth.{node_passes}
use Rattle.dom_selectors.specs.Spelling.{Decides}
use Rattle.dom_select.specs.Chains.{IsOrPrecedes, Precedes}
use Rattle.dom_select.specs.Leftward.{earlier}
use Rattle.dom_select.specs.Meaning.{CombinatorHolds, Leads, MayBeOperand}
use Rattle.dom_select.specs.MiniNodes.{mini_holds}
use Rattle.dom_mini.specs.MiniPaths.{IsFound, PathLeads, onward, steps_of_path}
use Rattle.dom_mini.specs.PathFlags.{data_at, flags_below, flags_beside, is_led, led_from, led_in}
use Rattle.dom_select.specs.Selected.{FiltersTo}
use Rattle.dom_select.proofs.FilterLemmas.{filters_append, filters_none, filters_one, filters_same}
use Rattle.dom_select.proofs.FollowLemmas.{apart, precedes_then, stands_precedes}
use Rattle.dom_mini.proofs.PathFlagLemmas.{AreRight, Reached, Stepped, below_right, beside_right, element_is, from_left, led_right, mini_is, start_right}

-- a mini selector holds of elements alone
passes_element : (mini : Mini) (node : NodeData) → node_passes mini node ≡ true → is_element node ≡ true
passes_element mini (Element e) h = refl
passes_element mini _ h = absurd (true≢false (sym h))

holds_element : (forest : Forest) (mini : Mini) (n : ℕ) → mini_holds mini forest n ≡ true → element_at forest n ≡ true
holds_element forest mini n h = element_is forest n ∙ passes_element mini (data_at forest n) (sym (mini_is forest mini n) ∙ h)

module _ (forest : Forest) (x : ℕ) where
  abbrev Operand : ℕ → Type 0
  Operand v = (v ≡ x) ⊎ (element_at forest v ≡ true)

  operand : (k : Combinator) (v : ℕ) → Operand v → MayBeOperand forest x k v
  operand Descendant v h = tt
  operand Child v h = tt
  operand Adjacent v h = h
  operand Sibling v h = h

  -- step by step from the left, or from a node on
  to_leads : (minis : List Mini) (P : ℕ → Type 0) (n : ℕ) → ((v : ℕ) → P v → Operand v) → Reached forest minis P n → (w : ℕ) × P w × Leads (steps_of_path minis forest) forest x w n
  to_leads [] P n may r = (n, r, refl)
  to_leads (mini ∷ minis) P n may r =
      let l = to_leads minis (Stepped forest mini P) n (λ v s. inr (holds_element forest mini v s.1)) r in
      let v = l.0 in
      let s = l.1 in (
        s.0.0,
        s.0.2,
        (v, (s.0.1, operand (combinator_of mini) s.0.0 (may s.0.0 s.0.2), operand (combinator_of mini) v (inr (holds_element forest mini v s.1))), s.1, l.2),
      )

  from_leads : (minis : List Mini) (P : ℕ → Type 0) (w n : ℕ) → P w → Leads (steps_of_path minis forest) forest x w n → Reached forest minis P n
  from_leads [] P w n p e = subst P e p
  from_leads (mini ∷ minis) P w n p l = from_leads minis (Stepped forest mini P) l.0 n ((w, l.1.0, p), l.2) l.3

  abbrev pub FromStart : ℕ → Type 0
  FromStart v = x ≡ v

  pub led_to : (minis : List Mini) (n : ℕ) → Reached forest minis FromStart n → PathLeads minis forest x n
  led_to minis n r =
      let l = to_leads minis FromStart n (λ v e. inl (sym e)) r in
      subst (λ w. Leads (steps_of_path minis forest) forest x w n) (sym l.1) l.2

  pub reached_by : (minis : List Mini) (n : ℕ) → PathLeads minis forest x n → Reached forest minis FromStart n
  reached_by minis n l = from_leads minis FromStart x n refl l

module _ (forest : Forest) (good : IsForest forest) (lines : AreLines forest) where
  -- a first child, and a next sibling
  record IsFirstChild (n c : ℕ) : Type 0 where
    pub known : c < length forest.content
    pub up : parent forest c ≡ Some n
    pub alone : before (siblings forest c) c ≡ None

  here : (n : ℕ) (ns : List ℕ) → is_member n (n ∷ ns) ≡ true
  here n ns = rw (eq-eqb n n refl) refl

  first_child : (n c : ℕ) → Some c ≡ first (children_of forest n) → IsFirstChild n c
  first_child n c is =
      let row : children_of forest n ≡ c ∷ later forest false c = lines.below false n ∙ ap (row_on forest false) (sym is) in
      let stands = good.once.in_children n c (ap (is_member c) row ∙ here c (later forest false c)) in
      let same : siblings forest c ≡ c ∷ later forest false c = ap (λ p. children_or forest p (run_of forest c)) stands.1 ∙ row in
      let once = subst IsDistinct row (good.once.children_once n) in
      record { known = stands.0; up = stands.1; alone = ap (λ ns. before ns c) same ∙ before_here [] (later forest false c) c once.0 }

  record IsNext (n s : ℕ) : Type 0 where
    pub known : s < length forest.content
    pub up : parent forest s ≡ parent forest n
    pub link : before (siblings forest s) s ≡ Some n

  later_precedes : (v w : ℕ) → is_member w (later forest false v) ≡ true → Precedes forest v w
  unfolding CombinatorHolds
  later_precedes v w s = stands_precedes forest lines Sibling v w (sym (lines.after_before v w) ∙ s)

  earlier_precedes : (v w : ℕ) → is_member v (earlier forest w) ≡ true → Precedes forest v w
  unfolding CombinatorHolds
  earlier_precedes v w s = stands_precedes forest lines Sibling v w s

  -- n stands right before s, where s stands right after n
  link_back : (n s : ℕ) → later forest false n ≡ s ∷ later forest false s → is_member n (earlier forest s) ≡ true → (o : Option ℕ) → before (siblings forest s) s ≡ o → o ≡ Some n
  link_back n s row stands None e = absurd (true≢false (sym stands ∙ ap (is_member n) (lines.beside true s ∙ ap (row_on forest true) e)))
  link_back n s row stands (Some b) e =
      let back : earlier forest s ≡ b ∷ earlier forest b = lines.beside true s ∙ ap (row_on forest true) e in
      let close : Precedes forest b s = earlier_precedes b s (ap (is_member b) back ∙ here b (earlier forest b)) in
      elim (or_cases (b == n) (is_member n (earlier forest b)) (sym (ap (is_member n) back) ∙ stands)) [
        | inl same ↦ ap (λ m. Some m) (eqb-true b n same)
        | inr far ↦ absurd (between b close (sym (ap (is_member b) row) ∙ (lines.after_before n b ∙ far)))
      ]
    where
      between : (b : ℕ) → Precedes forest b s → is_member b (s ∷ later forest false s) ≡ true → ⊥
      between b close t = elim (or_cases (s == b) (is_member b (later forest false s)) t) [
        | inl same ↦ apart forest b s close (sym (eqb-true s b same))
        | inr far ↦ apart forest b b (precedes_then forest b s b close (later_precedes s b far)) refl
      ]

  next_sibling : (n s : ℕ) → Some s ≡ after (siblings forest n) n → IsNext n s
  next_sibling n s is =
      let row : later forest false n ≡ s ∷ later forest false s = lines.beside false n ∙ ap (row_on forest false) (sym is) in
      let known : IsWithin forest (Some s) = subst (IsWithin forest) (sym is) (lines.beside_known false n) in
      let stands : is_member n (earlier forest s) ≡ true = sym (lines.after_before n s) ∙ ap (is_member s) row ∙ here s (later forest false s) in
      record { known = known; up = lines.together false n s (sym is); link = link_back n s row stands (before (siblings forest s) s) refl }

  next_precedes : (n s : ℕ) → Some s ≡ after (siblings forest n) n → Precedes forest n s
  next_precedes n s is = later_precedes n s (ap (is_member s) (lines.beside false n ∙ ap (row_on forest false) (sym is)) ∙ here s (later forest false s))

  child_precedes : (n c : ℕ) → parent forest c ≡ Some n → Precedes forest n c
  unfolding CombinatorHolds
  child_precedes n c up = stands_precedes forest lines Child n c up

  module _ (whole : AreTrees forest) (minis : List Mini) (x : ℕ) where
    -- the flags are right at a node behind the start, if there is one
    abbrev RightAt : Option ℕ → List Bool → Type 0
    RightAt None flags = Unit {0}
    RightAt (Some n) flags = (n < length forest.content) × Precedes forest x n × AreRight forest minis (FromStart forest x) n flags

    child_right : (n : ℕ) (start : Bool) (flags : List Bool) → IsOrPrecedes forest x n → Decides start (FromStart forest x n) → AreRight forest minis (FromStart forest x) n flags →
        (o : Option ℕ) → o ≡ first (children_of forest n) → RightAt o (flags_below minis (data_at forest n) start flags)
    child_right n start flags from h right None e = tt
    child_right n start flags from h right (Some c) e =
        let child = first_child n c e in
        (child.known, from_left forest lines x n c from (child_precedes n c child.up), below_right forest lines minis (FromStart forest x) n c child.up child.alone start flags h right)

    sibling_right : (n : ℕ) (start : Bool) (flags : List Bool) → IsOrPrecedes forest x n → Decides start (FromStart forest x n) → AreRight forest minis (FromStart forest x) n flags →
        (o : Option ℕ) → o ≡ after (siblings forest n) n → RightAt o (flags_beside minis (data_at forest n) start flags)
    sibling_right n start flags from h right None e = tt
    sibling_right n start flags from h right (Some s) e =
        let next = next_sibling n s e in
        (next.known, from_left forest lines x n s from (next_precedes n s e), beside_right forest lines minis (FromStart forest x) n s next.up next.link start flags h right)

    abbrev IsRight : Trees → List Bool → Type 0
    IsRight t flags = FiltersTo (Reached forest minis (FromStart forest x)) (walk t) (led_in forest minis flags t)

    no_tree : (n : ℕ) (contents children later : Trees) → Tree n contents children later ≡ NoTrees → ⊥
    no_tree n contents children later e = cc

    abbrev root_of : Trees → ℕ
    root_of NoTrees = 0
    root_of (Tree n contents children later) = n

    abbrev children_in : Trees → Trees
    children_in NoTrees = NoTrees
    children_in (Tree n contents children later) = children

    abbrev later_in : Trees → Trees
    later_in NoTrees = NoTrees
    later_in (Tree n contents children later) = later

    pub trees_right : (t : Trees) (o : Option ℕ) (flags : List Bool) → t ≡ trees forest (row_on forest false o) → RightAt o flags → IsRight t flags
    trees_right NoTrees o flags e right = refl
    trees_right (Tree m contents inner more) None flags e right = absurd (no_tree m contents inner more (e ∙ whole.no_trees))
    trees_right (Tree m contents inner more) (Some n) flags e right =
        let same = e ∙ lines.row_trees n right.0 in
        let root : n ≡ m = sym (ap root_of same) in
        let not_start : Decides false (FromStart forest x n) = λ s. apart forest x n right.1 s in
        let below = child_right n false flags (inr right.1) not_start right.2 (first (children_of forest n)) refl in
        let beside = sibling_right n false flags (inr right.1) not_start right.2 (after (siblings forest n) n) refl in
        let at = led_right forest minis (FromStart forest x) n false flags not_start right.2 in
        filters_one (Reached forest minis (FromStart forest x)) m (walk inner ++ walk more) _ (is_led minis (data_at forest m) false flags)
        (subst (λ k. Decides (is_led minis (data_at forest k) false flags) (Reached forest minis (FromStart forest x) k)) root at)
        (filters_append (Reached forest minis (FromStart forest x)) (walk inner) (walk more) _ _
        (trees_right inner (first (children_of forest n)) (flags_below minis (data_at forest m) false flags) (ap children_in same ∙ ap (trees forest) (lines.below false n))
        (subst (λ k. RightAt (first (children_of forest n)) (flags_below minis (data_at forest k) false flags)) root below))
        (trees_right more (after (siblings forest n) n) (flags_beside minis (data_at forest m) false flags) (ap later_in same ∙ ap (trees forest) (lines.beside false n))
        (subst (λ k. RightAt (after (siblings forest n) n) (flags_beside minis (data_at forest k) false flags)) root beside)))

    from_right : x < length forest.content → FiltersTo (Reached forest minis (FromStart forest x)) (onward forest x) (led_from forest minis true (replicate (length minis) false) x)
    from_right known =
        let flags = replicate (length minis) false in
        let right = start_right forest lines minis (FromStart forest x) x (λ v e. inl e) in
        let below = child_right x true flags (inl refl) refl right (first (children_of forest x)) refl in
        let beside = sibling_right x true flags (inl refl) refl right (after (siblings forest x) x) refl in
        subst (λ t. FiltersTo (Reached forest minis (FromStart forest x)) (walk t) (led_from forest minis true flags x)) (sym (lines.row_trees x known))
        (filters_one (Reached forest minis (FromStart forest x)) x _ _ (is_led minis (data_at forest x) true flags) (led_right forest minis (FromStart forest x) x true flags refl right)
        (filters_append (Reached forest minis (FromStart forest x)) (walk (trees forest (children_of forest x))) (walk (trees forest (later forest false x))) _ _
        (trees_right (trees forest (children_of forest x)) (first (children_of forest x)) (flags_below minis (data_at forest x) true flags) (ap (trees forest) (lines.below false x)) below)
        (trees_right (trees forest (later forest false x)) (after (siblings forest x) x) (flags_beside minis (data_at forest x) true flags) (ap (trees forest) (lines.beside false x)) beside)))

    -- what is found of a start
    pub found_right : x < length forest.content → IsFound minis forest x (led_from forest minis true (replicate (length minis) false) x)
    found_right known =
        filters_same (Reached forest minis (FromStart forest x)) (λ n. (x < length forest.content) × PathLeads minis forest x n) (onward forest x) _
        (λ n r. (known, led_to forest x minis n r)) (λ n l. reached_by forest x minis n l.1) (from_right known)

    pub found_none : length forest.content ≤ x → IsFound minis forest x []
    found_none past = filters_none (λ n. (x < length forest.content) × PathLeads minis forest x n) (onward forest x) (λ n l. let below = l.0 in omega arith)
