-- A node is added: where the numbers then stand, and which links they then have.
use Rattle.std.proofs.Common.{ℕ, zero, suc, ◌≡◌, ◌<◌, ◌≤◌, ◌+◌, Bool, true, false, List, [], ◌∷◌, ◌++◌, Option, Some, None, refl, sym, ap, ◌∙◌, subst, arith, inl, inr, ◌⊎◌, length, get_or}
use Rattle.std.specs.Prelude.{◌==◌, ◌||◌, slice_get, option_and_then}
use Rattle.std.specs.Option.{option_map_or}
use Rattle.std.proofs.lemmas.Bool.{cases_Bool, cases_lt, cases_eq, eqb-true, eq-eqb, true≢false}
use Rattle.std.proofs.lemmas.List.{length-map, get_or_past, map-append, length_push}
use Rattle.std.proofs.lemmas.Option.{slice_get_past}
use Rattle.dom_nodes.specs.declared.node_data.NodeData.{NodeData}
use Rattle.dom_nodes.specs.declared.node_data.TreeNode.{TreeNode}
use Rattle.dom_nodes.specs.Kinds.{contents_named, is_fragment, is_top, children_allowed}
use Rattle.dom_links.specs.Lists.{is_member, IsDistinct, first, last, after, before}
use Rattle.dom_links.specs.Forest.{Forest, StandsOnce, AreLinks, IsArenaOf, children_of, run_of, owner_from, parent, siblings, arena_ids, forest_of}
use Rattle.dom_links.specs.Sound.{IsParentOrHost, IsHostAncestor, one_step, then_step, contents_at, IsForest}
use Rattle.dom_links.specs.Growth.{with_node, HasFreeContents, Created}
use Rattle.dom_links.proofs.forest.Places.{cases_Option, siblings_child, siblings_run}
use Rattle.dom_links.proofs.moves.Cuts.{length-contents, one-stands}
use Rattle.dom_links.proofs.forest.Chains.{forest_of-arena}

-- a list of lists with one more at its end
pub get_or-before : (lists : List (List ℕ)) (ns : List ℕ) (n : ℕ) → n < length lists → get_or (lists ++ ns ∷ []) n [] ≡ get_or lists n []
get_or-before [] ns n h = absurd (omega arith)
get_or-before (ms ∷ lists) ns zero h = refl
get_or-before (ms ∷ lists) ns (suc n) h = get_or-before lists ns n (omega arith)

pub get_or-there : (lists : List (List ℕ)) (ns : List ℕ) (n : ℕ) → n ≡ length lists → get_or (lists ++ ns ∷ []) n [] ≡ ns
get_or-there [] ns n h = rw h refl
get_or-there (ms ∷ lists) ns zero h = absurd (omega arith)
get_or-there (ms ∷ lists) ns (suc n) h = get_or-there lists ns n (omega arith)

pub slice_get-before : {X : Type 0} (xs : List X) (x : X) (n : ℕ) → n < length xs → slice_get (xs ++ x ∷ []) n ≡ slice_get xs n
slice_get-before [] x n h = absurd (omega arith)
slice_get-before (y ∷ xs) x zero h = refl
slice_get-before (y ∷ xs) x (suc n) h = slice_get-before xs x n (omega arith)

pub slice_get-there : {X : Type 0} (xs : List X) (x : X) (n : ℕ) → n ≡ length xs → slice_get (xs ++ x ∷ []) n ≡ Some x
slice_get-there [] x n h = rw h refl
slice_get-there (y ∷ xs) x zero h = absurd (omega arith)
slice_get-there (y ∷ xs) x (suc n) h = slice_get-there xs x n (omega arith)

owner-more : (i : ℕ) (lists : List (List ℕ)) (n : ℕ) → owner_from i (lists ++ [] ∷ []) n ≡ owner_from i lists n
owner-more i [] n = refl
owner-more i (ns ∷ lists) n = rw (owner-more (i + 1) lists n) refl

pub children-more : (content : NodeData) (forest : Forest) (p : ℕ) → children_of (with_node content forest) p ≡ children_of forest p
children-more content forest p = elim (cases_lt p (length forest.children)) [
  | inl h ↦ get_or-before forest.children [] p h
  | inr past ↦ (elim (cases_eq p (length forest.children)) [
    | inl e ↦ get_or-there forest.children [] p e
    | inr ne ↦ (let far : length (forest.children ++ [] ∷ []) ≤ p = omega (arith, length_push forest.children [], ne) in get_or_past (forest.children ++ [] ∷ []) p [] far)
  ])
      ∙ sym (get_or_past forest.children p [] past)
]

pub parent-more : (content : NodeData) (forest : Forest) (n : ℕ) → parent (with_node content forest) n ≡ parent forest n
parent-more content forest n = owner-more 0 forest.children n

pub run-more : (content : NodeData) (forest : Forest) (n : ℕ) → StandsOnce forest → n < length forest.content → run_of (with_node content forest) n ≡ run_of forest n
run-more content forest n once h = get_or-before forest.runs (length forest.content ∷ []) n (omega (arith, once.runs_each))

pub run-new : (content : NodeData) (forest : Forest) (n : ℕ) → StandsOnce forest → n ≡ length forest.content → run_of (with_node content forest) n ≡ n ∷ []
run-new content forest n once h = get_or-there forest.runs (length forest.content ∷ []) n (omega (arith, once.runs_each)) ∙ ap (λ (k : ℕ). k ∷ []) (sym h)

run-far : (content : NodeData) (forest : Forest) (n : ℕ) → StandsOnce forest → length forest.content < n → run_of (with_node content forest) n ≡ []
run-far content forest n once h =
    let far : length (forest.runs ++ (length forest.content ∷ []) ∷ []) ≤ n = omega (arith, length_push forest.runs (length forest.content ∷ []), once.runs_each) in
    get_or_past (forest.runs ++ (length forest.content ∷ []) ∷ []) n [] far

pub new_parentless : (forest : Forest) (n : ℕ) → StandsOnce forest → length forest.content ≤ n → parent forest n ≡ None
new_parentless forest n once h = elim (cases_Option (parent forest n)) [
  | inl none ↦ none
  | inr (p, some) ↦ absurd (unknown_owner 0 forest.children n p some (λ q s. (let known : n < length forest.content = (once.in_children q n s).0 in omega arith)))
]
  where
    unknown_owner : (i : ℕ) (lists : List (List ℕ)) (n p : ℕ) → owner_from i lists n ≡ Some p → ((q : ℕ) → is_member n (get_or lists q []) ≡ true → ⊥) → ⊥
    unknown_owner i [] n p e none = cc
    unknown_owner i (ns ∷ lists) n p e none = elim (cases_Bool (is_member n ns)) [
      | inl t ↦ none 0 t
      | inr f ↦ unknown_owner (i + 1) lists n p (rw f at e) (λ q s. none (suc q) s)
    ]

siblings-more : (content : NodeData) (forest : Forest) (n : ℕ) → StandsOnce forest → n < length forest.content → siblings (with_node content forest) n ≡ siblings forest n
siblings-more content forest n once h = elim (cases_Option (parent forest n)) [
  | inl none ↦ siblings_run (with_node content forest) n (parent-more content forest n ∙ none) ∙ run-more content forest n once h ∙ sym (siblings_run forest n none)
  | inr (p, some) ↦ siblings_child (with_node content forest) n p (parent-more content forest n ∙ some) ∙ children-more content forest p ∙ sym (siblings_child forest n p some)
]

siblings-new : (content : NodeData) (forest : Forest) (n : ℕ) → StandsOnce forest → n ≡ length forest.content → siblings (with_node content forest) n ≡ n ∷ []
siblings-new content forest n once h =
    siblings_run (with_node content forest) n (parent-more content forest n ∙ new_parentless forest n once (omega arith)) ∙ run-new content forest n once h

run_cases : (content : NodeData) (forest : Forest) (m : ℕ) → StandsOnce forest →
    ((m < length forest.content) × (run_of (with_node content forest) m ≡ run_of forest m)) ⊎ (((m ≡ length forest.content) × (run_of (with_node content forest) m ≡ m ∷ [])) ⊎ (run_of (with_node content forest) m ≡ []))
run_cases content forest m once = elim (cases_lt m (length forest.content)) [
  | inl h ↦ inl (h, run-more content forest m once h)
  | inr past ↦ (elim (cases_eq m (length forest.content)) [
    | inl e ↦ inr (inl (e, run-new content forest m once e))
    | inr ne ↦ inr (inr (run-far content forest m once (omega (arith, ne))))
  ])
]

pub once-more : (content : NodeData) (forest : Forest) → StandsOnce forest → StandsOnce (with_node content forest)
once-more content forest once =
    let long : length (forest.content ++ content ∷ []) ≡ length forest.content + 1 = length_push forest.content content in
    record {
      children_each = length_push forest.children [] ∙ ap (λ (k : ℕ). k + 1) once.children_each ∙ sym long;
      runs_each = length_push forest.runs (length forest.content ∷ []) ∙ ap (λ (k : ℕ). k + 1) once.runs_each ∙ sym long;
      placed = λ n h. elim (cases_lt n (length forest.content)) [
        | inl here ↦ rw (siblings-more content forest n once here) (once.placed n here)
        | inr past ↦ (let e : n ≡ length forest.content = omega arith in ap (is_member n) (siblings-new content forest n once e) ∙ one-stands n n ∙ eq-eqb n n refl)
      ];
      in_children = λ p n s. (let facts = once.in_children p n (ap (is_member n) (sym (children-more content forest p)) ∙ s) in
          let known : n < length forest.content = facts.0 in (omega arith, parent-more content forest n ∙ facts.1));
      in_run = λ m n s. elim (run_cases content forest m once) [
        | inl both ↦ (let facts = once.in_run m n (ap (is_member n) (sym both.1) ∙ s) in
            let known : n < length forest.content = facts.0 in
            (omega arith, parent-more content forest n ∙ facts.1, run-more content forest n once known ∙ facts.2 ∙ sym both.1))
        | inr other ↦ (elim other [
          | inl both ↦ (let is : m ≡ n = eqb-true m n (sym (one-stands m n) ∙ ap (is_member n) (sym both.1) ∙ s) in
              let new : m ≡ length forest.content = both.0 in
              (omega arith, parent-more content forest n ∙ new_parentless forest n once (omega arith), ap (run_of (with_node content forest)) (sym is)))
          | inr none ↦ absurd (true≢false (sym s ∙ ap (is_member n) none))
        ])
      ];
      children_once = λ p. subst IsDistinct (sym (children-more content forest p)) (once.children_once p);
      run_once = λ n. elim (run_cases content forest n once) [
        | inl both ↦ subst IsDistinct (sym both.1) (once.run_once n)
        | inr other ↦ (elim other [ inl both ↦ subst IsDistinct (sym both.1) (refl, tt) | inr none ↦ subst IsDistinct (sym none) tt ])
      ];
      no_run = λ p n some. elim (run_cases content forest n once) [
        | inl both ↦ both.1 ∙ once.no_run p n (sym (parent-more content forest n) ∙ some)
        | inr other ↦ (elim other [
          | inl both ↦ (let new : n ≡ length forest.content = both.0 in let none = new_parentless forest n once (omega arith) in let was = sym (parent-more content forest n) ∙ some in cc)
          | inr none ↦ none
        ])
      ];
    }

-- the made node has no links
pub record IsBare (node : TreeNode) (id : ℕ) (content : NodeData) : Type 0 where
  pub id_is : node.id ≡ id
  pub no_parent : node.parent ≡ None
  pub no_prev : node.prev_sibling ≡ None
  pub no_next : node.next_sibling ≡ None
  pub no_first : node.first_child ≡ None
  pub no_last : node.last_child ≡ None
  pub content_is : node.content ≡ content

pub link-more : (field : TreeNode → Option ℕ) (nodes : List TreeNode) (node : TreeNode) (n : ℕ) → n < length nodes → option_and_then field (slice_get (nodes ++ node ∷ []) n) ≡ option_and_then field (slice_get nodes n)
link-more field nodes node n h = ap (option_and_then field) (slice_get-before nodes node n h)

pub link-new : (field : TreeNode → Option ℕ) (nodes : List TreeNode) (node : TreeNode) (n : ℕ) → n ≡ length nodes → option_and_then field (slice_get (nodes ++ node ∷ []) n) ≡ field node
link-new field nodes node n h = ap (option_and_then field) (slice_get-there nodes node n h)

pub links-more : (forest : Forest) (nodes : List TreeNode) (node : TreeNode) (content : NodeData) → IsArenaOf forest nodes → IsBare node (length nodes) content → AreLinks (with_node content forest) (nodes ++ node ∷ [])
links-more forest nodes node content arena bare =
    let long : length nodes ≡ length forest.content = length-contents forest nodes arena.links in
    let more : length (nodes ++ node ∷ []) ≡ length nodes + 1 = length_push nodes node in
    let once = arena.once in
    let links = arena.links in
    let no_children : (n : ℕ) → n ≡ length nodes → children_of (with_node content forest) n ≡ [] = λ n e. children-more content forest n ∙ get_or_past forest.children n [] (omega (arith, once.children_each)) in
    record {
      contents = map-append (λ x. x.content) nodes (node ∷ []) ∙ rw (links.contents, bare.content_is) refl;
      ids = λ n h. rw (map-append (λ x. x.id) nodes (node ∷ [])) (elim (cases_lt n (length nodes)) [
        | inl here ↦ slice_get-before (arena_ids nodes) node.id n (omega (arith, length-map nodes (λ x. x.id))) ∙ links.ids n here
        | inr past ↦ (let e : n ≡ length nodes = omega arith in slice_get-there (arena_ids nodes) node.id n (omega (arith, length-map nodes (λ x. x.id))) ∙ ap Some (bare.id_is ∙ sym e))
      ]);
      parents = λ n h. elim (cases_lt n (length nodes)) [
        | inl here ↦ link-more (λ x. x.parent) nodes node n here ∙ links.parents n here ∙ sym (parent-more content forest n)
        | inr past ↦ link-new (λ x. x.parent) nodes node n (omega arith) ∙ bare.no_parent ∙ sym (parent-more content forest n ∙ new_parentless forest n once (omega arith))
      ];
      prevs = λ n h. elim (cases_lt n (length nodes)) [
        | inl here ↦ link-more (λ x. x.prev_sibling) nodes node n here ∙ links.prevs n here ∙ ap (λ ns. before ns n) (sym (siblings-more content forest n once (omega arith)))
        | inr past ↦ link-new (λ x. x.prev_sibling) nodes node n (omega arith) ∙ bare.no_prev ∙ sym (ap (λ ns. before ns n) (siblings-new content forest n once (omega arith)) ∙ rw (eq-eqb n n refl) refl)
      ];
      nexts = λ n h. elim (cases_lt n (length nodes)) [
        | inl here ↦ link-more (λ x. x.next_sibling) nodes node n here ∙ links.nexts n here ∙ ap (λ ns. after ns n) (sym (siblings-more content forest n once (omega arith)))
        | inr past ↦ link-new (λ x. x.next_sibling) nodes node n (omega arith) ∙ bare.no_next ∙ sym (ap (λ ns. after ns n) (siblings-new content forest n once (omega arith)) ∙ rw (eq-eqb n n refl) refl)
      ];
      firsts = λ n h. elim (cases_lt n (length nodes)) [
        | inl here ↦ link-more (λ x. x.first_child) nodes node n here ∙ links.firsts n here ∙ ap first (sym (children-more content forest n))
        | inr past ↦ link-new (λ x. x.first_child) nodes node n (omega arith) ∙ bare.no_first ∙ sym (ap first (no_children n (omega arith)))
      ];
      lasts = λ n h. elim (cases_lt n (length nodes)) [
        | inl here ↦ link-more (λ x. x.last_child) nodes node n here ∙ links.lasts n here ∙ ap last (sym (children-more content forest n))
        | inr past ↦ link-new (λ x. x.last_child) nodes node n (omega arith) ∙ bare.no_last ∙ sym (ap last (no_children n (omega arith)))
      ];
    }

-- the contents that a node names, once there is one node more
pub contents-more : (content : NodeData) (forest : Forest) (m c : ℕ) → contents_at (with_node content forest) m ≡ Some c → (contents_at forest m ≡ Some c) ⊎ ((m ≡ length forest.content) × (contents_named content ≡ Some c))
contents-more content forest m c e = elim (cases_lt m (length forest.content)) [
  | inl h ↦ inl (ap (option_and_then contents_named) (sym (slice_get-before forest.content content m h)) ∙ e)
  | inr past ↦ (elim (cases_eq m (length forest.content)) [
    | inl is ↦ inr (is, ap (option_and_then contents_named) (sym (slice_get-there forest.content content m is)) ∙ e)
    | inr ne ↦ (let far : length (forest.content ++ content ∷ []) ≤ m = omega (arith, length_push forest.content content, ne) in
        let none : contents_at (with_node content forest) m ≡ None = ap (option_and_then contents_named) (slice_get_past (forest.content ++ content ∷ []) m far) in cc)
  ])
]

pub within : {X : Type 0} (test : X → Bool) (xs : List X) (n : ℕ) → option_map_or test (slice_get xs n) false ≡ true → n < length xs
within test xs n h = elim (cases_lt n (length xs)) [
  | inl here ↦ here
  | inr past ↦ absurd (true≢false (sym h ∙ ap (λ o. option_map_or test o false) (slice_get_past xs n past)))
]

pub test-more : {X : Type 0} (test : X → Bool) (xs : List X) (x : X) (n : ℕ) → option_map_or test (slice_get xs n) false ≡ true → option_map_or test (slice_get (xs ++ x ∷ []) n) false ≡ true
test-more test xs x n h = ap (λ o. option_map_or test o false) (slice_get-before xs x n (within test xs n h)) ∙ h

-- a step in the forest with one node more is an old step, or begins at the new node
pub step-more : (content : NodeData) (forest : Forest) → IsForest forest → HasFreeContents forest content → (m n : ℕ) → IsParentOrHost (with_node content forest) m n → (n < length forest.content) × (IsParentOrHost forest m n ⊎ (m ≡ length forest.content))
step-more content forest good free m n (inl p) =
    let was : parent forest n ≡ Some m = sym (parent-more content forest n) ∙ p in
    let known : n < length forest.content = elim (cases_lt n (length forest.content)) [ inl h ↦ h | inr past ↦ (let none = new_parentless forest n good.once past in cc) ] in
    (known, inl (inl was))
step-more content forest good free m n (inr c) = elim (contents-more content forest m n c) [
  | inl old ↦ (within is_fragment forest.content n (good.contents_known m n old).1, inl (inr old))
  | inr new ↦ (within is_fragment forest.content n (free n new.1).1, inr new.0)
]

-- a way in the forest with one node more is an old way, or begins at the new node
pub ways-more : (content : NodeData) (forest : Forest) → IsForest forest → HasFreeContents forest content → (m n : ℕ) → IsHostAncestor (with_node content forest) m n →
    (n < length forest.content) × (IsHostAncestor forest m n ⊎ (m ≡ length forest.content))
ways-more content forest good free _ _ (one_step m n step) =
    let last_one = step-more content forest good free m n step in
    (last_one.0, (elim last_one.1 [ inl old ↦ inl (one_step m n old) | inr new ↦ inr new ]))
ways-more content forest good free _ _ (then_step m k n way step) =
    let before = ways-more content forest good free m k way in
    let last_one = step-more content forest good free k n step in (
      last_one.0,
      (elim before.1 [
        | inr new ↦ inr new
        | inl old ↦ (elim last_one.1 [
          | inl plain ↦ inl (then_step m k n old plain)
          | inr new ↦ (let known : k < length forest.content = before.0 in absurd (omega (arith, new)))
        ])
      ]),
    )

pub forest-more : (content : NodeData) (forest : Forest) → IsForest forest → HasFreeContents forest content → IsForest (with_node content forest)
forest-more content forest good free =
    let long : length (forest.content ++ content ∷ []) ≡ length forest.content + 1 = length_push forest.content content in
    record {
      once = once-more content forest good.once;
      rooted = (let some = good.rooted in omega arith);
      alone = λ n h s. elim (cases_lt n (length forest.content)) [
        | inl here ↦ (let was = good.alone n here (sym (ap (λ o. (n == 0) || option_map_or is_top o false) (slice_get-before forest.content content n here)) ∙ s) in
            (parent-more content forest n ∙ was.0, run-more content forest n good.once here ∙ was.1))
        | inr past ↦ (parent-more content forest n ∙ new_parentless forest n good.once past, run-new content forest n good.once (omega arith))
      ];
      parents_allow = λ p n some. test-more children_allowed forest.content content p (good.parents_allow p n (sym (parent-more content forest n) ∙ some));
      contents_known = λ n c e. elim (contents-more content forest n c e) [
        | inl old ↦ (let facts = good.contents_known n c old in (facts.0, test-more is_fragment forest.content content c facts.1))
        | inr new ↦ (let facts = free c new.1 in (facts.0, test-more is_fragment forest.content content c facts.1))
      ];
      contents_once = λ m n c e e'. elim (contents-more content forest m c e) [
        | inl old ↦ (elim (contents-more content forest n c e') [
          | inl old' ↦ good.contents_once m n c old old'
          | inr new' ↦ absurd ((free c new'.1).2 m old)
        ])
        | inr new ↦ (elim (contents-more content forest n c e') [
          | inl old' ↦ absurd ((free c new.1).2 n old')
          | inr new' ↦ new.0 ∙ sym new'.0
        ])
      ];
      acyclic = λ n way. (let facts = ways-more content forest good free n n way in
          elim facts.1 [ inl old ↦ good.acyclic n old | inr new ↦ (let known : n < length forest.content = facts.0 in absurd (omega (arith, new))) ]);
    }

pub created : (nodes new : List TreeNode) (node : TreeNode) (content : NodeData) → IsArenaOf (forest_of nodes) nodes → IsBare node (length nodes) content → new ≡ nodes ++ node ∷ [] → Created nodes new content
created nodes new node content arena bare e =
    let forest = forest_of nodes in
    let after_it : IsArenaOf (with_node content forest) new = record { once = once-more content forest arena.once; links = rw e (links-more forest nodes node content arena bare) } in
    let is : forest_of new ≡ with_node content forest = forest_of-arena (with_node content forest) new after_it in
    record {
      made = is;
      linked = subst (λ (f : Forest). IsArenaOf f new) (sym is) after_it;
      kept = λ free good. subst IsForest (sym is) (forest-more content forest good free);
    }
