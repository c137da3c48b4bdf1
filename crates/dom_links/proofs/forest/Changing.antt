-- A change of what one node is keeps a forest and its links.
use Rattle.std.proofs.Common.{ℕ, zero, suc, ◌≡◌, ◌<◌, ◌≤◌, Bool, false, List, [], ◌∷◌, Option, Some, None, refl, sym, ap, ◌∙◌, subst, arith, inl, inr, length, map, get_or}
use Rattle.std.specs.Prelude.{◌==◌, ◌||◌, slice_get, slice_set, option_and_then, IfSome}
use Rattle.std.specs.Option.{option_map_or}
use Rattle.std.proofs.lemmas.Option.{slice_get_past}
use Rattle.dom_nodes.specs.declared.name.Attr.{Attr}
use Rattle.dom_nodes.specs.Elements.{Element}
use Rattle.dom_nodes.specs.declared.node_data.NodeData.{NodeData}
use Rattle.dom_nodes.specs.declared.node_data.NodeData.TheVariants.{Text, Comment, Element as AnElement}
use Rattle.dom_nodes.specs.declared.node_data.TreeNode.{TreeNode}
use Rattle.dom_nodes.specs.declared.node_data.node_edit.NodeEdit.{NodeEdit}
use Rattle.dom_nodes.specs.declared.node_data.changing.Change.{Change}
use Rattle.dom_nodes.specs.declared.node_data.changing.Change.TheVariants.{SetAttr, RemoveAttr, RemoveAttrs, RetainAttrs, RemoveAllAttrs, Rename, AddClass, RemoveClass}
use Rattle.dom_nodes.specs.Change.{changed as made_of}
use Rattle.dom_nodes.specs.Changes.{on_element, with_attrs}
use Rattle.dom_nodes.specs.Kinds.{contents_named, is_element, is_fragment, is_top, children_allowed}
use Rattle.dom_nodes.specs.Updates.{edit_of, empty_edit, with_edit, IsUpdated}
use Rattle.dom_links.specs.Contents.{changed_at, with_content, SameKind, KeepsKind, Changed, IsUpdatedAt, AreChanges}
use Rattle.dom_links.specs.Forest.{Forest, StandsOnce, AreLinks, IsArenaOf, forest_of, contents_of}
use Rattle.dom_links.specs.ListMoves.{element_at}
use Rattle.dom_links.specs.Sound.{IsForest, IsSoundArena, IsHostAncestor, one_step, then_step, IsParentOrHost, contents_at, stays}
use Rattle.dom_links.proofs.forest.Chains.{forest_of-arena}
use Rattle.dom_links.proofs.moves.Cuts.{length-contents}

-- Lists with one change

pub length-changed : {X : Type 0} (change : X → X) (xs : List X) (x : ℕ) → length (changed_at x change xs) ≡ length xs
length-changed change [] x = refl
length-changed change (y ∷ ys) zero = refl
length-changed change (y ∷ ys) (suc x) = ap suc (length-changed change ys x)

-- past the end
pub changed-past : {X : Type 0} (change : X → X) (xs : List X) (x : ℕ) → length xs ≤ x → changed_at x change xs ≡ xs
changed-past change [] x h = refl
changed-past change (y ∷ ys) zero h = absurd (omega arith)
changed-past change (y ∷ ys) (suc x) h = ap (λ zs. y ∷ zs) (changed-past change ys x (omega arith))

-- the write of one place
pub set-changed : {X : Type 0} (change : X → X) (xs : List X) (x : ℕ) (node d : X) → x < length xs → node ≡ change (get_or xs x d) → slice_set xs x node ≡ changed_at x change xs
set-changed change [] x node d h e = refl
set-changed change (y ∷ ys) zero node d h e = ap (λ z. z ∷ ys) e
set-changed change (y ∷ ys) (suc x) node d h e = ap (λ zs. y ∷ zs) (set-changed change ys x node d (omega arith) e)

-- what is read of each element
pub map-changed : {X Y : Type 0} (f : X → Y) (change : X → X) (change_read : Y → Y) (xs : List X) (x : ℕ) → ((y : X) → f (change y) ≡ change_read (f y)) →
    map f (changed_at x change xs) ≡ changed_at x change_read (map f xs)
map-changed f change change_read [] x h = refl
map-changed f change change_read (y ∷ ys) zero h = ap (λ z. z ∷ map f ys) (h y)
map-changed f change change_read (y ∷ ys) (suc x) h = ap (λ zs. f y ∷ zs) (map-changed f change change_read ys x h)

-- what the change keeps
map-kept : {X Y : Type 0} (f : X → Y) (change : X → X) (xs : List X) (x : ℕ) → ((y : X) → f (change y) ≡ f y) → map f (changed_at x change xs) ≡ map f xs
map-kept f change [] x h = refl
map-kept f change (y ∷ ys) zero h = ap (λ z. z ∷ map f ys) (h y)
map-kept f change (y ∷ ys) (suc x) h = ap (λ zs. f y ∷ zs) (map-kept f change ys x h)

link-kept : {X Y : Type 0} (field : X → Option Y) (change : X → X) (xs : List X) (x n : ℕ) → ((y : X) → field (change y) ≡ field y) →
    option_and_then field (slice_get (changed_at x change xs) n) ≡ option_and_then field (slice_get xs n)
link-kept field change [] x n h = refl
link-kept field change (y ∷ ys) zero zero h = h y
link-kept field change (y ∷ ys) zero (suc n) h = refl
link-kept field change (y ∷ ys) (suc x) zero h = refl
link-kept field change (y ∷ ys) (suc x) (suc n) h = link-kept field change ys x n h

test-kept : {X : Type 0} (test : X → Bool) (change : X → X) (xs : List X) (x n : ℕ) (other : Bool) → ((y : X) → test (change y) ≡ test y) →
    option_map_or test (slice_get (changed_at x change xs) n) other ≡ option_map_or test (slice_get xs n) other
test-kept test change [] x n other h = refl
test-kept test change (y ∷ ys) zero zero other h = h y
test-kept test change (y ∷ ys) zero (suc n) other h = refl
test-kept test change (y ∷ ys) (suc x) zero other h = refl
test-kept test change (y ∷ ys) (suc x) (suc n) other h = test-kept test change ys x n other h

-- The forest

once-changed : (x : ℕ) (change : NodeData → NodeData) (forest : Forest) → StandsOnce forest → StandsOnce (with_content x change forest)
once-changed x change forest once =
    let same : length (with_content x change forest).content ≡ length forest.content = length-changed change forest.content x in
    record {
      children_each = once.children_each ∙ sym same;
      runs_each = once.runs_each ∙ sym same;
      placed = λ n known. once.placed n (subst (λ (k : ℕ). n < k) same known);
      in_children = λ p n stands. (let facts = once.in_children p n stands in (subst (λ (k : ℕ). n < k) (sym same) facts.0, facts.1));
      in_run = λ m n stands. (let facts = once.in_run m n stands in (subst (λ (k : ℕ). n < k) (sym same) facts.0, facts.1, facts.2));
      children_once = once.children_once;
      run_once = once.run_once;
      no_run = once.no_run;
    }

contents-changed : (x : ℕ) (change : NodeData → NodeData) (forest : Forest) (n : ℕ) → KeepsKind change → contents_at (with_content x change forest) n ≡ contents_at forest n
contents-changed x change forest n kept = link-kept contents_named change forest.content x n (λ content. (kept content).contents)

step-changed : (x : ℕ) (change : NodeData → NodeData) (forest : Forest) (m n : ℕ) → KeepsKind change → IsParentOrHost (with_content x change forest) m n → IsParentOrHost forest m n
step-changed x change forest m n kept (inl up) = inl up
step-changed x change forest m n kept (inr held) = inr (sym (contents-changed x change forest m kept) ∙ held)

reaches-changed : (x : ℕ) (change : NodeData → NodeData) (forest : Forest) (m n : ℕ) → KeepsKind change → IsHostAncestor (with_content x change forest) m n → IsHostAncestor forest m n
reaches-changed x change forest m n kept (one_step _ _ step) = one_step m n (step-changed x change forest m n kept step)
reaches-changed x change forest m n kept (then_step _ k _ way step) =
    then_step m k n (reaches-changed x change forest m k kept way) (step-changed x change forest k n kept step)

pub forest-changed : (x : ℕ) (change : NodeData → NodeData) (forest : Forest) → KeepsKind change → IsForest forest → IsForest (with_content x change forest)
forest-changed x change forest kept good =
    let after = with_content x change forest in
    let same : length after.content ≡ length forest.content = length-changed change forest.content x in
    let stay : (n : ℕ) → stays after n ≡ stays forest n = λ n. ap (λ t. (n == 0) || t) (test-kept is_top change forest.content x n false (λ content. (kept content).top)) in
    record {
      once = once-changed x change forest good.once;
      rooted = subst (λ (k : ℕ). 0 < k) (sym same) good.rooted;
      alone = λ n known stands. good.alone n (subst (λ (k : ℕ). n < k) same known) (sym (stay n) ∙ stands);
      parents_allow = λ p n up. test-kept children_allowed change forest.content x p false (λ content. (kept content).parents_allow) ∙ good.parents_allow p n up;
      contents_known = λ n c held. (let facts = good.contents_known n c (sym (contents-changed x change forest n kept) ∙ held) in
          (facts.0, test-kept is_fragment change forest.content x c false (λ content. (kept content).fragment) ∙ facts.1));
      contents_once = λ m n c held too. good.contents_once m n c (sym (contents-changed x change forest m kept) ∙ held) (sym (contents-changed x change forest n kept) ∙ too);
      acyclic = λ n way. good.acyclic n (reaches-changed x change forest n n kept way);
    }

-- The arena

-- the node with its data changed
abbrev pub with_data : (NodeData → NodeData) → TreeNode → TreeNode
with_data change node = record node { content = change node.content }

links-changed : (x : ℕ) (change : NodeData → NodeData) (forest : Forest) (nodes : List TreeNode) → AreLinks forest nodes → AreLinks (with_content x change forest) (changed_at x (with_data change) nodes)
links-changed x change forest nodes links =
    let same : length (changed_at x (with_data change) nodes) ≡ length nodes = length-changed (with_data change) nodes x in
    let known : (n : ℕ) → n < length (changed_at x (with_data change) nodes) → n < length nodes = λ n here. subst (λ (k : ℕ). n < k) same here in
    let kept : (field : TreeNode → Option ℕ) (n : ℕ) → ((node : TreeNode) → field (with_data change node) ≡ field node) →
    option_and_then field (slice_get (changed_at x (with_data change) nodes) n) ≡ option_and_then field (slice_get nodes n)
    = λ field n h. link-kept field (with_data change) nodes x n h in
    record {
      contents = map-changed (λ node. node.content) (with_data change) change nodes x (λ node. refl) ∙ ap (changed_at x change) links.contents;
      ids = λ n here. ap (λ ids. slice_get ids n) (map-kept (λ node. node.id) (with_data change) nodes x (λ node. refl)) ∙ links.ids n (known n here);
      parents = λ n here. kept (λ node. node.parent) n (λ node. refl) ∙ links.parents n (known n here);
      prevs = λ n here. kept (λ node. node.prev_sibling) n (λ node. refl) ∙ links.prevs n (known n here);
      nexts = λ n here. kept (λ node. node.next_sibling) n (λ node. refl) ∙ links.nexts n (known n here);
      firsts = λ n here. kept (λ node. node.first_child) n (λ node. refl) ∙ links.firsts n (known n here);
      lasts = λ n here. kept (λ node. node.last_child) n (λ node. refl) ∙ links.lasts n (known n here);
    }

pub changed : (old : List TreeNode) (x : ℕ) (change : NodeData → NodeData) → KeepsKind change → IsSoundArena old → Changed old (changed_at x (with_data change) old) x change
changed old x change kept sound =
    let new = changed_at x (with_data change) old in
    let arena : IsArenaOf (with_content x change (forest_of old)) new = record {
      once = once-changed x change (forest_of old) sound.arena.once;
      links = links-changed x change (forest_of old) old sound.arena.links;
    } in
    let is : forest_of new ≡ with_content x change (forest_of old) = forest_of-arena (with_content x change (forest_of old)) new arena in
    record {
      made = is;
      sound = record {
        arena = subst (λ (f : Forest). IsArenaOf f new) (sym is) arena;
        forest = subst IsForest (sym is) (forest-changed x change (forest_of old) kept sound.forest);
        numbered = subst (λ (k : ℕ). k ≤ 4294967295) (sym (length-changed (with_data change) old x)) sound.numbered;
      };
    }

abbrev of_data : TreeNode → NodeData → TreeNode
of_data node content = record node { content = content }

-- a node is written back with its data changed
pub written : (old : List TreeNode) (i x : ℕ) (node d : TreeNode) (change : NodeData → NodeData) → KeepsKind change → IsSoundArena old → i < length old → i ≡ x →
    node ≡ record (get_or old i d) { content = change (get_or old i d).content } → Changed old (slice_set old i node) x change
written old i x node d change kept sound here same is =
    subst (λ (new : List TreeNode). Changed old new x change) (ap (λ (k : ℕ). changed_at k (with_data change) old) (sym same) ∙ sym (set-changed (with_data change) old i node d here is))
    (changed old x change kept sound)

-- an unknown number
pub unknown : (old : List TreeNode) (i x : ℕ) (change : NodeData → NodeData) → KeepsKind change → IsSoundArena old → length old ≤ i → i ≡ x → Changed old old x change
unknown old i x change kept sound past same =
    subst (λ (new : List TreeNode). Changed old new x change) (changed-past (with_data change) old x (omega (arith, same))) (changed old x change kept sound)

-- the data of the node at a place
pub content_got : (nodes : List TreeNode) (i : ℕ) (d : TreeNode) → i < length nodes → slice_get (contents_of nodes) i ≡ Some (get_or nodes i d).content
content_got [] i d h = absurd (omega arith)
content_got (node ∷ nodes) zero d h = refl
content_got (node ∷ nodes) (suc i) d h = content_got nodes i d (omega arith)

-- whether the node that is read is an element
pub element_here : (nodes : List TreeNode) (i x : ℕ) (d : TreeNode) → IsArenaOf (forest_of nodes) nodes → i < length nodes → i ≡ x → element_at (forest_of nodes) x ≡ is_element (get_or nodes i d).content
element_here nodes i x d arena here same =
    let at : slice_get (forest_of nodes).content i ≡ Some (get_or nodes i d).content = ap (λ contents. slice_get contents i) (sym arena.links.contents) ∙ content_got nodes i d here in
    ap (λ (k : ℕ). element_at (forest_of nodes) k) (sym same) ∙ ap (λ o. option_map_or is_element o false) at

-- what is asked of the node at a place
pub asks_read : (nodes : List TreeNode) (i x : ℕ) (d : TreeNode) (asks : NodeData → Bool) → IsSoundArena nodes → i < length nodes → i ≡ x → option_map_or asks (slice_get (forest_of nodes).content x) false ≡ false → asks (get_or nodes i d).content ≡ false
asks_read nodes i x d asks sound here same none =
    let at : slice_get (forest_of nodes).content i ≡ Some (get_or nodes i d).content = ap (λ contents. slice_get contents i) (sym sound.arena.links.contents) ∙ content_got nodes i d here in
    sym (ap (λ o. option_map_or asks o false) at) ∙ ap (λ (k : ℕ). option_map_or asks (slice_get (forest_of nodes).content k) false) same ∙ none

-- What keeps the kind

same_kind : (content : NodeData) → SameKind content content
same_kind content = record { top = refl; fragment = refl; parents_allow = refl; contents = refl }

pub keeps_element : (change : Element → Element) → ((element : Element) → (change element).template_contents ≡ element.template_contents) → KeepsKind (on_element change)
keeps_element change kept (AnElement element) = record { top = refl; fragment = refl; parents_allow = refl; contents = kept element }
keeps_element change kept content = same_kind content

pub keeps_attrs : (change : List Attr → List Attr) → KeepsKind (with_attrs change)
keeps_attrs change (AnElement element) = record { top = refl; fragment = refl; parents_allow = refl; contents = refl }
keeps_attrs change content = same_kind content

-- each change of an element
pub keeps_change : (change : Change) → KeepsKind (made_of change)
keeps_change (SetAttr name value) = keeps_attrs _
keeps_change (RemoveAttr name) = keeps_attrs _
keeps_change (RemoveAttrs names) = keeps_attrs _
keeps_change (RetainAttrs names) = keeps_attrs _
keeps_change RemoveAllAttrs = keeps_attrs _
keeps_change (Rename name) = keeps_element _ (λ element. refl)
keeps_change (AddClass classes) = keeps_attrs _
keeps_change (RemoveClass classes) = keeps_attrs _

pub keeps_edit : (edit : NodeEdit) → KeepsKind (with_edit edit)
keeps_edit edit (Text contents) = record { top = refl; fragment = refl; parents_allow = refl; contents = refl }
keeps_edit edit (Comment contents) = record { top = refl; fragment = refl; parents_allow = refl; contents = refl }
keeps_edit edit (AnElement element) = record { top = refl; fragment = refl; parents_allow = refl; contents = refl }
keeps_edit edit content = same_kind content

-- a node is written back with an edit
pub updated : (MayLeave : NodeEdit → NodeEdit → Type 0) (old : List TreeNode) (i x : ℕ) (node d : TreeNode) → IsSoundArena old → i < length old → i ≡ x →
    IsUpdated MayLeave (get_or old i d).content node.content → node ≡ record (get_or old i d) { content = node.content } →
    IsUpdatedAt MayLeave x (forest_of old) (forest_of (slice_set old i node)) × IsSoundArena (slice_set old i node)
updated MayLeave old i x node d sound here same done rest =
    let is : node ≡ record (get_or old i d) { content = with_edit done.edit (get_or old i d).content } = rest ∙ ap (λ content. of_data (get_or old i d) content) done.node in
    let all = written old i x node d (with_edit done.edit) (keeps_edit done.edit) sound here same is in
    let at : slice_get (forest_of old).content x ≡ Some (get_or old i d).content =
    ap (slice_get (forest_of old).content) (sym same) ∙ ap (λ contents. slice_get contents i) (sym sound.arena.links.contents) ∙ content_got old i d here in
    (record { edit = done.edit; left = subst (λ o. IfSome o (λ content. MayLeave (edit_of content) done.edit)) (sym at) done.left; made = Changed.made all }, Changed.sound all)

pub updated_none : (MayLeave : NodeEdit → NodeEdit → Type 0) (old : List TreeNode) (i x : ℕ) → IsSoundArena old → length old ≤ i → i ≡ x → IsUpdatedAt MayLeave x (forest_of old) (forest_of old)
updated_none MayLeave old i x sound past same =
    let long : length old ≡ length (forest_of old).content = length-contents (forest_of old) old sound.arena.links in
    let none : slice_get (forest_of old).content x ≡ None = slice_get_past (forest_of old).content x (omega (arith, long, same)) in
    record {
      edit = empty_edit;
      left = subst (λ o. IfSome o (λ content. MayLeave (edit_of content) empty_edit)) (sym none) tt;
      made = Changed.made (unknown old i x (with_edit empty_edit) (keeps_edit empty_edit) sound past same);
    }

-- The law

got-here : {X : Type 0} (change : X → X) (xs : List X) (x : ℕ) (y : X) → slice_get xs x ≡ Some y → slice_get (changed_at x change xs) x ≡ Some (change y)
got-here change [] x y e = cc
got-here change (z ∷ zs) zero y e = (let same : z ≡ y = cc in ap (λ w. Some (change w)) same)
got-here change (z ∷ zs) (suc x) y e = got-here change zs x y e

got-elsewhere : {X : Type 0} (change : X → X) (xs : List X) (x n : ℕ) → (x ≡ n → ⊥) → slice_get (changed_at x change xs) n ≡ slice_get xs n
got-elsewhere change [] x n ne = refl
got-elsewhere change (y ∷ ys) zero zero ne = absurd (ne refl)
got-elsewhere change (y ∷ ys) zero (suc n) ne = refl
got-elsewhere change (y ∷ ys) (suc x) zero ne = refl
got-elsewhere change (y ∷ ys) (suc x) (suc n) ne = got-elsewhere change ys x n (λ e. ne (omega arith))

pub are_changes : (forest : Forest) → AreChanges forest
are_changes forest = record {
  here = λ x change content e. got-here change forest.content x content e;
  elsewhere = λ x n change ne. got-elsewhere change forest.content x n ne;
  past = λ x change past. ap (λ content. record forest { content = content }) (changed-past change forest.content x past);
  kept = λ x change kept good. forest-changed x change forest kept good;
}
