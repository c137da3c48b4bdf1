-- An element of the head after the head is closed (13.2.6.4.6): the rules push the head element onto the stack of open elements, use those
-- for "in head", and remove it from the stack. The code inserts the element at the end of the head element.
use Rattle.std.proofs.Common.{◌≡◌, ◌&&◌, ◌||◌, ℕ, suc, Bool, true, false, cond, not, List, [], ◌∷◌, codes, length, nat_eq, refl, sym, ap, subst, ◌∙◌, true≢false}
use Rattle.std.specs.Option.{option_and_then, option_map_or, unwrap_or}
use Rattle.std.specs.Prelude.{None, Option, Some}
use Rattle.std.specs.Str.{bytes_eq}
use Rattle.std.proofs.lemmas.Bool.{eq-eqb, eqb-true}
use Rattle.std.proofs.lemmas.Slice.Eq.{bytes_eq-Decides}
use Rattle.standard_trees.specs.Building.{Building, own_name, perform, performed, run, taken, with_head, with_tree}
use Rattle.standard_trees.specs.GrowingTree.{GrowingTree, created, foster_place, fresh, in_contents, inserted_at, is_among, is_named, is_one, is_template, kind_of, place, pushed, put, unstacked, with_stack}
use Rattle.standard_trees.specs.NameLists.{fostering_names}
use Rattle.standard_trees.specs.RuleWords.{AfterHead, InHead, PushHeadPointer, RemoveHeadFromStack, does}
use Rattle.standard_trees.specs.TreeRules.{rules}
use Rattle.standard_trees.specs.TreeStore.{ContentsNode, ElementNode, EndOf, Html, Node, NodeAttr, Place, is_member, key_in, node_at, without}
use Rattle.page_trees.specs.Constructs.{ComesTo, Constructs, HaveOneToken, IsCurrentTag, Outcome, all_performed}
use Rattle.page_trees.specs.Groups.{is_metadata_name}
use Rattle.page_trees.specs.HeadSteps.{after_element, before_element, place_in_head}
use Rattle.standard_order.specs.Order.{head_is_closed}
use Rattle.page_trees.specs.Modes.{is_start_kind}
use Rattle.page_trees.specs.Stands.{IsHeadNamed, popped}
use Rattle.page_tokens.specs.declared.token.Tag.{Tag}
use Rattle.page_trees.specs.declared.builder.Next.{Next}
use Rattle.page_trees.specs.declared.builder.TreeBuilder.{TreeBuilder}
use Rattle.page_trees.specs.declared.name.Name.{Name}
use Rattle.page_trees.proofs.HeadModes.{again_acts, again_taken}
use Rattle.page_trees.proofs.HeadRules.{element_taken, head_actions, one_token_element, stays_current}
use Rattle.page_trees.proofs.RulesRun.{runs}
use Rattle.page_trees.proofs.StoreLemmas.{same_test}

-- ---- an element is inserted over another stack

over_stack : (spot : Place) (name : List ℕ) (attrs : List NodeAttr) (t : GrowingTree) (ns : List ℕ) →
    inserted_at spot Html name attrs (with_stack t ns) ≡ with_stack (inserted_at spot Html name attrs t) (fresh t ∷ ns)
over_stack spot name attrs t ns = by (is_template Html name)
  where
    by : (x : Bool) → pushed (fresh t) (put (fresh t) spot (elim x [
      | true ↦ created ContentsNode (created (ElementNode Html name attrs (Some (suc (fresh t)))) (with_stack t ns))
      | false ↦ created (ElementNode Html name attrs None) (with_stack t ns)
    ])) ≡ with_stack (pushed (fresh t) (put (fresh t) spot (elim x [
      | true ↦ created ContentsNode (created (ElementNode Html name attrs (Some (suc (fresh t)))) t)
      | false ↦ created (ElementNode Html name attrs None) t
    ]))) (fresh t ∷ ns)
    by true = refl
    by false = refl

head_stays : (spot : Place) (name : List ℕ) (attrs : List NodeAttr) (t : GrowingTree) → (inserted_at spot Html name attrs t).head ≡ t.head
head_stays spot name attrs t = by (is_template Html name)
  where
    by : (x : Bool) → (let made : GrowingTree = elim x [
      | true ↦ created ContentsNode (created (ElementNode Html name attrs (Some (suc (fresh t)))) t)
      | false ↦ created (ElementNode Html name attrs None) t
    ] in made.head) ≡ t.head
    by true = refl
    by false = refl

-- ---- the place is the end of the head element

head_name : (key : List ℕ) → is_among key (codes "head" ∷ []) ≡ true → key ≡ codes "head"
head_name key h = by (bytes_eq key (codes "head")) refl h
  where
    by : (x : Bool) → bytes_eq key (codes "head") ≡ x → (x || false) ≡ true → key ≡ codes "head"
    by true e k = (bytes_eq-Decides key (codes "head")).0 e
    by false e k = absurd (true≢false (sym k))

and_false : (x : Bool) → (x && false) ≡ false
and_false true = refl
and_false false = refl

pub place_is_head : (t : GrowingTree) (h : ℕ) → IsHeadNamed t.nodes (Some h) → (ns : List ℕ) → place (with_stack t (h ∷ ns)) ≡ EndOf h
place_is_head t h named ns =
    let none : is_one t fostering_names h ≡ false = ap (λ k. is_among k fostering_names) (head_name (key_in (kind_of t h)) named.0) in
    ap (λ x. in_contents (with_stack t (h ∷ ns)) (elim (t.fostering && x) [ true ↦ foster_place (with_stack t (h ∷ ns)) (h ∷ ns) | false ↦ EndOf h ])) none
    ∙ ap (λ x. in_contents (with_stack t (h ∷ ns)) (elim x [ true ↦ foster_place (with_stack t (h ∷ ns)) (h ∷ ns) | false ↦ EndOf h ])) (and_false t.fostering)
    ∙ ap (λ c. EndOf (unwrap_or c h)) named.1

-- ---- the head element is removed again

absent : (h : ℕ) (ns : List ℕ) → is_member h ns ≡ false → without h ns ≡ ns
absent h [] e = refl
absent h (n ∷ ns) e = by (λ k. absent h ns k) (nat_eq h n) refl e
  where
    by : (is_member h ns ≡ false → without h ns ≡ ns) → (x : Bool) → nat_eq h n ≡ x → (x || is_member h ns) ≡ false → without h (n ∷ ns) ≡ n ∷ ns
    by others true f k = absurd (true≢false k)
    by others false f k = ap (λ y. cond (not y) (n ∷ without h ns) (without h ns)) (same_test n h ∙ f) ∙ ap (λ ms. n ∷ ms) (others k)

itself : (h : ℕ) (ns : List ℕ) → without h (h ∷ ns) ≡ without h ns
itself h ns = ap (λ y. cond (not y) (h ∷ without h ns) (without h ns)) (same h)
  where
    same : (n : ℕ) → nat_eq n n ≡ true
    same n = eq-eqb n n refl

other_first : (h n : ℕ) (ns : List ℕ) → nat_eq n h ≡ false → without h (n ∷ ns) ≡ n ∷ without h ns
other_first h n ns e = ap (λ y. cond (not y) (n ∷ without h ns) (without h ns)) e

past_end : (nodes : List Node) → (node_at nodes (length nodes)).kind ≡ ContentsNode
past_end [] = refl
past_end (node ∷ nodes) = past_end nodes

-- the next number is not that of the head element
head_is_older : (t : GrowingTree) (h : ℕ) → IsHeadNamed t.nodes (Some h) → nat_eq (fresh t) h ≡ false
head_is_older t h named = by (nat_eq (fresh t) h) refl
  where
    by : (x : Bool) → nat_eq (fresh t) h ≡ x → x ≡ false
    by true e = absurd (true≢false (sym named.0 ∙ ap (λ n. is_named (codes "head" ∷ []) (kind_of t n)) (sym (eqb-true (fresh t) h e)) ∙ ap (is_named (codes "head" ∷ [])) (past_end t.nodes)))
    by false e = refl

-- the element is inserted over the head element, which is removed then
removed_again : (t : GrowingTree) (h : ℕ) (name : List ℕ) (attrs : List NodeAttr) → IsHeadNamed t.nodes (Some h) → is_member h t.stack ≡ false →
    unstacked h (inserted_at (place (with_stack t (h ∷ t.stack))) Html name attrs (with_stack t (h ∷ t.stack))) ≡ inserted_at (EndOf h) Html name attrs t
removed_again t h name attrs named closed =
    ap (λ spot. unstacked h (inserted_at spot Html name attrs (with_stack t (h ∷ t.stack)))) (place_is_head t h named t.stack)
    ∙ ap (unstacked h) (over_stack (EndOf h) name attrs t (h ∷ t.stack))
    ∙ ap (with_stack (inserted_at (EndOf h) Html name attrs t))
    (other_first h (fresh t) (h ∷ t.stack) (head_is_older t h named) ∙ ap (λ ns. fresh t ∷ ns) (itself h t.stack ∙ absent h t.stack closed))
    ∙ sym (over_stack (EndOf h) name attrs t t.stack)

-- the same where the element is popped before
popped_again : (t : GrowingTree) (h : ℕ) (name : List ℕ) (attrs : List NodeAttr) → IsHeadNamed t.nodes (Some h) → is_member h t.stack ≡ false →
    unstacked h (popped (inserted_at (place (with_stack t (h ∷ t.stack))) Html name attrs (with_stack t (h ∷ t.stack)))) ≡ popped (inserted_at (EndOf h) Html name attrs t)
popped_again t h name attrs named closed =
    ap (λ spot. unstacked h (popped (inserted_at spot Html name attrs (with_stack t (h ∷ t.stack))))) (place_is_head t h named t.stack)
    ∙ ap (λ u. unstacked h (popped u)) (over_stack (EndOf h) name attrs t (h ∷ t.stack))
    ∙ ap (with_stack (inserted_at (EndOf h) Html name attrs t)) (itself h t.stack ∙ absent h t.stack closed)
    ∙ ap popped (sym (over_stack (EndOf h) name attrs t t.stack))

-- ---- the tree

-- the stack with the head element, if there is one
abbrev with_the_head : GrowingTree → GrowingTree
with_the_head t = with_stack t (with_head t.head t.stack)

abbrev without_the_head : GrowingTree → GrowingTree
without_the_head t = option_map_or (λ n. unstacked n t) t.head t

abbrev inserted_here : List ℕ → List NodeAttr → GrowingTree → GrowingTree
inserted_here name attrs t = inserted_at (place t) Html name attrs t

-- the element is inserted into the head, or at the appropriate place where there is none
abbrev pub inserted_in_head : List ℕ → List NodeAttr → GrowingTree → GrowingTree
inserted_in_head name attrs t = inserted_at (place_in_head t) Html name attrs t

abbrev IsClosed : GrowingTree → Type 0
IsClosed t = option_map_or (λ n. not (is_member n t.stack)) t.head true ≡ true

is_false : (x : Bool) → not x ≡ true → x ≡ false
is_false true e = sym e
is_false false e = refl

tree_again : (t : GrowingTree) (name : List ℕ) (attrs : List NodeAttr) → IsHeadNamed t.nodes t.head → IsClosed t →
    without_the_head (inserted_here name attrs (with_the_head t)) ≡ inserted_in_head name attrs t
tree_again t name attrs named closed = by t.head refl named closed
  where
    by : (head : Option ℕ) → t.head ≡ head → IsHeadNamed t.nodes head → option_map_or (λ n. not (is_member n t.stack)) head true ≡ true →
        without_the_head (inserted_here name attrs (with_stack t (with_head head t.stack))) ≡ inserted_at (option_map_or EndOf head (place t)) Html name attrs t
    by None e is h = ap (λ o. option_map_or (λ n. unstacked n (inserted_here name attrs t)) o (inserted_here name attrs t)) (head_stays (place t) name attrs t ∙ e)
    by (Some n) e is h =
        let over : GrowingTree = with_stack t (n ∷ t.stack) in
        ap (λ o. option_map_or (λ m. unstacked m (inserted_here name attrs over)) o (inserted_here name attrs over)) (head_stays (place over) name attrs over ∙ e)
        ∙ removed_again t n name attrs is (is_false (is_member n t.stack) h)

void_again : (t : GrowingTree) (name : List ℕ) (attrs : List NodeAttr) → IsHeadNamed t.nodes t.head → IsClosed t →
    without_the_head (popped (inserted_here name attrs (with_the_head t))) ≡ popped (inserted_in_head name attrs t)
void_again t name attrs named closed = by t.head refl named closed
  where
    by : (head : Option ℕ) → t.head ≡ head → IsHeadNamed t.nodes head → option_map_or (λ n. not (is_member n t.stack)) head true ≡ true →
        without_the_head (popped (inserted_here name attrs (with_stack t (with_head head t.stack)))) ≡ popped (inserted_at (option_map_or EndOf head (place t)) Html name attrs t)
    by None e is h = ap (λ o. option_map_or (λ n. unstacked n (popped (inserted_here name attrs t))) o (popped (inserted_here name attrs t))) (head_stays (place t) name attrs t ∙ e)
    by (Some n) e is h =
        let over : GrowingTree = with_stack t (n ∷ t.stack) in
        ap (λ o. option_map_or (λ m. unstacked m (popped (inserted_here name attrs over))) o (popped (inserted_here name attrs over))) (head_stays (place over) name attrs over ∙ e)
        ∙ popped_again t n name attrs is (is_false (is_member n t.stack) h)

-- ---- the actions

-- the same of what the code does: steps before, the element in the head, and steps after
abbrev pub element_in_head : Name → Building → Building
element_in_head name b =
    let front : Building = all_performed (before_element name) b in
    all_performed (after_element name) (with_tree front (inserted_in_head (own_name b.token) b.attrs front.tree))

pub again_is : (name : Name) (b : Building) → IsHeadNamed b.tree.nodes b.tree.head → IsClosed b.tree →
    perform RemoveHeadFromStack (all_performed (head_actions name) (perform PushHeadPointer b)) ≡ element_in_head name b
unfolding perform
again_is Name.Title b named closed = ap (λ t. all_performed (after_element Name.Title) (with_tree b t)) (tree_again b.tree (own_name b.token) b.attrs named closed)
again_is Name.Noframes b named closed = ap (λ t. all_performed (after_element Name.Noframes) (with_tree b t)) (tree_again b.tree (own_name b.token) b.attrs named closed)
again_is Name.Style b named closed = ap (λ t. all_performed (after_element Name.Style) (with_tree b t)) (tree_again b.tree (own_name b.token) b.attrs named closed)
again_is Name.Noscript b named closed = ap (λ t. all_performed (after_element Name.Noscript) (with_tree b t)) (tree_again b.tree (own_name b.token) b.attrs named closed)
again_is Name.Script b named closed = ap (λ t. all_performed (after_element Name.Script) (with_tree b t)) (tree_again b.tree (own_name b.token) b.attrs named closed)
again_is Name.Template b named closed =
    let front : Building = all_performed (before_element Name.Template) b in
    ap (with_tree front) (tree_again front.tree (own_name b.token) b.attrs named closed)
again_is _ b named closed = ap (with_tree b) (void_again b.tree (own_name b.token) b.attrs named closed)

-- ---- what comes of the tag

used_between : (b c : Building) → taken b (rules AfterHead) ≡ again_acts → ComesTo InHead (perform PushHeadPointer b) c → ComesTo AfterHead b (perform RemoveHeadFromStack c)
unfolding run
used_between b c e h =
    (suc h.0, ap (λ acts. performed (run h.0) acts b) e ∙ ap (option_and_then (performed (run h.0) (does RemoveHeadFromStack [] ∷ []))) h.1)

pushed_token : (b : Building) → HaveOneToken b (perform PushHeadPointer b)
unfolding perform
pushed_token b = record { token = refl; attrs = refl }

pub opened_in_head : (name : Name) (tag : Tag) (b : Building) (new : TreeBuilder) → IsCurrentTag name tag b → is_start_kind tag.kind ≡ true → is_metadata_name name ≡ true →
    IsHeadNamed b.tree.nodes b.tree.head → head_is_closed b ≡ true → Constructs new (element_in_head name b) → Outcome AfterHead b new Next.Done
opened_in_head name tag b new c e known named closed stands =
    let over : Building = perform PushHeadPointer b in
    let current = stays_current name tag b over (pushed_token b) c in
    let uses : ComesTo InHead over (all_performed (head_actions name) over) =
    runs InHead over (head_actions name) Next.Done (one_token_element name over) (element_taken name tag over current e known) in
    record {
      after = perform RemoveHeadFromStack (all_performed (head_actions name) over);
      stands = subst (Constructs new) (sym (again_is name b named closed)) stands;
      runs = used_between b (all_performed (head_actions name) over) (again_taken name tag b c e known) uses;
    }
