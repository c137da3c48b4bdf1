-- Steps of the rules for the modes of tables: elements are closed, and a rule is taken where an element is found.
use Rattle.std.proofs.Common.{◌≡◌, ◌&&◌, ◌||◌, ℕ, Bool, true, false, not, List, [], ◌∷◌, inl, inr, refl, reverse, sym, ap, subst, ◌∙◌, true≢false}
use Rattle.std.specs.List.{list_all}
use Rattle.std.specs.Str.{bytes_eq}
use Rattle.std.proofs.lemmas.Slice.Eq.{bytes_eq-Decides}
use Rattle.standard_tokens.specs.Entries.{Ending, Starting, TagKind}
use Rattle.standard_tokens.specs.Machine.{Tag as StandardTag, distinct, token_of}
use Rattle.standard_tokens.specs.Tokens.{AStart, AnEnd}
use Rattle.standard_trees.specs.Building.{Building, own_name, perform, taken, with_tree}
use Rattle.standard_trees.specs.GrowingTree.{GrowingTree, beyond, ends_scope, has_in_scope, implied_of, in_scope, is_among, is_one, key, past, popped_until, popped_up_to, with_stack}
use Rattle.standard_trees.specs.NameLists.{implied}
use Rattle.standard_trees.specs.RuleWords.{Act, Action, ClearListToMarker, ImpliedEndTags, Mode as StandardMode, PopUntil, TableScope, These}
use Rattle.standard_trees.specs.TreeRules.{rules}
use Rattle.page_tokens.specs.declared.token.Tag.{Tag}
use Rattle.page_trees.specs.Constructs.{Constructs, HaveOneToken, IsCurrentTag, Outcome, all_performed}
use Rattle.page_trees.specs.Modes.{next_of}
use Rattle.page_trees.specs.Names.{html_rows, rare_rows, text_of}
use Rattle.page_trees.specs.Scopes.{is_name}
use Rattle.page_trees.specs.Sets.{context_names}
use Rattle.page_trees.specs.Stands.{Builds, Does, Tells, closed_in, without_marker}
use Rattle.page_trees.specs.TableSteps.{cell_names, clearing_to, if_found, is_again, is_in_table}
use Rattle.page_trees.specs.TreeState.{TreeState}
use Rattle.page_trees.specs.declared.builder.Next.{Next}
use Rattle.page_trees.specs.declared.builder.TreeBuilder.{TreeBuilder}
use Rattle.page_trees.specs.declared.name.Name.{Name}
use Rattle.page_trees.specs.declared.sets.TableContext.{TableContext}
use Rattle.page_trees.proofs.BuilderSteps.{moved}
use Rattle.page_trees.proofs.BuiltStacks.{closed, not_closed}
use Rattle.page_trees.proofs.NamesAgree.{both}
use Rattle.page_trees.proofs.RulesRun.{outcome, plainly}
use Rattle.page_trees.proofs.StandingNames.{are_known, text_again}

pub cells_known : are_known cell_names ≡ true
unfolding html_rows rare_rows
cells_known = refl

-- ---- the tree

-- a step of the tree that leaves foster parenting as it is
pub tree_done : (step : GrowingTree → GrowingTree) (old : TreeBuilder) (tree : TreeState) → Does step old.tree tree → (b : Building) → (step b.tree).fostering ≡ b.tree.fostering →
    Constructs old b → Constructs (record old { tree = tree }) (with_tree b (step b.tree))
tree_done step old tree does b same c = moved old (record old { tree = tree }) tree old.fault old.too_deep refl b (step b.tree) c (does b.tree c.tree) same

pub table_cleared : (context : TableContext) (old : TreeBuilder) (tree : TreeState) → Does (popped_up_to (context_names context)) old.tree tree → (b : Building) → Constructs old b →
    Constructs (record old { tree = tree }) (perform (clearing_to context) b)
unfolding perform
table_cleared context old tree does b c = tree_done (popped_up_to (context_names context)) old tree does b refl c

pub marker_cleared : (old : TreeBuilder) (tree : TreeState) → Does without_marker old.tree tree → (b : Building) → Constructs old b →
    Constructs (record old { tree = tree }) (perform ClearListToMarker b)
unfolding perform
marker_cleared old tree does b c = tree_done without_marker old tree does b refl c

pub cell_popped : (old : TreeBuilder) (tree : TreeState) → Does (popped_until cell_names) old.tree tree → (b : Building) → Constructs old b →
    Constructs (record old { tree = tree }) (perform (PopUntil (These cell_names)) b)
unfolding perform
cell_popped old tree does b c = tree_done (popped_until cell_names) old tree does b refl c

-- an element is closed, if it is in table scope
pub closed_in_table : (names : List (List ℕ)) (old : TreeBuilder) (tree : TreeState) (found : Bool) → Does (closed_in TableScope names) old.tree tree →
    Tells (has_in_scope TableScope names) old.tree found → (b : Building) → Constructs old b →
    Constructs (record old { tree = tree }) (all_performed (if_found found (PopUntil (These names) ∷ [])) b)
unfolding perform
closed_in_table names old tree true does tells b c =
    let shut : Builds tree (popped_until names b.tree) =
    subst (λ (t : GrowingTree). Builds tree t) (closed TableScope names b.tree true refl (tells b.tree c.tree)) (does b.tree c.tree) in
    moved old (record old { tree = tree }) tree old.fault old.too_deep refl b (popped_until names b.tree) c shut refl
closed_in_table names old tree false does tells b c =
    let same : Builds tree b.tree =
    subst (λ (t : GrowingTree). Builds tree t) (not_closed TableScope names b.tree false refl (tells b.tree c.tree)) (does b.tree c.tree) in
    moved old (record old { tree = tree }) tree old.fault old.too_deep refl b b.tree c same refl

-- ---- implied end tags before an element is closed that is none of them

not_true : (b : Bool) → not b ≡ true → b ≡ false
not_true true h = sym h
not_true false h = refl

-- no name is in both lists
abbrev pub are_apart : List (List ℕ) → List (List ℕ) → Bool
are_apart xs ys = list_all (λ x. not (is_among x ys)) xs

apart : (xs ys : List (List ℕ)) → are_apart xs ys ≡ true → (key : List ℕ) → is_among key xs ≡ true → is_among key ys ≡ false
apart [] ys h key e = absurd (true≢false (sym e))
apart (x ∷ xs) ys h key e = by (bytes_eq key x) refl (apart xs ys (both (not (is_among x ys)) (are_apart xs ys) h).1 key)
  where
    by : (b : Bool) → bytes_eq key x ≡ b → (is_among key xs ≡ true → is_among key ys ≡ false) → is_among key ys ≡ false
    by true f others =
        ap (λ (k : List ℕ). is_among k ys) ((bytes_eq-Decides key x).0 f)
        ∙ not_true (is_among x ys) (both (not (is_among x ys)) (are_apart xs ys) h).0
    by false f others = others (sym (ap (λ c. c || is_among key xs) f) ∙ e)

past_all : (q p : ℕ → Bool) → ((n : ℕ) → q n ≡ true → p n ≡ false) → (ns : List ℕ) → past p (beyond q ns) ≡ past p ns
past_all q p apart [] = refl
past_all q p apart (n ∷ ns) = by_test (q n) refl (past_all q p apart ns)
  where
    by_test : (b : Bool) → q n ≡ b → past p (beyond q ns) ≡ past p ns →
        past p (elim b [ true ↦ beyond q ns | false ↦ n ∷ ns ]) ≡ (elim (p n) [ true ↦ ns | false ↦ past p ns ])
    by_test true e others = others ∙ ap (λ d. elim d [ true ↦ ns | false ↦ past p ns ]) (sym (apart n e))
    by_test false e others = refl

implied_anyway : (names : List (List ℕ)) → are_apart implied names ≡ true → (t : GrowingTree) → popped_until names (implied_of implied [] t) ≡ popped_until names t
implied_anyway names h t =
    ap (with_stack t) (past_all (λ n. is_one t implied n && not (is_one t [] n)) (is_one t names)
    (λ n e. apart implied names h _ (both (is_one t implied n) (not (is_one t [] n)) e).0) t.stack)

-- "generate implied end tags" before elements are popped until one of these has been popped changes nothing
pub implied_before : (names : List (List ℕ)) → are_apart implied names ≡ true → (b : Building) →
    perform (PopUntil (These names)) b ≡ perform (PopUntil (These names)) (perform ImpliedEndTags b)
unfolding perform
implied_before names h b = ap (with_tree b) (sym (implied_anyway names h b.tree))

pub closed_by : (names : List (List ℕ)) (rest : List Action) (new : TreeBuilder) (b : Building) → are_apart implied names ≡ true →
    Constructs new (all_performed (PopUntil (These names) ∷ rest) b) → Constructs new (all_performed (ImpliedEndTags ∷ PopUntil (These names) ∷ rest) b)
closed_by names rest new b h c = subst (λ (x : Building). Constructs new (all_performed rest x)) (implied_before names h b) c

-- ---- scopes

or_step : (v w e x y : Bool) → ((v || w) || (not e && (x || y))) ≡ ((v || (not e && x)) || (w || (not e && y)))
or_step true w e x y = refl
or_step false true true x y = refl
or_step false true false true y = refl
or_step false true false false y = refl
or_step false false true x y = refl
or_step false false false x y = refl

any_step : (v w : Bool) → (v || w) ≡ (v || (w || false))
any_step true w = refl
any_step false true = refl
any_step false false = refl

-- one of two kinds of elements is in a scope
either_in : (p q r e : ℕ → Bool) → ((n : ℕ) → r n ≡ (p n || q n)) → (ns : List ℕ) → in_scope r e ns ≡ (in_scope p e ns || in_scope q e ns)
either_in p q r e same [] = refl
either_in p q r e same (n ∷ ns) =
    ap (λ v. v || (not (e n) && in_scope r e ns)) (same n) ∙ ap (λ v. (p n || q n) || (not (e n) && v)) (either_in p q r e same ns)
    ∙ or_step (p n) (q n) (e n) (in_scope p e ns) (in_scope q e ns)

one_more : (x : List ℕ) (xs : List (List ℕ)) (t : GrowingTree) (n : ℕ) → is_one t (x ∷ xs) n ≡ (is_one t (x ∷ []) n || is_one t xs n)
one_more x xs t n = by (bytes_eq (key t n) x) (is_one t xs n)
  where
    by : (a b : Bool) → (a || b) ≡ ((a || false) || b)
    by true b = refl
    by false b = refl

pub in_table_either : (x : List ℕ) (xs : List (List ℕ)) (t : GrowingTree) → is_in_table (x ∷ xs) t ≡ (is_in_table (x ∷ []) t || is_in_table xs t)
in_table_either x xs t = either_in (is_one t (x ∷ [])) (is_one t xs) (is_one t (x ∷ xs)) (ends_scope TableScope t) (one_more x xs t) t.stack

-- ---- the name of the current tag

own_of : (standard : StandardTag) (k : TagKind) → standard.kind ≡ k → own_name (token_of standard) ≡ standard.name
own_of standard Starting e =
    ap (λ k. own_name (elim k [ Starting ↦ AStart standard.name (distinct (reverse standard.attrs)) standard.self_closing | Ending ↦ AnEnd standard.name ])) e
own_of standard Ending e =
    ap (λ k. own_name (elim k [ Starting ↦ AStart standard.name (distinct (reverse standard.attrs)) standard.self_closing | Ending ↦ AnEnd standard.name ])) e

pub own_is : (name : Name) (tag : Tag) (b : Building) → is_name name Name.Other ≡ false → IsCurrentTag name tag b → own_name b.token ≡ text_of name
own_is name tag b known c =
    ap own_name c.token ∙ own_of c.standard c.standard.kind refl ∙ (elim (text_again c.standard.name) [
      | inl other ↦ absurd (true≢false (sym (ap (λ (n : Name). is_name n Name.Other) (c.named ∙ other)) ∙ known))
      | inr same ↦ sym same ∙ ap text_of (sym c.named)
    ])

-- ---- rules that are taken where an element is found

-- nothing where none is found
abbrev pub choice : Bool → List Act → List Act
choice found acts = elim (not found && true) [ true ↦ [] | false ↦ acts ]

pub one_token : (b : Building) → HaveOneToken b b
one_token b = record { token = refl; attrs = refl }

pub found_done : (mode : StandardMode) (b : Building) (new : TreeBuilder) (actions : List Action) (found test : Bool) → found ≡ test → HaveOneToken b (all_performed actions b) →
    taken b (rules mode) ≡ choice test (plainly actions Next.Done) → Constructs new (all_performed (if_found found actions) b) → Outcome mode b new Next.Done
found_done mode b new actions true test e same acts stands = outcome mode b new actions Next.Done stands same (acts ∙ ap (λ f. choice f (plainly actions Next.Done)) (sym e))
found_done mode b new actions false test e same acts stands =
    outcome mode b new [] Next.Done stands (one_token b) (acts ∙ ap (λ f. choice f (plainly actions Next.Done)) (sym e))

pub found_again : (mode : StandardMode) (b : Building) (new : TreeBuilder) (actions : List Action) (found test : Bool) → found ≡ test → HaveOneToken b (all_performed actions b) →
    taken b (rules mode) ≡ choice test (plainly actions Next.Again) → Constructs new (all_performed (if_found found actions) b) → Outcome mode b new (next_of found)
found_again mode b new actions true test e same acts stands = outcome mode b new actions Next.Again stands same (acts ∙ ap (λ f. choice f (plainly actions Next.Again)) (sym e))
found_again mode b new actions false test e same acts stands =
    outcome mode b new [] Next.Done stands (one_token b) (acts ∙ ap (λ f. choice f (plainly actions Next.Again)) (sym e))

pub next_again : (next : Next) → next_of (is_again next) ≡ next
next_again Next.Again = refl
next_again Next.Done = refl

-- ---- one of several kinds of elements is in table scope

pub found_first : (x : List ℕ) (xs : List (List ℕ)) (t : GrowingTree) (b : Bool) → b ≡ is_in_table (x ∷ []) t → b ≡ true → true ≡ is_in_table (x ∷ xs) t
found_first x xs t b is so = sym (in_table_either x xs t ∙ ap (λ v. v || is_in_table xs t) (sym is ∙ so))

pub found_rest : (x : List ℕ) (xs : List (List ℕ)) (t : GrowingTree) (b c : Bool) → b ≡ is_in_table (x ∷ []) t → b ≡ false → c ≡ is_in_table xs t → c ≡ is_in_table (x ∷ xs) t
found_rest x xs t b c is not_so more = more ∙ sym (in_table_either x xs t ∙ ap (λ v. v || is_in_table xs t) (sym is ∙ not_so))
