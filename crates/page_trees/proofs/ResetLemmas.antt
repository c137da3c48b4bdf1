-- "Reset the insertion mode appropriately" (13.2.4.1): the code asks the last element of the stack whose name determines a mode.
use Rattle.std.proofs.Common.{◌≡◌, ◌+◌, ◌-◌, ◌<◌, ◌≤◌, ◌==◌, ◌&&◌, ◌||◌, ℕ, zero, suc, arith, Bool, true, false, not, List, [], ◌∷◌, ◌++◌, length, map, reverse, refl, sym, ap, subst, ◌∙◌, if◌then◌else◌, true≢false}
use Rattle.std.specs.Prelude.{IfSome, None, Option, Some, slice_get}
use Rattle.std.specs.List.{list_all}
use Rattle.std.specs.Option.{is_some, option_and_then, option_map, option_or, unwrap_or}
use Rattle.std.proofs.lemmas.List.{length-reverse, length_push, nil_from_length, reverse-append, reverse-reverse}
use Rattle.std.proofs.lemmas.List.Folds.{list_all-append}
use Rattle.standard_trees.specs.Building.{Building, is_empty, is_present, node_test, perform, reset_by, reset_from, top_mode}
use Rattle.standard_trees.specs.GrowingTree.{GrowingTree, is_among, key, kind_of}
use Rattle.standard_trees.specs.RuleWords.{Always, HeadPointerIsSet, InBody, InTableText, Initial, Mode as StandardMode, NodeTest, NotTopmost, Reset, ResetMode, Text, reset_to, reset_to_template_mode}
use Rattle.standard_trees.specs.TreeRules.{resets}
use Rattle.standard_trees.specs.TreeStore.{Kind, key_in}
use Rattle.page_trees.specs.Constructs.{Constructs, is_entered_plainly}
use Rattle.page_trees.specs.Modes.{mode_of, reset_for, reset_named}
use Rattle.page_trees.specs.Names.{html_rows, rare_rows, text_of}
use Rattle.page_trees.specs.Reopening.{index_at}
use Rattle.page_trees.specs.Resetting.{last_mode}
use Rattle.page_trees.specs.Scopes.{is_among as is_of_names, is_name, last_place}
use Rattle.page_trees.specs.Sets.{is_in_html, key_for, rule_name}
use Rattle.page_trees.specs.Stands.{AllStand, Builds, IsContext, IsOfKind}
use Rattle.page_trees.specs.TreeState.{TreeState}
use Rattle.page_trees.specs.declared.builder.Mode.{Mode}
use Rattle.page_trees.specs.declared.builder.TreeBuilder.{TreeBuilder}
use Rattle.page_trees.specs.declared.modes.resetting.Setting.{Setting}
use Rattle.page_trees.specs.declared.modes.resetting.TheConstants.{ASKING}
use Rattle.page_trees.specs.declared.name.Name.{Name}
use Rattle.page_trees.specs.declared.stack.ElementNamespace.{ElementNamespace}
use Rattle.page_trees.specs.declared.stack.Open.{Open}
use Rattle.page_trees.proofs.BuilderSteps.{entered}
use Rattle.page_trees.proofs.BuiltPointers.{head_tells}
use Rattle.page_trees.proofs.BuiltStacks.{not_zero}
use Rattle.page_trees.proofs.NamesAgree.{agreed, both}
use Rattle.page_trees.proofs.ScopeLemmas.{by_ends, last_place_le, last_place_push, slice_get_end, slice_get_left}
use Rattle.page_trees.proofs.StandingNames.{are_known, kind_agrees}

-- ---- the table

abbrev knows_reset : Reset → Bool
knows_reset (reset_to names test mode) = are_known names
knows_reset (reset_to_template_mode names) = are_known names

resets_known : list_all knows_reset resets ≡ true
unfolding html_rows rare_rows
resets_known = refl

abbrev SameKeys : List ℕ → List ℕ → Type 0
SameKeys k l = (names : List (List ℕ)) → are_known names ≡ true → is_among k names ≡ is_among l names

same_test : (test : NodeTest) (h i : Option ℕ) → is_present h ≡ is_present i → (above below : List ℕ) → is_empty above ≡ is_empty below → node_test test h above ≡ node_test test i below
same_test Always h i same above below e = refl
same_test NotTopmost h i same [] [] e = refl
same_test NotTopmost h i same (n ∷ ns) (m ∷ ms) e = refl
same_test NotTopmost h i same [] (m ∷ ms) e = absurd (true≢false e)
same_test NotTopmost h i same (n ∷ ns) [] e = absurd (true≢false (sym e))
same_test HeadPointerIsSet h i same above below e = same

-- The table says the same where the names, the current template mode, whether the head is set and whether the node is the last agree.
alike : (rs : List Reset) → list_all knows_reset rs ≡ true → (k l : List ℕ) → SameKeys k l → (ms ns : List StandardMode) → top_mode ms ≡ top_mode ns → (h i : Option ℕ) →
    is_present h ≡ is_present i → (above below : List ℕ) → is_empty above ≡ is_empty below → reset_by rs k ms h above ≡ reset_by rs l ns i below
alike [] known k l keys ms ns top h i head above below last = refl
alike (reset_to names test mode ∷ more) known k l keys ms ns top h i head above below last =
    let parts = both (are_known names) (list_all knows_reset more) known in
    ap (λ x. elim (x && node_test test h above) [ true ↦ Some mode | false ↦ reset_by more k ms h above ]) (keys names parts.0)
    ∙ ap (λ x. elim (is_among l names && x) [ true ↦ Some mode | false ↦ reset_by more k ms h above ]) (same_test test h i head above below last)
    ∙ ap (λ rest. elim (is_among l names && node_test test i below) [ true ↦ Some mode | false ↦ rest ]) (alike more parts.1 k l keys ms ns top h i head above below last)
alike (reset_to_template_mode names ∷ more) known k l keys ms ns top h i head above below last =
    let parts = both (are_known names) (list_all knows_reset more) known in
    ap (λ x. elim x [ true ↦ Some (top_mode ms) | false ↦ reset_by more k ms h above ]) (keys names parts.0)
    ∙ ap (λ m. elim (is_among l names) [ true ↦ Some m | false ↦ reset_by more k ms h above ]) top
    ∙ ap (λ rest. elim (is_among l names) [ true ↦ Some (top_mode ns) | false ↦ rest ]) (alike more parts.1 k l keys ms ns top h i head above below last)

-- ---- the mode is entered plainly

abbrev pub is_plain : StandardMode → Bool
is_plain Initial = false
is_plain Text = false
is_plain InTableText = false
is_plain _ = true

pub plain_mode : (m : Mode) → is_entered_plainly m ≡ is_plain (mode_of m)
plain_mode Mode.Initial = refl
plain_mode Mode.Text = refl
plain_mode Mode.InTableText = refl
plain_mode _ = refl

abbrev plain_reset : Reset → Bool
plain_reset (reset_to names test mode) = is_plain mode
plain_reset (reset_to_template_mode names) = true

resets_plain : list_all plain_reset resets ≡ true
resets_plain = refl

abbrev IsPlain : Option StandardMode → Type 0
IsPlain o = IfSome o (λ m. is_plain m ≡ true)

table_plain : (rs : List Reset) → list_all plain_reset rs ≡ true → (k : List ℕ) (ms : List StandardMode) → is_plain (top_mode ms) ≡ true → (h : Option ℕ) (above : List ℕ) →
    IsPlain (reset_by rs k ms h above)
table_plain [] e k ms top h above = tt
table_plain (reset_to names test mode ∷ more) e k ms top h above =
    let parts = both (is_plain mode) (list_all plain_reset more) e in
    by parts.0 (table_plain more parts.1 k ms top h above) (is_among k names && node_test test h above)
  where
    by : is_plain mode ≡ true → IsPlain (reset_by more k ms h above) → (x : Bool) → IsPlain (elim x [ true ↦ Some mode | false ↦ reset_by more k ms h above ])
    by first rest true = first
    by first rest false = rest
table_plain (reset_to_template_mode names ∷ more) e k ms top h above = by (table_plain more e k ms top h above) (is_among k names)
  where
    by : IsPlain (reset_by more k ms h above) → (x : Bool) → IsPlain (elim x [ true ↦ Some (top_mode ms) | false ↦ reset_by more k ms h above ])
    by rest true = top
    by rest false = rest

plain_or : (o : Option StandardMode) → IsPlain o → is_plain (unwrap_or o InBody) ≡ true
plain_or None h = refl
plain_or (Some m) h = h

pub reset_plain : (t : GrowingTree) (ms : List StandardMode) → is_plain (top_mode ms) ≡ true → (ns : List ℕ) → is_plain (reset_from t ms ns) ≡ true
reset_plain t ms top [] = refl
reset_plain t ms top (n ∷ []) = plain_or _ (table_plain resets resets_plain (key_in (unwrap_or t.context (kind_of t n))) ms top t.head [])
reset_plain t ms top (n ∷ m ∷ ns) =
    by (reset_plain t ms top (m ∷ ns)) (reset_by resets (key t n) ms t.head (m ∷ ns)) (table_plain resets resets_plain (key t n) ms top t.head (m ∷ ns))
  where
    by : is_plain (reset_from t ms (m ∷ ns)) ≡ true → (o : Option StandardMode) → IsPlain o → is_plain (elim o [ Some mode ↦ mode | None ↦ reset_from t ms (m ∷ ns) ]) ≡ true
    by rest (Some mode) h = h
    by rest None h = rest

-- ---- the current template mode

pub top_is : (items : List Mode) → mode_of (last_mode items) ≡ top_mode (map mode_of (reverse items))
top_is = by_ends (λ items. mode_of (last_mode items) ≡ top_mode (map mode_of (reverse items))) refl (λ ys y e.
    let long : length (ys ++ y ∷ []) - 1 ≡ length ys = omega (arith, length_push ys y) in
    ap (λ n. mode_of (unwrap_or (slice_get (ys ++ y ∷ []) n) Mode.InBody)) long
    ∙ ap (λ o. mode_of (unwrap_or o Mode.InBody)) (slice_get_end ys y)
    ∙ ap (λ ms. top_mode (map mode_of ms)) (sym (reverse-append ys (y ∷ []))))

pub top_plain : (items : List Mode) → list_all is_entered_plainly items ≡ true → is_plain (top_mode (map mode_of (reverse items))) ≡ true
top_plain = by_ends (λ items. list_all is_entered_plainly items ≡ true → is_plain (top_mode (map mode_of (reverse items))) ≡ true) (λ h. refl) (λ ys y e h.
    let parts = both (list_all is_entered_plainly ys) (list_all is_entered_plainly (y ∷ [])) (sym (list_all-append is_entered_plainly ys (y ∷ [])) ∙ h) in
    let last = both (is_entered_plainly y) true parts.1 in
    ap (λ ms. is_plain (top_mode (map mode_of ms))) (reverse-append ys (y ∷ [])) ∙ sym (plain_mode y) ∙ last.0)

-- ---- which elements determine a mode

abbrev determines : StandardMode → Option ℕ → ElementNamespace → Name → Bool
determines m head ns name = is_some (reset_by resets (key_for ns (text_of name)) (m ∷ []) head (0 ∷ []))

abbrev asked : List Name → ElementNamespace → Name → Bool
asked [] ns name = false
asked (one ∷ names) ns name = (not (is_name one Name.Other) && (is_in_html ns && is_name name one)) || asked names ns name

determined_by : (m : StandardMode) (head : Bool) (ns : ElementNamespace) (name : Name) → determines m (if head then Some 0 else None) ns name ≡ asked ASKING ns name
unfolding html_rows rare_rows
determined_by m true ns name = agreed (determines m (Some 0)) (asked ASKING) refl refl refl ns name
determined_by m false ns name = agreed (determines m None) (asked ASKING) refl refl refl ns name

asked_is : (names : List Name) (o : Open) → asked names o.ns o.name ≡ is_of_names names o
asked_is [] o = refl
asked_is (one ∷ names) o = ap (λ b. (not (is_name one Name.Other) && (is_in_html o.ns && is_name o.name one)) || b) (asked_is names o)

abbrev setting : Bool → Bool → Mode → Setting
setting last head m = record { is_last = last; has_head = head; template_mode = m }

asks : (head : Bool) (m : Mode) (o : Open) → is_some (reset_named (setting false head m) (rule_name o)) ≡ is_of_names ASKING o
asks head m o = determined_by (mode_of m) head o.ns o.name ∙ asked_is ASKING o

-- ---- the last of them

-- what the element at an index determines
abbrev pub found_at : Option Open → Bool → Mode → List Open → ℕ → Option StandardMode
found_at context head m os place = option_and_then (reset_for (setting (place == 0) head m)) (if place == 0 then option_or context (slice_get os 0) else slice_get os place)

abbrev pub place_in : List Open → ℕ
place_in os = unwrap_or (index_at (last_place (is_of_names ASKING) os)) 0

-- what the elements determine, from the current node outwards
abbrev over : Option Open → Bool → Mode → List Open → StandardMode
over context head m [] = InBody
over context head m (o ∷ []) = unwrap_or (option_and_then (reset_for (setting true head m)) (option_or context (Some o))) InBody
over context head m (o ∷ p ∷ os) = elim (reset_named (setting false head m) (rule_name o)) [ Some mode ↦ mode | None ↦ over context head m (p ∷ os) ]

index_next : (n : ℕ) → unwrap_or (index_at (n + 1)) 0 ≡ n
index_next n = let f : n + 1 ≡ suc n = omega arith in ap (λ k. unwrap_or (index_at k) 0) f

index_below : (n long : ℕ) → n ≤ long → 0 < long → unwrap_or (index_at n) 0 < long
index_below zero long le lt = lt
index_below (suc n) long le lt = omega (arith, le)

some_or : (r : Option StandardMode) (rest : StandardMode) → is_some r ≡ true → unwrap_or r InBody ≡ elim r [ Some mode ↦ mode | None ↦ rest ]
some_or (Some m) rest e = refl
some_or None rest e = absurd (true≢false (sym e))

none_or : (r : Option StandardMode) (rest : StandardMode) → is_some r ≡ false → rest ≡ elim r [ Some mode ↦ mode | None ↦ rest ]
none_or (Some m) rest e = absurd (true≢false e)
none_or None rest e = refl

lone_place : (o : Open) → place_in (o ∷ []) ≡ 0
lone_place o = ap (λ n. unwrap_or (index_at n) 0) (last_place_push (is_of_names ASKING) [] o) ∙ by (is_of_names ASKING o)
  where
    by : (x : Bool) → unwrap_or (index_at (if x then 0 + 1 else 0)) 0 ≡ 0
    by true = refl
    by false = refl

above : (context : Option Open) (head : Bool) (m : Mode) (ys : List Open) (o : Open) (rest : StandardMode) → 0 < length ys → unwrap_or (found_at context head m ys (place_in ys)) InBody ≡ rest →
    unwrap_or (found_at context head m (ys ++ o ∷ []) (place_in (ys ++ o ∷ []))) InBody ≡ elim (reset_named (setting false head m) (rule_name o)) [ Some mode ↦ mode | None ↦ rest ]
above context head m ys o rest lt e = by (is_of_names ASKING o) refl
  where
    by : (x : Bool) → is_of_names ASKING o ≡ x →
        unwrap_or (found_at context head m (ys ++ o ∷ []) (place_in (ys ++ o ∷ []))) InBody ≡ elim (reset_named (setting false head m) (rule_name o)) [ Some mode ↦ mode | None ↦ rest ]
    by true is =
        let place : place_in (ys ++ o ∷ []) ≡ length ys =
        ap (λ n. unwrap_or (index_at n) 0) (last_place_push (is_of_names ASKING) ys o ∙ ap (λ x. if x then length ys + 1 else last_place (is_of_names ASKING) ys) is) ∙ index_next (length ys) in
        let later : (length ys == 0) ≡ false = not_zero (length ys) (length ys - 1) (omega (arith, lt)) in
        ap (λ n. unwrap_or (found_at context head m (ys ++ o ∷ []) n) InBody) place
        ∙ ap (λ z. unwrap_or (option_and_then (reset_for (setting z head m)) (if z then option_or context (slice_get (ys ++ o ∷ []) 0) else slice_get (ys ++ o ∷ []) (length ys))) InBody) later
        ∙ ap (λ x. unwrap_or (option_and_then (reset_for (setting false head m)) x) InBody) (slice_get_end ys o)
        ∙ some_or (reset_named (setting false head m) (rule_name o)) rest (asks head m o ∙ is)
    by false is =
        let place : place_in (ys ++ o ∷ []) ≡ place_in ys =
        ap (λ n. unwrap_or (index_at n) 0) (last_place_push (is_of_names ASKING) ys o ∙ ap (λ x. if x then length ys + 1 else last_place (is_of_names ASKING) ys) is) in
        let within : place_in ys < length ys = index_below (last_place (is_of_names ASKING) ys) (length ys) (last_place_le (is_of_names ASKING) ys) lt in
        ap (λ n. unwrap_or (found_at context head m (ys ++ o ∷ []) n) InBody) place
        ∙ ap (λ x. unwrap_or (option_and_then (reset_for (setting (place_in ys == 0) head m)) (if place_in ys == 0 then option_or context x else slice_get (ys ++ o ∷ []) (place_in ys))) InBody)
        (slice_get_left ys (o ∷ []) 0 lt)
        ∙ ap (λ x. unwrap_or (option_and_then (reset_for (setting (place_in ys == 0) head m)) (if place_in ys == 0 then option_or context (slice_get ys 0) else x)) InBody)
        (slice_get_left ys (o ∷ []) (place_in ys) within)
        ∙ e ∙ none_or (reset_named (setting false head m) (rule_name o)) rest (asks head m o ∙ is)

found : (context : Option Open) (head : Bool) (m : Mode) (o : Open) (os : List Open) →
    unwrap_or (found_at context head m (reverse (o ∷ os)) (place_in (reverse (o ∷ os)))) InBody ≡ over context head m (o ∷ os)
found context head m o [] = ap (λ n. unwrap_or (found_at context head m (o ∷ []) n) InBody) (lone_place o)
found context head m o (p ∷ os) =
    let some : 0 < length (reverse (p ∷ os)) = omega (arith, length-reverse (p ∷ os)) in
    ap (λ xs. unwrap_or (found_at context head m xs (place_in xs)) InBody) (reverse-append (o ∷ []) (p ∷ os))
    ∙ above context head m (reverse (p ∷ os)) o (over context head m (p ∷ os)) some (found context head m p os)

-- ---- the definition asks the same

key_of_element : (o : Open) (kind : Kind) → IsOfKind o kind → SameKeys (rule_name o) (key_in kind)
key_of_element o kind is names known = kind_agrees names known o kind is

pub same_head : (head : Bool) (h : Option ℕ) → head ≡ is_present h → is_present (if head then Some 0 else None) ≡ is_present h
same_head true h e = e
same_head false h e = e

over_is : (t : GrowingTree) (ms : List StandardMode) (context : Option Open) (head : Bool) (m : Mode) → IsContext context t.context → head ≡ is_present t.head →
    mode_of m ≡ top_mode ms → (os : List Open) → AllStand t.nodes os → over context head m os ≡ reset_from t ms (map (λ o. o.id) os)
over_is t ms context head m is set top [] s = refl
over_is t ms context head m is set top (o ∷ []) s = by context t.context is
  where
    by : (c : Option Open) (k : Option Kind) → IsContext c k → unwrap_or (option_and_then (reset_for (setting true head m)) (option_or c (Some o))) InBody
        ≡ unwrap_or (reset_by resets (key_in (unwrap_or k (kind_of t o.id))) ms t.head []) InBody
    by None None none = ap (λ r. unwrap_or r InBody)
        (alike resets resets_known (rule_name o) (key t o.id) (key_of_element o (kind_of t o.id) s.0) (mode_of m ∷ []) ms top (if head then Some 0 else None) t.head (same_head head t.head set) [] [] refl)
    by (Some c) (Some k) some = ap (λ r. unwrap_or r InBody)
        (alike resets resets_known (rule_name c) (key_in k) (key_of_element c k some) (mode_of m ∷ []) ms top (if head then Some 0 else None) t.head (same_head head t.head set) [] [] refl)
    by None (Some k) never = absurd never
    by (Some c) None never = absurd never
over_is t ms context head m is set top (o ∷ p ∷ os) s =
    ap (λ r. elim r [ Some mode ↦ mode | None ↦ over context head m (p ∷ os) ])
    (alike resets resets_known (rule_name o) (key t o.id) (key_of_element o (kind_of t o.id) s.0) (mode_of m ∷ []) ms top (if head then Some 0 else None) t.head (same_head head t.head set)
    (0 ∷ []) (p.id ∷ map (λ (x : Open). x.id) os) refl)
    ∙ ap (λ rest. elim (reset_by resets (key t o.id) ms t.head (p.id ∷ map (λ (x : Open). x.id) os)) [ Some mode ↦ mode | None ↦ rest ]) (over_is t ms context head m is set top (p ∷ os) s.1)

mode_or : (r : Option Mode) → mode_of (unwrap_or r Mode.InBody) ≡ unwrap_or (option_map mode_of r) InBody
mode_or None = refl
mode_or (Some m) = refl

-- what the code finds is what the definition does
pub mode_found : (s : TreeState) (t : GrowingTree) (items : List Mode) (ms : List StandardMode) → Builds s t → ms ≡ map mode_of (reverse items) → (length s.stack ≡ 0 → ⊥) → (place : ℕ) →
    place ≡ place_in s.stack → (r : Option Mode) → option_map mode_of r ≡ found_at s.context (is_some s.head) (last_mode items) s.stack place →
    mode_of (unwrap_or r Mode.InBody) ≡ reset_from t ms t.stack
mode_found s t items ms b e some place at r is = by (reverse s.stack) refl
  where
    by : (os : List Open) → reverse s.stack ≡ os → mode_of (unwrap_or r Mode.InBody) ≡ reset_from t ms t.stack
    by [] none = absurd (some (sym (length-reverse s.stack) ∙ ap (λ (xs : List Open). length xs) none))
    by (o ∷ os) all =
        let turned : s.stack ≡ reverse (o ∷ os) = sym (reverse-reverse s.stack) ∙ ap (λ (xs : List Open). reverse xs) all in
        mode_or r ∙ ap (λ x. unwrap_or x InBody) is ∙ ap (λ n. unwrap_or (found_at s.context (is_some s.head) (last_mode items) s.stack n) InBody) at
        ∙ ap (λ xs. unwrap_or (found_at s.context (is_some s.head) (last_mode items) xs (place_in xs)) InBody) turned
        ∙ found s.context (is_some s.head) (last_mode items) o os
        ∙ over_is t ms s.context (is_some s.head) (last_mode items) b.context (head_tells s t b) (top_is items ∙ ap top_mode (sym e)) (o ∷ os) (subst (AllStand t.nodes) all b.stack.nodes)
        ∙ ap (reset_from t ms) (sym (b.stack.ids ∙ ap (map (λ (x : Open). x.id)) all))

pub nothing_found : (s : TreeState) (t : GrowingTree) (ms : List StandardMode) → Builds s t → length s.stack ≡ 0 → mode_of Mode.InBody ≡ reset_from t ms t.stack
nothing_found s t ms b none =
    sym (ap (reset_from t ms) (b.stack.ids ∙ ap (λ (xs : List Open). map (λ (x : Open). x.id) (reverse xs)) (nil_from_length s.stack none)))

-- ---- the action

pub reset_to_found : (old : TreeBuilder) (r : Mode) → ((b : Building) → Constructs old b → mode_of r ≡ reset_from b.tree b.template_modes b.tree.stack) → (b : Building) →
    Constructs old b → Constructs (record old { mode = r }) (perform ResetMode b)
unfolding perform
reset_to_found old r is b c =
    let plain : is_entered_plainly r ≡ true = plain_mode r ∙ ap is_plain (is b c)
    ∙ reset_plain b.tree b.template_modes (ap (λ ms. is_plain (top_mode ms)) c.template_modes.0 ∙ top_plain old.template_modes.items c.template_modes.1) b.tree.stack in
    subst (λ (m : StandardMode). Constructs (record old { mode = r }) (record b { mode = m })) (is b c) (entered old (record old { mode = r }) r refl plain b c)
