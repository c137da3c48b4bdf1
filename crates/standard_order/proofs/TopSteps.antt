-- Each action of the rules leaves the children of the Document as they are, once `html` is one of them.
use Rattle.std.specs.Prelude.{◌≡◌, ◌&&◌, ◌||◌, ◌⊎◌, refl, ℕ, Bool, true, false, not, List, [], ◌∷◌, Option, None, Some, codes, drop, option_map, unwrap_or}
use Rattle.std.proofs.Common.{inl, inr}
use Rattle.std.specs.List.{list_all, list_any}
use Rattle.std.specs.Option.{option_map_or}
use Rattle.std.proofs.lemmas.Option.{same_Some}
use mathlib.Core.Path.{◌∙◌, sym, ap, subst}
use Rattle.standard_trees.specs.NameLists.{implied, thoroughly_implied}
use Rattle.standard_trees.specs.RuleWords.{Act, Action}
use Rattle.standard_trees.specs.RuleWords.{AdoptionAgency, AllImpliedEndTags, AnyOtherEndTag, AppendDoctype, ButtonScope}
use Rattle.standard_trees.specs.RuleWords.{CloseItems, CloseP, DropFound, EndForm, FosterOff}
use Rattle.standard_trees.specs.RuleWords.{ImpliedEndTags, ImpliedEndTagsBut, InsertCharacter, InsertComment, InsertCommentInDocument, InsertCommentInHtml}
use Rattle.standard_trees.specs.RuleWords.{InsertElement, InsertMathmlElement, InsertNamed, InsertPending, InsertReplacement, InsertRootElement}
use Rattle.standard_trees.specs.RuleWords.{InsertRootNamed, InsertSvgElement, MergeAttributesIntoBody}
use Rattle.standard_trees.specs.RuleWords.{MergeAttributesIntoHtml, Mode, Own, Pop, PopForeignElements, PopToTopmost, PopUntil}
use Rattle.standard_trees.specs.RuleWords.{PopUntilOwnInAnyCase, PopUpTo, PushHeadPointer, ReconstructFormatting, RemoveBody, Scope}
use Rattle.standard_trees.specs.RuleWords.{RemoveHeadFromStack, Reset, ResetMode}
use Rattle.standard_trees.specs.RuleWords.{SwitchBack, SwitchTo, Test, These, does, goes, reset_to, reset_to_template_mode}
use Rattle.standard_trees.specs.RuleWords.{Initial, BeforeHtml, InBody}
use Rattle.standard_trees.specs.TreeStore.{CommentNode, EndOf, Html, MathMl, Svg, key_in, removed}
use Rattle.standard_trees.specs.TreeRules.{resets}
use Rattle.standard_trees.specs.GrowingTree.{FormAt, FormOfContext, FormPointer, GrowingTree, NoForm, beyond, ends_scope, has_in_scope, implied_of, in_scope}
use Rattle.standard_trees.specs.GrowingTree.{is_among, is_foreign, is_one, key, kind_of, past, place, popped_until, second, topmost, unstacked}
use Rattle.standard_trees.specs.Formatting.{closed_item, closed_p, form_ended, open_item, unlisted, without_found, without_p}
use Rattle.standard_trees.specs.Building.{Building, body_removed, char_of, comment_of, is_met, names_for, node_test, own_name, perform, reset_by, reset_from, top_mode}
use Rattle.standard_trees.specs.Building.{with_tree}
use Rattle.standard_order.proofs.Labels.{Is as IsAt, Label, kind_at, label_of, labels, other_than, weaker_at}
use Rattle.standard_order.proofs.StandingStacks.{Inside, IsHead, IsRoot, Sort, Stands, allowed, both, fewer, head, html, named_apart, never, template}
use Rattle.standard_order.proofs.GoodTrees.{Good}
use Rattle.standard_order.proofs.Levels.{Above, Bare, Before, Behind, Fine, Fixed, Foreign, Head, HeadMade, Held, Info, Late, Level, Loose}
use Rattle.standard_order.proofs.Levels.{Never, Nothing, Of, Opened, OpenedFree, Plain, Rel, Root, RootMade, Scoped, Shape, Std, TableText, TextMode, Where}
use Rattle.standard_order.proofs.Levels.{acts_pass, if_so, is_cell, is_content, is_first, is_in, is_of, next_of, own, own_apart, settled}
use Rattle.standard_order.proofs.LevelFacts.{At, Content, LateAt, Stk, shape_for}
use Rattle.standard_order.proofs.LevelTrees.{good_of, inside_own, place_inside, settled_rel}
use Rattle.standard_order.proofs.LevelSteps.{either_way}
use Rattle.standard_order.proofs.LevelNext.{after}
use Rattle.standard_order.proofs.NodeTags.{class_at, is_element, tags}
use Rattle.standard_order.proofs.NodeTops.{Rooted, is_top, same_removed}
use Rattle.standard_order.proofs.TreeTops.{Doc, Elements, Filled, current_off, doc_char, doc_chars, doc_comment_in, doc_inserted, doc_leaf, doc_merged, doc_nodes}
use Rattle.standard_order.proofs.TreeTops.{doc_reconstructed, doc_stack, element_off, elements_beyond, elements_dropped, elements_past, elements_without}
use Rattle.standard_order.proofs.TreeTops.{movable_top, other_movable}
use Rattle.standard_order.proofs.AdoptionTops.{doc_adoption, doc_other_end}

-- `html` is there, and the mode is one that comes after
abbrev pub Settled : Building → Type 0
Settled b = Doc Rooted b.tree × (is_first b.mode ≡ false)

-- ---- which actions

abbrev pub is_safe : Action → Bool
is_safe AppendDoctype = false
is_safe InsertRootElement = false
is_safe (InsertRootNamed name) = false
is_safe RemoveBody = false
is_safe (SwitchTo mode) = not (is_first mode)
is_safe _ = true

abbrev pub is_removal : Action → Bool
is_removal RemoveBody = true
is_removal _ = false

abbrev pub goes_topmost : List Act → Bool
goes_topmost (does PopToTopmost [] ∷ acts) = true
goes_topmost _ = false

-- none puts anything into the Document, and a body is removed only where all elements but `html` are popped then
abbrev pub is_proper : List Act → Bool
is_proper [] = true
is_proper (does action tests ∷ acts) = (is_safe action || (is_removal action && goes_topmost acts)) && is_proper acts
is_proper (goes way ∷ acts) = is_proper acts

-- ---- stacks that have elements

none_some : {A P : Type 0} {x : A} → None ≡ Some x → P
none_some e = cc

pub shape_filled : (shape : Shape) (ls : List Label) (s : List ℕ) → Stk shape ls s → Filled s
shape_filled shape ls (n ∷ ns) h e = cc
shape_filled Nothing ls [] h e = h
shape_filled Root ls [] h e = h
shape_filled Head ls [] h e = h
shape_filled Loose ls [] (inl h) e = h
shape_filled Loose ls [] (inr h) e = h
shape_filled (Std k claim) ls [] h e = h.0
shape_filled (Held shape) ls [] h e = h
shape_filled (Plain shape) ls [] h e = h
shape_filled (Above shape) ls [] h e = h

root_filled : (ls : List Label) (s : List ℕ) → IsRoot ls s → Filled s
root_filled ls [] h e = h
root_filled ls (n ∷ ns) h e = cc

head_filled : (ls : List Label) (s : List ℕ) → IsHead ls s → Filled s
head_filled ls [] h e = h
head_filled ls (n ∷ ns) h e = cc

abbrev pub is_fine : Level → Bool
is_fine Fine = true
is_fine _ = false

pub filled_at : (level : Level) (b : Building) → is_fine level ≡ false → At level b → is_first b.mode ≡ false → Filled b.tree.stack
filled_at Fine b f at m = never (sym f)
filled_at Bare b f at m = never (sym m ∙ at.0)
filled_at RootMade b f at m = root_filled (labels b.tree.nodes) b.tree.stack at.1.0
filled_at Before b f at m = root_filled (labels b.tree.nodes) b.tree.stack at.2.0
filled_at HeadMade b f at m = head_filled (labels b.tree.nodes) b.tree.stack at.1.0
filled_at TextMode b f at m = shape_filled (Held (own b.original)) (labels b.tree.nodes) b.tree.stack at.2.0
filled_at TableText b f at m = shape_filled (own b.original) (labels b.tree.nodes) b.tree.stack at.2.0
filled_at Behind b f at m = shape_filled (own b.original) (labels b.tree.nodes) b.tree.stack at.1.0
filled_at Never b f at m = absurd at
filled_at (Late place rel kept) b f at m = shape_filled (shape_for rel b.mode) (labels b.tree.nodes) b.tree.stack at.2.0
filled_at (Scoped place kind names) b f at m = shape_filled (own b.mode) (labels b.tree.nodes) b.tree.stack at.1.2.0
filled_at (Opened place) b f at m = shape_filled (own b.mode) (labels b.tree.nodes) b.tree.stack at.1.2.0
filled_at (OpenedFree place) b f at m = shape_filled (Std Inside false) (labels b.tree.nodes) b.tree.stack at.1.2.0
filled_at (Foreign place) b f at m = shape_filled (own b.mode) (labels b.tree.nodes) b.tree.stack at.1.2.0

pub content_at : (level : Level) (b : Building) → At level b → Content b.template_modes
content_at Fine b at = at.0
content_at Bare b at = at.1
content_at RootMade b at = at.0
content_at Before b at = at.1
content_at HeadMade b at = at.0
content_at TextMode b at = at.1
content_at TableText b at = at.1
content_at Behind b at = at.0
content_at Never b at = absurd at
content_at (Late place rel kept) b at = at.1
content_at (Scoped place kind names) b at = at.1.1
content_at (Opened place) b at = at.1.1
content_at (OpenedFree place) b at = at.1.1
content_at (Foreign place) b at = at.1.1

abbrev pub is_foster_off : Action → Bool
is_foster_off FosterOff = true
is_foster_off _ = false

fine_only : (info : Info) (action : Action) (tests : List Test) (new : Level) → next_of Fine info action tests ≡ Some new → is_foster_off action ≡ true
fine_only info FosterOff tests new e = refl
fine_only info _ tests new e = none_some e

pub not_fine : (level : Level) (info : Info) (action : Action) (tests : List Test) (new : Level) → is_foster_off action ≡ false →
    next_of level info action tests ≡ Some new → is_fine level ≡ false
not_fine Fine info action tests new f e = never (sym f ∙ fine_only info action tests new e)
not_fine _ info action tests new f e = refl

pub topmost_element : (b : Building) (s : List ℕ) → Filled s → Elements (tags b.tree.nodes) s → is_element (class_at (tags b.tree.nodes) (topmost s)) ≡ true
topmost_element b [] filled h = absurd (filled refl)
topmost_element b (n ∷ []) filled h = (both (is_element (class_at (tags b.tree.nodes) n)) true h).0
topmost_element b (n ∷ m ∷ ns) filled h =
    topmost_element b (m ∷ ns) some (both (is_element (class_at (tags b.tree.nodes) n)) (list_all (λ i. is_element (class_at (tags b.tree.nodes) i)) (m ∷ ns)) h).1
  where
    some : Filled (m ∷ ns)
    some e = cc

-- ---- the adoption agency algorithm, where the stack is one inside

if_true : (x : Bool) (level new : Level) → if_so x level ≡ Some new → x ≡ true
if_true true level new e = refl
if_true false level new e = none_some e

good_late : (place : Where) (rel : Rel) (b : Building) (info : Info) (kept : Bool) →
    is_in place && (settled place rel && own_apart Rattle.standard_order.proofs.StandingStacks.fixed info) ≡ true → LateAt place rel kept b →
    Good Inside (is_cell b.mode) b.tree
good_late place rel b info kept s at =
    let two : (is_in place ≡ true) × (settled place rel && own_apart Rattle.standard_order.proofs.StandingStacks.fixed info ≡ true) = both (is_in place) _ s in
    good_of Inside (is_cell b.mode) b.mode rel b.tree (inside_own b.mode (place_inside place b.mode b.token two.0 at.0))
    (settled_rel place rel (both (settled place rel) _ two.1).0).0 at.2

pub good_at : (level : Level) (info : Info) (tests : List Test) (new : Level) (b : Building) → next_of level info AdoptionAgency tests ≡ Some new → At level b →
    Good Inside (is_cell b.mode) b.tree
good_at (Late place rel kept) info tests new b e at = good_late place rel b info kept (if_true _ _ new e) at
good_at (Scoped place kind Own) info tests new b e at = good_late place Of b info false (if_true _ _ new e) at.1
good_at (Scoped place kind (These names)) info tests new b e at = good_late place Of b info false (if_true _ _ new e) at.1
good_at Never info tests new b e at = absurd at
good_at _ info tests new b e at = none_some e

-- ---- what each leaves of the Document

abbrev pub Kept : Building → Type 0
Kept b = Doc Rooted b.tree

same_doc : (t : GrowingTree) (u : GrowingTree) → Doc Rooted t → u.nodes ≡ t.nodes → u.stack ≡ t.stack → Doc Rooted u
same_doc t u doc e f = record {
  top = subst (Rattle.standard_order.proofs.NodeTops.Top Rooted) (sym e) doc.top;
  open_ = subst (λ nodes. Elements (tags nodes) u.stack) (sym e) (subst (Elements (tags t.nodes)) (sym f) doc.open_);
}

until : (t : GrowingTree) (names : List (List ℕ)) → Doc Rooted t → Doc Rooted (popped_until names t)
until t names doc = doc_stack Rooted t (past (is_one t names) t.stack) (elements_past (tags t.nodes) (is_one t names) t.stack doc.open_) doc

implies : (t : GrowingTree) (names but : List (List ℕ)) → Doc Rooted t → Doc Rooted (implied_of names but t)
implies t names but doc =
    doc_stack Rooted t (beyond (λ n. is_one t names n && not (is_one t but n)) t.stack)
    (elements_beyond (tags t.nodes) (λ n. is_one t names n && not (is_one t but n)) t.stack doc.open_) doc

closes_p : (t : GrowingTree) → Doc Rooted t → Doc Rooted (without_p t)
closes_p t doc = by (has_in_scope ButtonScope (codes "p" ∷ []) t)
  where
    by : (x : Bool) → Doc Rooted (elim x as (λ _. GrowingTree) [ true ↦ closed_p t | false ↦ t ])
    by true = until (implied_of implied (codes "p" ∷ []) t) (codes "p" ∷ []) (implies t implied (codes "p" ∷ []) doc)
    by false = doc

closes_item : (o : Option ℕ) (t : GrowingTree) → Doc Rooted t → Doc Rooted (closed_item o t)
closes_item None t doc = doc
closes_item (Some n) t doc = until (implied_of implied (key t n ∷ []) t) (key t n ∷ []) (implies t implied (key t n ∷ []) doc)

takes_out : (t : GrowingTree) (n : ℕ) → Doc Rooted t → Doc Rooted (unstacked n t)
takes_out t n doc = record { top = doc.top; open_ = elements_without (tags t.nodes) n t.stack doc.open_ }

ends_form : (form : FormPointer) (t : GrowingTree) → Doc Rooted t → Doc Rooted (form_ended form t)
ends_form NoForm t doc = doc
ends_form FormOfContext t doc = doc
ends_form (FormAt n) t doc = by (in_scope (Rattle.std.specs.Prelude.nat_eq n) (ends_scope Scope t) t.stack)
  where
    by : (x : Bool) → Doc Rooted (elim x as (λ _. GrowingTree) [ true ↦ unstacked n (implied_of implied [] t) | false ↦ t ])
    by true = takes_out (implied_of implied [] t) n (implies t implied [] doc)
    by false = doc

drops_found : (o : Option ℕ) (t : GrowingTree) → Doc Rooted t → Doc Rooted (without_found o t)
drops_found None t doc = doc
drops_found (Some n) t doc = takes_out (unlisted n t) n (record { top = doc.top; open_ = doc.open_ })

pub loses_head : (o : Option ℕ) (t : GrowingTree) → Doc Rooted t → Doc Rooted (option_map_or (λ n. unstacked n t) o t)
loses_head None t doc = doc
loses_head (Some n) t doc = takes_out t n doc

no_push : (level : Level) (info : Info) (tests : List Test) (new : Level) (b : Building) → next_of level info PushHeadPointer tests ≡ Some new → At level b →
    {P : Type 0} → P
no_push Never info tests new b e at = absurd at
no_push (Scoped place kind Own) info tests new b e at = none_some e
no_push (Scoped place kind (These names)) info tests new b e at = none_some e
no_push _ info tests new b e at = none_some e

kept_perform : (level : Level) (info : Info) (action : Action) (tests : List Test) (b : Building) (new : Level) → is_safe action ≡ true →
    next_of level info action tests ≡ Some new → At level b → Settled b → Kept (perform action b)
unfolding perform
kept_perform level info InsertCharacter tests b new safe e at s = doc_chars Rooted (char_of b.token) b.tree s.0
kept_perform level info InsertReplacement tests b new safe e at s = doc_char Rooted 0xfffd b.tree s.0
kept_perform level info InsertComment tests b new safe e at s =
    doc_leaf Rooted b.tree (place b.tree) (CommentNode (comment_of b.token))
    (current_off Rooted b.tree s.0 (filled_at level b (not_fine level info InsertComment tests new refl e) at s.1)) refl s.0
kept_perform level info InsertCommentInDocument tests b new safe e at s = doc_comment_in Rooted (comment_of b.token) b.tree s.0
kept_perform level info InsertCommentInHtml tests b new safe e at s =
    doc_leaf Rooted b.tree (EndOf (topmost b.tree.stack)) (CommentNode (comment_of b.token))
    (element_off Rooted b.tree.nodes (topmost b.tree.stack) s.0.top (topmost_element b b.tree.stack
    (filled_at level b (not_fine level info InsertCommentInHtml tests new refl e) at s.1) s.0.open_)) refl s.0
kept_perform level info InsertElement tests b new safe e at s =
    doc_inserted Rooted Html (own_name b.token) b.attrs b.tree (filled_at level b (not_fine level info InsertElement tests new refl e) at s.1) s.0
kept_perform level info InsertMathmlElement tests b new safe e at s =
    doc_inserted Rooted MathMl (own_name b.token) b.attrs b.tree (filled_at level b (not_fine level info InsertMathmlElement tests new refl e) at s.1) s.0
kept_perform level info InsertSvgElement tests b new safe e at s =
    doc_inserted Rooted Svg (own_name b.token) b.attrs b.tree (filled_at level b (not_fine level info InsertSvgElement tests new refl e) at s.1) s.0
kept_perform level info (InsertNamed name) tests b new safe e at s =
    doc_inserted Rooted Html name [] b.tree (filled_at level b (not_fine level info (InsertNamed name) tests new refl e) at s.1) s.0
kept_perform level info ReconstructFormatting tests b new safe e at s =
    doc_reconstructed Rooted b.tree (filled_at level b (not_fine level info ReconstructFormatting tests new refl e) at s.1) s.0
kept_perform level info AdoptionAgency tests b new safe e at s = doc_adoption (is_cell b.mode) (own_name b.token) b.tree (good_at level info tests new b e at) s.0
kept_perform level info AnyOtherEndTag tests b new safe e at s = doc_other_end (own_name b.token) b.tree s.0
kept_perform level info MergeAttributesIntoHtml tests b new safe e at s = doc_merged Rooted (Some (topmost b.tree.stack)) b.attrs b.tree s.0
kept_perform level info MergeAttributesIntoBody tests b new safe e at s = doc_merged Rooted (second b.tree.stack) b.attrs b.tree s.0
kept_perform level info InsertPending tests b new safe e at s = doc_chars Rooted (Rattle.std.specs.Prelude.reverse b.pending) b.tree s.0
kept_perform level info Pop tests b new safe e at s = doc_stack Rooted b.tree (drop 1 b.tree.stack) (elements_dropped (tags b.tree.nodes) b.tree.stack s.0.open_) s.0
kept_perform level info PopToTopmost tests b new safe e at s =
    doc_stack Rooted b.tree (topmost b.tree.stack ∷ [])
    (ap (λ x. x && true) (topmost_element b b.tree.stack (filled_at level b (not_fine level info PopToTopmost tests new refl e) at s.1) s.0.open_)) s.0
kept_perform level info PopForeignElements tests b new safe e at s =
    doc_stack Rooted b.tree (beyond (is_foreign b.tree) b.tree.stack) (elements_beyond (tags b.tree.nodes) (is_foreign b.tree) b.tree.stack s.0.open_) s.0
kept_perform level info PopUntilOwnInAnyCase tests b new safe e at s =
    doc_stack Rooted b.tree _ (elements_past (tags b.tree.nodes) _ b.tree.stack s.0.open_) s.0
kept_perform level info (PopUntil names) tests b new safe e at s = until b.tree (names_for names b.token) s.0
kept_perform level info (PopUpTo names) tests b new safe e at s =
    doc_stack Rooted b.tree (beyond (λ n. not (is_one b.tree (names_for names b.token) n)) b.tree.stack)
    (elements_beyond (tags b.tree.nodes) (λ n. not (is_one b.tree (names_for names b.token) n)) b.tree.stack s.0.open_) s.0
kept_perform level info ImpliedEndTags tests b new safe e at s = implies b.tree implied [] s.0
kept_perform level info AllImpliedEndTags tests b new safe e at s = implies b.tree thoroughly_implied [] s.0
kept_perform level info (ImpliedEndTagsBut names) tests b new safe e at s = implies b.tree implied (names_for names b.token) s.0
kept_perform level info CloseP tests b new safe e at s = closes_p b.tree s.0
kept_perform level info (CloseItems names) tests b new safe e at s = closes_item (open_item b.tree names b.tree.stack) b.tree s.0
kept_perform level info EndForm tests b new safe e at s = ends_form b.tree.form (record b.tree { form = NoForm }) (record { top = s.0.top; open_ = s.0.open_ })
kept_perform level info DropFound tests b new safe e at s = drops_found b.tree.found b.tree s.0
kept_perform level info RemoveHeadFromStack tests b new safe e at s = loses_head b.tree.head b.tree s.0
kept_perform level info PushHeadPointer tests b new safe e at s = no_push level info tests new b e at
kept_perform level info AppendDoctype tests b new safe e at s = never safe
kept_perform level info InsertRootElement tests b new safe e at s = never safe
kept_perform level info (InsertRootNamed name) tests b new safe e at s = never safe
kept_perform level info RemoveBody tests b new safe e at s = never safe
kept_perform level info _ tests b new safe e at s = record { top = s.0.top; open_ = s.0.open_ }

-- ---- the mode

abbrev pub reset_passes : Reset → Bool
reset_passes (reset_to ones when mode) = not (is_first mode)
reset_passes (reset_to_template_mode ones) = true

content_later : (mode : Mode) → is_content mode ≡ true → not (is_first mode) ≡ true
content_later Initial h = never h
content_later BeforeHtml h = never h
content_later _ h = refl

top_later : (modes : List Mode) → Content modes → not (is_first (top_mode modes)) ≡ true
top_later [] h = refl
top_later (mode ∷ modes) h = content_later mode (both (is_content mode) (list_all is_content modes) h).0

reset_by_later : (rs : List Reset) → list_all reset_passes rs ≡ true → (name : List ℕ) (modes : List Mode) → Content modes →
    (pointer : Option ℕ) (above : List ℕ) (mode : Mode) → reset_by rs name modes pointer above ≡ Some mode → not (is_first mode) ≡ true
reset_by_later [] all name modes c pointer above mode e = none_some e
reset_by_later (reset_to ones when one ∷ more) all name modes c pointer above mode e =
    by (is_among name ones && node_test when pointer above) e (λ k. reset_by_later more (both (not (is_first one)) _ all).1 name modes c pointer above mode k)
  where
    by : (x : Bool) → elim x as (λ _. Option Mode) [ true ↦ Some one | false ↦ reset_by more name modes pointer above ] ≡ Some mode →
        (reset_by more name modes pointer above ≡ Some mode → not (is_first mode) ≡ true) → not (is_first mode) ≡ true
    by true k go = subst (λ m. not (is_first m) ≡ true) (same_Some one mode k) (both (not (is_first one)) (list_all reset_passes more) all).0
    by false k go = go k
reset_by_later (reset_to_template_mode ones ∷ more) all name modes c pointer above mode e =
    by (is_among name ones) e (λ k. reset_by_later more all name modes c pointer above mode k)
  where
    by : (x : Bool) → elim x as (λ _. Option Mode) [ true ↦ Some (top_mode modes) | false ↦ reset_by more name modes pointer above ] ≡ Some mode →
        (reset_by more name modes pointer above ≡ Some mode → not (is_first mode) ≡ true) → not (is_first mode) ≡ true
    by true k go = subst (λ m. not (is_first m) ≡ true) (same_Some (top_mode modes) mode k) (top_later modes c)
    by false k go = go k

reset_later : (t : GrowingTree) (modes : List Mode) → Content modes → (s : List ℕ) → not (is_first (reset_from t modes s)) ≡ true
reset_later t modes c [] = refl
reset_later t modes c (n ∷ []) = by (reset_by resets name modes t.head []) (λ mode e. reset_by_later resets refl name modes c t.head [] mode e)
  where
    name : List ℕ
    name = key_in (unwrap_or t.context (kind_of t n))

    by : (o : Option Mode) → ((mode : Mode) → o ≡ Some mode → not (is_first mode) ≡ true) → not (is_first (unwrap_or o InBody)) ≡ true
    by None go = refl
    by (Some mode) go = go mode refl
reset_later t modes c (n ∷ m ∷ ns) =
    by (reset_by resets (key t n) modes t.head (m ∷ ns)) (λ mode e. reset_by_later resets refl (key t n) modes c t.head (m ∷ ns) mode e)
    (reset_later t modes c (m ∷ ns))
  where
    by : (o : Option Mode) → ((mode : Mode) → o ≡ Some mode → not (is_first mode) ≡ true) → not (is_first (reset_from t modes (m ∷ ns))) ≡ true →
        not (is_first (elim o as (λ _. Mode) [ Some mode ↦ mode | None ↦ reset_from t modes (m ∷ ns) ])) ≡ true
    by None go rest = rest
    by (Some mode) go rest = go mode refl

is_false : (x : Bool) → not x ≡ true → x ≡ false
is_false true h = never h
is_false false h = refl

own_later : (mode : Mode) (ls : List Label) (s : List ℕ) → Stk (own mode) ls s → is_first mode ≡ false
own_later Initial ls s h = absurd h
own_later BeforeHtml ls s h = absurd h
own_later _ ls s h = refl

back_later : (level : Level) (info : Info) (tests : List Test) (new : Level) (b : Building) → next_of level info SwitchBack tests ≡ Some new → At level b →
    is_first b.original ≡ false
back_later Behind info tests new b e at = own_later b.original (labels b.tree.nodes) b.tree.stack at.1.0
back_later TableText info tests new b e at = own_later b.original (labels b.tree.nodes) b.tree.stack at.2.0
back_later Never info tests new b e at = absurd at
back_later (Scoped place kind Own) info tests new b e at = none_some e
back_later (Scoped place kind (These names)) info tests new b e at = none_some e
back_later _ info tests new b e at = none_some e

later_perform : (level : Level) (info : Info) (action : Action) (tests : List Test) (b : Building) (new : Level) → is_safe action ≡ true →
    next_of level info action tests ≡ Some new → At level b → is_first b.mode ≡ false → is_first (perform action b).mode ≡ false
unfolding perform
later_perform level info (SwitchTo mode) tests b new safe e at m = is_false (is_first mode) safe
later_perform level info SwitchBack tests b new safe e at m = back_later level info tests new b e at
later_perform level info ResetMode tests b new safe e at m =
    is_false (is_first (reset_from b.tree b.template_modes b.tree.stack)) (reset_later b.tree b.template_modes (content_at level b at) b.tree.stack)
later_perform level info action tests b new safe e at m = m

pub settled_after : (level : Level) (info : Info) (action : Action) (tests : List Test) (b : Building) (new : Level) → is_safe action ≡ true →
    next_of level info action tests ≡ Some new → At level b → Settled b → Settled (after tests action b)
settled_after level info action tests b new safe e at s =
    either_way Settled (list_all (is_met b) tests) b (perform action b)
    (kept_perform level info action tests b new safe e at s, later_perform level info action tests b new safe e at s.1) s

-- ---- the body is removed

second_other : (k : Sort) (ls : List Label) (s : List ℕ) (n : ℕ) → Stands k ls s → second s ≡ Some n → IsAt (other_than (codes "html" ∷ [])) ls n
second_other k ls [] n st e = none_some e
second_other k ls (m ∷ []) n st e = none_some e
second_other k ls (m ∷ r ∷ []) n (inl a) e = absurd (no_more a.1)
  where
    no_more : r ∷ [] ≡ [] → ⊥
    no_more f = cc
second_other k ls (m ∷ r ∷ []) n (inr (inl a)) e =
    subst (IsAt (other_than (codes "html" ∷ [])) ls) (same_Some m n e)
    (weaker_at template (other_than (codes "html" ∷ [])) (λ l h. named_apart (codes "template" ∷ []) (codes "html" ∷ []) refl l h) ls m a.1)
second_other k ls (m ∷ r ∷ []) n (inr (inr a)) e =
    subst (IsAt (other_than (codes "html" ∷ [])) ls) (same_Some m n e) (weaker_at (allowed k) (other_than (codes "html" ∷ [])) (λ l h. off k l h) ls m a.0)
  where
    off : (k : Sort) (l : Label) → allowed k l ≡ true → other_than (codes "html" ∷ []) l ≡ true
    off Rattle.standard_order.proofs.StandingStacks.Closed l h = fewer l.name (codes "html" ∷ []) Rattle.standard_order.proofs.StandingStacks.framing refl h
    off Rattle.standard_order.proofs.StandingStacks.Framed l h = fewer l.name (codes "html" ∷ []) (codes "html" ∷ codes "head" ∷ codes "template" ∷ []) refl h
    off Inside l h = fewer l.name (codes "html" ∷ []) (codes "html" ∷ codes "head" ∷ codes "frameset" ∷ []) refl h
second_other k ls (m ∷ r ∷ q ∷ ns) n (inl a) e = absurd (no_more a.1)
  where
    no_more : r ∷ q ∷ ns ≡ [] → ⊥
    no_more f = cc
second_other k ls (m ∷ r ∷ q ∷ ns) n (inr (inl a)) e = in_head ns a.2 e
  where
    in_head : (ns : List ℕ) → IsHead ls (r ∷ q ∷ ns) → second (r ∷ q ∷ ns) ≡ Some n → IsAt (other_than (codes "html" ∷ [])) ls n
    in_head [] h f = subst (IsAt (other_than (codes "html" ∷ [])) ls) (same_Some r n f)
        (weaker_at head (other_than (codes "html" ∷ [])) (λ l i. named_apart (codes "head" ∷ []) (codes "html" ∷ []) refl l i) ls r h.0)
    in_head (x ∷ xs) h f = absurd h.1
second_other k ls (m ∷ r ∷ q ∷ ns) n (inr (inr a)) e = second_other k ls (r ∷ q ∷ ns) n a.1 e

second_element : (b : Building) (s : List ℕ) (n : ℕ) → Elements (tags b.tree.nodes) s → second s ≡ Some n → is_element (class_at (tags b.tree.nodes) n) ≡ true
second_element b [] n h e = none_some e
second_element b (m ∷ []) n h e = none_some e
second_element b (m ∷ r ∷ []) n h e =
    subst (λ i. is_element (class_at (tags b.tree.nodes) i) ≡ true) (same_Some m n e) (both (is_element (class_at (tags b.tree.nodes) m)) _ h).0
second_element b (m ∷ r ∷ q ∷ ns) n h e = second_element b (r ∷ q ∷ ns) n (both (is_element (class_at (tags b.tree.nodes) m)) _ h).1 e

if_passes : (x : Bool) (level : Level) (f : Level → Bool) → elim (if_so x level) [ Some new ↦ f new | None ↦ false ] ≡ true → x ≡ true
if_passes true level f h = refl
if_passes false level f h = never h

-- where all elements but `html` are popped, the stack is one inside
pub topmost_good : (level : Level) (info : Info) (acts : List Act) (b : Building) → acts_pass level info (does PopToTopmost [] ∷ acts) ≡ true → At level b →
    Good Inside (is_cell b.mode) b.tree
topmost_good (Late place rel kept) info acts b pass at =
    let two : (is_in place ≡ true) × (is_of rel ≡ true) = both (is_in place) (is_of rel) (if_passes _ _ _ pass) in
    good_of Inside (is_cell b.mode) b.mode rel b.tree (inside_own b.mode (place_inside place b.mode b.token two.0 at.0)) (inl (of_rel rel two.1)) at.2
  where
    of_rel : (rel : Rel) → is_of rel ≡ true → rel ≡ Of
    of_rel Of h = refl
    of_rel _ h = never h
topmost_good (Scoped place kind Own) info acts b pass at =
    good_of Inside (is_cell b.mode) b.mode Of b.tree (inside_own b.mode (place_inside place b.mode b.token at.0 at.1.0)) (inl refl) at.1.2
topmost_good (Scoped place kind (These names)) info acts b pass at =
    good_of Inside (is_cell b.mode) b.mode Of b.tree (inside_own b.mode (place_inside place b.mode b.token at.0 at.1.0)) (inl refl) at.1.2
topmost_good Never info acts b pass at = absurd at
topmost_good _ info acts b pass at = never pass

-- behind the action that removes it, whether its tests are met or not
pub body_after : (action : Action) (tests : List Test) (b : Building) → action ≡ RemoveBody → Settled b →
    Good Inside (is_cell (after tests action b).mode) (after tests action b).tree → Settled (after tests action b)
unfolding perform
body_after action tests b is s good =
    subst (λ a. Settled (after tests a b)) (sym is) (by (list_all (is_met b) tests) (subst (λ a. Stands Inside (labels (after tests a b).tree.nodes) (after tests a b).tree.stack) is good.0))
  where
    other : (o : Option ℕ) → second b.tree.stack ≡ o → Stands Inside (labels (body_removed o b.tree).nodes) b.tree.stack → Doc Rooted (body_removed o b.tree)
    other None e st = s.0
    other (Some n) e st = doc_nodes Rooted b.tree (removed n b.tree.nodes) (same_removed n b.tree.nodes (movable_top _
        (other_movable b.tree.nodes n (second_other Inside (labels b.tree.nodes) b.tree.stack n
        (subst (λ ls. Stands Inside ls b.tree.stack) (Rattle.standard_order.proofs.Labels.labels_removed n b.tree.nodes) st) e)
        (second_element b b.tree.stack n s.0.open_ e)))) s.0

    same_stack : (o : Option ℕ) → (body_removed o b.tree).stack ≡ b.tree.stack
    same_stack None = refl
    same_stack (Some n) = refl

    by : (x : Bool) → Stands Inside (labels (elim x as (λ _. Building) [ true ↦ with_tree b (body_removed (second b.tree.stack) b.tree) | false ↦ b ]).tree.nodes)
        (elim x as (λ _. Building) [ true ↦ with_tree b (body_removed (second b.tree.stack) b.tree) | false ↦ b ]).tree.stack →
        Settled (elim x as (λ _. Building) [ true ↦ with_tree b (body_removed (second b.tree.stack) b.tree) | false ↦ b ])
    by true st = (other (second b.tree.stack) refl (subst (Stands Inside (labels (body_removed (second b.tree.stack) b.tree).nodes)) (same_stack (second b.tree.stack)) st), s.1)
    by false st = s

-- the rules for the first modes are used in them alone
pub used_later : (level : Level) (info : Info) (mode : Mode) → Rattle.standard_order.proofs.Levels.may_use level info mode ≡ true → is_first mode ≡ false
used_later (Late place Of kept) info Initial h = never h
used_later (Late place Of kept) info BeforeHtml h = never h
used_later level info Initial h = never h
used_later level info BeforeHtml h = never h
used_later level info _ h = refl
