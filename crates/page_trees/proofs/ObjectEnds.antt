-- What the rules for "in body" make of the end tags `applet`, `marquee` and `object`, and of `template`.
use Rattle.std.proofs.Common.{◌≡◌, Bool, true, false, List, [], ◌∷◌, ℕ, refl, sym, ap, subst, ◌∙◌}
use Rattle.standard_trees.specs.Building.{Building, own_name, perform, with_tree}
use Rattle.standard_trees.specs.GrowingTree.{GrowingTree, has_in_scope, popped_until}
use Rattle.standard_trees.specs.NameLists.{implied}
use Rattle.standard_trees.specs.RuleWords.{ClearListToMarker, ImpliedEndTags, InBody, InHead, Own, PopUntil, Scope as DefaultScope, Use, does, goes}
use Rattle.standard_trees.specs.TreeRules.{rules}
use Rattle.page_tokens.specs.declared.token.Tag.{Tag}
use Rattle.page_trees.specs.BodyTags.{ChangesTree, EndsInBody, acted, closed_to_marker}
use Rattle.page_trees.specs.Constructs.{Constructs, IsCurrentTag, Outcome, ProcessesTag}
use Rattle.page_trees.specs.Groups.{group_named}
use Rattle.page_trees.specs.Modes.{is_start_kind}
use Rattle.page_trees.specs.Names.{text_of}
use Rattle.page_trees.specs.Scopes.{is_name}
use Rattle.page_trees.specs.Stands.{Builds, Does, Tells, closed_in, without_marker}
use Rattle.page_trees.specs.TreeState.{TreeState}
use Rattle.page_trees.specs.declared.builder.Next.{Next}
use Rattle.page_trees.specs.declared.builder.TreeBuilder.{TreeBuilder}
use Rattle.page_trees.specs.declared.modes.groups.Group.{Group}
use Rattle.page_trees.specs.declared.name.Name.{Name}
use Rattle.page_trees.proofs.BodyEnds.{acts_if, closes_so, fosters_if, group_end, known_group, no_other, tree_if}
use Rattle.page_trees.proofs.BodyRules.{choice, end_rows, end_rules_for, own_of_end}
use Rattle.page_trees.proofs.BodyStarts.{stepped}
use Rattle.page_trees.proofs.ClosedElements.{are_apart, implied_apart}
use Rattle.page_trees.proofs.RulesRun.{outcome_by}

-- ---- the tree

-- an element in scope is closed, and then the list is cleared
cleared_does : (old closed cleared : TreeState) (names : List (List ℕ)) (x : Bool) → x ≡ true → Does (closed_in DefaultScope names) old closed →
    Tells (has_in_scope DefaultScope names) old x → Does without_marker closed cleared → Does (closed_to_marker names) old cleared
cleared_does old closed cleared names x e closes tells clears t b =
    let here : has_in_scope DefaultScope names t ≡ true = sym (tells t b) ∙ e in
    let after : Builds closed (popped_until names t) = subst (Builds closed) (ap (λ y. tree_if y (popped_until names t) t) here) (closes t b) in
    subst (Builds cleared) (sym (ap (λ y. tree_if y (without_marker (popped_until names t)) t) here)) (clears (popped_until names t) after)

-- none is in scope
kept_does : (old closed : TreeState) (names : List (List ℕ)) (x : Bool) → x ≡ false → Does (closed_in DefaultScope names) old closed →
    Tells (has_in_scope DefaultScope names) old x → Does (closed_to_marker names) old closed
kept_does old closed names x e closes tells t b =
    let here : has_in_scope DefaultScope names t ≡ false = sym (tells t b) ∙ e in
    subst (Builds closed) (ap (λ y. tree_if y (popped_until names t) t) here ∙ sym (ap (λ y. tree_if y (without_marker (popped_until names t)) t) here)) (closes t b)

marker_step : (old : TreeBuilder) (tree : TreeState) (names : List (List ℕ)) → Does (closed_to_marker names) old.tree tree → ChangesTree (closed_to_marker names) old (record old { tree = tree })
marker_step old tree names does_so within b c =
    stepped old tree (closed_to_marker names) does_so b (fosters_if (has_in_scope DefaultScope names b.tree) (without_marker (popped_until names b.tree)) b.tree b.tree refl refl) c

pub object_cleared : (old : TreeBuilder) (closed cleared : TreeState) (names : List (List ℕ)) (x : Bool) → x ≡ true → Does (closed_in DefaultScope names) old.tree closed →
    Tells (has_in_scope DefaultScope names) old.tree x → Does without_marker closed cleared → ChangesTree (closed_to_marker names) old (record old { tree = cleared })
object_cleared old closed cleared names x e closes tells clears = marker_step old cleared names (cleared_does old.tree closed cleared names x e closes tells clears)

pub object_kept : (old : TreeBuilder) (closed : TreeState) (names : List (List ℕ)) (x : Bool) → x ≡ false → Does (closed_in DefaultScope names) old.tree closed →
    Tells (has_in_scope DefaultScope names) old.tree x → ChangesTree (closed_to_marker names) old (record old { tree = closed })
object_kept old closed names x e closes tells = marker_step old closed names (kept_does old.tree closed names x e closes tells)

-- ---- the rules

object_row : (b : Building) → choice b (end_rules_for Name.Object) ≡
    acts_if (has_in_scope DefaultScope (own_name b.token ∷ []) b.tree) (does ImpliedEndTags [] ∷ does (PopUntil Own) [] ∷ does ClearListToMarker [] ∷ [])
unfolding rules
object_row b = refl

object_acts : (b : Building) → are_apart implied (own_name b.token ∷ []) ≡ true →
    acted (does ImpliedEndTags [] ∷ does (PopUntil Own) [] ∷ does ClearListToMarker [] ∷ []) b ≡ with_tree b (without_marker (popped_until (own_name b.token ∷ []) b.tree))
unfolding perform
object_acts b h = ap (λ (t : GrowingTree). with_tree b (without_marker t)) (implied_apart (own_name b.token ∷ []) h b.tree)

object_apart : (name : Name) → group_named name ≡ Group.Object → are_apart implied (text_of name ∷ []) ≡ true
object_apart Name.Applet e = refl
object_apart Name.Marquee e = refl
object_apart Name.Object e = refl
object_apart _ e = absurd (cc)

pub object_ended : (name : Name) (tag : Tag) (old new : TreeBuilder) (next : Next) → group_named name ≡ Group.Object → next ≡ Next.Done →
    (is_name name Name.Other ≡ false → ChangesTree (closed_to_marker (text_of name ∷ [])) old new) → EndsInBody name tag old new next
object_ended name tag old new next e done changes covers ends within b current stands test =
    let known = known_group name Group.Object e refl in
    let own : own_name b.token ≡ text_of name = own_of_end name tag b current ends (no_other name known) in
    let after = subst (λ w. Constructs new (with_tree b (closed_to_marker (w ∷ []) b.tree))) (sym own) (changes known within b stands) in
    let apart = subst (λ w. are_apart implied (w ∷ []) ≡ true) (sym own) (object_apart name e) in
    subst (λ (n : Next). Outcome InBody b new n) (sym done)
    (closes_so b new DefaultScope (own_name b.token ∷ []) (does ImpliedEndTags [] ∷ does (PopUntil Own) [] ∷ does ClearListToMarker [] ∷ [])
    (without_marker (popped_until (own_name b.token ∷ []) b.tree)) refl
    (group_end Group.Object name tag b e current ends ∙ object_row b) (object_acts b apart) after)

-- ---- `template`

template_row : (b : Building) → choice b (end_rules_for Name.Template) ≡ goes (Use InHead) ∷ []
unfolding rules
template_row b = refl

template_named : (name : Name) → group_named name ≡ Group.Template → name ≡ Name.Template
template_named Name.Template e = refl
template_named _ e = absurd (cc)

pub template_ended : (name : Name) (tag : Tag) (old new : TreeBuilder) (next : Next) → group_named name ≡ Group.Template →
    ((tag : Tag) → is_start_kind tag.kind ≡ false → ProcessesTag InHead Name.Template tag old new next) → EndsInBody name tag old new next
template_ended name tag old new next e rule covers ends within b current stands test =
    outcome_by InBody InHead b new next
    (end_rows name tag b current ends ∙ ap (λ (n : Name). choice b (end_rules_for n)) (template_named name e) ∙ template_row b)
    (rule tag ends within b (subst (λ (n : Name). IsCurrentTag n tag b) (template_named name e) current) stands)
