-- What the rules for "in body" make of the tags of `form`.
use Rattle.std.proofs.Common.{◌≡◌, Bool, true, false, ◌&&◌, not, List, [], ◌∷◌, codes, nat_eq, refl, sym, ap, subst, ◌∙◌}
use Rattle.standard_trees.specs.Building.{Building, is_set, perform, with_tree}
use Rattle.standard_trees.specs.Formatting.{form_ended}
use Rattle.standard_trees.specs.GrowingTree.{FormAt, FormPointer as StandardForm, GrowingTree, NoForm, current, ends_scope, has_in_scope, implied_of, in_scope, is_one, popped_until, unstacked}
use Rattle.standard_trees.specs.NameLists.{implied}
use Rattle.standard_trees.specs.RuleWords.{Act, CloseP, EndForm, ImpliedEndTags, InBody, InsertElement, PopUntil, Scope as DefaultScope, SetFormPointer, TemplateOpen, These, does, isnt}
use Rattle.standard_trees.specs.TreeRules.{rules}
use Rattle.page_tokens.specs.declared.token.Tag.{Tag}
use Rattle.page_trees.specs.BodyTags.{ActsFor, ChangesTree, Continues, EndsInBody, acted}
use Rattle.page_trees.specs.Constructs.{Constructs, IsCurrentTag, Outcome, Performs, RemembersLimits}
use Rattle.page_trees.specs.FormEnds.{without_form}
use Rattle.page_trees.specs.Groups.{body_rules_for, example_of, group_named}
use Rattle.page_trees.specs.LateMerges.{is_open}
use Rattle.page_trees.specs.Modes.{is_start_kind}
use Rattle.page_trees.specs.Stands.{Builds, Does, closed_in, with_form}
use Rattle.page_trees.specs.TreeState.{TreeState}
use Rattle.page_trees.specs.declared.builder.Next.{Next}
use Rattle.page_trees.specs.declared.builder.TreeBuilder.{TreeBuilder}
use Rattle.page_trees.specs.declared.modes.groups.Group.{Group}
use Rattle.page_trees.specs.declared.name.Name.{Name}
use Rattle.page_trees.proofs.BodyEnds.{closes}
use Rattle.page_trees.proofs.BodyRules.{choice, end_rows, end_rules_for, ended_by, started_by}
use Rattle.page_trees.proofs.BodyStarts.{stepped, still}
use Rattle.page_trees.proofs.ClosedElements.{implied_apart}
use Rattle.page_trees.proofs.TableTags.{form_of_tag}

-- ---- the start tag

pub form_named : (name : Name) → group_named name ≡ Group.Form → name ≡ Name.Form
form_named Name.Form e = refl
form_named _ e = absurd (cc)

abbrev setting : Act
setting = does SetFormPointer (isnt TemplateOpen ∷ [])

abbrev form_acts : Bool → Bool → List Act
form_acts set template = elim (set && (not template && true)) [ true ↦ [] | false ↦ does CloseP [] ∷ does InsertElement [] ∷ setting ∷ [] ]

form_row : (b : Building) → choice b (body_rules_for (example_of Group.Form)) ≡ form_acts (is_set b.tree.form) (is_open (codes "template") b.tree)
unfolding rules
form_row b = refl

-- the tag is ignored, or it is not
abbrev acts_by : Bool → List Act
acts_by ignored = elim ignored [ true ↦ [] | false ↦ does CloseP [] ∷ does InsertElement [] ∷ setting ∷ [] ]

taken_by : (set template x : Bool) → x ≡ (set && not template) → form_acts set template ≡ acts_by x
taken_by true true x e = ap acts_by (sym e)
taken_by true false x e = ap acts_by (sym e)
taken_by false true x e = ap acts_by (sym e)
taken_by false false x e = ap acts_by (sym e)

form_choice : (b : Building) (x : Bool) → x ≡ (is_set b.tree.form && not (is_open (codes "template") b.tree)) → choice b (body_rules_for (example_of Group.Form)) ≡ acts_by x
form_choice b x e = form_row b ∙ taken_by (is_set b.tree.form) (is_open (codes "template") b.tree) x e

-- what the test for an open form answers
abbrev pub TellsOfForm : TreeState → Bool → Type 0
TellsOfForm state x = (t : GrowingTree) → Builds state t → x ≡ (is_set t.form && not (is_open (codes "template") t))

pub form_left : (tag : Tag) (s : TreeBuilder) (x : Bool) → TellsOfForm s.tree x → x ≡ true → Continues Group.Form Name.Form tag s s Next.Done
form_left tag s x tells is covers named = record {
  limits = λ within. within;
  rule = λ starts within b current html stands test.
      started_by Group.Form Name.Form tag b s [] refl current starts (form_choice b x (tells b.tree stands.tree) ∙ ap acts_by is) refl stands;
}

pub form_started : (tag : Tag) (old mid new : TreeBuilder) (next : Next) (x : Bool) → TellsOfForm old.tree x → x ≡ false → next ≡ Next.Done → Performs (CloseP ∷ []) old mid →
    RemembersLimits old mid → RemembersLimits mid new → ActsFor Name.Form tag (does InsertElement [] ∷ setting ∷ []) mid new → Continues Group.Form Name.Form tag old new next
unfolding perform
form_started tag old mid new next x tells is done closes first second inserts covers named = record {
  limits = λ within. first (second within);
  rule = λ starts within b current html stands test. subst (λ (n : Next). Outcome InBody b new n) (sym done)
      (started_by Group.Form Name.Form tag b new (acts_by false) refl current starts (form_choice b x (tells b.tree stands.tree) ∙ ap acts_by is) refl
      (inserts starts within (perform CloseP b) (still Name.Form tag b (perform CloseP b) refl refl current) (closes (second within) b stands)));
}

-- "unless there is a template element on the stack of open elements, set the form element pointer"
abbrev set_if : Bool → Building → Building
set_if x b = elim (not x && true) [ true ↦ perform SetFormPointer b | false ↦ b ]

pub form_set : (tag : Tag) (mid : TreeBuilder) (tree : TreeState) (b : Building) (x : Bool) → is_start_kind tag.kind ≡ true → IsCurrentTag Name.Form tag b → x ≡ is_open (codes "template") (perform InsertElement b).tree →
    x ≡ false → ((t : GrowingTree) → is_one t (codes "form" ∷ []) (current t) ≡ true → Builds mid.tree t → Builds tree (with_form t)) → Constructs mid (perform InsertElement b) →
    Constructs (record mid { tree = tree }) (acted (does InsertElement [] ∷ setting ∷ []) b)
form_set tag mid tree b x starts now e f sets stands =
    subst (λ y. Constructs (record mid { tree = tree }) (set_if y (perform InsertElement b))) (sym f ∙ e) (form_of_tag tag mid tree b starts now sets stands)

pub form_unset : (mid : TreeBuilder) (b : Building) (x : Bool) → x ≡ is_open (codes "template") (perform InsertElement b).tree → x ≡ true → Constructs mid (perform InsertElement b) →
    Constructs mid (acted (does InsertElement [] ∷ setting ∷ []) b)
form_unset mid b x e f stands = subst (λ y. Constructs mid (set_if y (perform InsertElement b))) (sym f ∙ e) stands

-- ---- the end tag

abbrev closing : List Act
closing = does ImpliedEndTags [] ∷ does (PopUntil (These (codes "form" ∷ []))) [] ∷ []

abbrev closing_if : Bool → List Act
closing_if x = elim (not x && true) [ true ↦ [] | false ↦ closing ]

abbrev end_acts : Bool → Bool → List Act
end_acts template scope = elim (not template && true) [ true ↦ does EndForm [] ∷ [] | false ↦ closing_if scope ]

end_row : (b : Building) → choice b (end_rules_for Name.Form) ≡ end_acts (is_open (codes "template") b.tree) (has_in_scope DefaultScope (codes "form" ∷ []) b.tree)
unfolding rules
end_row b = refl

closing_acts : (b : Building) → acted closing b ≡ with_tree b (popped_until (codes "form" ∷ []) b.tree)
unfolding perform
closing_acts b = ap (with_tree b) (implied_apart (codes "form" ∷ []) refl b.tree)

end_choice : (tag : Tag) (b : Building) (x : Bool) → IsCurrentTag Name.Form tag b → x ≡ is_open (codes "template") b.tree →
    choice b (end_rules_for Name.Form) ≡ end_acts x (has_in_scope DefaultScope (codes "form" ∷ []) b.tree)
end_choice tag b x current e = end_row b ∙ ap (λ y. end_acts y (has_in_scope DefaultScope (codes "form" ∷ []) b.tree)) (sym e)

-- a template is open
pub form_end_in_template : (tag : Tag) (old new : TreeBuilder) (next : Next) (x : Bool) → ((t : GrowingTree) → Builds old.tree t → x ≡ is_open (codes "template") t) → x ≡ true → next ≡ Next.Done →
    ChangesTree (closed_in DefaultScope (codes "form" ∷ [])) old new → EndsInBody Name.Form tag old new next
form_end_in_template tag old new next x tells is done changes covers ends within b current stands test =
    subst (λ (n : Next). Outcome InBody b new n) (sym done)
    (closes b new DefaultScope (codes "form" ∷ []) closing refl
    (end_rows Name.Form tag b current ends ∙ end_choice tag b x current (tells b.tree stands.tree)
    ∙ ap (λ y. end_acts y (has_in_scope DefaultScope (codes "form" ∷ []) b.tree)) is) (closing_acts b) (changes within b stands))

abbrev by_scope : Bool → GrowingTree → GrowingTree → GrowingTree
by_scope x t u = elim x [ true ↦ t | false ↦ u ]

-- foster parenting is left alone
ended_fosters : (form : StandardForm) (t : GrowingTree) → (form_ended form t).fostering ≡ t.fostering
ended_fosters NoForm t = refl
ended_fosters (FormAt n) t = by (in_scope (nat_eq n) (ends_scope DefaultScope t) t.stack)
  where
    by : (x : Bool) → (by_scope x (unstacked n (implied_of implied [] t)) t).fostering ≡ t.fostering
    by true = refl
    by false = refl
ended_fosters _ t = refl

ending_done : (old : TreeBuilder) (tree : TreeState) → Does without_form old.tree tree → (b : Building) → Constructs old b → Constructs (record old { tree = tree }) (perform EndForm b)
unfolding perform
ending_done old tree ends b stands = stepped old tree without_form ends b (ended_fosters b.tree.form (record b.tree { form = NoForm })) stands

-- no template is open
pub form_end : (tag : Tag) (old : TreeBuilder) (tree : TreeState) (x : Bool) → ((t : GrowingTree) → Builds old.tree t → x ≡ is_open (codes "template") t) → x ≡ false →
    Does without_form old.tree tree → EndsInBody Name.Form tag old (record old { tree = tree }) Next.Done
form_end tag old tree x tells is ended covers ends within b current stands test =
    ended_by Name.Form tag b (record old { tree = tree }) (does EndForm [] ∷ []) current ends
    (end_choice tag b x current (tells b.tree stands.tree) ∙ ap (λ y. end_acts y (has_in_scope DefaultScope (codes "form" ∷ []) b.tree)) is) refl
    (ending_done old tree ended b stands)
