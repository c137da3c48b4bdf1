-- What the rules for "in head" make of a tag.
use Rattle.std.proofs.Common.{◌≡◌, Bool, true, false, ◌&&◌, ◌||◌, ℕ, not, List, [], ◌∷◌, ◌++◌, codes, refl, sym, ap, subst, ◌∙◌, true≢false}
use Rattle.std.specs.Str.{bytes_eq}
use Rattle.std.proofs.lemmas.Slice.Eq.{bytes_eq-Decides}
use Rattle.standard_trees.specs.Building.{Building, perform, taken, token_attrs, with_tree}
use Rattle.standard_trees.specs.GrowingTree.{GrowingTree, implied_of, is_among, is_one, key, popped_until, with_stack}
use Rattle.standard_trees.specs.NameLists.{thoroughly_implied}
use Rattle.standard_trees.specs.RuleWords.{Act, Action, AllImpliedEndTags, ClearListToMarker, InHead, InsertElement, PopTemplateMode}
use Rattle.standard_trees.specs.RuleWords.{ResetMode}
use Rattle.standard_trees.specs.TreeRules.{rules}
use Rattle.page_tokens.specs.declared.token.Tag.{Tag}
use Rattle.page_trees.specs.Constructs.{Constructs, HaveOneToken, IsCurrentTag, Outcome, all_performed}
use Rattle.page_trees.specs.Groups.{is_metadata_name}
use Rattle.page_trees.specs.HeadSteps.{after_element, before_element, closing_template}
use Rattle.page_trees.specs.LateMerges.{is_open}
use Rattle.page_trees.specs.Modes.{is_start_kind}
use Rattle.page_trees.specs.Names.{html_rows, rare_rows}
use Rattle.page_trees.specs.declared.builder.Next.{Next}
use Rattle.page_trees.specs.declared.builder.TreeBuilder.{TreeBuilder}
use Rattle.page_trees.specs.declared.name.Name.{Name}
use Rattle.page_trees.proofs.BuiltStacks.{past_beyond}
use Rattle.page_trees.proofs.RulesRun.{outcome, plainly}
use Rattle.page_trees.proofs.RulesTaken.{are_of_names, chosen, plain_tag, taken_tag}

pub in_head_known : are_of_names (rules InHead) ≡ true
unfolding rules html_rows rare_rows
in_head_known = refl

-- ---- elements of the head

-- what the rule for an element of the head does
abbrev pub head_actions : Name → List Action
head_actions name = before_element name ++ InsertElement ∷ after_element name

element_row : (b : Building) (name : Name) → is_metadata_name name ≡ true → chosen (plain_tag true name) b (rules InHead) ≡ plainly (head_actions name) Next.Done
unfolding rules
element_row b Name.Base h = refl
element_row b Name.Basefont h = refl
element_row b Name.Bgsound h = refl
element_row b Name.Link h = refl
element_row b Name.Meta h = refl
element_row b Name.Noframes h = refl
element_row b Name.Script h = refl
element_row b Name.Style h = refl
element_row b Name.Template h = refl
element_row b Name.Title h = refl
element_row b _ h = absurd (cc)

pub performed_behind : (xs ys : List Action) (b : Building) → all_performed (xs ++ ys) b ≡ all_performed ys (all_performed xs b)
performed_behind [] ys b = refl
performed_behind (x ∷ xs) ys b = performed_behind xs ys (perform x b)

pub one_token_before : (name : Name) (b : Building) → HaveOneToken b (all_performed (before_element name) b)
unfolding perform
one_token_before Name.Template b = record { token = refl; attrs = refl }
one_token_before _ b = record { token = refl; attrs = refl }

one_token_after : (name : Name) (b : Building) → HaveOneToken b (all_performed (after_element name) b)
unfolding perform
one_token_after Name.Title b = record { token = refl; attrs = refl }
one_token_after Name.Noframes b = record { token = refl; attrs = refl }
one_token_after Name.Style b = record { token = refl; attrs = refl }
one_token_after Name.Noscript b = record { token = refl; attrs = refl }
one_token_after Name.Script b = record { token = refl; attrs = refl }
one_token_after Name.Template b = record { token = refl; attrs = refl }
one_token_after _ b = record { token = refl; attrs = refl }

inserted_token : (b : Building) → HaveOneToken b (perform InsertElement b)
unfolding perform
inserted_token b = record { token = refl; attrs = refl }

-- the current tag stays where the token does
pub stays_current : (name : Name) (tag : Tag) (b c : Building) → HaveOneToken b c → IsCurrentTag name tag b → IsCurrentTag name tag c
stays_current name tag b c same is = record {
  standard = is.standard;
  is = is.is;
  written = is.written;
  plain = is.plain;
  named = is.named;
  token = same.token ∙ is.token;
  attrs = same.attrs ∙ is.attrs ∙ ap token_attrs (sym same.token);
}

pub one_token_element : (name : Name) (b : Building) → HaveOneToken b (all_performed (head_actions name) b)
one_token_element name b =
    let front = one_token_before name b in
    let inner = inserted_token (all_performed (before_element name) b) in
    let last = one_token_after name (perform InsertElement (all_performed (before_element name) b)) in
    let e = performed_behind (before_element name) (InsertElement ∷ after_element name) b in
    record {
      token = ap (λ (c : Building). c.token) e ∙ last.token ∙ inner.token ∙ front.token;
      attrs = ap (λ (c : Building). c.attrs) e ∙ last.attrs ∙ inner.attrs ∙ front.attrs;
    }

pub element_opened : (name : Name) (tag : Tag) (b : Building) (new : TreeBuilder) → IsCurrentTag name tag b → is_start_kind tag.kind ≡ true → is_metadata_name name ≡ true →
    Constructs new (all_performed (after_element name) (perform InsertElement (all_performed (before_element name) b))) → Outcome InHead b new Next.Done
element_opened name tag b new c e known stands =
    outcome InHead b new (head_actions name) Next.Done
    (subst (Constructs new) (sym (performed_behind (before_element name) (InsertElement ∷ after_element name) b)) stands)
    (one_token_element name b) (taken_tag name tag b c true e (rules InHead) in_head_known ∙ element_row b name known)

pub element_taken : (name : Name) (tag : Tag) (b : Building) → IsCurrentTag name tag b → is_start_kind tag.kind ≡ true → is_metadata_name name ≡ true →
    taken b (rules InHead) ≡ plainly (head_actions name) Next.Done
element_taken name tag b c e known = taken_tag name tag b c true e (rules InHead) in_head_known ∙ element_row b name known

-- ---- the end tag of a template

apart : (name : List ℕ) → (is_among name thoroughly_implied && not (is_among name [])) ≡ true → is_among name (codes "template" ∷ []) ≡ false
apart name h = by (bytes_eq name (codes "template")) refl
  where
    by : (x : Bool) → bytes_eq name (codes "template") ≡ x → (x || false) ≡ false
    by true e = absurd (true≢false (sym h ∙ ap (λ k. is_among k thoroughly_implied && not (is_among k [])) ((bytes_eq-Decides name (codes "template")).0 e)))
    by false e = refl

-- implied end tags are generated in vain
implied_in_vain : (t : GrowingTree) → popped_until (codes "template" ∷ []) (implied_of thoroughly_implied [] t) ≡ popped_until (codes "template" ∷ []) t
implied_in_vain t =
    ap (with_stack t) (past_beyond (λ n. is_one t thoroughly_implied n && not (is_one t [] n)) (is_one t (codes "template" ∷ [])) (λ n h. apart (key t n) h) t.stack)

abbrev closing_rest : List Action
closing_rest = ClearListToMarker ∷ PopTemplateMode ∷ ResetMode ∷ []

abbrev template_acts : Bool → List Act
template_acts x = elim (not x && true) [ true ↦ [] | false ↦ plainly (AllImpliedEndTags ∷ closing_template) Next.Done ]

template_row : (b : Building) (x : Bool) → is_open (codes "template") b.tree ≡ x → chosen (plain_tag false Name.Template) b (rules InHead) ≡ template_acts x
unfolding rules
template_row b x e = ap template_acts e

pub template_ignored : (tag : Tag) (b : Building) (new : TreeBuilder) → IsCurrentTag Name.Template tag b → is_start_kind tag.kind ≡ false → is_open (codes "template") b.tree ≡ false →
    Constructs new b → Outcome InHead b new Next.Done
template_ignored tag b new c e none stands =
    outcome InHead b new [] Next.Done stands (record { token = refl; attrs = refl })
    (taken_tag Name.Template tag b c false e (rules InHead) in_head_known ∙ template_row b false none)

pub template_closed : (tag : Tag) (b : Building) (new : TreeBuilder) → IsCurrentTag Name.Template tag b → is_start_kind tag.kind ≡ false → is_open (codes "template") b.tree ≡ true →
    Constructs new (all_performed closing_template b) → Outcome InHead b new Next.Done
unfolding perform
template_closed tag b new c e some stands =
    let now : Constructs new (all_performed (AllImpliedEndTags ∷ closing_template) b) =
    subst (λ (t : GrowingTree). Constructs new (all_performed closing_rest (with_tree b t))) (sym (implied_in_vain b.tree)) stands in
    outcome InHead b new (AllImpliedEndTags ∷ closing_template) Next.Done now (record { token = refl; attrs = refl })
    (taken_tag Name.Template tag b c false e (rules InHead) in_head_known ∙ template_row b true some)
