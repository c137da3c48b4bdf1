-- What the rules for "in body" make of the end tags of each group.
use Rattle.std.proofs.Common.{◌≡◌, ℕ, Bool, true, false, ◌&&◌, not, List, [], ◌∷◌, codes, refl, sym, ap, subst, ◌∙◌, true≢false}
use Rattle.std.specs.Prelude.{string_bytes}
use Rattle.standard_trees.specs.Building.{Building, own_name, perform, taken, with_tree}
use Rattle.standard_trees.specs.GrowingTree.{GrowingTree, has_in_scope, in_scope, is_one as is_one_of, popped_until}
use Rattle.standard_trees.specs.NameLists.{headings, implied}
use Rattle.standard_trees.specs.RuleWords.{Act, AfterBody, AnyOtherEndTag, ButtonScope, CloseP, FramesetNotOk, ImpliedEndTags, ImpliedEndTagsBut, InBody, InsertNamed, ListItemScope, Own, Pop}
use Rattle.standard_trees.specs.RuleWords.{PopUntil, ReconstructFormatting, Scope as DefaultScope, ScopeKind, SwitchTo, These, does}
use Rattle.standard_trees.specs.TreeRules.{rules}
use Rattle.page_tokens.specs.declared.token.Tag.{Tag}
use Rattle.page_trees.specs.BodyTags.{Acts, ChangesTree, EndsInBody, acted, ends_otherwise, implying_p}
use Rattle.page_trees.specs.Closing.{closed_before, is_special_node}
use Rattle.page_trees.specs.Constructs.{Constructs, IsCurrentTag, Outcome, Performs, all_performed}
use Rattle.page_trees.specs.Groups.{group_named}
use Rattle.page_trees.specs.Modes.{is_start_kind}
use Rattle.page_trees.specs.Names.{text_of}
use Rattle.page_trees.specs.Scopes.{is_name}
use Rattle.page_trees.specs.Stands.{Does, IsOtherName, closed_in}
use Rattle.page_trees.specs.TreeState.{TreeState}
use Rattle.page_trees.specs.declared.builder.Next.{Next}
use Rattle.page_trees.specs.declared.builder.TreeBuilder.{TreeBuilder}
use Rattle.page_trees.specs.declared.modes.groups.Group.{Group}
use Rattle.page_trees.specs.declared.name.Name.{Name}
use Rattle.page_trees.proofs.BodyRules.{are_all_done, choice, end_rows, end_rules_for, ended_by, outcome_of_acts, own_of_end, written_of_end}
use Rattle.page_trees.proofs.BodyStarts.{stepped}
use Rattle.page_trees.proofs.BuiltStacks.{implied_first}
use Rattle.page_trees.proofs.ClosedElements.{any_other_is, are_apart, implied_apart}
use Rattle.page_trees.proofs.OtherNamesClosed.{other_name}
use Rattle.page_trees.proofs.RulesRun.{outcome, plainly}

-- ---- the rules of a group

-- an end tag for which the rules are the same
abbrev void_end : Name → Name
void_end Name.Br = Name.Br
void_end name = Name.Span

abbrev example_end : Group → Name → Name
example_end Group.Block name = Name.Div
example_end Group.Button name = Name.Div
example_end Group.Pre name = Name.Div
example_end Group.Select name = Name.Div
example_end Group.Heading name = Name.H1
example_end Group.Description name = Name.Dd
example_end Group.Object name = Name.Object
example_end Group.A name = Name.B
example_end Group.Formatting name = Name.B
example_end Group.Nobr name = Name.B
example_end Group.Html name = name
example_end Group.Template name = name
example_end Group.Body name = name
example_end Group.P name = name
example_end Group.Form name = name
example_end Group.Li name = name
example_end Group.Void name = void_end name
example_end group name = Name.Span

ends_follow : (name : Name) → end_rules_for name ≡ end_rules_for (example_end (group_named name) name)
unfolding rules
ends_follow Name.Html = refl
ends_follow _ = refl

pub group_end : (group : Group) (name : Name) (tag : Tag) (b : Building) → group_named name ≡ group → IsCurrentTag name tag b → is_start_kind tag.kind ≡ false →
    taken b (rules InBody) ≡ choice b (end_rules_for (example_end group name))
group_end group name tag b e c ends =
    end_rows name tag b c ends ∙ ap (choice b) (ends_follow name ∙ ap (λ (g : Group). end_rules_for (example_end g name)) e)

abbrev is_ordinary : Group → Bool
is_ordinary Group.Ordinary = true
is_ordinary _ = false

-- a name of another group is known
pub known_group : (name : Name) (group : Group) → group_named name ≡ group → is_ordinary group ≡ false → is_name name Name.Other ≡ false
known_group Name.Other group e h = absurd (true≢false (ap is_ordinary e ∙ h))
known_group _ group e h = refl

pub no_other : (name : Name) → is_name name Name.Other ≡ false → name ≡ Name.Other → ⊥
no_other name known e = true≢false (sym (ap (λ (n : Name). is_name n Name.Other) e) ∙ known)

-- ---- the tree is changed

same_tree : (s : TreeBuilder) (b : Building) → Constructs s (with_tree b b.tree) → Constructs s b
same_tree s b c = record {
  tree = c.tree;
  foster = c.foster;
  in_head = c.in_head;
  mode = c.mode;
  original = c.original;
  template_modes = c.template_modes;
  frameset_ok = c.frameset_ok;
  scripting = c.scripting;
  quirks = c.quirks;
  unread = c.unread;
  pending = c.pending;
  skip = c.skip;
  tokenizer = c.tokenizer;
}

abbrev pub tree_if : Bool → GrowingTree → GrowingTree → GrowingTree
tree_if x t u = elim x [ true ↦ t | false ↦ u ]

pub fosters_if : (x : Bool) (t u v : GrowingTree) → t.fostering ≡ v.fostering → u.fostering ≡ v.fostering → (tree_if x t u).fostering ≡ v.fostering
fosters_if true t u v e f = e
fosters_if false t u v e f = f

pub closing_step : (old : TreeBuilder) (tree : TreeState) (kind : ScopeKind) (names : List (List ℕ)) → Does (closed_in kind names) old.tree tree →
    ChangesTree (closed_in kind names) old (record old { tree = tree })
closing_step old tree kind names closing within b c =
    stepped old tree (closed_in kind names) closing b (fosters_if (has_in_scope kind names b.tree) (popped_until names b.tree) b.tree b.tree refl refl) c

pub other_step : (old : TreeBuilder) (tree : TreeState) (names : List (List ℕ)) → Does (closed_before is_special_node names) old.tree tree →
    ChangesTree (closed_before is_special_node names) old (record old { tree = tree })
other_step old tree names closing within b c =
    stepped old tree (closed_before is_special_node names) closing b
    (fosters_if (in_scope (is_one_of b.tree names) (is_special_node b.tree) b.tree.stack) (popped_until names b.tree) b.tree b.tree refl refl) c

-- ---- an element in scope is closed, or the tag is ignored

abbrev pub acts_if : Bool → List Act → List Act
acts_if x acts = elim (not x && true) [ true ↦ [] | false ↦ acts ]

pub closes_so : (b : Building) (new : TreeBuilder) (kind : ScopeKind) (names : List (List ℕ)) (acts : List Act) (after : GrowingTree) → are_all_done acts ≡ true →
    taken b (rules InBody) ≡ acts_if (has_in_scope kind names b.tree) acts → acted acts b ≡ with_tree b after →
    Constructs new (with_tree b (tree_if (has_in_scope kind names b.tree) after b.tree)) → Outcome InBody b new Next.Done
closes_so b new kind names acts after done row same stands = by (has_in_scope kind names b.tree) refl
  where
    by : (x : Bool) → has_in_scope kind names b.tree ≡ x → Outcome InBody b new Next.Done
    by true e = outcome_of_acts InBody b new acts done (row ∙ ap (λ x. acts_if x acts) e)
        (subst (Constructs new) (sym same) (subst (λ x. Constructs new (with_tree b (tree_if x after b.tree))) e stands))
    by false e = outcome_of_acts InBody b new [] refl (row ∙ ap (λ x. acts_if x acts) e)
        (same_tree new b (subst (λ x. Constructs new (with_tree b (tree_if x after b.tree))) e stands))

pub closes : (b : Building) (new : TreeBuilder) (kind : ScopeKind) (names : List (List ℕ)) (acts : List Act) → are_all_done acts ≡ true →
    taken b (rules InBody) ≡ acts_if (has_in_scope kind names b.tree) acts → acted acts b ≡ with_tree b (popped_until names b.tree) →
    Constructs new (with_tree b (closed_in kind names b.tree)) → Outcome InBody b new Next.Done
closes b new kind names acts done row same stands = closes_so b new kind names acts (popped_until names b.tree) done row same stands

implied_acts : (b : Building) → are_apart implied (own_name b.token ∷ []) ≡ true →
    acted (does ImpliedEndTags [] ∷ does (PopUntil Own) [] ∷ []) b ≡ with_tree b (popped_until (own_name b.token ∷ []) b.tree)
unfolding perform
implied_acts b h = ap (with_tree b) (implied_apart (own_name b.token ∷ []) h b.tree)

div_row : (b : Building) → choice b (end_rules_for Name.Div) ≡
    acts_if (has_in_scope DefaultScope (own_name b.token ∷ []) b.tree) (does ImpliedEndTags [] ∷ does (PopUntil Own) [] ∷ [])
unfolding rules
div_row b = refl

abbrev ends_as_block : Group → Bool
ends_as_block Group.Block = true
ends_as_block Group.Button = true
ends_as_block Group.Pre = true
ends_as_block Group.Select = true
ends_as_block _ = false

block_apart : (name : Name) → ends_as_block (group_named name) ≡ true → are_apart implied (text_of name ∷ []) ≡ true
block_apart Name.Dd h = absurd (true≢false (sym h))
block_apart Name.Dt h = absurd (true≢false (sym h))
block_apart Name.Li h = absurd (true≢false (sym h))
block_apart Name.Optgroup h = absurd (true≢false (sym h))
block_apart Name.Option h = absurd (true≢false (sym h))
block_apart Name.P h = absurd (true≢false (sym h))
block_apart Name.Rb h = absurd (true≢false (sym h))
block_apart Name.Rp h = absurd (true≢false (sym h))
block_apart Name.Rt h = absurd (true≢false (sym h))
block_apart Name.Rtc h = absurd (true≢false (sym h))
block_apart _ h = refl

block_example : (group : Group) (name : Name) → ends_as_block group ≡ true → example_end group name ≡ Name.Div
block_example Group.Block name h = refl
block_example Group.Button name h = refl
block_example Group.Pre name h = refl
block_example Group.Select name h = refl
block_example _ name h = absurd (cc)

block_known : (group : Group) → ends_as_block group ≡ true → is_ordinary group ≡ false
block_known Group.Ordinary h = absurd (true≢false (sym h))
block_known _ h = refl

-- the end tag of a block
pub block_ended : (group : Group) (name : Name) (tag : Tag) (old new : TreeBuilder) (next : Next) → group_named name ≡ group → ends_as_block group ≡ true → next ≡ Next.Done →
    (is_name name Name.Other ≡ false → ChangesTree (closed_in DefaultScope (text_of name ∷ [])) old new) → EndsInBody name tag old new next
block_ended group name tag old new next e block done changes covers ends within b current stands test =
    let known = known_group name group e (block_known group block) in
    let own : own_name b.token ≡ text_of name = own_of_end name tag b current ends (no_other name known) in
    let after = subst (λ w. Constructs new (with_tree b (closed_in DefaultScope (w ∷ []) b.tree))) (sym own) (changes known within b stands) in
    let apart = subst (λ w. are_apart implied (w ∷ []) ≡ true) (sym own) (block_apart name (ap ends_as_block e ∙ block)) in
    subst (λ (n : Next). Outcome InBody b new n) (sym done)
    (closes b new DefaultScope (own_name b.token ∷ []) (does ImpliedEndTags [] ∷ does (PopUntil Own) [] ∷ []) refl
    (group_end group name tag b e current ends ∙ ap (λ (n : Name). choice b (end_rules_for n)) (block_example group name block) ∙ div_row b)
    (implied_acts b apart) after)

-- ---- `dd` and `dt`, `li`, and headings

dd_row : (b : Building) → choice b (end_rules_for Name.Dd) ≡
    acts_if (has_in_scope DefaultScope (own_name b.token ∷ []) b.tree) (does (ImpliedEndTagsBut Own) [] ∷ does (PopUntil Own) [] ∷ [])
unfolding rules
dd_row b = refl

dd_acts : (b : Building) → acted (does (ImpliedEndTagsBut Own) [] ∷ does (PopUntil Own) [] ∷ []) b ≡ with_tree b (popped_until (own_name b.token ∷ []) b.tree)
unfolding perform
dd_acts b = ap (with_tree b) (implied_first (own_name b.token ∷ []) implied b.tree)

pub description_ended : (name : Name) (tag : Tag) (old new : TreeBuilder) (next : Next) → group_named name ≡ Group.Description → next ≡ Next.Done →
    (is_name name Name.Other ≡ false → ChangesTree (closed_in DefaultScope (text_of name ∷ [])) old new) → EndsInBody name tag old new next
description_ended name tag old new next e done changes covers ends within b current stands test =
    let known = known_group name Group.Description e refl in
    let own : own_name b.token ≡ text_of name = own_of_end name tag b current ends (no_other name known) in
    let after = subst (λ w. Constructs new (with_tree b (closed_in DefaultScope (w ∷ []) b.tree))) (sym own) (changes known within b stands) in
    subst (λ (n : Next). Outcome InBody b new n) (sym done)
    (closes b new DefaultScope (own_name b.token ∷ []) (does (ImpliedEndTagsBut Own) [] ∷ does (PopUntil Own) [] ∷ []) refl
    (group_end Group.Description name tag b e current ends ∙ dd_row b) (dd_acts b) after)

li_named : (name : Name) → group_named name ≡ Group.Li → name ≡ Name.Li
li_named Name.Li e = refl
li_named _ e = absurd (cc)

li_row : (b : Building) → choice b (end_rules_for Name.Li) ≡
    acts_if (has_in_scope ListItemScope (codes "li" ∷ []) b.tree) (does (ImpliedEndTagsBut (These (codes "li" ∷ []))) [] ∷ does (PopUntil (These (codes "li" ∷ []))) [] ∷ [])
unfolding rules
li_row b = refl

li_acts : (b : Building) → acted (does (ImpliedEndTagsBut (These (codes "li" ∷ []))) [] ∷ does (PopUntil (These (codes "li" ∷ []))) [] ∷ []) b
    ≡ with_tree b (popped_until (codes "li" ∷ []) b.tree)
unfolding perform
li_acts b = ap (with_tree b) (implied_first (codes "li" ∷ []) implied b.tree)

pub li_ended : (name : Name) (tag : Tag) (old new : TreeBuilder) (next : Next) → group_named name ≡ Group.Li → next ≡ Next.Done →
    (is_name name Name.Other ≡ false → ChangesTree (closed_in ListItemScope (text_of name ∷ [])) old new) → EndsInBody name tag old new next
li_ended name tag old new next e done changes covers ends within b current stands test =
    let after = subst (λ (n : Name). Constructs new (with_tree b (closed_in ListItemScope (text_of n ∷ []) b.tree))) (li_named name e)
    (changes (known_group name Group.Li e refl) within b stands) in
    subst (λ (n : Next). Outcome InBody b new n) (sym done)
    (closes b new ListItemScope (codes "li" ∷ []) (does (ImpliedEndTagsBut (These (codes "li" ∷ []))) [] ∷ does (PopUntil (These (codes "li" ∷ []))) [] ∷ []) refl
    (group_end Group.Li name tag b e current ends ∙ ap (λ (n : Name). choice b (end_rules_for n)) (li_named name e) ∙ li_row b) (li_acts b) after)

heading_row : (b : Building) → choice b (end_rules_for Name.H1) ≡
    acts_if (has_in_scope DefaultScope headings b.tree) (does ImpliedEndTags [] ∷ does (PopUntil (These headings)) [] ∷ [])
unfolding rules
heading_row b = refl

heading_acts : (b : Building) → acted (does ImpliedEndTags [] ∷ does (PopUntil (These headings)) [] ∷ []) b ≡ with_tree b (popped_until headings b.tree)
unfolding perform
heading_acts b = ap (with_tree b) (implied_apart headings refl b.tree)

pub heading_ended : (name : Name) (tag : Tag) (old new : TreeBuilder) (next : Next) → group_named name ≡ Group.Heading → next ≡ Next.Done →
    ChangesTree (closed_in DefaultScope headings) old new → EndsInBody name tag old new next
heading_ended name tag old new next e done changes covers ends within b current stands test =
    subst (λ (n : Next). Outcome InBody b new n) (sym done)
    (closes b new DefaultScope headings (does ImpliedEndTags [] ∷ does (PopUntil (These headings)) [] ∷ []) refl
    (group_end Group.Heading name tag b e current ends ∙ heading_row b) (heading_acts b) (changes within b stands))

-- ---- `br`, and any other end tag

br_row : (b : Building) → choice b (end_rules_for Name.Br) ≡
    does ReconstructFormatting [] ∷ does (InsertNamed (codes "br")) [] ∷ does Pop [] ∷ does FramesetNotOk [] ∷ []
unfolding rules
br_row b = refl

pub br_ended : (name : Name) (tag : Tag) (old new : TreeBuilder) (next : Next) → name ≡ Name.Br → next ≡ Next.Done →
    Performs (ReconstructFormatting ∷ InsertNamed (codes "br") ∷ Pop ∷ FramesetNotOk ∷ []) old new → EndsInBody name tag old new next
br_ended name tag old new next e done rule covers ends within b current stands test =
    subst (λ (n : Next). Outcome InBody b new n) (sym done)
    (ended_by name tag b new (does ReconstructFormatting [] ∷ does (InsertNamed (codes "br")) [] ∷ does Pop [] ∷ does FramesetNotOk [] ∷ []) current ends
    (ap (λ (n : Name). choice b (end_rules_for n)) e ∙ br_row b) refl (rule within b stands))

span_row : (b : Building) → choice b (end_rules_for Name.Span) ≡ does AnyOtherEndTag [] ∷ []
unfolding rules
span_row b = refl

other_acts : (b : Building) → acted (does AnyOtherEndTag [] ∷ []) b ≡ with_tree b (closed_before is_special_node (own_name b.token ∷ []) b.tree)
unfolding perform
other_acts b = ap (with_tree b) (any_other_is (own_name b.token) b.tree)

void_span : (name : Name) → (name ≡ Name.Br → ⊥) → void_end name ≡ Name.Span
void_span Name.Br other = absurd (other refl)
void_span _ other = refl

span_like : (group : Group) (name : Name) → ends_otherwise group ≡ true → (name ≡ Name.Br → ⊥) → example_end group name ≡ Name.Span
span_like Group.Block name h other = absurd (true≢false (sym h))
span_like Group.Button name h other = absurd (true≢false (sym h))
span_like Group.Pre name h other = absurd (true≢false (sym h))
span_like Group.Select name h other = absurd (true≢false (sym h))
span_like Group.Heading name h other = absurd (true≢false (sym h))
span_like Group.Description name h other = absurd (true≢false (sym h))
span_like Group.Object name h other = absurd (true≢false (sym h))
span_like Group.A name h other = absurd (true≢false (sym h))
span_like Group.Formatting name h other = absurd (true≢false (sym h))
span_like Group.Nobr name h other = absurd (true≢false (sym h))
span_like Group.Html name h other = absurd (true≢false (sym h))
span_like Group.Template name h other = absurd (true≢false (sym h))
span_like Group.Body name h other = absurd (true≢false (sym h))
span_like Group.P name h other = absurd (true≢false (sym h))
span_like Group.Form name h other = absurd (true≢false (sym h))
span_like Group.Li name h other = absurd (true≢false (sym h))
span_like Group.Void name h other = void_span name other
span_like _ name h other = refl

-- the name of an end tag that is not in `Name`
other_named : (name : Name) (tag : Tag) (b : Building) → (c : IsCurrentTag name tag b) → is_name name Name.Other ≡ true → IsOtherName name (string_bytes tag.name) c.standard.name
other_named name tag b c h =
    let other = other_name name h in
    record { tag = c.written; other = other; unknown = sym c.named ∙ other; spelt = c.is.name }

pub other_ended : (name : Name) (tag : Tag) (old new : TreeBuilder) → ends_otherwise (group_named name) ≡ true → (name ≡ Name.Br → ⊥) →
    (is_name name Name.Other ≡ false → ChangesTree (closed_before is_special_node (text_of name ∷ [])) old new) →
    ((text : List ℕ) → IsOtherName name (string_bytes tag.name) text → ChangesTree (closed_before is_special_node (text ∷ [])) old new) →
    EndsInBody name tag old new Next.Done
other_ended name tag old new otherwise no_br changes unknown covers ends within b current stands test =
    outcome_of_acts InBody b new (does AnyOtherEndTag [] ∷ []) refl
    (group_end (group_named name) name tag b refl current ends ∙ ap (λ (n : Name). choice b (end_rules_for n)) (span_like (group_named name) name otherwise no_br) ∙ span_row b)
    (subst (Constructs new) (sym (other_acts b)) (by (is_name name Name.Other) refl))
  where
    by : (x : Bool) → is_name name Name.Other ≡ x → Constructs new (with_tree b (closed_before is_special_node (own_name b.token ∷ []) b.tree))
    by false e = subst (λ w. Constructs new (with_tree b (closed_before is_special_node (w ∷ []) b.tree))) (sym (own_of_end name tag b current ends (no_other name e)))
        (changes e within b stands)
    by true e = subst (λ w. Constructs new (with_tree b (closed_before is_special_node (w ∷ []) b.tree))) (sym (written_of_end name tag b current ends))
        (unknown current.standard.name (other_named name tag b current e) within b stands)

-- the end tags of the groups that are left
pub left_over : (group : Group) → (group ≡ Group.Block → ⊥) → (group ≡ Group.Button → ⊥) → (group ≡ Group.Pre → ⊥) → (group ≡ Group.Select → ⊥) → (group ≡ Group.Heading → ⊥) →
    (group ≡ Group.Description → ⊥) → (group ≡ Group.Object → ⊥) → (group ≡ Group.A → ⊥) → (group ≡ Group.Formatting → ⊥) → (group ≡ Group.Nobr → ⊥) → (group ≡ Group.Html → ⊥) →
    (group ≡ Group.Template → ⊥) → (group ≡ Group.Body → ⊥) → (group ≡ Group.P → ⊥) → (group ≡ Group.Form → ⊥) → (group ≡ Group.Li → ⊥) → ends_otherwise group ≡ true
left_over Group.Block h1 h2 h3 h4 h5 h6 h7 h8 h9 h10 h11 h12 h13 h14 h15 h16 = absurd (h1 refl)
left_over Group.Button h1 h2 h3 h4 h5 h6 h7 h8 h9 h10 h11 h12 h13 h14 h15 h16 = absurd (h2 refl)
left_over Group.Pre h1 h2 h3 h4 h5 h6 h7 h8 h9 h10 h11 h12 h13 h14 h15 h16 = absurd (h3 refl)
left_over Group.Select h1 h2 h3 h4 h5 h6 h7 h8 h9 h10 h11 h12 h13 h14 h15 h16 = absurd (h4 refl)
left_over Group.Heading h1 h2 h3 h4 h5 h6 h7 h8 h9 h10 h11 h12 h13 h14 h15 h16 = absurd (h5 refl)
left_over Group.Description h1 h2 h3 h4 h5 h6 h7 h8 h9 h10 h11 h12 h13 h14 h15 h16 = absurd (h6 refl)
left_over Group.Object h1 h2 h3 h4 h5 h6 h7 h8 h9 h10 h11 h12 h13 h14 h15 h16 = absurd (h7 refl)
left_over Group.A h1 h2 h3 h4 h5 h6 h7 h8 h9 h10 h11 h12 h13 h14 h15 h16 = absurd (h8 refl)
left_over Group.Formatting h1 h2 h3 h4 h5 h6 h7 h8 h9 h10 h11 h12 h13 h14 h15 h16 = absurd (h9 refl)
left_over Group.Nobr h1 h2 h3 h4 h5 h6 h7 h8 h9 h10 h11 h12 h13 h14 h15 h16 = absurd (h10 refl)
left_over Group.Html h1 h2 h3 h4 h5 h6 h7 h8 h9 h10 h11 h12 h13 h14 h15 h16 = absurd (h11 refl)
left_over Group.Template h1 h2 h3 h4 h5 h6 h7 h8 h9 h10 h11 h12 h13 h14 h15 h16 = absurd (h12 refl)
left_over Group.Body h1 h2 h3 h4 h5 h6 h7 h8 h9 h10 h11 h12 h13 h14 h15 h16 = absurd (h13 refl)
left_over Group.P h1 h2 h3 h4 h5 h6 h7 h8 h9 h10 h11 h12 h13 h14 h15 h16 = absurd (h14 refl)
left_over Group.Form h1 h2 h3 h4 h5 h6 h7 h8 h9 h10 h11 h12 h13 h14 h15 h16 = absurd (h15 refl)
left_over Group.Li h1 h2 h3 h4 h5 h6 h7 h8 h9 h10 h11 h12 h13 h14 h15 h16 = absurd (h16 refl)
left_over _ h1 h2 h3 h4 h5 h6 h7 h8 h9 h10 h11 h12 h13 h14 h15 h16 = refl

-- ---- `p`

p_row : (b : Building) → choice b (end_rules_for Name.P) ≡ implying_p ∷ does CloseP [] ∷ []
unfolding rules
p_row b = refl

pub p_named : (name : Name) → group_named name ≡ Group.P → name ≡ Name.P
p_named Name.P e = refl
p_named _ e = absurd (cc)

pub p_ended : (name : Name) (tag : Tag) (old new : TreeBuilder) (next : Next) → group_named name ≡ Group.P → next ≡ Next.Done → Acts (implying_p ∷ does CloseP [] ∷ []) old new → EndsInBody name tag old new next
p_ended name tag old new next e done acts covers ends within b current stands test =
    subst (λ (n : Next). Outcome InBody b new n) (sym done)
    (outcome_of_acts InBody b new (implying_p ∷ does CloseP [] ∷ []) refl
    (group_end Group.P name tag b e current ends ∙ ap (λ (n : Name). choice b (end_rules_for n)) (p_named name e) ∙ p_row b) (acts within b stands))

abbrev made_unless : Bool → Building → Building
made_unless x b = elim (not x && true) [ true ↦ perform (InsertNamed (codes "p")) b | false ↦ b ]

-- whether a `p` is in scope, a `p` is inserted
pub p_implied : (s new : TreeBuilder) (b : Building) (x : Bool) → x ≡ false → x ≡ has_in_scope ButtonScope (codes "p" ∷ []) b.tree → Constructs new (perform (InsertNamed (codes "p")) b) →
    Constructs new (acted (implying_p ∷ []) b)
p_implied s new b x f e c = subst (λ y. Constructs new (made_unless y b)) (sym f ∙ e) c

pub p_there : (s : TreeBuilder) (b : Building) (x : Bool) → x ≡ true → x ≡ has_in_scope ButtonScope (codes "p" ∷ []) b.tree → Constructs s b → Constructs s (acted (implying_p ∷ []) b)
p_there s b x f e c = subst (λ y. Constructs s (made_unless y b)) (sym f ∙ e) c

-- ---- `body` and `html`

body_row : (b : Building) → choice b (end_rules_for Name.Body) ≡ acts_if (has_in_scope DefaultScope (codes "body" ∷ []) b.tree) (plainly (SwitchTo AfterBody ∷ []) Next.Done)
unfolding rules
body_row b = refl

html_row : (b : Building) → choice b (end_rules_for Name.Html) ≡ acts_if (has_in_scope DefaultScope (codes "body" ∷ []) b.tree) (plainly (SwitchTo AfterBody ∷ []) Next.Again)
unfolding rules
html_row b = refl

pub body_left : (tag : Tag) (b : Building) (new : TreeBuilder) (x : Bool) → x ≡ true → x ≡ has_in_scope DefaultScope (codes "body" ∷ []) b.tree → IsCurrentTag Name.Body tag b → is_start_kind tag.kind ≡ false →
    Constructs new (all_performed (SwitchTo AfterBody ∷ []) b) → Outcome InBody b new Next.Done
unfolding perform
body_left tag b new x f e current ends stands =
    outcome InBody b new (SwitchTo AfterBody ∷ []) Next.Done stands (record { token = refl; attrs = refl })
    (end_rows Name.Body tag b current ends ∙ body_row b ∙ ap (λ y. acts_if y (plainly (SwitchTo AfterBody ∷ []) Next.Done)) (sym e ∙ f))

pub html_left : (tag : Tag) (b : Building) (new : TreeBuilder) (x : Bool) → x ≡ true → x ≡ has_in_scope DefaultScope (codes "body" ∷ []) b.tree → IsCurrentTag Name.Html tag b → is_start_kind tag.kind ≡ false →
    Constructs new (all_performed (SwitchTo AfterBody ∷ []) b) → Outcome InBody b new Next.Again
unfolding perform
html_left tag b new x f e current ends stands =
    outcome InBody b new (SwitchTo AfterBody ∷ []) Next.Again stands (record { token = refl; attrs = refl })
    (end_rows Name.Html tag b current ends ∙ html_row b ∙ ap (λ y. acts_if y (plainly (SwitchTo AfterBody ∷ []) Next.Again)) (sym e ∙ f))

pub body_stays : (tag : Tag) (b : Building) (s : TreeBuilder) (x : Bool) → x ≡ false → x ≡ has_in_scope DefaultScope (codes "body" ∷ []) b.tree → IsCurrentTag Name.Body tag b → is_start_kind tag.kind ≡ false →
    Constructs s b → Outcome InBody b s Next.Done
body_stays tag b s x f e current ends stands =
    outcome InBody b s [] Next.Done stands (record { token = refl; attrs = refl })
    (end_rows Name.Body tag b current ends ∙ body_row b ∙ ap (λ y. acts_if y (plainly (SwitchTo AfterBody ∷ []) Next.Done)) (sym e ∙ f))

pub html_stays : (tag : Tag) (b : Building) (s : TreeBuilder) (x : Bool) → x ≡ false → x ≡ has_in_scope DefaultScope (codes "body" ∷ []) b.tree → IsCurrentTag Name.Html tag b → is_start_kind tag.kind ≡ false →
    Constructs s b → Outcome InBody b s Next.Done
html_stays tag b s x f e current ends stands =
    outcome InBody b s [] Next.Done stands (record { token = refl; attrs = refl })
    (end_rows Name.Html tag b current ends ∙ html_row b ∙ ap (λ y. acts_if y (plainly (SwitchTo AfterBody ∷ []) Next.Again)) (sym e ∙ f))

-- a group of one name
pub ends_by_name : (example : Group) (name one : Name) (tag : Tag) (old new : TreeBuilder) (next : Next) → group_named name ≡ example → (group_named name ≡ example → name ≡ one) →
    EndsInBody one tag old new next → EndsInBody name tag old new next
ends_by_name example name one tag old new next e f rule = subst (λ (n : Name). EndsInBody n tag old new next) (sym (f e)) rule

pub body_named : (name : Name) → group_named name ≡ Group.Body → name ≡ Name.Body
body_named Name.Body e = refl
body_named _ e = absurd (cc)

pub html_named : (name : Name) → group_named name ≡ Group.Html → name ≡ Name.Html
html_named Name.Html e = refl
html_named _ e = absurd (cc)
