-- What the rules for "in body" make of the start tags of each group.
use Rattle.std.proofs.Common.{◌≡◌, ◌⊎◌, inl, inr, ℕ, Bool, true, false, ◌&&◌, List, [], ◌∷◌, codes, refl, sym, ap, subst, ◌∙◌, true≢false}
use Rattle.standard_trees.specs.Building.{Building, perform, token_attrs, with_tree}
use Rattle.std.specs.Prelude.{Some}
use Rattle.standard_trees.specs.GrowingTree.{GrowingTree, current as top_of, has_in_scope, in_scope, is_one as is_one_of, popped_until}
use Rattle.standard_trees.specs.NameLists.{headings}
use Rattle.standard_trees.specs.RuleWords.{Act, Action, ButtonScope, CloseItems, CloseP, CurrentNode, FramesetNotOk, ImpliedEndTags, InBody, InsertElement, ListMarker, PlainText, Pop, PopUntil}
use Rattle.standard_trees.specs.RuleWords.{ReconstructFormatting, Scope as DefaultScope, SkipNextLineFeed, These, TokenizerTo, does, is}
use Rattle.standard_trees.specs.TreeRules.{rules}
use Rattle.page_tokens.specs.declared.token.Tag.{Tag}
use Rattle.page_tokens.specs.declared.token.TagKind.{TagKind}
use Rattle.page_tokens.specs.declared.tokenizer.state.State.{State}
use Rattle.page_trees.specs.BodyTags.{ActsFor, Begins, Continues, EndsInBody, IsContinued, ProcessesInBody, acted, begun, covers_body, covers_end, covers_start}
use Rattle.page_trees.specs.BodyTags.{ends_in, starts_in, suits_body}
use Rattle.page_trees.specs.BodyTags.{is_inline, is_phrase, is_texty, only_if}
use Rattle.page_trees.specs.Closing.{closed_before, ends_items_node, item_texts}
use Rattle.page_trees.specs.Constructs.{Constructs, IsCurrentTag, Outcome, Performs, PerformsFor, RemembersLimits, WithinLimits}
use Rattle.page_trees.specs.Groups.{body_rules_for, example_of, group_named}
use Rattle.page_trees.specs.Modes.{is_start_kind}
use Rattle.page_trees.specs.Stands.{Does, closed_in, popped, popped_if}
use Rattle.page_trees.specs.TreeState.{TreeState}
use Rattle.page_trees.specs.declared.builder.Next.{Next}
use Rattle.page_trees.specs.declared.builder.TreeBuilder.{TreeBuilder}
use Rattle.page_trees.specs.declared.modes.groups.Group.{Group}
use Rattle.page_trees.specs.declared.name.Name.{Name}
use Rattle.page_trees.proofs.BodyRules.{are_all_done, choice, started_by}
use Rattle.page_trees.proofs.BuilderSteps.{moved}
use Rattle.page_trees.proofs.BuiltStacks.{paragraph_closed}
use Rattle.page_trees.proofs.ClosedElements.{implied_apart, item_is}

-- ---- general steps

-- the current tag stays where the token does
pub still : (name : Name) (tag : Tag) (b c : Building) → c.token ≡ b.token → c.attrs ≡ b.attrs → IsCurrentTag name tag b → IsCurrentTag name tag c
still name tag b c e f now = record {
  standard = now.standard;
  is = now.is;
  written = now.written;
  plain = now.plain;
  named = now.named;
  token = e ∙ now.token;
  attrs = f ∙ now.attrs ∙ ap token_attrs (sym e);
}

-- the tree is changed by a step that leaves foster parenting alone
pub stepped : (old : TreeBuilder) (tree : TreeState) (step : GrowingTree → GrowingTree) → Does step old.tree tree → (b : Building) → (step b.tree).fostering ≡ b.tree.fostering →
    Constructs old b → Constructs (record old { tree = tree }) (with_tree b (step b.tree))
stepped old tree step steps b same c = moved old (record old { tree = tree }) tree old.fault old.too_deep refl b (step b.tree) c (steps b.tree c.tree) same

abbrev tree_if : Bool → GrowingTree → GrowingTree → GrowingTree
tree_if x t u = elim x [ true ↦ t | false ↦ u ]

fosters_if : (x : Bool) (t u v : GrowingTree) → t.fostering ≡ v.fostering → u.fostering ≡ v.fostering → (tree_if x t u).fostering ≡ v.fostering
fosters_if true t u v e f = e
fosters_if false t u v e f = f

-- "if the stack of open elements has a p element in button scope, then close a p element"
pub paragraph_step : (old : TreeBuilder) (tree : TreeState) → Does (closed_in ButtonScope (codes "p" ∷ [])) old.tree tree → (b : Building) → Constructs old b →
    Constructs (record old { tree = tree }) (perform CloseP b)
unfolding perform
paragraph_step old tree closes b stands =
    subst (λ t. Constructs (record old { tree = tree }) (with_tree b t)) (paragraph_closed b.tree)
    (stepped old tree (closed_in ButtonScope (codes "p" ∷ [])) closes b
    (fosters_if (has_in_scope ButtonScope (codes "p" ∷ []) b.tree) (popped_until (codes "p" ∷ []) b.tree) b.tree b.tree refl refl) stands)

-- only where a test is met an action is performed
pub only_true : (x : Bool) (action : Action) (old new : TreeBuilder) → x ≡ true → Performs (action ∷ []) old new → Performs (only_if x action) old new
only_true true action old new e rule = rule
only_true false action old new e rule = absurd (true≢false (sym e))

pub only_false : (x : Bool) (action : Action) (s : TreeBuilder) → x ≡ false → Performs (only_if x action) s s
only_false false action s e within b c = c
only_false true action s e within b c = absurd (true≢false e)

-- the acts of a group's rule are done
pub continues : (group : Group) (acts : List Act) (name : Name) (tag : Tag) (old new : TreeBuilder) (next : Next) → ((b : Building) → choice b (body_rules_for (example_of group)) ≡ acts) →
    are_all_done acts ≡ true → next ≡ Next.Done → RemembersLimits old new → ((b : Building) → is_start_kind tag.kind ≡ true → WithinLimits new → IsCurrentTag name tag b → Constructs old (begun group b) → Constructs new (acted acts b)) →
    Continues group name tag old new next
continues group acts name tag old new next row done e remembers step covers named = record {
  limits = remembers;
  rule = λ starts within b current html stands test. subst (λ (n : Next). Outcome InBody b new n) (sym e)
      (started_by group name tag b new acts named current starts (row b) done (step b starts within current stands));
}

-- ---- the rows of the table

block_row : (b : Building) → choice b (body_rules_for (example_of Group.Block)) ≡ does CloseP [] ∷ does InsertElement [] ∷ []
unfolding rules
block_row b = refl

p_row : (b : Building) → choice b (body_rules_for (example_of Group.P)) ≡ does CloseP [] ∷ does InsertElement [] ∷ []
unfolding rules
p_row b = refl

stray_row : (b : Building) → choice b (body_rules_for (example_of Group.Stray)) ≡ []
unfolding rules
stray_row b = refl

ordinary_row : (b : Building) → choice b (body_rules_for (example_of Group.Ordinary)) ≡ does ReconstructFormatting [] ∷ does InsertElement [] ∷ []
unfolding rules
ordinary_row b = refl

void_row : (b : Building) → choice b (body_rules_for (example_of Group.Void)) ≡ does ReconstructFormatting [] ∷ does InsertElement [] ∷ does Pop [] ∷ does FramesetNotOk [] ∷ []
unfolding rules
void_row b = refl

param_row : (b : Building) → choice b (body_rules_for (example_of Group.Param)) ≡ does InsertElement [] ∷ does Pop [] ∷ []
unfolding rules
param_row b = refl

object_row : (b : Building) → choice b (body_rules_for (example_of Group.Object)) ≡
    does ReconstructFormatting [] ∷ does InsertElement [] ∷ does ListMarker [] ∷ does FramesetNotOk [] ∷ []
unfolding rules
object_row b = refl

-- ---- groups with one rule

pub block_started : (group : Group) (name : Name) (tag : Tag) (old new : TreeBuilder) (next : Next) → (group ≡ Group.Block) ⊎ (group ≡ Group.P) → next ≡ Next.Done → RemembersLimits old new →
    PerformsFor name tag (InsertElement ∷ []) old new → Continues group name tag old new next
unfolding perform
block_started group name tag old new next (inl e) done remembers inserts =
    subst (λ g. Continues g name tag old new next) (sym e)
    (continues Group.Block (does CloseP [] ∷ does InsertElement [] ∷ []) name tag old new next block_row refl done remembers
    (λ b starts within current stands. inserts starts within (perform CloseP b) (still name tag b (perform CloseP b) refl refl current) stands))
block_started group name tag old new next (inr e) done remembers inserts =
    subst (λ g. Continues g name tag old new next) (sym e)
    (continues Group.P (does CloseP [] ∷ does InsertElement [] ∷ []) name tag old new next p_row refl done remembers
    (λ b starts within current stands. inserts starts within (perform CloseP b) (still name tag b (perform CloseP b) refl refl current) stands))

pub stray_started : (group : Group) (name : Name) (tag : Tag) (s : TreeBuilder) → group ≡ Group.Stray → Continues group name tag s s Next.Done
stray_started group name tag s e =
    subst (λ g. Continues g name tag s s Next.Done) (sym e)
    (continues Group.Stray [] name tag s s Next.Done stray_row refl refl (λ within. within) (λ b starts within current stands. stands))

pub ordinary_started : (group : Group) (name : Name) (tag : Tag) (old new : TreeBuilder) (next : Next) → group ≡ Group.Ordinary → next ≡ Next.Done → RemembersLimits old new →
    PerformsFor name tag (ReconstructFormatting ∷ InsertElement ∷ []) old new → Continues group name tag old new next
ordinary_started group name tag old new next e done remembers inserts =
    subst (λ g. Continues g name tag old new next) (sym e)
    (continues Group.Ordinary (does ReconstructFormatting [] ∷ does InsertElement [] ∷ []) name tag old new next ordinary_row refl done remembers
    (λ b starts within current stands. inserts starts within b current stands))

pub void_started : (group : Group) (name : Name) (tag : Tag) (old new : TreeBuilder) (next : Next) → (group ≡ Group.Void) ⊎ (group ≡ Group.Param) → next ≡ Next.Done → RemembersLimits old new →
    PerformsFor name tag (InsertElement ∷ Pop ∷ []) old new → Continues group name tag old new next
unfolding perform
void_started group name tag old new next (inl e) done remembers inserts =
    subst (λ g. Continues g name tag old new next) (sym e)
    (continues Group.Void (does ReconstructFormatting [] ∷ does InsertElement [] ∷ does Pop [] ∷ does FramesetNotOk [] ∷ []) name tag old new next void_row refl done remembers
    (λ b starts within current stands. inserts starts within (begun Group.Void b) (still name tag b (begun Group.Void b) refl refl current) stands))
void_started group name tag old new next (inr e) done remembers inserts =
    subst (λ g. Continues g name tag old new next) (sym e)
    (continues Group.Param (does InsertElement [] ∷ does Pop [] ∷ []) name tag old new next param_row refl done remembers
    (λ b starts within current stands. inserts starts within b current stands))

pub object_started : (group : Group) (name : Name) (tag : Tag) (old new : TreeBuilder) (next : Next) → group ≡ Group.Object → next ≡ Next.Done → RemembersLimits old new →
    PerformsFor name tag (InsertElement ∷ ListMarker ∷ []) old new → Continues group name tag old new next
unfolding perform
object_started group name tag old new next e done remembers inserts =
    subst (λ g. Continues g name tag old new next) (sym e)
    (continues Group.Object (does ReconstructFormatting [] ∷ does InsertElement [] ∷ does ListMarker [] ∷ does FramesetNotOk [] ∷ []) name tag old new next object_row refl done remembers
    (λ b starts within current stands. inserts starts within (begun Group.Object b) (still name tag b (begun Group.Object b) refl refl current) stands))

-- ---- an action that is performed where a test is met

abbrev pub act_if : Bool → Action → Building → Building
act_if x action b = elim x [ true ↦ perform action b | false ↦ b ]

same_tree : (s : TreeBuilder) (b : Building) → Constructs s (with_tree b b.tree) → Constructs s b
same_tree s b c = record {
  tree = c.tree;
  foster = c.foster;
  in_head = c.in_head;
  mode = c.mode;
  original = c.original;
  template_modes = c.template_modes;
  frameset_ok = c.frameset_ok;
  scripting = c.scripting;
  quirks = c.quirks;
  unread = c.unread;
  pending = c.pending;
  skip = c.skip;
  tokenizer = c.tokenizer;
}

popped_act : (s : TreeBuilder) (b : Building) (x : Bool) → Constructs s (with_tree b (tree_if x (popped b.tree) b.tree)) → Constructs s (act_if (x && true) Pop b)
unfolding perform
popped_act s b true c = c
popped_act s b false c = same_tree s b c

still_popped : (name : Name) (tag : Tag) (b : Building) (x : Bool) → IsCurrentTag name tag b → IsCurrentTag name tag (act_if (x && true) Pop b)
unfolding perform
still_popped name tag b true c = still name tag b (perform Pop b) refl refl c
still_popped name tag b false c = c

-- "if the current node is a heading, pop it; insert an HTML element for the token"
pub heading_acts : (name : Name) (tag : Tag) (old : TreeBuilder) (tree : TreeState) (new : TreeBuilder) → Does (popped_if headings) old.tree tree →
    PerformsFor name tag (InsertElement ∷ []) (record old { tree = tree }) new → ActsFor name tag (does Pop (is (CurrentNode (These headings)) ∷ []) ∷ does InsertElement [] ∷ []) old new
heading_acts name tag old tree new pops inserts starts within b current stands =
    let x : Bool = is_one_of b.tree headings (top_of b.tree) in
    inserts starts within (act_if (x && true) Pop b) (still_popped name tag b x current)
    (popped_act (record old { tree = tree }) b x
    (stepped old tree (popped_if headings) pops b (fosters_if x (popped b.tree) b.tree b.tree refl refl) stands))

heading_row : (b : Building) → choice b (body_rules_for (example_of Group.Heading)) ≡
    does CloseP [] ∷ does Pop (is (CurrentNode (These headings)) ∷ []) ∷ does InsertElement [] ∷ []
unfolding rules
heading_row b = refl

pub heading_started : (group : Group) (name : Name) (tag : Tag) (old new : TreeBuilder) (next : Next) → group ≡ Group.Heading → next ≡ Next.Done → RemembersLimits old new →
    ActsFor name tag (does Pop (is (CurrentNode (These headings)) ∷ []) ∷ does InsertElement [] ∷ []) old new → Continues group name tag old new next
unfolding perform
heading_started group name tag old new next e done remembers inserts =
    subst (λ g. Continues g name tag old new next) (sym e)
    (continues Group.Heading (does CloseP [] ∷ does Pop (is (CurrentNode (These headings)) ∷ []) ∷ does InsertElement [] ∷ []) name tag old new next heading_row refl done remembers
    (λ b starts within current stands. inserts starts within (perform CloseP b) (still name tag b (perform CloseP b) refl refl current) stands))

-- ---- `pre` and `plaintext`

pub skips : (old : TreeBuilder) (b : Building) → Constructs old b → Constructs (record old { skip_line_feed = true }) (perform SkipNextLineFeed b)
unfolding perform
skips old b c = record {
  tree = c.tree;
  foster = c.foster;
  in_head = c.in_head;
  mode = c.mode;
  original = c.original;
  template_modes = c.template_modes;
  frameset_ok = c.frameset_ok;
  scripting = c.scripting;
  quirks = c.quirks;
  unread = c.unread;
  pending = c.pending;
  skip = refl;
  tokenizer = c.tokenizer;
}

pub reads_plainly : (old : TreeBuilder) (b : Building) → Constructs old b → Constructs (record old { switch = Some State.Plaintext }) (perform (TokenizerTo PlainText) b)
unfolding perform
reads_plainly old b c = record {
  tree = c.tree;
  foster = c.foster;
  in_head = c.in_head;
  mode = c.mode;
  original = c.original;
  template_modes = c.template_modes;
  frameset_ok = c.frameset_ok;
  scripting = c.scripting;
  quirks = c.quirks;
  unread = c.unread;
  pending = c.pending;
  skip = c.skip;
  tokenizer = refl;
}

pub pre_acts : (name : Name) (tag : Tag) (old new : TreeBuilder) → PerformsFor name tag (InsertElement ∷ []) (record old { skip_line_feed = true }) new →
    PerformsFor name tag (SkipNextLineFeed ∷ InsertElement ∷ []) old new
unfolding perform
pre_acts name tag old new inserts starts within b current stands =
    inserts starts within (perform SkipNextLineFeed b) (still name tag b (perform SkipNextLineFeed b) refl refl current) (skips old b stands)

pub plaintext_acts : (name : Name) (tag : Tag) (old new : TreeBuilder) → PerformsFor name tag (InsertElement ∷ []) (record old { switch = Some State.Plaintext }) new →
    PerformsFor name tag (TokenizerTo PlainText ∷ InsertElement ∷ []) old new
unfolding perform
plaintext_acts name tag old new inserts starts within b current stands =
    inserts starts within (perform (TokenizerTo PlainText) b) (still name tag b (perform (TokenizerTo PlainText) b) refl refl current) (reads_plainly old b stands)

pre_row : (b : Building) → choice b (body_rules_for (example_of Group.Pre)) ≡
    does CloseP [] ∷ does InsertElement [] ∷ does SkipNextLineFeed [] ∷ does FramesetNotOk [] ∷ []
unfolding rules
pre_row b = refl

pub pre_started : (group : Group) (name : Name) (tag : Tag) (old new : TreeBuilder) (next : Next) → group ≡ Group.Pre → next ≡ Next.Done → RemembersLimits old new →
    PerformsFor name tag (SkipNextLineFeed ∷ InsertElement ∷ []) old new → Continues group name tag old new next
unfolding perform
pre_started group name tag old new next e done remembers inserts =
    subst (λ g. Continues g name tag old new next) (sym e)
    (continues Group.Pre (does CloseP [] ∷ does InsertElement [] ∷ does SkipNextLineFeed [] ∷ does FramesetNotOk [] ∷ []) name tag old new next pre_row refl done remembers
    (λ b starts within current stands. inserts starts within (begun Group.Pre b) (still name tag b (begun Group.Pre b) refl refl current) stands))

plaintext_row : (b : Building) → choice b (body_rules_for (example_of Group.Plaintext)) ≡ does CloseP [] ∷ does InsertElement [] ∷ does (TokenizerTo PlainText) [] ∷ []
unfolding rules
plaintext_row b = refl

pub plaintext_started : (group : Group) (name : Name) (tag : Tag) (old new : TreeBuilder) (next : Next) → group ≡ Group.Plaintext → next ≡ Next.Done → RemembersLimits old new →
    PerformsFor name tag (TokenizerTo PlainText ∷ InsertElement ∷ []) old new → Continues group name tag old new next
unfolding perform
plaintext_started group name tag old new next e done remembers inserts =
    subst (λ g. Continues g name tag old new next) (sym e)
    (continues Group.Plaintext (does CloseP [] ∷ does InsertElement [] ∷ does (TokenizerTo PlainText) [] ∷ []) name tag old new next plaintext_row refl done remembers
    (λ b starts within current stands. inserts starts within (perform CloseP b) (still name tag b (perform CloseP b) refl refl current) stands))

-- ---- list items

-- "close the item before", as the code does it
pub item_step : (old : TreeBuilder) (tree : TreeState) (names : List (List ℕ)) → Does (closed_before ends_items_node names) old.tree tree → (b : Building) → Constructs old b →
    Constructs (record old { tree = tree }) (perform (CloseItems names) b)
unfolding perform
item_step old tree names closes b stands =
    let x : Bool = in_scope (is_one_of b.tree names) (ends_items_node b.tree) b.tree.stack in
    subst (λ t. Constructs (record old { tree = tree }) (with_tree b t)) (sym (item_is names b.tree))
    (stepped old tree (closed_before ends_items_node names) closes b (fosters_if x (popped_until names b.tree) b.tree b.tree refl refl) stands)

pub item_acts : (name : Name) (tag : Tag) (old : TreeBuilder) (tree : TreeState) (mid new : TreeBuilder) (names : List (List ℕ)) → Does (closed_before ends_items_node names) old.tree tree →
    Performs (CloseP ∷ []) (record old { tree = tree }) mid → RemembersLimits mid new → PerformsFor name tag (InsertElement ∷ []) mid new →
    PerformsFor name tag (CloseItems names ∷ CloseP ∷ InsertElement ∷ []) old new
unfolding perform
item_acts name tag old tree mid new names closes paragraph before inserts starts within b current stands =
    inserts starts within (perform CloseP (perform (CloseItems names) b)) (still name tag b (perform CloseP (perform (CloseItems names) b)) refl refl current)
    (paragraph (before within) (perform (CloseItems names) b) (item_step old tree names closes b stands))

li_row : (b : Building) → choice b (body_rules_for (example_of Group.Li)) ≡
    does FramesetNotOk [] ∷ does (CloseItems (codes "li" ∷ [])) [] ∷ does CloseP [] ∷ does InsertElement [] ∷ []
unfolding rules
li_row b = refl

description_row : (b : Building) → choice b (body_rules_for (example_of Group.Description)) ≡
    does FramesetNotOk [] ∷ does (CloseItems (codes "dd" ∷ codes "dt" ∷ [])) [] ∷ does CloseP [] ∷ does InsertElement [] ∷ []
unfolding rules
description_row b = refl

li_texts : (name : Name) → group_named name ≡ Group.Li → item_texts name ≡ codes "li" ∷ []
li_texts Name.Li e = refl
li_texts _ e = absurd (cc)

description_texts : (name : Name) → group_named name ≡ Group.Description → item_texts name ≡ codes "dd" ∷ codes "dt" ∷ []
description_texts Name.Li e = absurd (cc)
description_texts _ e = refl

pub item_started : (group : Group) (name : Name) (tag : Tag) (old new : TreeBuilder) (next : Next) → (group ≡ Group.Li) ⊎ (group ≡ Group.Description) → next ≡ Next.Done → RemembersLimits old new →
    PerformsFor name tag (CloseItems (item_texts name) ∷ CloseP ∷ InsertElement ∷ []) old new → Continues group name tag old new next
unfolding perform
item_started group name tag old new next (inl e) done remembers inserts covers named =
    let acts = subst (λ names. PerformsFor name tag (CloseItems names ∷ CloseP ∷ InsertElement ∷ []) old new) (li_texts name (named ∙ e)) inserts in
    subst (λ g. IsContinued g name tag old new next) (sym e)
    (continues Group.Li (does FramesetNotOk [] ∷ does (CloseItems (codes "li" ∷ [])) [] ∷ does CloseP [] ∷ does InsertElement [] ∷ []) name tag old new next li_row refl done remembers
    (λ b starts within current stands. acts starts within (perform FramesetNotOk b) (still name tag b (perform FramesetNotOk b) refl refl current) stands) refl (named ∙ e))
item_started group name tag old new next (inr e) done remembers inserts covers named =
    let acts = subst (λ names. PerformsFor name tag (CloseItems names ∷ CloseP ∷ InsertElement ∷ []) old new) (description_texts name (named ∙ e)) inserts in
    subst (λ g. IsContinued g name tag old new next) (sym e)
    (continues Group.Description (does FramesetNotOk [] ∷ does (CloseItems (codes "dd" ∷ codes "dt" ∷ [])) [] ∷ does CloseP [] ∷ does InsertElement [] ∷ []) name tag old new next
    description_row refl done remembers
    (λ b starts within current stands. acts starts within (perform FramesetNotOk b) (still name tag b (perform FramesetNotOk b) refl refl current) stands) refl (named ∙ e))

-- ---- `button`

abbrev button_acts : Bool → List Act
button_acts x = elim (x && true) [
  | true ↦ does ImpliedEndTags [] ∷ does (PopUntil (These (codes "button" ∷ []))) [] ∷ does ReconstructFormatting [] ∷ does InsertElement [] ∷ does FramesetNotOk [] ∷ []
  | false ↦ does ReconstructFormatting [] ∷ does InsertElement [] ∷ does FramesetNotOk [] ∷ []
]

button_row : (b : Building) → choice b (body_rules_for (example_of Group.Button)) ≡ button_acts (has_in_scope DefaultScope (codes "button" ∷ []) b.tree)
unfolding rules
button_row b = refl

button_made : (tag : Tag) (b : Building) (new : TreeBuilder) (x : Bool) → IsCurrentTag Name.Button tag b → is_start_kind tag.kind ≡ true → has_in_scope DefaultScope (codes "button" ∷ []) b.tree ≡ x →
    Constructs new (perform InsertElement (perform ReconstructFormatting (with_tree (perform FramesetNotOk b) (tree_if x (popped_until (codes "button" ∷ []) b.tree) b.tree)))) →
    Outcome InBody b new Next.Done
unfolding perform
button_made tag b new true current starts e c = started_by Group.Button Name.Button tag b new (button_acts true) refl current starts (button_row b ∙ ap button_acts e) refl
    (subst (λ t. Constructs new (perform InsertElement (perform ReconstructFormatting (with_tree (perform FramesetNotOk b) t)))) (sym (implied_apart (codes "button" ∷ []) refl b.tree)) c)
button_made tag b new false current starts e c = started_by Group.Button Name.Button tag b new (button_acts false) refl current starts (button_row b ∙ ap button_acts e) refl c

pub button_started : (tag : Tag) (old : TreeBuilder) (tree : TreeState) (new : TreeBuilder) (next : Next) → next ≡ Next.Done → RemembersLimits old new →
    Does (closed_in DefaultScope (codes "button" ∷ [])) old.tree tree →
    PerformsFor Name.Button tag (ReconstructFormatting ∷ InsertElement ∷ []) (record old { tree = tree }) new → Continues Group.Button Name.Button tag old new next
unfolding perform
button_started tag old tree new next done remembers closes inserts covers named = record {
  limits = remembers;
  rule = λ starts within b current html stands test.
      let flagged : Building = perform FramesetNotOk b in
      let x : Bool = has_in_scope DefaultScope (codes "button" ∷ []) b.tree in
      let after : GrowingTree = tree_if x (popped_until (codes "button" ∷ []) b.tree) b.tree in
      let closed = stepped old tree (closed_in DefaultScope (codes "button" ∷ [])) closes flagged (fosters_if x (popped_until (codes "button" ∷ []) b.tree) b.tree b.tree refl refl) stands in
      subst (λ (n : Next). Outcome InBody b new n) (sym done)
      (button_made tag b new x current starts refl (inserts starts within (with_tree flagged after) (still Name.Button tag b (with_tree flagged after) refl refl current) closed));
}

-- ---- which group is left

pub phrase_left : (group : Group) → (group ≡ Group.Block → ⊥) → (group ≡ Group.P → ⊥) → (group ≡ Group.Html → ⊥) → (group ≡ Group.Body → ⊥) → (group ≡ Group.Frameset → ⊥) →
    (group ≡ Group.Heading → ⊥) → (group ≡ Group.Pre → ⊥) → (group ≡ Group.Form → ⊥) → (group ≡ Group.Li → ⊥) → (group ≡ Group.Description → ⊥) → (group ≡ Group.Button → ⊥) →
    is_phrase group ≡ true
phrase_left Group.Block h1 h2 h3 h4 h5 h6 h7 h8 h9 h10 h11 = absurd (h1 refl)
phrase_left Group.P h1 h2 h3 h4 h5 h6 h7 h8 h9 h10 h11 = absurd (h2 refl)
phrase_left Group.Html h1 h2 h3 h4 h5 h6 h7 h8 h9 h10 h11 = absurd (h3 refl)
phrase_left Group.Body h1 h2 h3 h4 h5 h6 h7 h8 h9 h10 h11 = absurd (h4 refl)
phrase_left Group.Frameset h1 h2 h3 h4 h5 h6 h7 h8 h9 h10 h11 = absurd (h5 refl)
phrase_left Group.Heading h1 h2 h3 h4 h5 h6 h7 h8 h9 h10 h11 = absurd (h6 refl)
phrase_left Group.Pre h1 h2 h3 h4 h5 h6 h7 h8 h9 h10 h11 = absurd (h7 refl)
phrase_left Group.Form h1 h2 h3 h4 h5 h6 h7 h8 h9 h10 h11 = absurd (h8 refl)
phrase_left Group.Li h1 h2 h3 h4 h5 h6 h7 h8 h9 h10 h11 = absurd (h9 refl)
phrase_left Group.Description h1 h2 h3 h4 h5 h6 h7 h8 h9 h10 h11 = absurd (h10 refl)
phrase_left Group.Button h1 h2 h3 h4 h5 h6 h7 h8 h9 h10 h11 = absurd (h11 refl)
phrase_left _ h1 h2 h3 h4 h5 h6 h7 h8 h9 h10 h11 = refl

pub inline_left : (group : Group) → (group ≡ Group.Metadata → ⊥) → (group ≡ Group.Template → ⊥) → (group ≡ Group.A → ⊥) → (group ≡ Group.Formatting → ⊥) → (group ≡ Group.Nobr → ⊥) →
    (group ≡ Group.Math → ⊥) → (group ≡ Group.Svg → ⊥) → is_phrase group ≡ true → is_inline group ≡ true
inline_left Group.Metadata h1 h2 h3 h4 h5 h6 h7 h = absurd (h1 refl)
inline_left Group.Template h1 h2 h3 h4 h5 h6 h7 h = absurd (h2 refl)
inline_left Group.A h1 h2 h3 h4 h5 h6 h7 h = absurd (h3 refl)
inline_left Group.Formatting h1 h2 h3 h4 h5 h6 h7 h = absurd (h4 refl)
inline_left Group.Nobr h1 h2 h3 h4 h5 h6 h7 h = absurd (h5 refl)
inline_left Group.Math h1 h2 h3 h4 h5 h6 h7 h = absurd (h6 refl)
inline_left Group.Svg h1 h2 h3 h4 h5 h6 h7 h = absurd (h7 refl)
inline_left _ h1 h2 h3 h4 h5 h6 h7 h = h

pub text_left : (group : Group) → (group ≡ Group.Stray → ⊥) → (group ≡ Group.Object → ⊥) → (group ≡ Group.Table → ⊥) → (group ≡ Group.Void → ⊥) → (group ≡ Group.Param → ⊥) →
    (group ≡ Group.Hr → ⊥) → (group ≡ Group.Image → ⊥) → (group ≡ Group.Input → ⊥) → (group ≡ Group.Select → ⊥) → (group ≡ Group.Optgroup → ⊥) → (group ≡ Group.Option → ⊥) →
    (group ≡ Group.RubyBase → ⊥) → (group ≡ Group.RubyText → ⊥) → is_inline group ≡ true → is_texty group ≡ true
text_left Group.Stray h1 h2 h3 h4 h5 h6 h7 h8 h9 h10 h11 h12 h13 h = absurd (h1 refl)
text_left Group.Object h1 h2 h3 h4 h5 h6 h7 h8 h9 h10 h11 h12 h13 h = absurd (h2 refl)
text_left Group.Table h1 h2 h3 h4 h5 h6 h7 h8 h9 h10 h11 h12 h13 h = absurd (h3 refl)
text_left Group.Void h1 h2 h3 h4 h5 h6 h7 h8 h9 h10 h11 h12 h13 h = absurd (h4 refl)
text_left Group.Param h1 h2 h3 h4 h5 h6 h7 h8 h9 h10 h11 h12 h13 h = absurd (h5 refl)
text_left Group.Hr h1 h2 h3 h4 h5 h6 h7 h8 h9 h10 h11 h12 h13 h = absurd (h6 refl)
text_left Group.Image h1 h2 h3 h4 h5 h6 h7 h8 h9 h10 h11 h12 h13 h = absurd (h7 refl)
text_left Group.Input h1 h2 h3 h4 h5 h6 h7 h8 h9 h10 h11 h12 h13 h = absurd (h8 refl)
text_left Group.Select h1 h2 h3 h4 h5 h6 h7 h8 h9 h10 h11 h12 h13 h = absurd (h9 refl)
text_left Group.Optgroup h1 h2 h3 h4 h5 h6 h7 h8 h9 h10 h11 h12 h13 h = absurd (h10 refl)
text_left Group.Option h1 h2 h3 h4 h5 h6 h7 h8 h9 h10 h11 h12 h13 h = absurd (h11 refl)
text_left Group.RubyBase h1 h2 h3 h4 h5 h6 h7 h8 h9 h10 h11 h12 h13 h = absurd (h12 refl)
text_left Group.RubyText h1 h2 h3 h4 h5 h6 h7 h8 h9 h10 h11 h12 h13 h = absurd (h13 refl)
text_left _ h1 h2 h3 h4 h5 h6 h7 h8 h9 h10 h11 h12 h13 h = h

pub ordinary_left : (group : Group) → (group ≡ Group.Plaintext → ⊥) → (group ≡ Group.Textarea → ⊥) → (group ≡ Group.Xmp → ⊥) → (group ≡ Group.Iframe → ⊥) → (group ≡ Group.Noembed → ⊥) →
    (group ≡ Group.Noscript → ⊥) → is_texty group ≡ true → group ≡ Group.Ordinary
ordinary_left Group.Ordinary h1 h2 h3 h4 h5 h6 h = refl
ordinary_left Group.Plaintext h1 h2 h3 h4 h5 h6 h = absurd (h1 refl)
ordinary_left Group.Textarea h1 h2 h3 h4 h5 h6 h = absurd (h2 refl)
ordinary_left Group.Xmp h1 h2 h3 h4 h5 h6 h = absurd (h3 refl)
ordinary_left Group.Iframe h1 h2 h3 h4 h5 h6 h = absurd (h4 refl)
ordinary_left Group.Noembed h1 h2 h3 h4 h5 h6 h = absurd (h5 refl)
ordinary_left Group.Noscript h1 h2 h3 h4 h5 h6 h = absurd (h6 refl)
ordinary_left _ h1 h2 h3 h4 h5 h6 h = absurd (true≢false (sym h))

-- ---- the whole tag

-- a group of one name
pub by_name : (group example : Group) (name one : Name) (tag : Tag) (old new : TreeBuilder) (next : Next) → group ≡ example → (group_named name ≡ example → name ≡ one) →
    Continues example one tag old new next → Continues group name tag old new next
by_name group example name one tag old new next e f rule covers named =
    let same : name ≡ one = f (named ∙ e) in
    subst (λ g. IsContinued g name tag old new next) (sym e) (subst (λ (n : Name). IsContinued example n tag old new next) (sym same)
    (rule (ap covers_start (sym e) ∙ covers) (ap group_named (sym same) ∙ named ∙ e)))

pub button_named : (name : Name) → group_named name ≡ Group.Button → name ≡ Name.Button
button_named Name.Button e = refl
button_named _ e = absurd (cc)

start_covered : (kind : TagKind) (name : Name) → is_start_kind kind ≡ true → covers_body kind name ≡ true → covers_start (group_named name) ≡ true
start_covered TagKind.Start name starts covers = covers
start_covered TagKind.End name starts covers = absurd (true≢false (sym starts))

start_suits : (kind : TagKind) (name : Name) (b : Building) → is_start_kind kind ≡ true → suits_body kind name b ≡ true → starts_in (group_named name) b ≡ true
start_suits TagKind.Start name b starts suits = suits
start_suits TagKind.End name b starts suits = absurd (true≢false (sym starts))

-- what comes before the element is made is done, and then the rest
pub start_processed : (group : Group) (name : Name) (tag : Tag) (old mid new : TreeBuilder) (next : Next) → group ≡ group_named name → Begins group old mid → Continues group name tag mid new next →
    is_start_kind tag.kind ≡ true → ProcessesInBody name tag old new next
start_processed group name tag old mid new next e begins rest starts covers within b current html stands suits =
    let whole = rest (ap covers_start e ∙ start_covered tag.kind name starts covers) (sym e) in
    whole.rule starts within b current html (begins (whole.limits within) b stands) (ap (λ g. starts_in g b) e ∙ start_suits tag.kind name b starts suits)

end_covered : (kind : TagKind) (name : Name) → is_start_kind kind ≡ false → covers_body kind name ≡ true → covers_end name ≡ true
end_covered TagKind.End name ends covers = covers
end_covered TagKind.Start name ends covers = absurd (true≢false ends)

end_suits : (kind : TagKind) (name : Name) (b : Building) → is_start_kind kind ≡ false → suits_body kind name b ≡ true → ends_in (group_named name) b ≡ true
end_suits TagKind.End name b ends suits = suits
end_suits TagKind.Start name b ends suits = absurd (true≢false ends)

pub end_processed : (name : Name) (tag : Tag) (old new : TreeBuilder) (next : Next) → is_start_kind tag.kind ≡ false → EndsInBody name tag old new next → ProcessesInBody name tag old new next
end_processed name tag old new next ends rule covers within b current html stands suits =
    rule (end_covered tag.kind name ends covers) ends within b current stands (end_suits tag.kind name b ends suits)
