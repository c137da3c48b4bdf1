-- What the rules for "in body" make of the start tags of `hr`, of options and of ruby annotations, and of the end tags of `object` and its like.
use Rattle.std.proofs.Common.{◌≡◌, ℕ, Bool, true, false, ◌&&◌, List, [], ◌∷◌, codes, refl, sym, ap, subst, ◌∙◌}
use Rattle.standard_trees.specs.Building.{Building, perform, with_tree}
use Rattle.standard_trees.specs.GrowingTree.{GrowingTree, current as top_of, has_in_scope, implied_of, is_one as is_one_of}
use Rattle.standard_trees.specs.NameLists.{implied}
use Rattle.standard_trees.specs.RuleWords.{Act, Action, CloseP, CurrentNode, FramesetNotOk, ImpliedEndTags, ImpliedEndTagsBut, InBody, InScope, InsertElement, Pop, ReconstructFormatting}
use Rattle.standard_trees.specs.RuleWords.{Scope as DefaultScope, These, does, is}
use Rattle.standard_trees.specs.TreeRules.{rules}
use Rattle.page_tokens.specs.declared.token.Tag.{Tag}
use Rattle.page_trees.specs.BodyTags.{ChangesThen, ChangesTree, Continues, implied_in, option_ended}
use Rattle.page_trees.specs.Constructs.{Constructs, IsCurrentTag, Outcome, PerformsFor, RemembersLimits}
use Rattle.page_trees.specs.Groups.{body_rules_for, example_of, group_named}
use Rattle.page_trees.specs.Modes.{is_start_kind}
use Rattle.page_trees.specs.Stands.{Does, popped, popped_if}
use Rattle.page_trees.specs.TreeState.{TreeState}
use Rattle.page_trees.specs.declared.builder.Next.{Next}
use Rattle.page_trees.specs.declared.builder.TreeBuilder.{TreeBuilder}
use Rattle.page_trees.specs.declared.modes.groups.Group.{Group}
use Rattle.page_trees.specs.declared.name.Name.{Name}
use Rattle.page_trees.proofs.BodyRules.{choice, started_by}
use Rattle.page_trees.proofs.BodyStarts.{continues, stepped, still}

-- ---- steps

same_tree : (s : TreeBuilder) (b : Building) → Constructs s b → Constructs s (with_tree b b.tree)
same_tree s b c = record {
  tree = c.tree;
  foster = c.foster;
  in_head = c.in_head;
  mode = c.mode;
  original = c.original;
  template_modes = c.template_modes;
  frameset_ok = c.frameset_ok;
  scripting = c.scripting;
  quirks = c.quirks;
  unread = c.unread;
  pending = c.pending;
  skip = c.skip;
  tokenizer = c.tokenizer;
}

abbrev tree_if : Bool → GrowingTree → GrowingTree → GrowingTree
tree_if x t u = elim x [ true ↦ t | false ↦ u ]

abbrev act_if : Bool → Action → Building → Building
act_if x action b = elim x [ true ↦ perform action b | false ↦ b ]

-- whether such an element is in scope, implied end tags are generated
pub implied_absent : (s : TreeBuilder) (b : Building) (names but : List (List ℕ)) (x : Bool) → x ≡ has_in_scope DefaultScope names b.tree → x ≡ false → Constructs s b →
    Constructs s (with_tree b (implied_in names but b.tree))
implied_absent s b names but x e f c =
    subst (λ y. Constructs s (with_tree b (tree_if y (implied_of implied but b.tree) b.tree))) (sym f ∙ e) (same_tree s b c)

pub implied_present : (old : TreeBuilder) (tree : TreeState) (b : Building) (names but : List (List ℕ)) (x : Bool) → x ≡ has_in_scope DefaultScope names b.tree → x ≡ true →
    Does (implied_of implied but) old.tree tree → Constructs old b → Constructs (record old { tree = tree }) (with_tree b (implied_in names but b.tree))
implied_present old tree b names but x e f generates c =
    subst (λ y. Constructs (record old { tree = tree }) (with_tree b (tree_if y (implied_of implied but b.tree) b.tree))) (sym f ∙ e)
    (stepped old tree (implied_of implied but) generates b refl c)

pub changed_then : (step : GrowingTree → GrowingTree) (actions : List Action) (name : Name) (tag : Tag) (old mid new : TreeBuilder) → ChangesTree step old mid → RemembersLimits mid new →
    PerformsFor name tag actions mid new → ChangesThen step actions name tag old new
changed_then step actions name tag old mid new changes before inserts starts within b current stands =
    inserts starts within (with_tree b (step b.tree)) (still name tag b (with_tree b (step b.tree)) refl refl current) (changes (before within) b stands)

-- ---- `hr`

abbrev hr_acts : List Act
hr_acts = does CloseP [] ∷ does ImpliedEndTags (is (InScope DefaultScope (These (codes "select" ∷ []))) ∷ []) ∷ does InsertElement [] ∷ does Pop [] ∷ does FramesetNotOk [] ∷ []

hr_row : (b : Building) → choice b (body_rules_for (example_of Group.Hr)) ≡ hr_acts
unfolding rules
hr_row b = refl

hr_done : (b : Building) (new : TreeBuilder) (x : Bool) →
    Constructs new (perform Pop (perform InsertElement (with_tree (perform FramesetNotOk b) (tree_if x (implied_of implied [] b.tree) b.tree)))) →
    Constructs new (perform FramesetNotOk (perform Pop (perform InsertElement (act_if (x && true) ImpliedEndTags b))))
unfolding perform
hr_done b new true c = c
hr_done b new false c = c

pub hr_named : (name : Name) → group_named name ≡ Group.Hr → name ≡ Name.Hr
hr_named Name.Hr e = refl
hr_named _ e = absurd (cc)

pub hr_started : (tag : Tag) (old new : TreeBuilder) (next : Next) → next ≡ Next.Done → RemembersLimits old new →
    ChangesThen (implied_in (codes "select" ∷ []) []) (InsertElement ∷ Pop ∷ []) Name.Hr tag old new → Continues Group.Hr Name.Hr tag old new next
unfolding perform
hr_started tag old new next done remembers inserts =
    continues Group.Hr hr_acts Name.Hr tag old new next hr_row refl done remembers
    (λ b starts within current stands. hr_done (perform CloseP b) new (has_in_scope DefaultScope (codes "select" ∷ []) (perform CloseP b).tree)
    (inserts starts within (perform FramesetNotOk (perform CloseP b)) (still Name.Hr tag b (perform FramesetNotOk (perform CloseP b)) refl refl current) stands))

-- ---- ruby annotations

base_row : (b : Building) → choice b (body_rules_for (example_of Group.RubyBase)) ≡
    does ImpliedEndTags (is (InScope DefaultScope (These (codes "ruby" ∷ []))) ∷ []) ∷ does InsertElement [] ∷ []
unfolding rules
base_row b = refl

text_row : (b : Building) → choice b (body_rules_for (example_of Group.RubyText)) ≡
    does (ImpliedEndTagsBut (These (codes "rtc" ∷ []))) (is (InScope DefaultScope (These (codes "ruby" ∷ []))) ∷ []) ∷ does InsertElement [] ∷ []
unfolding rules
text_row b = refl

base_done : (b : Building) (new : TreeBuilder) (x : Bool) → Constructs new (perform InsertElement (with_tree b (tree_if x (implied_of implied [] b.tree) b.tree))) →
    Constructs new (perform InsertElement (act_if (x && true) ImpliedEndTags b))
unfolding perform
base_done b new true c = c
base_done b new false c = c

text_done : (b : Building) (new : TreeBuilder) (x : Bool) → Constructs new (perform InsertElement (with_tree b (tree_if x (implied_of implied (codes "rtc" ∷ []) b.tree) b.tree))) →
    Constructs new (perform InsertElement (act_if (x && true) (ImpliedEndTagsBut (These (codes "rtc" ∷ []))) b))
unfolding perform
text_done b new true c = c
text_done b new false c = c

pub base_started : (group : Group) (name : Name) (tag : Tag) (old new : TreeBuilder) (next : Next) → group ≡ Group.RubyBase → next ≡ Next.Done → RemembersLimits old new →
    ChangesThen (implied_in (codes "ruby" ∷ []) []) (InsertElement ∷ []) name tag old new → Continues group name tag old new next
unfolding perform
base_started group name tag old new next e done remembers inserts =
    subst (λ g. Continues g name tag old new next) (sym e)
    (continues Group.RubyBase (does ImpliedEndTags (is (InScope DefaultScope (These (codes "ruby" ∷ []))) ∷ []) ∷ does InsertElement [] ∷ []) name tag old new next base_row refl done
    remembers
    (λ b starts within current stands. base_done b new (has_in_scope DefaultScope (codes "ruby" ∷ []) b.tree) (inserts starts within b current stands)))

pub text_started : (group : Group) (name : Name) (tag : Tag) (old new : TreeBuilder) (next : Next) → group ≡ Group.RubyText → next ≡ Next.Done → RemembersLimits old new →
    ChangesThen (implied_in (codes "ruby" ∷ []) (codes "rtc" ∷ [])) (InsertElement ∷ []) name tag old new → Continues group name tag old new next
unfolding perform
text_started group name tag old new next e done remembers inserts =
    subst (λ g. Continues g name tag old new next) (sym e)
    (continues Group.RubyText (does (ImpliedEndTagsBut (These (codes "rtc" ∷ []))) (is (InScope DefaultScope (These (codes "ruby" ∷ []))) ∷ []) ∷ does InsertElement [] ∷ []) name tag
    old new next text_row refl done remembers
    (λ b starts within current stands. text_done b new (has_in_scope DefaultScope (codes "ruby" ∷ []) b.tree) (inserts starts within b current stands)))

-- ---- options

abbrev option_acts : Action → Bool → List Act
option_acts action x = elim (x && true) [
  | true ↦ does action [] ∷ does ReconstructFormatting [] ∷ does InsertElement [] ∷ []
  | false ↦ does Pop (is (CurrentNode (These (codes "option" ∷ []))) ∷ []) ∷ does ReconstructFormatting [] ∷ does InsertElement [] ∷ []
]

option_row : (b : Building) → choice b (body_rules_for (example_of Group.Option)) ≡
    option_acts (ImpliedEndTagsBut (These (codes "optgroup" ∷ []))) (has_in_scope DefaultScope (codes "select" ∷ []) b.tree)
unfolding rules
option_row b = refl

optgroup_row : (b : Building) → choice b (body_rules_for (example_of Group.Optgroup)) ≡ option_acts ImpliedEndTags (has_in_scope DefaultScope (codes "select" ∷ []) b.tree)
unfolding rules
optgroup_row b = refl

popped_done : (b : Building) (new : TreeBuilder) (x : Bool) → Constructs new (perform InsertElement (perform ReconstructFormatting (with_tree b (tree_if x (popped b.tree) b.tree)))) →
    Constructs new (perform InsertElement (perform ReconstructFormatting (act_if (x && true) Pop b)))
unfolding perform
popped_done b new true c = c
popped_done b new false c = c

option_made : (name : Name) (tag : Tag) (b : Building) (new : TreeBuilder) (x : Bool) → group_named name ≡ Group.Option → IsCurrentTag name tag b → is_start_kind tag.kind ≡ true →
    has_in_scope DefaultScope (codes "select" ∷ []) b.tree ≡ x →
    Constructs new (perform InsertElement (perform ReconstructFormatting
    (with_tree b (tree_if x (implied_of implied (codes "optgroup" ∷ []) b.tree) (popped_if (codes "option" ∷ []) b.tree))))) → Outcome InBody b new Next.Done
unfolding perform
option_made name tag b new true named current starts e c =
    started_by Group.Option name tag b new (option_acts (ImpliedEndTagsBut (These (codes "optgroup" ∷ []))) true) named current starts
    (option_row b ∙ ap (option_acts (ImpliedEndTagsBut (These (codes "optgroup" ∷ [])))) e) refl c
option_made name tag b new false named current starts e c =
    started_by Group.Option name tag b new (option_acts (ImpliedEndTagsBut (These (codes "optgroup" ∷ []))) false) named current starts
    (option_row b ∙ ap (option_acts (ImpliedEndTagsBut (These (codes "optgroup" ∷ [])))) e) refl (popped_done b new (is_one_of b.tree (codes "option" ∷ []) (top_of b.tree)) c)

optgroup_made : (name : Name) (tag : Tag) (b : Building) (new : TreeBuilder) (x : Bool) → group_named name ≡ Group.Optgroup → IsCurrentTag name tag b → is_start_kind tag.kind ≡ true →
    has_in_scope DefaultScope (codes "select" ∷ []) b.tree ≡ x →
    Constructs new (perform InsertElement (perform ReconstructFormatting (with_tree b (tree_if x (implied_of implied [] b.tree) (popped_if (codes "option" ∷ []) b.tree))))) →
    Outcome InBody b new Next.Done
unfolding perform
optgroup_made name tag b new true named current starts e c =
    started_by Group.Optgroup name tag b new (option_acts ImpliedEndTags true) named current starts (optgroup_row b ∙ ap (option_acts ImpliedEndTags) e) refl c
optgroup_made name tag b new false named current starts e c =
    started_by Group.Optgroup name tag b new (option_acts ImpliedEndTags false) named current starts (optgroup_row b ∙ ap (option_acts ImpliedEndTags) e) refl
    (popped_done b new (is_one_of b.tree (codes "option" ∷ []) (top_of b.tree)) c)

option_continued : (name : Name) (tag : Tag) (old new : TreeBuilder) (next : Next) → next ≡ Next.Done → RemembersLimits old new →
    ChangesThen (option_ended (codes "optgroup" ∷ [])) (ReconstructFormatting ∷ InsertElement ∷ []) name tag old new → Continues Group.Option name tag old new next
option_continued name tag old new next done remembers inserts covers named = record {
  limits = remembers;
  rule = λ starts within b current html stands test. subst (λ (n : Next). Outcome InBody b new n) (sym done)
      (option_made name tag b new (has_in_scope DefaultScope (codes "select" ∷ []) b.tree) named current starts refl (inserts starts within b current stands));
}

optgroup_continued : (name : Name) (tag : Tag) (old new : TreeBuilder) (next : Next) → next ≡ Next.Done → RemembersLimits old new →
    ChangesThen (option_ended []) (ReconstructFormatting ∷ InsertElement ∷ []) name tag old new → Continues Group.Optgroup name tag old new next
optgroup_continued name tag old new next done remembers inserts covers named = record {
  limits = remembers;
  rule = λ starts within b current html stands test. subst (λ (n : Next). Outcome InBody b new n) (sym done)
      (optgroup_made name tag b new (has_in_scope DefaultScope (codes "select" ∷ []) b.tree) named current starts refl (inserts starts within b current stands));
}

pub option_started : (group : Group) (name : Name) (tag : Tag) (old new : TreeBuilder) (next : Next) → group ≡ Group.Option → next ≡ Next.Done → RemembersLimits old new →
    ChangesThen (option_ended (codes "optgroup" ∷ [])) (ReconstructFormatting ∷ InsertElement ∷ []) name tag old new → Continues group name tag old new next
option_started group name tag old new next e done remembers inserts =
    subst (λ g. Continues g name tag old new next) (sym e) (option_continued name tag old new next done remembers inserts)

pub optgroup_started : (group : Group) (name : Name) (tag : Tag) (old new : TreeBuilder) (next : Next) → group ≡ Group.Optgroup → next ≡ Next.Done → RemembersLimits old new →
    ChangesThen (option_ended []) (ReconstructFormatting ∷ InsertElement ∷ []) name tag old new → Continues group name tag old new next
optgroup_started group name tag old new next e done remembers inserts =
    subst (λ g. Continues g name tag old new next) (sym e) (optgroup_continued name tag old new next done remembers inserts)

-- the `option` before is ended, whether a `select` is in scope or not
fosters_if : (x : Bool) (t u v : GrowingTree) → t.fostering ≡ v.fostering → u.fostering ≡ v.fostering → (tree_if x t u).fostering ≡ v.fostering
fosters_if true t u v e f = e
fosters_if false t u v e f = f

pub option_implied : (s : TreeBuilder) (b : Building) (but : List (List ℕ)) (x : Bool) → x ≡ has_in_scope DefaultScope (codes "select" ∷ []) b.tree → x ≡ true →
    Constructs s (with_tree b (implied_in (codes "select" ∷ []) but b.tree)) → Constructs s (with_tree b (option_ended but b.tree))
option_implied s b but x e f c =
    subst (λ y. Constructs s (with_tree b (tree_if y (implied_of implied but b.tree) (popped_if (codes "option" ∷ []) b.tree)))) (sym f ∙ e)
    (subst (λ y. Constructs s (with_tree b (tree_if y (implied_of implied but b.tree) b.tree))) (sym e ∙ f) c)

pub option_popped : (old mid : TreeBuilder) (tree : TreeState) (b : Building) (but : List (List ℕ)) (x : Bool) → x ≡ has_in_scope DefaultScope (codes "select" ∷ []) b.tree → x ≡ false →
    mid ≡ old → Does (popped_if (codes "option" ∷ [])) mid.tree tree → Constructs old b → Constructs (record mid { tree = tree }) (with_tree b (option_ended but b.tree))
option_popped old mid tree b but x e f same pops c =
    subst (λ y. Constructs (record mid { tree = tree }) (with_tree b (tree_if y (implied_of implied but b.tree) (popped_if (codes "option" ∷ []) b.tree)))) (sym f ∙ e)
    (stepped mid tree (popped_if (codes "option" ∷ [])) pops b
    (fosters_if (is_one_of b.tree (codes "option" ∷ []) (top_of b.tree)) (popped b.tree) b.tree b.tree refl refl) (subst (λ (s : TreeBuilder). Constructs s b) (sym same) c))
