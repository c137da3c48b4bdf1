-- What the rules for "in body" make of a later start tag `body`, and of `frameset`, which takes the place of the body.
use Rattle.std.proofs.Common.{◌≡◌, ◌&&◌, ◌||◌, Bool, true, false, not, List, [], ◌∷◌, ◌++◌, codes, map, reverse, take, ℕ, refl, sym, ap, subst, ◌∙◌, true≢false}
use Rattle.std.specs.Prelude.{None, Option, Some, slice_get}
use Rattle.std.specs.Option.{option_map_or}
use Rattle.std.specs.Str.{bytes_eq}
use Rattle.std.proofs.lemmas.List.{map-append, reverse-append}
use Rattle.std.proofs.lemmas.List.Elements.{All-head, All-tail}
use Rattle.standard_trees.specs.Building.{Building, body_removed, perform, with_tree}
use Rattle.standard_trees.specs.GrowingTree.{GrowingTree, is_one as is_one_of, key, merged_into, second, topmost, with_stack}
use Rattle.standard_trees.specs.RuleWords.{Act, FramesetNotOk, InBody, InFrameset, InsertElement, MergeAttributesIntoBody, PopToTopmost, RemoveBody, SwitchTo, does}
use Rattle.standard_trees.specs.TreeRules.{rules}
use Rattle.page_tokens.specs.declared.token.Tag.{Tag}
use Rattle.page_trees.specs.BodyTags.{Continues, acted}
use Rattle.page_trees.specs.Constructs.{Constructs, IsCurrentTag, Outcome, PerformsFor, RemembersLimits, WithinLimits}
use Rattle.page_trees.specs.Groups.{body_rules_for, group_named}
use Rattle.page_trees.specs.LateMerges.{MayMerge, MergesTagInto, id_at, is_open}
use Rattle.page_trees.specs.Modes.{is_start_kind}
use Rattle.page_trees.specs.Scopes.{has_name}
use Rattle.page_trees.specs.Stands.{Builds, Does, IsStackOf, StandsFor, cut}
use Rattle.page_trees.specs.TreeState.{TreeState}
use Rattle.page_trees.specs.declared.builder.Next.{Next}
use Rattle.page_trees.specs.declared.builder.TreeBuilder.{TreeBuilder}
use Rattle.page_trees.specs.declared.modes.groups.Group.{Group}
use Rattle.page_trees.specs.declared.name.Name.{Name}
use Rattle.page_trees.specs.declared.stack.Open.{Open}
use Rattle.page_trees.proofs.BodyRules.{choice, outcome_of_acts, start_rows}
use Rattle.page_trees.proofs.BodyStarts.{still}
use Rattle.page_trees.proofs.BuilderSteps.{moved}
use Rattle.page_trees.proofs.BuiltStacks.{built_front}
use Rattle.page_trees.proofs.ElementSteps.{current_element}
use Rattle.page_trees.proofs.NumberedNames.{all_standing}
use Rattle.page_trees.proofs.OpenNames.{outermost}
use Rattle.page_trees.proofs.StandingNames.{named_agrees}

-- ---- the second element of the stack

second_end : (ns : List ℕ) (p o : ℕ) → second (ns ++ p ∷ o ∷ []) ≡ Some p
second_end [] p o = refl
second_end (n ∷ []) p o = refl
second_end (n ∷ m ∷ []) p o = refl
second_end (n ∷ m ∷ k ∷ ns) p o = second_end (m ∷ k ∷ ns) p o

append_twice : (ns : List ℕ) (p o : ℕ) → (ns ++ p ∷ []) ++ o ∷ [] ≡ ns ++ p ∷ o ∷ []
append_twice [] p o = refl
append_twice (n ∷ ns) p o = ap (λ (ms : List ℕ). n ∷ ms) (append_twice ns p o)

turned_ids : (o p : Open) (os : List Open) → map (λ (x : Open). x.id) (reverse (o ∷ p ∷ os)) ≡ map (λ (x : Open). x.id) (reverse os) ++ p.id ∷ o.id ∷ []
turned_ids o p os =
    ap (map (λ (x : Open). x.id)) (reverse-append (o ∷ []) (p ∷ os)) ∙ map-append (λ (x : Open). x.id) (reverse (p ∷ os)) (o ∷ [])
    ∙ ap (λ (ns : List ℕ). ns ++ o.id ∷ []) (ap (map (λ (x : Open). x.id)) (reverse-append (p ∷ []) os) ∙ map-append (λ (x : Open). x.id) (reverse os) (p ∷ []))
    ∙ append_twice (map (λ (x : Open). x.id) (reverse os)) p.id o.id

pub second_is : (t : GrowingTree) (all : List Open) → IsStackOf t all → id_at all 1 ≡ second t.stack
second_is t [] s = sym (ap second s.ids)
second_is t (o ∷ []) s = sym (ap second s.ids)
second_is t (o ∷ p ∷ os) s = sym (ap second (s.ids ∙ turned_ids o p os) ∙ second_end (map (λ (x : Open). x.id) (reverse os)) p.id o.id)

-- whether it is the body
pub body_agrees : (t : GrowingTree) (all : List Open) → IsStackOf t all →
    option_map_or (has_name Name.Body) (slice_get all 1) false ≡ option_map_or (is_one_of t (codes "body" ∷ [])) (second t.stack) false
body_agrees t [] s = sym (ap (λ (n : Option ℕ). option_map_or (is_one_of t (codes "body" ∷ [])) n false) (ap second s.ids))
body_agrees t (o ∷ []) s = sym (ap (λ (n : Option ℕ). option_map_or (is_one_of t (codes "body" ∷ [])) n false) (ap second s.ids))
body_agrees t (o ∷ p ∷ os) s =
    let all = all_standing t.nodes (o ∷ p ∷ os) s.nodes in
    let stands = All-head (StandsFor t.nodes) p os (All-tail (StandsFor t.nodes) o (p ∷ os) all) in
    named_agrees Name.Body refl t p stands
    ∙ ap (λ (n : Option ℕ). option_map_or (is_one_of t (codes "body" ∷ [])) n false) (second_is t (o ∷ p ∷ os) s)

one_of_two : (x y : Bool) → (y || false) ≡ true → (x || (y || false)) ≡ true
one_of_two true y h = refl
one_of_two false y h = h

-- attributes may be merged into it
may_merge : (t : GrowingTree) (n : Option ℕ) → option_map_or (is_one_of t (codes "body" ∷ [])) n false ≡ true → MayMerge t n
may_merge t None h = tt
may_merge t (Some n) h = one_of_two (bytes_eq (key t n) (codes "html")) (bytes_eq (key t n) (codes "body")) h

-- ---- the rules

abbrev pub unless : Bool → Bool → List Act → List Act
unless x y acts = elim (not x && true) [ true ↦ [] | false ↦ elim (y && true) [ true ↦ [] | false ↦ acts ] ]

abbrev pub body_is_second : Building → Bool
body_is_second b = option_map_or (is_one_of b.tree (codes "body" ∷ [])) (second b.tree.stack) false

abbrev pub body_acts : List Act
body_acts = does FramesetNotOk [] ∷ does MergeAttributesIntoBody [] ∷ []

body_row : (b : Building) → choice b (body_rules_for Name.Body) ≡
    unless (body_is_second b) (is_open (codes "template") b.tree) body_acts
unfolding rules
body_row b = refl

abbrev pub frameset_acts : List Act
frameset_acts = does RemoveBody [] ∷ does PopToTopmost [] ∷ does InsertElement [] ∷ does (SwitchTo InFrameset) [] ∷ []

frameset_row : (b : Building) → choice b (body_rules_for Name.Frameset) ≡
    unless (body_is_second b) (not b.frameset_ok) frameset_acts
unfolding rules
frameset_row b = refl

unless_one : (x y : Bool) (acts : List Act) → x ≡ false → unless x y acts ≡ []
unless_one true y acts e = absurd (cc)
unless_one false y acts e = refl

pub unless_other : (x y : Bool) (acts : List Act) → y ≡ true → unless x y acts ≡ []
unless_other true true acts e = refl
unless_other false true acts e = refl
unless_other x false acts e = absurd (cc)

unless_none : (x y : Bool) (acts : List Act) → x ≡ true → y ≡ false → unless x y acts ≡ acts
unless_none true false acts e f = refl
unless_none false y acts e f = absurd (cc)
unless_none true true acts e f = absurd (cc)

-- ---- `body`

pub body_ignored : (tag : Tag) (old : TreeBuilder) → ((b : Building) → Constructs old b → unless (body_is_second b) (is_open (codes "template") b.tree) body_acts ≡ []) → Continues Group.Body Name.Body tag old old Next.Done
body_ignored tag old ignores covers named = record {
  limits = λ within. within;
  rule = λ starts within b current html stands test.
      outcome_of_acts InBody b old [] refl (start_rows Name.Body tag b current starts ∙ body_row b ∙ ignores b stands) stands;
}

pub body_is_no_second : (old : TreeBuilder) (x : Bool) → x ≡ option_map_or (has_name Name.Body) (slice_get old.tree.stack 1) false → x ≡ false → (b : Building) → Constructs old b →
    (y : Bool) (acts : List Act) → unless (body_is_second b) y acts ≡ []
body_is_no_second old x e f b stands y acts =
    unless_one (body_is_second b) y acts (sym (body_agrees b.tree old.tree.stack stands.tree.stack) ∙ sym e ∙ f)

flagged : (s : TreeBuilder) (b : Building) → Constructs s b → Constructs (record s { frameset_ok = false }) (record b { frameset_ok = false })
flagged s b c = record {
  tree = c.tree;
  foster = c.foster;
  in_head = c.in_head;
  mode = c.mode;
  original = c.original;
  template_modes = c.template_modes;
  frameset_ok = refl;
  scripting = c.scripting;
  quirks = c.quirks;
  unread = c.unread;
  pending = c.pending;
  skip = c.skip;
  tokenizer = c.tokenizer;
}

merged_acts : (tag : Tag) (old new : TreeBuilder) (b : Building) → is_start_kind tag.kind ≡ true → WithinLimits new → IsCurrentTag Name.Body tag b → Constructs old b → body_is_second b ≡ true →
    MergesTagInto (id_at old.tree.stack 1) tag (record old { frameset_ok = false }) new → Constructs new (acted body_acts b)
unfolding perform
merged_acts tag old new b starts within current stands there merges =
    let same = second_is b.tree old.tree.stack stands.tree.stack in
    subst (λ (n : Option ℕ). Constructs new (with_tree (record b { frameset_ok = false }) (merged_into n b.attrs b.tree))) same
    (merges b.attrs (current_element Name.Body tag b starts current).same_attrs within (record b { frameset_ok = false })
    (subst (MayMerge b.tree) (sym same) (may_merge b.tree (second b.tree.stack) there)) (flagged old b stands))

pub body_added : (tag : Tag) (old new : TreeBuilder) (x : Bool) → x ≡ option_map_or (has_name Name.Body) (slice_get old.tree.stack 1) false → x ≡ true →
    ((b : Building) → Constructs old b → is_open (codes "template") b.tree ≡ false) → RemembersLimits (record old { frameset_ok = false }) new →
    MergesTagInto (id_at old.tree.stack 1) tag (record old { frameset_ok = false }) new → Continues Group.Body Name.Body tag old new Next.Done
body_added tag old new x e f outside remembers merges covers named = record {
  limits = λ within. (let was = remembers within in record { fault = was.fault; depth = was.depth });
  rule = λ starts within b current html stands test.
      (let there : body_is_second b ≡ true = sym (body_agrees b.tree old.tree.stack stands.tree.stack) ∙ sym e ∙ f in
      outcome_of_acts InBody b new body_acts refl
      (start_rows Name.Body tag b current starts ∙ body_row b
      ∙ unless_none (body_is_second b) (is_open (codes "template") b.tree) body_acts there (outside b stands))
      (merged_acts tag old new b starts within current stands there merges));
}

pub body_named : (name : Name) → group_named name ≡ Group.Body → name ≡ Name.Body
body_named Name.Body e = refl
body_named _ e = absurd (cc)

-- ---- `frameset`

pub frameset_named : (name : Name) → group_named name ≡ Group.Frameset → name ≡ Name.Frameset
frameset_named Name.Frameset e = refl
frameset_named _ e = absurd (cc)

pub frameset_ignored : (tag : Tag) (old : TreeBuilder) → ((b : Building) → Constructs old b → unless (body_is_second b) (not b.frameset_ok) frameset_acts ≡ []) →
    Continues Group.Frameset Name.Frameset tag old old Next.Done
frameset_ignored tag old ignores covers named = record {
  limits = λ within. within;
  rule = λ starts within b current html stands test.
      outcome_of_acts InBody b old [] refl (start_rows Name.Frameset tag b current starts ∙ frameset_row b ∙ ignores b stands) stands;
}

pub frameset_not_ok : (old : TreeBuilder) → old.frameset_ok ≡ false → (b : Building) → Constructs old b → (x : Bool) (acts : List Act) → unless x (not b.frameset_ok) acts ≡ []
frameset_not_ok old e b stands x acts = unless_other x (not b.frameset_ok) acts (ap not (stands.frameset_ok ∙ e))

cut_is : (n : Option ℕ) (t : GrowingTree) → cut n t ≡ body_removed n t
cut_is None t = refl
cut_is (Some n) t = refl

-- only the outermost element stays
first_stays : (t : GrowingTree) (all : List Open) → IsStackOf t all → (second t.stack ≡ None → ⊥) → IsStackOf (with_stack t (topmost t.stack ∷ [])) (take 1 all)
first_stays t [] s some = absurd (some (ap second s.ids))
first_stays t (o ∷ os) s some = record {
  ids = ap (λ (n : ℕ). n ∷ []) (outermost t o os s.ids);
  nodes = (All-head (StandsFor t.nodes) o os (all_standing t.nodes (o ∷ os) s.nodes), tt);
}

same_stack : (n : Option ℕ) (t : GrowingTree) → (body_removed n t).stack ≡ t.stack
same_stack None t = refl
same_stack (Some n) t = refl

same_fostering : (n : Option ℕ) (t : GrowingTree) → (body_removed n t).fostering ≡ t.fostering
same_fostering None t = refl
same_fostering (Some n) t = refl

-- the body is taken out of the tree, and all elements but the outermost one are popped
abbrev without_body : GrowingTree → GrowingTree
without_body t = with_stack (body_removed (second t.stack) t) (topmost (body_removed (second t.stack) t).stack ∷ [])

body_taken : (s cut_out popped : TreeState) (t : GrowingTree) → Does (cut (id_at s.stack 1)) s cut_out → popped ≡ record cut_out { stack = take 1 cut_out.stack } → (second t.stack ≡ None → ⊥) →
    Builds s t → Builds popped (without_body t)
body_taken s cut_out popped t cuts e some b =
    let after : GrowingTree = body_removed (second t.stack) t in
    let built : Builds cut_out after = subst (Builds cut_out) (cut_is (id_at s.stack 1) t ∙ ap (λ (n : Option ℕ). body_removed n t) (second_is t s.stack b.stack)) (cuts t b) in
    built_front cut_out popped after 1 (topmost after.stack ∷ []) e built
    (first_stays after cut_out.stack built.stack (λ none. some (ap second (sym (same_stack (second t.stack) t)) ∙ none)))

is_there : (t : GrowingTree) → option_map_or (is_one_of t (codes "body" ∷ [])) (second t.stack) false ≡ true → second t.stack ≡ None → ⊥
is_there t there none = true≢false (sym there ∙ ap (λ (n : Option ℕ). option_map_or (is_one_of t (codes "body" ∷ [])) n false) none)

placed_acts : (tag : Tag) (old new : TreeBuilder) (cut_out popped : TreeState) (b : Building) → is_start_kind tag.kind ≡ true → WithinLimits new → IsCurrentTag Name.Frameset tag b → Constructs old b →
    body_is_second b ≡ true → Does (cut (id_at old.tree.stack 1)) old.tree cut_out → popped ≡ record cut_out { stack = take 1 cut_out.stack } →
    PerformsFor Name.Frameset tag (InsertElement ∷ SwitchTo InFrameset ∷ []) (record old { tree = popped }) new → Constructs new (acted frameset_acts b)
unfolding perform
placed_acts tag old new cut_out popped b starts within current stands there cuts e inserts =
    inserts starts within (with_tree b (without_body b.tree)) (still Name.Frameset tag b (with_tree b (without_body b.tree)) refl refl current)
    (moved old (record old { tree = popped }) popped old.fault old.too_deep refl b (without_body b.tree) stands
    (body_taken old.tree cut_out popped b.tree cuts e (is_there b.tree there) stands.tree) (same_fostering (second b.tree.stack) b.tree))

pub frameset_placed : (tag : Tag) (old new : TreeBuilder) (next : Next) (cut_out popped : TreeState) (x : Bool) → next ≡ Next.Done → x ≡ option_map_or (has_name Name.Body) (slice_get old.tree.stack 1) false →
    x ≡ true → old.frameset_ok ≡ true → RemembersLimits (record old { tree = popped }) new → Does (cut (id_at old.tree.stack 1)) old.tree cut_out →
    popped ≡ record cut_out { stack = take 1 cut_out.stack } → PerformsFor Name.Frameset tag (InsertElement ∷ SwitchTo InFrameset ∷ []) (record old { tree = popped }) new →
    Continues Group.Frameset Name.Frameset tag old new next
frameset_placed tag old new next cut_out popped x done e f ok remembers cuts is inserts covers named = record {
  limits = λ within. (let was = remembers within in record { fault = was.fault; depth = was.depth });
  rule = λ starts within b current html stands test.
      (let there : body_is_second b ≡ true = sym (body_agrees b.tree old.tree.stack stands.tree.stack) ∙ sym e ∙ f in
      subst (λ (n : Next). Outcome InBody b new n) (sym done)
      (outcome_of_acts InBody b new frameset_acts refl
      (start_rows Name.Frameset tag b current starts ∙ frameset_row b ∙ unless_none (body_is_second b) (not b.frameset_ok) frameset_acts there (ap not (stands.frameset_ok ∙ ok)))
      (placed_acts tag old new cut_out popped b starts within current stands there cuts is inserts)));
}
