-- Which rules are taken for tags, where the name of the tag is any: by computation for the names that rules mention.
use Rattle.std.specs.Prelude.{◌≡◌, ◌||◌, ◌&&◌, refl, ℕ, Bool, true, false, not, List, [], ◌∷◌, ◌++◌, codes, drop, take}
use Rattle.std.specs.List.{list_all, list_any}
use Rattle.std.specs.Str.{bytes_eq}
use Rattle.std.proofs.lemmas.Slice.Eq.{bytes_eq-Decides}
use mathlib.Core.Path.{◌∙◌, ap}
use Rattle.standard_tokens.specs.Tokens.{Attr, AStart, AnEnd, Token}
use Rattle.standard_trees.specs.Building.{Building, fits, holds, is_met, taken}
use Rattle.standard_trees.specs.GrowingTree.{is_among, is_one}
use Rattle.standard_trees.specs.RuleWords.{Act, AllImpliedEndTags, AttributeTypeHidden, Character, ClearListToMarker, Comment, Doctype}
use Rattle.standard_trees.specs.RuleWords.{EndOfFile, EndTagOf, InBody, InHead, InTable, InsertElement, Null, Pattern, Pop, PopTemplateMode}
use Rattle.standard_trees.specs.RuleWords.{PopUntil, ResetMode, Rule, StartTagOf, These, WhiteSpace, does, rule}
use Rattle.standard_trees.specs.TreeRules.{rules}
use Rattle.standard_order.proofs.StandingStacks.{both}
use Rattle.page_trees.specs.FosteredTags.{acts_alone, ends_there, is_fostering, uses_head}
use Rattle.page_trees.proofs.FosteredTags.{fostering_acts}
use Rattle.page_trees.proofs.RulesTaken.{chosen}
use Rattle.page_trees.proofs.TokenRules.{taken_of}

-- ---- names

-- what is so of each of these names is so of one that is among them
pub among_all : (P : List ℕ → Bool) (names : List (List ℕ)) (w : List ℕ) → list_all P names ≡ true → is_among w names ≡ true → P w ≡ true
among_all P [] w all h = cc
among_all P (n ∷ ns) w all h = by (bytes_eq w n) refl h (λ k. among_all P ns w two.1 k)
  where
    two : (P n ≡ true) × (list_all P ns ≡ true)
    two = both (P n) (list_all P ns) all

    by : (x : Bool) → bytes_eq w n ≡ x → x || is_among w ns ≡ true → (is_among w ns ≡ true → P w ≡ true) → P w ≡ true
    by true e k more = ap P ((bytes_eq-Decides w n).0 e) ∙ two.0
    by false e k more = more k

-- a name that isn't among these is none of the others, which all are
pub none_among : (names others : List (List ℕ)) (w : List ℕ) → list_all (λ n. is_among n names) others ≡ true → is_among w names ≡ false →
    is_among w others ≡ false
none_among names others w all none = by (is_among w others) refl
  where
    by : (x : Bool) → is_among w others ≡ x → x ≡ false
    by true e = (let k : is_among w names ≡ true = among_all (λ n. is_among n names) others w all e in cc)
    by false e = refl

among_split : (w : List ℕ) (xs ys : List (List ℕ)) → is_among w (xs ++ ys) ≡ false → (is_among w xs ≡ false) × (is_among w ys ≡ false)
among_split w [] ys h = (refl, h)
among_split w (x ∷ xs) ys h = by (bytes_eq w x) h (λ k. among_split w xs ys k)
  where
    by : (c : Bool) → c || is_among w (xs ++ ys) ≡ false →
        (is_among w (xs ++ ys) ≡ false → (is_among w xs ≡ false) × (is_among w ys ≡ false)) →
        (c || is_among w xs ≡ false) × (is_among w ys ≡ false)
    by true k more = cc
    by false k more = more k

-- ---- what rules say

-- a rule says so, or isn't for the token
abbrev pub says : (List Act → Bool) → Token → Rule → Bool
says test t (rule patterns tests acts) = test acts || not (list_any (λ p. fits p t) patterns)

-- what all rules say that are for the token, the one that is taken says
pub all_say : (test : List Act → Bool) (t : Token) (b : Building) (rs : List Rule) → test [] ≡ true → list_all (says test t) rs ≡ true →
    test (chosen t b rs) ≡ true
all_say test t b [] none h = none
all_say test t b (rule patterns tests acts ∷ more) none h =
    by (list_any (λ p. fits p t) patterns) (list_all (is_met b) tests) (test acts) refl two.0 (all_say test t b more none two.1)
  where
    two : (test acts || not (list_any (λ p. fits p t) patterns) ≡ true) × (list_all (says test t) more ≡ true)
    two = both (test acts || not (list_any (λ p. fits p t) patterns)) (list_all (says test t) more) h

    by : (x y z : Bool) → test acts ≡ z → z || not x ≡ true → test (chosen t b more) ≡ true →
        test (elim x as (λ _. List Act) [
          | true ↦ elim y as (λ _. List Act) [ true ↦ acts | false ↦ chosen t b more ]
          | false ↦ chosen t b more
        ]) ≡ true
    by true true true e k rest = e
    by true true false e k rest = cc
    by true false z e k rest = rest
    by false y z e k rest = rest

-- ---- the names that rules mention

-- the pattern is for a start tag by its name alone, or for none
abbrev pub names_starts : Pattern → Bool
names_starts WhiteSpace = true
names_starts Null = true
names_starts Character = true
names_starts Comment = true
names_starts Doctype = true
names_starts EndOfFile = true
names_starts (StartTagOf names) = true
names_starts (EndTagOf names) = true
names_starts _ = false

-- and for an end tag
abbrev pub starts_of : Pattern → List (List ℕ)
starts_of (StartTagOf names) = names
starts_of _ = []

abbrev pub ends_of : Pattern → List (List ℕ)
ends_of (EndTagOf names) = names
ends_of _ = []

abbrev pub names_by : (Pattern → List (List ℕ)) → List Pattern → List (List ℕ)
names_by own [] = []
names_by own (p ∷ ps) = own p ++ names_by own ps

abbrev pub named_by : (Pattern → List (List ℕ)) → List Rule → List (List ℕ)
named_by own [] = []
named_by own (rule patterns tests acts ∷ more) = names_by own patterns ++ named_by own more

abbrev pub all_named : List Rule → Bool
all_named [] = true
all_named (rule patterns tests acts ∷ more) = list_all names_starts patterns && all_named more

-- the pattern isn't for the token, whose name it doesn't mention
abbrev pub Unfit : (Pattern → List (List ℕ)) → List ℕ → Token → Type 0
Unfit own w t = (p : Pattern) → names_starts p ≡ true → is_among w (own p) ≡ false → fits p t ≡ false

start_unfit : (w : List ℕ) (attrs : List Attr) (closing : Bool) → Unfit starts_of w (AStart w attrs closing)
start_unfit w attrs closing (StartTagOf names) h none = none
start_unfit w attrs closing (EndTagOf names) h none = refl
start_unfit w attrs closing WhiteSpace h none = refl
start_unfit w attrs closing Null h none = refl
start_unfit w attrs closing Character h none = refl
start_unfit w attrs closing Comment h none = refl
start_unfit w attrs closing Doctype h none = refl
start_unfit w attrs closing EndOfFile h none = refl
start_unfit w attrs closing _ h none = cc

end_unfit : (w : List ℕ) → Unfit ends_of w (AnEnd w)
end_unfit w (StartTagOf names) h none = refl
end_unfit w (EndTagOf names) h none = none
end_unfit w WhiteSpace h none = refl
end_unfit w Null h none = refl
end_unfit w Character h none = refl
end_unfit w Comment h none = refl
end_unfit w Doctype h none = refl
end_unfit w EndOfFile h none = refl
end_unfit w _ h none = cc

none_fit : (own : Pattern → List (List ℕ)) (w : List ℕ) (t : Token) → Unfit own w t → (ps : List Pattern) → list_all names_starts ps ≡ true →
    is_among w (names_by own ps) ≡ false → list_any (λ p. fits p t) ps ≡ false
none_fit own w t unfit [] h none = refl
none_fit own w t unfit (p ∷ ps) h none =
    ap (λ x. x || list_any (λ q. fits q t) ps) (unfit p two.0 apart.0) ∙ none_fit own w t unfit ps two.1 apart.1
  where
    two : (names_starts p ≡ true) × (list_all names_starts ps ≡ true)
    two = both (names_starts p) (list_all names_starts ps) h

    apart : (is_among w (own p) ≡ false) × (is_among w (names_by own ps) ≡ false)
    apart = among_split w (own p) (names_by own ps) none

-- rules that don't mention its name are not for the token
skipped : (own : Pattern → List (List ℕ)) (w : List ℕ) (t : Token) → Unfit own w t → (b : Building) (last rs : List Rule) →
    all_named rs ≡ true → is_among w (named_by own rs) ≡ false → chosen t b (rs ++ last) ≡ chosen t b last
skipped own w t unfit b last [] h none = refl
skipped own w t unfit b last (rule patterns tests acts ∷ more) h none =
    ap (λ x. elim x as (λ _. List Act) [
      | true ↦ elim (list_all (is_met b) tests) as (λ _. List Act) [ true ↦ acts | false ↦ chosen t b (more ++ last) ]
      | false ↦ chosen t b (more ++ last)
    ]) (none_fit own w t unfit patterns two.0 apart.0) ∙ skipped own w t unfit b last more two.1 apart.1
  where
    two : (list_all names_starts patterns ≡ true) × (all_named more ≡ true)
    two = both (list_all names_starts patterns) (all_named more) h

    apart : (is_among w (names_by own patterns) ≡ false) × (is_among w (named_by own more) ≡ false)
    apart = among_split w (names_by own patterns) (named_by own more) none

-- ---- "in table"

-- the rules for "in table" but the last one
abbrev pub table_rules : List Rule
unfolding rules
table_rules = take 19 (rules InTable)

abbrev pub table_starts : List (List ℕ)
unfolding rules
table_starts = named_by starts_of table_rules

abbrev pub table_ends : List (List ℕ)
unfolding rules
table_ends = named_by ends_of table_rules

-- a tag that they don't mention is processed by the rules for "in body", with foster parenting
pub start_fostered : (w : List ℕ) (attrs : List Attr) (closing : Bool) (b : Building) → b.token ≡ AStart w attrs closing →
    is_among w table_starts ≡ false → is_fostering (taken b (rules InTable)) ≡ true
unfolding rules
start_fostered w attrs closing b e none =
    ap is_fostering (taken_of (AStart w attrs closing) b e (rules InTable)
    ∙ skipped starts_of w (AStart w attrs closing) (start_unfit w attrs closing) b (drop 19 (rules InTable)) table_rules refl none)

pub end_fostered : (w : List ℕ) (b : Building) → b.token ≡ AnEnd w → is_among w table_ends ≡ false → is_fostering (taken b (rules InTable)) ≡ true
unfolding rules
end_fostered w b e none =
    ap is_fostering (taken_of (AnEnd w) b e (rules InTable)
    ∙ skipped ends_of w (AnEnd w) (end_unfit w) b (drop 19 (rules InTable)) table_rules refl none)

-- an `input` that isn't hidden, too
pub input_fostered : (attrs : List Attr) (closing : Bool) (b : Building) → b.token ≡ AStart (codes "input") attrs closing →
    holds AttributeTypeHidden b ≡ false → is_fostering (taken b (rules InTable)) ≡ true
unfolding rules
input_fostered attrs closing b e h =
    ap is_fostering (taken_of (AStart (codes "input") attrs closing) b e (rules InTable)) ∙ by (holds AttributeTypeHidden b) h
  where
    by : (x : Bool) → x ≡ false → is_fostering (elim (x && true) as (λ _. List Act) [
      | true ↦ does InsertElement [] ∷ does Pop [] ∷ []
      | false ↦ fostering_acts
    ]) ≡ true
    by true k = cc
    by false k = refl

-- ---- "in body"

abbrev pub head_names : List (List ℕ)
head_names = codes "base" ∷ codes "basefont" ∷ codes "bgsound" ∷ codes "link" ∷ codes "meta" ∷ codes "noframes" ∷ codes "script" ∷
    codes "style" ∷ codes "template" ∷ codes "title" ∷ []

start_alone : (w : List ℕ) (attrs : List Attr) (closing : Bool) (b : Building) → is_among w head_names ≡ false →
    is_among w (codes "image" ∷ []) ≡ false → acts_alone (chosen (AStart w attrs closing) b (rules InBody)) ≡ true
unfolding rules
start_alone w attrs closing b e f =
    all_say acts_alone (AStart w attrs closing) b (rules InBody) refl (by (is_among w head_names) (is_among w (codes "image" ∷ [])) e f)
  where
    by : (x y : Bool) → x ≡ false → y ≡ false → not (x || false) && (not (y || false) && true) ≡ true
    by true y k l = cc
    by false true k l = cc
    by false false k l = refl

either : (x y : Bool) → x && y ≡ true → (z : Bool) → z || (x && y) ≡ true
either x y h true = refl
either x y h false = h

left_so : (x y : Bool) → x ≡ true → x || y ≡ true
left_so true y e = refl
left_so false y e = cc

head_start : (attrs : List Attr) (closing : Bool) (b : Building) (w : List ℕ) → is_among w head_names ≡ true →
    uses_head (chosen (AStart w attrs closing) b (rules InBody)) && acts_alone (chosen (AStart w attrs closing) b (rules InHead)) ≡ true
unfolding rules
head_start attrs closing b w h =
    among_all (λ n. uses_head (chosen (AStart n attrs closing) b (rules InBody)) && acts_alone (chosen (AStart n attrs closing) b (rules InHead)))
    head_names w refl h

-- by the rules for "in body" a start tag is done with, but `image`
pub start_ends : (w : List ℕ) (attrs : List Attr) (closing : Bool) (b : Building) → b.token ≡ AStart w attrs closing →
    is_among w (codes "image" ∷ []) ≡ false → ends_there b ≡ true
start_ends w attrs closing b e other =
    ap (λ acts. acts_alone acts || (uses_head acts && acts_alone (taken b (rules InHead)))) (taken_of t b e (rules InBody))
    ∙ ap (λ acts. acts_alone (chosen t b (rules InBody)) || (uses_head (chosen t b (rules InBody)) && acts_alone acts))
    (taken_of t b e (rules InHead))
    ∙ by (is_among w head_names) refl
  where
    t : Token
    t = AStart w attrs closing

    by : (x : Bool) → is_among w head_names ≡ x → acts_alone (chosen t b (rules InBody)) ||
        (uses_head (chosen t b (rules InBody)) && acts_alone (chosen t b (rules InHead))) ≡ true
    by true k = either (uses_head (chosen t b (rules InBody))) (acts_alone (chosen t b (rules InHead))) (head_start attrs closing b w k)
        (acts_alone (chosen t b (rules InBody)))
    by false k = left_so (acts_alone (chosen t b (rules InBody))) (uses_head (chosen t b (rules InBody)) && acts_alone (chosen t b (rules InHead)))
        (start_alone w attrs closing b k other)

end_alone : (w : List ℕ) (b : Building) → is_among w (codes "template" ∷ []) ≡ false → is_among w (codes "html" ∷ []) ≡ false →
    acts_alone (chosen (AnEnd w) b (rules InBody)) ≡ true
unfolding rules
end_alone w b e f =
    all_say acts_alone (AnEnd w) b (rules InBody) refl (by (is_among w (codes "template" ∷ [])) (is_among w (codes "html" ∷ [])) e f)
  where
    by : (x y : Bool) → x ≡ false → y ≡ false → not (x || false) && (not (y || false) && true) ≡ true
    by true y k l = cc
    by false true k l = cc
    by false false k l = refl

template_alone : (b : Building) → acts_alone (chosen (AnEnd (codes "template")) b (rules InHead)) ≡ true
unfolding rules
template_alone b = by (list_any (is_one b.tree (codes "template" ∷ [])) b.tree.stack)
  where
    by : (x : Bool) → acts_alone (elim (not x && true) as (λ _. List Act) [
      | true ↦ []
      | false ↦ does AllImpliedEndTags [] ∷ does (PopUntil (These (codes "template" ∷ []))) [] ∷ does ClearListToMarker [] ∷
          does PopTemplateMode [] ∷ does ResetMode [] ∷ []
    ]) ≡ true
    by true = refl
    by false = refl

template_ends : (b : Building) (w : List ℕ) → is_among w (codes "template" ∷ []) ≡ true →
    uses_head (chosen (AnEnd w) b (rules InBody)) && acts_alone (chosen (AnEnd w) b (rules InHead)) ≡ true
unfolding rules
template_ends b w h =
    among_all (λ n. uses_head (chosen (AnEnd n) b (rules InBody)) && acts_alone (chosen (AnEnd n) b (rules InHead))) (codes "template" ∷ []) w
    (ap (λ x. x && true) (template_alone b)) h

-- and an end tag, but `html`
pub end_ends : (w : List ℕ) (b : Building) → b.token ≡ AnEnd w → is_among w (codes "html" ∷ []) ≡ false → ends_there b ≡ true
end_ends w b e other =
    ap (λ acts. acts_alone acts || (uses_head acts && acts_alone (taken b (rules InHead)))) (taken_of (AnEnd w) b e (rules InBody))
    ∙ ap (λ acts. acts_alone (chosen (AnEnd w) b (rules InBody)) || (uses_head (chosen (AnEnd w) b (rules InBody)) && acts_alone acts))
    (taken_of (AnEnd w) b e (rules InHead))
    ∙ by (is_among w (codes "template" ∷ [])) refl
  where
    by : (x : Bool) → is_among w (codes "template" ∷ []) ≡ x → acts_alone (chosen (AnEnd w) b (rules InBody)) ||
        (uses_head (chosen (AnEnd w) b (rules InBody)) && acts_alone (chosen (AnEnd w) b (rules InHead))) ≡ true
    by true k = either (uses_head (chosen (AnEnd w) b (rules InBody))) (acts_alone (chosen (AnEnd w) b (rules InHead))) (template_ends b w k)
        (acts_alone (chosen (AnEnd w) b (rules InBody)))
    by false k = left_so (acts_alone (chosen (AnEnd w) b (rules InBody)))
        (uses_head (chosen (AnEnd w) b (rules InBody)) && acts_alone (chosen (AnEnd w) b (rules InHead))) (end_alone w b k other)
