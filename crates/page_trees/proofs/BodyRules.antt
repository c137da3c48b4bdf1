-- Which rules for "in body" are for a tag, and what comes of acts that are done where their tests are met.
use Rattle.std.proofs.Common.{◌≡◌, ℕ, zero, suc, Bool, true, false, ◌||◌, not, List, [], ◌∷◌, codes, refl, sym, ap, reverse, subst, ◌∙◌, true≢false, if◌then◌else◌, inl, inr}
use Rattle.std.specs.List.{list_all, list_any}
use Rattle.std.specs.Prelude.{Some}
use Rattle.std.specs.Str.{bytes_eq}
use Rattle.std.proofs.lemmas.Slice.Eq.{bytes_eq-Decides}
use Rattle.standard_tokens.specs.Entries.{Ending, Starting}
use Rattle.standard_tokens.specs.Machine.{Tag as StandardTag, distinct, token_of}
use Rattle.standard_tokens.specs.Tokens.{Attr, AStart, AnEnd, Token}
use Rattle.standard_trees.specs.Building.{Building, fits, is_met, own_name, performed, run, taken}
use Rattle.standard_trees.specs.GrowingTree.{is_among}
use Rattle.standard_trees.specs.RuleWords.{Act, EndTagOf, InBody, Mode as StandardMode, Pattern, Rule, StartTagBut, StartTagOf, Test, does, goes, rule}
use Rattle.standard_trees.specs.TreeRules.{rules}
use Rattle.page_tokens.specs.Standard.{kind_of}
use Rattle.page_tokens.specs.declared.token.Tag.{Tag}
use Rattle.page_tokens.specs.declared.token.TagKind.{TagKind}
use Rattle.page_trees.specs.BodyTags.{acted}
use Rattle.page_trees.specs.Constructs.{ComesTo, Constructs, IsCurrentTag, Outcome}
use Rattle.page_trees.specs.Groups.{IsGroupOf, body_rules_for, example_of, group_named, rules_for}
use Rattle.page_trees.specs.Modes.{is_start_kind}
use Rattle.page_trees.specs.Names.{html_rows, name_of, rare_rows, text_of}
use Rattle.page_trees.specs.Stands.{IsTagName}
use Rattle.page_trees.specs.declared.builder.Next.{Next}
use Rattle.page_trees.specs.declared.builder.TreeBuilder.{TreeBuilder}
use Rattle.page_trees.specs.declared.modes.groups.Group.{Group}
use Rattle.page_trees.specs.declared.name.Name.{Name}
use Rattle.page_trees.proofs.GroupRules.{group_follows}
use Rattle.page_trees.proofs.NamesAgree.{both, for_all}
use Rattle.page_trees.proofs.RulesTaken.{among}
use Rattle.page_trees.proofs.StandingNames.{are_known, text_again}

-- ---- acts

-- none of these acts sends the token elsewhere
abbrev pub are_all_done : List Act → Bool
are_all_done [] = true
are_all_done (does action tests ∷ acts) = are_all_done acts
are_all_done (goes way ∷ acts) = false

acts_done : (acts : List Act) (b : Building) (d : ℕ) → are_all_done acts ≡ true → performed (run d) acts b ≡ Some (acted acts b)
acts_done [] b d h = refl
acts_done (does action tests ∷ acts) b d h = acts_done acts _ d h
acts_done (goes way ∷ acts) b d h = absurd (true≢false (sym h))

-- a rule with such acts is taken, and they are done where their tests are met
pub comes_of_acts : (mode : StandardMode) (b : Building) (acts : List Act) → are_all_done acts ≡ true → taken b (rules mode) ≡ acts → ComesTo mode b (acted acts b)
unfolding run
comes_of_acts mode b acts h e = (suc zero, ap (λ some. performed (run zero) some b) e ∙ acts_done acts b zero h)

pub outcome_of_acts : (mode : StandardMode) (b : Building) (new : TreeBuilder) (acts : List Act) → are_all_done acts ≡ true → taken b (rules mode) ≡ acts →
    Constructs new (acted acts b) → Outcome mode b new Next.Done
outcome_of_acts mode b new acts h e stands = record { after = acted acts b; stands = stands; runs = comes_of_acts mode b acts h e }

-- ---- the rules for a token

-- what the first of these rules says whose tests are met
abbrev pub choice : Building → List (List Test × List Act) → List Act
choice b [] = []
choice b (row ∷ rows) = elim (list_all (is_met b) row.0) [ true ↦ row.1 | false ↦ choice b rows ]

taken_choice : (b : Building) (rs : List Rule) → taken b rs ≡ choice b (rules_for b.token rs)
unfolding taken
taken_choice b [] = refl
taken_choice b (rule patterns tests acts ∷ more) = by (list_any (λ pattern. fits pattern b.token) patterns) (taken_choice b more)
  where
    by : (x : Bool) → taken b more ≡ choice b (rules_for b.token more) →
        (elim x [ true ↦ elim (list_all (is_met b) tests) [ true ↦ acts | false ↦ taken b more ] | false ↦ taken b more ])
        ≡ choice b (if x then (tests, acts) ∷ rules_for b.token more else rules_for b.token more)
    by true e = ap (λ rest. elim (list_all (is_met b) tests) [ true ↦ acts | false ↦ rest ]) e
    by false e = e

-- the patterns that pass a test are for two tokens alike
abbrev FitsAlike : (Pattern → Bool) → Token → Token → Type 0
FitsAlike k t u = (p : Pattern) → k p ≡ true → fits p t ≡ fits p u

abbrev all_pass : (Pattern → Bool) → Rule → Bool
all_pass k (rule patterns tests acts) = list_all k patterns

any_alike : (k : Pattern → Bool) (t u : Token) → FitsAlike k t u → (ps : List Pattern) → list_all k ps ≡ true → list_any (λ p. fits p t) ps ≡ list_any (λ p. fits p u) ps
any_alike k t u same [] h = refl
any_alike k t u same (p ∷ ps) h =
    let parts = both (k p) (list_all k ps) h in
    ap (λ b. b || list_any (λ p. fits p t) ps) (same p parts.0) ∙ ap (λ b. fits p u || b) (any_alike k t u same ps parts.1)

rules_alike : (k : Pattern → Bool) (t u : Token) → FitsAlike k t u → (rs : List Rule) → list_all (all_pass k) rs ≡ true → rules_for t rs ≡ rules_for u rs
rules_alike k t u same [] h = refl
rules_alike k t u same (rule patterns tests acts ∷ more) h =
    let parts = both (list_all k patterns) (list_all (all_pass k) more) h in
    ap (λ x. if x then (tests, acts) ∷ rules_for t more else rules_for t more) (any_alike k t u same patterns parts.0)
    ∙ ap (λ rest. if list_any (λ p. fits p u) patterns then (tests, acts) ∷ rest else rest) (rules_alike k t u same more parts.1)

-- ---- start tags

token_start : (standard : StandardTag) → standard.kind ≡ Starting → token_of standard ≡ AStart standard.name (distinct (reverse standard.attrs)) standard.self_closing
token_start standard e =
    ap (λ k. elim k [ Starting ↦ AStart standard.name (distinct (reverse standard.attrs)) standard.self_closing | Ending ↦ AnEnd standard.name ]) e

token_end : (standard : StandardTag) → standard.kind ≡ Ending → token_of standard ≡ AnEnd standard.name
token_end standard e =
    ap (λ k. elim k [ Starting ↦ AStart standard.name (distinct (reverse standard.attrs)) standard.self_closing | Ending ↦ AnEnd standard.name ]) e

pub kind_start : (k : TagKind) → is_start_kind k ≡ true → kind_of k ≡ Starting
kind_start TagKind.Start h = refl
kind_start TagKind.End h = absurd (true≢false (sym h))

kind_end : (k : TagKind) → is_start_kind k ≡ false → kind_of k ≡ Ending
kind_end TagKind.End h = refl
kind_end TagKind.Start h = absurd (true≢false h)

abbrev knows_start : Pattern → Bool
knows_start (StartTagOf names) = are_known names
knows_start (StartTagBut names) = are_known names
knows_start _ = true

start_fits : (written : List ℕ) (attrs : List Attr) (closing : Bool) → IsTagName written → FitsAlike knows_start (AStart written attrs closing) (AStart (text_of (name_of written)) [] false)
start_fits written attrs closing tag (StartTagOf names) h = among written tag names h
start_fits written attrs closing tag (StartTagBut names) h = ap not (among written tag names h)
start_fits written attrs closing tag _ h = refl

starts_known : list_all (all_pass knows_start) (rules InBody) ≡ true
unfolding rules html_rows rare_rows
starts_known = refl

-- the rules for this token
pub rules_for_token : (b : Building) (t : Token) → b.token ≡ t → taken b (rules InBody) ≡ choice b (rules_for t (rules InBody))
rules_for_token b t e = taken_choice b (rules InBody) ∙ ap (λ u. choice b (rules_for u (rules InBody))) e

-- the current token is a start tag with that name
pub current_start : (name : Name) (tag : Tag) (b : Building) (c : IsCurrentTag name tag b) → is_start_kind tag.kind ≡ true →
    b.token ≡ AStart c.standard.name (distinct (reverse c.standard.attrs)) c.standard.self_closing
current_start name tag b c e = c.token ∙ token_start c.standard (sym c.is.kind ∙ kind_start tag.kind e)

pub start_rows : (name : Name) (tag : Tag) (b : Building) → IsCurrentTag name tag b → is_start_kind tag.kind ≡ true → taken b (rules InBody) ≡ choice b (body_rules_for name)
start_rows name tag b c e =
    taken_choice b (rules InBody)
    ∙ ap (λ t. choice b (rules_for t (rules InBody))) (current_start name tag b c e)
    ∙ ap (choice b) (rules_alike knows_start (AStart c.standard.name (distinct (reverse c.standard.attrs)) c.standard.self_closing) (AStart (text_of (name_of c.standard.name)) [] false)
    (start_fits c.standard.name (distinct (reverse c.standard.attrs)) c.standard.self_closing c.written) (rules InBody) starts_known)
    ∙ ap (λ (n : Name). choice b (body_rules_for n)) (sym c.named)

-- the rules for a start tag are those for the example of its group
pub group_rows : (group : Group) (name : Name) (tag : Tag) (b : Building) → group_named name ≡ group → IsCurrentTag name tag b → is_start_kind tag.kind ≡ true →
    taken b (rules InBody) ≡ choice b (body_rules_for (example_of group))
group_rows group name tag b e c starts = start_rows name tag b c starts ∙ ap (choice b) (subst (IsGroupOf name) e (group_follows name))

-- what comes of a start tag of a group, whose acts are these
pub started_by : (group : Group) (name : Name) (tag : Tag) (b : Building) (new : TreeBuilder) (acts : List Act) → group_named name ≡ group → IsCurrentTag name tag b →
    is_start_kind tag.kind ≡ true → choice b (body_rules_for (example_of group)) ≡ acts → are_all_done acts ≡ true → Constructs new (acted acts b) → Outcome InBody b new Next.Done
started_by group name tag b new acts e c starts row done stands = outcome_of_acts InBody b new acts done (group_rows group name tag b e c starts ∙ row) stands

-- ---- end tags

-- `sarcasm` is the one name of the rules that `Name` lacks
abbrev are_sarcasm : List (List ℕ) → Bool
are_sarcasm names = list_all (bytes_eq (codes "sarcasm")) names

abbrev knows_end : Pattern → Bool
knows_end (EndTagOf names) = are_known names || are_sarcasm names
knows_end _ = true

ends_known : list_all (all_pass knows_end) (rules InBody) ≡ true
unfolding rules html_rows rare_rows
ends_known = refl

abbrev pub end_rules_for : Name → List (List Test × List Act)
end_rules_for name = rules_for (AnEnd (text_of name)) (rules InBody)

no_sarcasm : (w : List ℕ) → bytes_eq (codes "sarcasm") w ≡ false → (names : List (List ℕ)) → are_sarcasm names ≡ true → is_among w names ≡ false
no_sarcasm w other [] h = refl
no_sarcasm w other (n ∷ ns) h =
    let parts = both (bytes_eq (codes "sarcasm") n) (are_sarcasm ns) h in
    let e : codes "sarcasm" ≡ n = (bytes_eq-Decides (codes "sarcasm") n).0 parts.0 in
    ap (λ (m : List ℕ). bytes_eq w m || is_among w ns) (sym e) ∙ ap (λ b. b || is_among w ns) (turned w other) ∙ no_sarcasm w other ns parts.1
  where
    turned : (w : List ℕ) → bytes_eq (codes "sarcasm") w ≡ false → bytes_eq w (codes "sarcasm") ≡ false
    turned w other = by (bytes_eq w (codes "sarcasm")) refl
      where
        by : (x : Bool) → bytes_eq w (codes "sarcasm") ≡ x → x ≡ false
        by false e = refl
        by true e = absurd (true≢false (sym (ap (bytes_eq (codes "sarcasm")) ((bytes_eq-Decides w (codes "sarcasm")).0 e)) ∙ other))

name_apart : (name : Name) → bytes_eq (codes "sarcasm") (text_of name) ≡ false
unfolding html_rows rare_rows
name_apart name = by (bytes_eq (codes "sarcasm") (text_of name)) refl
  where
    not_true : (x : Bool) → not x ≡ true → x ≡ true → ⊥
    not_true true h e = true≢false (sym h)
    not_true false h e = true≢false (sym e)

    by : (x : Bool) → bytes_eq (codes "sarcasm") (text_of name) ≡ x → x ≡ false
    by false e = refl
    by true e = absurd (not_true (bytes_eq (codes "sarcasm") (text_of name)) (for_all (λ n. not (bytes_eq (codes "sarcasm") (text_of n))) refl name) e)

end_fits : (written : List ℕ) → IsTagName written → bytes_eq (codes "sarcasm") written ≡ false → FitsAlike knows_end (AnEnd written) (AnEnd (text_of (name_of written)))
end_fits written tag other (EndTagOf names) h = by (are_known names) refl
  where
    by : (x : Bool) → are_known names ≡ x → is_among written names ≡ is_among (text_of (name_of written)) names
    by true e = among written tag names e
    by false e =
        let all : are_sarcasm names ≡ true = ap (λ b. b || are_sarcasm names) (sym e) ∙ h in
        no_sarcasm written other names all ∙ sym (no_sarcasm (text_of (name_of written)) (name_apart (name_of written)) names all)
end_fits written tag other _ h = refl

current_end : (name : Name) (tag : Tag) (b : Building) (c : IsCurrentTag name tag b) → is_start_kind tag.kind ≡ false → b.token ≡ AnEnd c.standard.name
current_end name tag b c e = c.token ∙ token_end c.standard (sym c.is.kind ∙ kind_end tag.kind e)

-- "any other end tag" is for `sarcasm`, too
sarcastic : (b : Building) → choice b (rules_for (AnEnd (codes "sarcasm")) (rules InBody)) ≡ choice b (end_rules_for Name.Other)
unfolding rules
sarcastic b = refl

sarcasm_other : name_of (codes "sarcasm") ≡ Name.Other
unfolding html_rows rare_rows
sarcasm_other = refl

ends_alike : (written : List ℕ) → IsTagName written → (b : Building) → choice b (rules_for (AnEnd written) (rules InBody)) ≡ choice b (end_rules_for (name_of written))
ends_alike written tag b = by (bytes_eq (codes "sarcasm") written) refl
  where
    by : (x : Bool) → bytes_eq (codes "sarcasm") written ≡ x → choice b (rules_for (AnEnd written) (rules InBody)) ≡ choice b (end_rules_for (name_of written))
    by true e =
        subst (λ w. choice b (rules_for (AnEnd w) (rules InBody)) ≡ choice b (end_rules_for (name_of w))) ((bytes_eq-Decides (codes "sarcasm") written).0 e)
        (sarcastic b ∙ ap (λ (n : Name). choice b (end_rules_for n)) (sym sarcasm_other))
    by false e = ap (choice b) (rules_alike knows_end (AnEnd written) (AnEnd (text_of (name_of written))) (end_fits written tag e) (rules InBody) ends_known)

pub end_rows : (name : Name) (tag : Tag) (b : Building) → IsCurrentTag name tag b → is_start_kind tag.kind ≡ false → taken b (rules InBody) ≡ choice b (end_rules_for name)
end_rows name tag b c e =
    taken_choice b (rules InBody) ∙ ap (λ t. choice b (rules_for t (rules InBody))) (current_end name tag b c e) ∙ ends_alike c.standard.name c.written b
    ∙ ap (λ (n : Name). choice b (end_rules_for n)) (sym c.named)

-- what comes of an end tag whose acts are these
pub ended_by : (name : Name) (tag : Tag) (b : Building) (new : TreeBuilder) (acts : List Act) → IsCurrentTag name tag b → is_start_kind tag.kind ≡ false →
    choice b (end_rules_for name) ≡ acts → are_all_done acts ≡ true → Constructs new (acted acts b) → Outcome InBody b new Next.Done
ended_by name tag b new acts c ends row done stands = outcome_of_acts InBody b new acts done (end_rows name tag b c ends ∙ row) stands

-- the name of the current tag, where it is a known one
known_text : (w : List ℕ) (name : Name) → name ≡ name_of w → (name ≡ Name.Other → ⊥) → w ≡ text_of name
known_text w name e known = elim (text_again w) [
  | inl other ↦ absurd (known (e ∙ other))
  | inr same ↦ sym same ∙ ap text_of (sym e)
]

pub written_of_end : (name : Name) (tag : Tag) (b : Building) → (c : IsCurrentTag name tag b) → is_start_kind tag.kind ≡ false → own_name b.token ≡ c.standard.name
written_of_end name tag b c e = ap own_name (current_end name tag b c e)

pub own_of_end : (name : Name) (tag : Tag) (b : Building) → IsCurrentTag name tag b → is_start_kind tag.kind ≡ false → (name ≡ Name.Other → ⊥) → own_name b.token ≡ text_of name
own_of_end name tag b c e known = ap own_name (current_end name tag b c e) ∙ known_text c.standard.name name c.named known

pub own_of_start : (name : Name) (tag : Tag) (b : Building) → IsCurrentTag name tag b → is_start_kind tag.kind ≡ true → (name ≡ Name.Other → ⊥) → own_name b.token ≡ text_of name
own_of_start name tag b c e known = ap own_name (current_start name tag b c e) ∙ known_text c.standard.name name c.named known
