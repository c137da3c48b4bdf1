-- Which rule is taken for a tag. Of its name the rules know no more than which `Name` it is.
use Rattle.std.proofs.Common.{◌≡◌, ℕ, Bool, true, false, ◌||◌, not, List, [], ◌∷◌, refl, sym, ap, reverse, subst, ◌∙◌, true≢false}
use Rattle.std.specs.List.{list_all, list_any}
use Rattle.standard_tokens.specs.Entries.{Ending, Starting}
use Rattle.standard_tokens.specs.Machine.{Tag as StandardTag, distinct, token_of}
use Rattle.standard_tokens.specs.Tokens.{Attr, AStart, AnEnd, Token}
use Rattle.standard_trees.specs.Building.{Building, fits, is_met, taken}
use Rattle.standard_trees.specs.GrowingTree.{is_among}
use Rattle.standard_trees.specs.RuleWords.{Act, EndTagOf, Pattern, Rule, StartTagBut, StartTagOf, rule}
use Rattle.page_tokens.specs.Standard.{kind_of}
use Rattle.page_tokens.specs.declared.token.Tag.{Tag}
use Rattle.page_tokens.specs.declared.token.TagKind.{TagKind}
use Rattle.page_trees.specs.Constructs.{IsCurrentTag}
use Rattle.page_trees.specs.Modes.{is_start_kind}
use Rattle.page_trees.specs.Names.{name_of, text_of}
use Rattle.page_trees.specs.Stands.{IsTagName}
use Rattle.page_trees.specs.declared.name.Name.{Name}
use Rattle.page_trees.specs.declared.stack.ElementNamespace.{ElementNamespace}
use Rattle.page_trees.proofs.NamesAgree.{both}
use Rattle.page_trees.proofs.StandingNames.{are_known, key_agrees}

-- ---- the names that rules mention

abbrev pub knows : Pattern → Bool
knows (StartTagOf names) = are_known names
knows (StartTagBut names) = are_known names
knows (EndTagOf names) = are_known names
knows _ = true

abbrev pub knows_rule : Rule → Bool
knows_rule (rule patterns tests acts) = list_all knows patterns

abbrev pub are_of_names : List Rule → Bool
are_of_names rs = list_all knows_rule rs

-- ---- the rule for another token

-- what the first rule says that is for this token and whose tests are met
abbrev pub chosen : Token → Building → List Rule → List Act
chosen t b [] = []
chosen t b (rule patterns tests acts ∷ more) =
    elim (list_any (λ pattern. fits pattern t) patterns) [
      | true ↦ elim (list_all (is_met b) tests) [ true ↦ acts | false ↦ chosen t b more ]
      | false ↦ chosen t b more
    ]

-- the same patterns are for two tokens
abbrev pub FitAlike : Token → Token → Type 0
FitAlike t u = (p : Pattern) → knows p ≡ true → fits p t ≡ fits p u

pub any_alike : (t u : Token) → FitAlike t u → (ps : List Pattern) → list_all knows ps ≡ true → list_any (λ p. fits p t) ps ≡ list_any (λ p. fits p u) ps
any_alike t u same [] h = refl
any_alike t u same (p ∷ ps) h =
    let parts = both (knows p) (list_all knows ps) h in
    ap (λ b. b || list_any (λ p. fits p t) ps) (same p parts.0) ∙ ap (λ b. fits p u || b) (any_alike t u same ps parts.1)

pub taken_is : (t u : Token) → FitAlike t u → (b : Building) → b.token ≡ t → (rs : List Rule) → are_of_names rs ≡ true → taken b rs ≡ chosen u b rs
unfolding taken
taken_is t u same b e [] h = refl
taken_is t u same b e (rule patterns tests acts ∷ more) h =
    let parts = both (list_all knows patterns) (are_of_names more) h in
    ap (λ v. elim (list_any (λ pattern. fits pattern v) patterns) [
      | true ↦ elim (list_all (is_met b) tests) [ true ↦ acts | false ↦ taken b more ]
      | false ↦ taken b more
    ]) e
    ∙ ap (λ x. elim x [
      | true ↦ elim (list_all (is_met b) tests) [ true ↦ acts | false ↦ taken b more ]
      | false ↦ taken b more
    ]) (any_alike t u same patterns parts.0)
    ∙ ap (λ rest. elim (list_any (λ pattern. fits pattern u) patterns) [
      | true ↦ elim (list_all (is_met b) tests) [ true ↦ acts | false ↦ rest ]
      | false ↦ rest
    ]) (taken_is t u same b e more parts.1)

-- ---- tags

-- the tag of a known name without attributes; for a name that no rule mentions it has none
abbrev pub plain_tag : Bool → Name → Token
plain_tag true name = AStart (text_of name) [] false
plain_tag false name = AnEnd (text_of name)

pub among : (written : List ℕ) → IsTagName written → (names : List (List ℕ)) → are_known names ≡ true →
    is_among written names ≡ is_among (text_of (name_of written)) names
among written tag names h = sym (key_agrees names h ElementNamespace.Html written tag)

start_fits : (written : List ℕ) (attrs : List Attr) (closing : Bool) → IsTagName written → FitAlike (AStart written attrs closing) (plain_tag true (name_of written))
start_fits written attrs closing tag (StartTagOf names) h = among written tag names h
start_fits written attrs closing tag (StartTagBut names) h = ap not (among written tag names h)
start_fits written attrs closing tag _ h = refl

end_fits : (written : List ℕ) → IsTagName written → FitAlike (AnEnd written) (plain_tag false (name_of written))
end_fits written tag (EndTagOf names) h = among written tag names h
end_fits written tag _ h = refl

token_start : (standard : StandardTag) → standard.kind ≡ Starting → token_of standard ≡ AStart standard.name (distinct (reverse standard.attrs)) standard.self_closing
token_start standard e =
    ap (λ k. elim k [ Starting ↦ AStart standard.name (distinct (reverse standard.attrs)) standard.self_closing | Ending ↦ AnEnd standard.name ]) e

token_end : (standard : StandardTag) → standard.kind ≡ Ending → token_of standard ≡ AnEnd standard.name
token_end standard e =
    ap (λ k. elim k [ Starting ↦ AStart standard.name (distinct (reverse standard.attrs)) standard.self_closing | Ending ↦ AnEnd standard.name ]) e

pub kind_fits : (standard : StandardTag) (k : TagKind) (start : Bool) → is_start_kind k ≡ start → kind_of k ≡ standard.kind → IsTagName standard.name →
    FitAlike (token_of standard) (plain_tag start (name_of standard.name))
kind_fits standard TagKind.Start true e f tag =
    subst (λ t. FitAlike t (plain_tag true (name_of standard.name))) (sym (token_start standard (sym f))) (start_fits standard.name (distinct (reverse standard.attrs)) standard.self_closing tag)
kind_fits standard TagKind.End false e f tag =
    subst (λ t. FitAlike t (plain_tag false (name_of standard.name))) (sym (token_end standard (sym f))) (end_fits standard.name tag)
kind_fits standard TagKind.Start false e f tag = absurd (true≢false e)
kind_fits standard TagKind.End true e f tag = absurd (true≢false (sym e))

-- the rule for a tag is the one for the plain tag of its name
pub taken_tag : (name : Name) (tag : Tag) (b : Building) → IsCurrentTag name tag b → (start : Bool) → is_start_kind tag.kind ≡ start → (rs : List Rule) →
    are_of_names rs ≡ true → taken b rs ≡ chosen (plain_tag start name) b rs
taken_tag name tag b c start e rs h =
    taken_is (token_of c.standard) (plain_tag start (name_of c.standard.name)) (kind_fits c.standard tag.kind start e c.is.kind c.written) b c.token rs h
    ∙ ap (λ n. chosen (plain_tag start n) b rs) (sym c.named)
