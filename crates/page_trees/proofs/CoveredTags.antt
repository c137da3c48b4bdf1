-- Tags whose turn is covered, by the insertion mode.
use Rattle.std.proofs.Common.{Bool, [], ap, false, refl, reverse, subst, sym, true, true≢false, ◌&&◌, ◌∙◌, ◌∷◌, ◌≡◌}
use Rattle.standard_tokens.specs.Entries.{Ending, Starting, TagKind as StandardKind}
use Rattle.standard_tokens.specs.Machine.{distinct, token_of}
use Rattle.standard_tokens.specs.Tokens.{AStart, AnEnd}
use Rattle.standard_trees.specs.Building.{Building, own_name, taken}
use Rattle.standard_trees.specs.RuleWords.{Dispatcher, Mode as StandardMode, Text, goes}
use Rattle.standard_trees.specs.TreeRules.{rules}
use Rattle.page_tokens.specs.Standard.{kind_of}
use Rattle.page_tokens.specs.declared.token.Tag.{Tag}
use Rattle.page_tokens.specs.declared.token.TagKind.{TagKind}
use Rattle.page_trees.specs.BodyTags.{ProcessesInBody, covers_body, suits_body}
use Rattle.page_trees.specs.Constructs.{IsCurrentTag, Outcome, ProcessesTag}
use Rattle.page_trees.specs.CoveredTurns.{ProcessesCovered, covers_foreign_tag, covers_kind_in_body, covers_tag, covers_tag_in}
use Rattle.standard_order.specs.Order.{has_html}
use Rattle.page_trees.specs.CoveredTurns.{is_start_tag, passes, suits_kind_in_body, tag_name, uses_current_mode}
use Rattle.page_trees.specs.HeadSteps.{ProcessesTagBehindHead}
use Rattle.standard_order.specs.Order.{head_is_closed}
use Rattle.page_trees.specs.LateMerges.{ProcessesTagInHtml}
use Rattle.page_trees.specs.Modes.{is_start_kind, mode_of}
use Rattle.page_trees.specs.Names.{name_of}
use Rattle.page_trees.specs.TableSteps.{ProcessesTagWhere}
use Rattle.page_trees.specs.TagSteps.{is_outer, way_for}
use Rattle.page_trees.specs.TableTexts.{SettlesText}
use Rattle.page_trees.specs.TokenSteps.{ReturnsPlainly, keeps_characters}
use Rattle.page_trees.specs.declared.builder.Mode.{Mode}
use Rattle.page_trees.specs.declared.builder.Next.{Next}
use Rattle.page_trees.specs.declared.builder.TreeBuilder.{TreeBuilder}
use Rattle.page_trees.specs.declared.name.Name.{Name}
use Rattle.page_trees.proofs.CoveredLemmas.{text_returns}
use Rattle.page_trees.proofs.NamesAgree.{both}
use Rattle.page_trees.proofs.PendingTexts.{is_character}
use Rattle.page_trees.proofs.SettledTexts.{no_character, text_comes}
use Rattle.page_trees.proofs.TextTags.{tag_in_mode}

-- ---- a mode

-- in the mode n
pub in_the_mode : (m n : Mode) (name : Name) (tag : Tag) (old new : TreeBuilder) (next : Next) → m ≡ n → ProcessesCovered (mode_of n) name tag old new next →
    ProcessesCovered (mode_of m) name tag old new next
in_the_mode m n name tag old new next e covered = subst (λ (x : Mode). ProcessesCovered (mode_of x) name tag old new next) (sym e) covered

pub always : (m n : Mode) (name : Name) (tag : Tag) (old new : TreeBuilder) (next : Next) → m ≡ n → ProcessesTag (mode_of n) name tag old new next →
    ProcessesCovered (mode_of m) name tag old new next
always m n name tag old new next e rule = in_the_mode m n name tag old new next e (λ within b current covered stands. rule within b current stands)

pub under_html : (m n : Mode) (name : Name) (tag : Tag) (old new : TreeBuilder) (next : Next) → m ≡ n → ((b : Building) → covers_tag_in (mode_of n) b ≡ has_html b) →
    ProcessesTagInHtml (mode_of n) name tag old new next → ProcessesCovered (mode_of m) name tag old new next
under_html m n name tag old new next e is rule =
    in_the_mode m n name tag old new next e (λ within b current covered stands. rule within b current (sym (is b) ∙ covered) stands)

-- after the head, the head element has to be closed
pub behind_head : (m n : Mode) (name : Name) (tag : Tag) (old new : TreeBuilder) (next : Next) → m ≡ n →
    ((b : Building) → covers_tag_in (mode_of n) b ≡ (has_html b && head_is_closed b)) → ProcessesTagBehindHead (mode_of n) name tag old new next →
    ProcessesCovered (mode_of m) name tag old new next
behind_head m n name tag old new next e is rule = in_the_mode m n name tag old new next e (λ within b current covered stands.
    let facts = both (has_html b) (head_is_closed b) (sym (is b) ∙ covered) in
    rule within b current facts.0 facts.1 stands)

pub not_covered : (m n : Mode) (name : Name) (tag : Tag) (old new : TreeBuilder) (next : Next) → m ≡ n → ((b : Building) → covers_tag_in (mode_of n) b ≡ false) →
    ProcessesCovered (mode_of m) name tag old new next
not_covered m n name tag old new next e none =
    in_the_mode m n name tag old new next e (λ within b current covered stands. absurd (true≢false (sym covered ∙ none b)))

pub text_covered : (name : Name) (tag : Tag) (old new : TreeBuilder) (next : Next) → old.mode ≡ Mode.Text → (ReturnsPlainly old → ProcessesTag Text name tag old new next) →
    ProcessesCovered (mode_of old.mode) name tag old new next
text_covered name tag old new next text rule =
    in_the_mode old.mode Mode.Text name tag old new next text (λ within b current covered stands. rule (text_returns old b stands covered) within b current stands)

-- pending table character tokens come first
pub text_left : (name : Name) (tag : Tag) (old new : TreeBuilder) (next : Next) → old.mode ≡ Mode.InTableText → next ≡ Next.Again → SettlesText old new →
    ProcessesCovered (mode_of old.mode) name tag old new next
text_left name tag old new next text again rule =
    in_the_mode old.mode Mode.InTableText name tag old new next text (λ within b current covered stands.
    subst (λ (n : Next). Outcome (mode_of Mode.InTableText) b new n) (sym again)
    (text_comes old new b rule within (ap keeps_characters text) (ap is_character current.token ∙ no_character current.standard) covered stands))

-- ---- a test of the tag

pub starts_is : (name : Name) (tag : Tag) (b : Building) → IsCurrentTag name tag b → is_start_tag b.token ≡ is_start_kind tag.kind
starts_is name tag b c = ap is_start_tag c.token ∙ by tag.kind c.is.kind
  where
    by : (k : TagKind) → kind_of k ≡ c.standard.kind → is_start_tag (token_of c.standard) ≡ is_start_kind k
    by TagKind.Start e = ap (λ x. is_start_tag (elim x [
      | Starting ↦ AStart c.standard.name (distinct (reverse c.standard.attrs)) c.standard.self_closing
      | Ending ↦ AnEnd c.standard.name
    ])) (sym e)
    by TagKind.End e = ap (λ x. is_start_tag (elim x [
      | Starting ↦ AStart c.standard.name (distinct (reverse c.standard.attrs)) c.standard.self_closing
      | Ending ↦ AnEnd c.standard.name
    ])) (sym e)

name_is : (name : Name) (tag : Tag) (b : Building) → IsCurrentTag name tag b → tag_name b ≡ name
name_is name tag b c = ap (λ t. name_of (own_name t)) c.token ∙ ap name_of (by c.standard.kind) ∙ sym c.named
  where
    by : (k : StandardKind) → own_name (elim k [
      | Starting ↦ AStart c.standard.name (distinct (reverse c.standard.attrs)) c.standard.self_closing
      | Ending ↦ AnEnd c.standard.name
    ]) ≡ c.standard.name
    by Starting = refl
    by Ending = refl

pub under_test : (m n : Mode) (name : Name) (tag : Tag) (old new : TreeBuilder) (next : Next) → m ≡ n → (test : Bool → Name → Bool) →
    ((b : Building) → covers_tag_in (mode_of n) b ≡ passes test b) → (test (is_start_kind tag.kind) name ≡ true → ProcessesTagInHtml (mode_of n) name tag old new next) →
    ProcessesCovered (mode_of m) name tag old new next
under_test m n name tag old new next e test is rule = in_the_mode m n name tag old new next e (λ within b current covered stands.
    let two = both (has_html b) (test (is_start_tag b.token) (tag_name b)) (sym (is b) ∙ covered) in
    let told = sym (ap (λ s. test s (tag_name b)) (starts_is name tag b current) ∙ ap (λ n. test (is_start_kind tag.kind) n) (name_is name tag b current)) ∙ two.1 in
    rule told within b current two.0 stands)

-- a test of the tag and the state
pub under_state : (m n : Mode) (name : Name) (tag : Tag) (old new : TreeBuilder) (next : Next) → m ≡ n → (test : Bool → Name → Building → Bool) →
    ((b : Building) → covers_tag_in (mode_of n) b ≡ passes (λ start name. test start name b) b) →
    ProcessesTagWhere (test (is_start_kind tag.kind)) (mode_of n) name tag old new next → ProcessesCovered (mode_of m) name tag old new next
under_state m n name tag old new next e test is rule = in_the_mode m n name tag old new next e (λ within b current covered stands.
    let two = both (has_html b) (test (is_start_tag b.token) (tag_name b) b) (sym (is b) ∙ covered) in
    let told = sym (ap (λ s. test s (tag_name b) b) (starts_is name tag b current) ∙ ap (λ n. test (is_start_kind tag.kind) n b) (name_is name tag b current)) ∙ two.1 in
    rule within b current two.0 told stands)

in_body : (kind : TagKind) (name : Name) → covers_kind_in_body (is_start_kind kind) name ≡ true → covers_body kind name ≡ true
in_body TagKind.Start name covered = covered
in_body TagKind.End name covered = covered

suited : (kind : TagKind) (name : Name) (b : Building) → suits_kind_in_body (is_start_kind kind) name b ≡ true → suits_body kind name b ≡ true
suited TagKind.Start name b suits = suits
suited TagKind.End name b suits = suits

pub under_body : (m : Mode) (name : Name) (tag : Tag) (old new : TreeBuilder) (next : Next) → m ≡ Mode.InBody → ProcessesInBody name tag old new next →
    ProcessesCovered (mode_of m) name tag old new next
under_body m name tag old new next e rule = in_the_mode m Mode.InBody name tag old new next e (λ within b current covered stands.
    let parts = both (passes covers_kind_in_body b) (suits_kind_in_body (is_start_tag b.token) (tag_name b) b) covered in
    let two = both (has_html b) (covers_kind_in_body (is_start_tag b.token) (tag_name b)) parts.0 in
    let starts = starts_is name tag b current in
    let named = name_is name tag b current in
    let told = sym (ap (λ s. covers_kind_in_body s (tag_name b)) starts ∙ ap (λ n. covers_kind_in_body (is_start_kind tag.kind) n) named) ∙ two.1 in
    let suits = sym (ap (λ s. suits_kind_in_body s (tag_name b) b) starts ∙ ap (λ n. suits_kind_in_body (is_start_kind tag.kind) n b) named) ∙ parts.1 in
    rule (in_body tag.kind name told) within b current two.0 stands (suited tag.kind name b suits))

-- ---- which mode is left

pub outer_of : (m : Mode) → (m ≡ Mode.InBody → ⊥) → (m ≡ Mode.Text → ⊥) → (m ≡ Mode.InTable → ⊥) → (m ≡ Mode.InTableText → ⊥) → (m ≡ Mode.InCaption → ⊥) →
    (m ≡ Mode.InColumnGroup → ⊥) → (m ≡ Mode.InTableBody → ⊥) → (m ≡ Mode.InRow → ⊥) → (m ≡ Mode.InCell → ⊥) → (m ≡ Mode.InTemplate → ⊥) → is_outer m ≡ true
outer_of Mode.InBody a b c d e f g h i j = absurd (a refl)
outer_of Mode.Text a b c d e f g h i j = absurd (b refl)
outer_of Mode.InTable a b c d e f g h i j = absurd (c refl)
outer_of Mode.InTableText a b c d e f g h i j = absurd (d refl)
outer_of Mode.InCaption a b c d e f g h i j = absurd (e refl)
outer_of Mode.InColumnGroup a b c d e f g h i j = absurd (f refl)
outer_of Mode.InTableBody a b c d e f g h i j = absurd (g refl)
outer_of Mode.InRow a b c d e f g h i j = absurd (h refl)
outer_of Mode.InCell a b c d e f g h i j = absurd (i refl)
outer_of Mode.InTemplate a b c d e f g h i j = absurd (j refl)
outer_of _ a b c d e f g h i j = refl

pub initial_left : (m : Mode) → is_outer m ≡ true → (m ≡ Mode.BeforeHtml → ⊥) → (m ≡ Mode.BeforeHead → ⊥) → (m ≡ Mode.InHead → ⊥) → (m ≡ Mode.InHeadNoscript → ⊥) →
    (m ≡ Mode.AfterHead → ⊥) → (m ≡ Mode.AfterBody → ⊥) → (m ≡ Mode.InFrameset → ⊥) → (m ≡ Mode.AfterFrameset → ⊥) → (m ≡ Mode.AfterAfterBody → ⊥) →
    (m ≡ Mode.AfterAfterFrameset → ⊥) → m ≡ Mode.Initial
initial_left Mode.Initial outer a b c d e f g h i j = refl
initial_left Mode.BeforeHtml outer a b c d e f g h i j = absurd (a refl)
initial_left Mode.BeforeHead outer a b c d e f g h i j = absurd (b refl)
initial_left Mode.InHead outer a b c d e f g h i j = absurd (c refl)
initial_left Mode.InHeadNoscript outer a b c d e f g h i j = absurd (d refl)
initial_left Mode.AfterHead outer a b c d e f g h i j = absurd (e refl)
initial_left Mode.AfterBody outer a b c d e f g h i j = absurd (f refl)
initial_left Mode.InFrameset outer a b c d e f g h i j = absurd (g refl)
initial_left Mode.AfterFrameset outer a b c d e f g h i j = absurd (h refl)
initial_left Mode.AfterAfterBody outer a b c d e f g h i j = absurd (i refl)
initial_left Mode.AfterAfterFrameset outer a b c d e f g h i j = absurd (j refl)
initial_left _ outer a b c d e f g h i j = absurd (true≢false (sym outer))

-- ---- the dispatcher

pub mode_dispatched : (m : Mode) (b : Building) (new : TreeBuilder) (next : Next) (foreign : Bool) → foreign ≡ false → taken b (rules Dispatcher) ≡ goes (way_for foreign) ∷ [] →
    b.mode ≡ mode_of m → covers_tag b ≡ true → (covers_tag_in (mode_of m) b ≡ true → Outcome (mode_of m) b new next) → Outcome Dispatcher b new next
mode_dispatched m b new next true e way mode covered outcome = absurd (true≢false e)
mode_dispatched m b new next false e way mode covered outcome =
    let here = sym (ap (λ acts. elim (uses_current_mode acts) [ true ↦ covers_tag_in b.mode b | false ↦ covers_foreign_tag b ]) way) ∙ covered in
    tag_in_mode m b new next way mode (outcome (subst (λ (x : StandardMode). covers_tag_in x b ≡ true) mode here))
