-- Which rules are taken for a character, and what they come to.
use Rattle.std.proofs.Common.{◌≡◌, ℕ, Bool, true, false, ◌&&◌, ◌||◌, List, [], ◌∷◌, refl, sym, ap, subst, ◌∙◌, true≢false, inl, inr, if◌then◌else◌}
use Rattle.std.specs.Prelude.{◌==◌}
use Rattle.std.proofs.lemmas.Bool.{cases_Bool, eqb-true}
use Rattle.std.specs.List.{list_all, list_any}
use Rattle.standard_tokens.specs.Tokens.{AChar}
use Rattle.standard_trees.specs.Building.{Building, fits, is_empty, is_met, is_space, perform, taken}
use Rattle.standard_trees.specs.Formatting.{reconstructed}
use Rattle.standard_trees.specs.GrowingTree.{GrowingTree, adjusted_current, is_html_point, is_named, with_char}
use Rattle.standard_trees.specs.NameLists.{text_points}
use Rattle.standard_trees.specs.RuleWords.{Act, Dispatcher, ForeignContent, FramesetNotOk, InBody, InsertCharacter, InsertReplacement, Mode as StandardMode, Pattern, Null}
use Rattle.standard_trees.specs.RuleWords.{ReconstructFormatting, Rule, Use, UseCurrentMode, WhiteSpace, goes, rule}
use Rattle.standard_trees.specs.TreeRules.{rules}
use Rattle.standard_trees.specs.TreeStore.{NodeAttr, is_html, space_in}
use Rattle.page_trees.specs.CharacterSteps.{goes_to_mode, is_null, ok_behind, way_of_letters, way_of_nulls, way_of_spaces}
use Rattle.page_trees.specs.Modes.{mode_of}
use Rattle.page_trees.specs.declared.builder.Mode.{Mode}
use Rattle.page_trees.specs.declared.builder.Next.{Next}
use Rattle.page_trees.specs.declared.chars.RunWay.{RunWay}
use Rattle.page_trees.proofs.CharactersBehind.{ComesOnlyTo, behind, only_in_mode, only_performed, only_used}
use Rattle.page_trees.proofs.RulesRun.{plainly}
use Rattle.page_trees.proofs.RulesTaken.{chosen}
use Rattle.page_trees.proofs.TokenRules.{taken_of}

-- ---- characters that the rules don't tell apart

abbrev pub Alike : ℕ → ℕ → Type 0
Alike c d = (p : Pattern) → fits p (AChar c) ≡ fits p (AChar d)

pub space_no_null : (c : ℕ) → is_space c ≡ true → (c == 0) ≡ false
space_no_null c e = elim (cases_Bool (c == 0)) [
  | inl t ↦ absurd (true≢false (sym e ∙ ap is_space (eqb-true c 0 t)))
  | inr f ↦ f
]

pub space_alike : (c : ℕ) → is_space c ≡ true → Alike c 32
space_alike c e WhiteSpace = e
space_alike c e Null = space_no_null c e
space_alike c e _ = refl

pub letter_alike : (c : ℕ) → is_null c ≡ false → is_space c ≡ false → Alike c 97
letter_alike c e f WhiteSpace = f
letter_alike c e f Null = e
letter_alike c e f _ = refl

pub null_alike : (c : ℕ) → is_null c ≡ true → Alike c 0
null_alike c e p = ap (λ (d : ℕ). fits p (AChar d)) (eqb-true c 0 e)

any_fits : (c d : ℕ) → Alike c d → (ps : List Pattern) → list_any (λ p. fits p (AChar c)) ps ≡ list_any (λ p. fits p (AChar d)) ps
any_fits c d same [] = refl
any_fits c d same (p ∷ ps) = ap (λ b. b || list_any (λ p. fits p (AChar c)) ps) (same p) ∙ ap (λ b. fits p (AChar d) || b) (any_fits c d same ps)

chosen_alike : (c d : ℕ) → Alike c d → (b : Building) (rs : List Rule) → chosen (AChar c) b rs ≡ chosen (AChar d) b rs
chosen_alike c d same b [] = refl
chosen_alike c d same b (rule patterns tests acts ∷ more) =
    ap (λ x. elim x [
      | true ↦ elim (list_all (is_met b) tests) [ true ↦ acts | false ↦ chosen (AChar c) b more ]
      | false ↦ chosen (AChar c) b more
    ]) (any_fits c d same patterns)
    ∙ ap (λ rest. elim (list_any (λ pattern. fits pattern (AChar d)) patterns) [
      | true ↦ elim (list_all (is_met b) tests) [ true ↦ acts | false ↦ rest ]
      | false ↦ rest
    ]) (chosen_alike c d same b more)

pub taken_char : (c d : ℕ) → Alike c d → (b : Building) → b.token ≡ AChar c → (rs : List Rule) → taken b rs ≡ chosen (AChar d) b rs
taken_char c d same b token rs = taken_of (AChar c) b token rs ∙ chosen_alike c d same b rs

-- ---- the dispatcher

abbrev pub char_acts : Bool → Bool → Bool → Bool → List Act → List Act → List Act
char_acts e h t p u f =
    elim (e && true) [ true ↦ u | false ↦ elim (h && true) [ true ↦ u | false ↦ elim (t && true) [ true ↦ u | false ↦ elim (p && true) [ true ↦ u | false ↦ f ] ] ] ]

pub picked : (e h t p : Bool) (u f : List Act) → (e || (h || (t || p))) ≡ true → char_acts e h t p u f ≡ u
picked true h t p u f k = refl
picked false true t p u f k = refl
picked false false true p u f k = refl
picked false false false true u f k = refl
picked false false false false u f k = absurd (true≢false (sym k))

others : (e h t p : Bool) (u f : List Act) → (e || (h || (t || p))) ≡ false → char_acts e h t p u f ≡ f
others true h t p u f k = absurd (true≢false k)
others false true t p u f k = absurd (true≢false k)
others false false true p u f k = absurd (true≢false k)
others false false false true u f k = absurd (true≢false k)
others false false false false u f k = refl

pub dispatched_char : (b : Building) (c : ℕ) → b.token ≡ AChar c → goes_to_mode b.tree ≡ true → taken b (rules Dispatcher) ≡ goes UseCurrentMode ∷ []
unfolding rules
dispatched_char b c token e =
    taken_of (AChar c) b token (rules Dispatcher)
    ∙ picked (is_empty b.tree.stack) (is_html (space_in (adjusted_current b.tree))) (is_named text_points (adjusted_current b.tree)) (is_html_point (adjusted_current b.tree))
    (goes UseCurrentMode ∷ []) (goes (Use ForeignContent) ∷ []) e

pub foreign_char : (b : Building) (c : ℕ) → b.token ≡ AChar c → goes_to_mode b.tree ≡ false → taken b (rules Dispatcher) ≡ goes (Use ForeignContent) ∷ []
unfolding rules
foreign_char b c token e =
    taken_of (AChar c) b token (rules Dispatcher)
    ∙ others (is_empty b.tree.stack) (is_html (space_in (adjusted_current b.tree))) (is_named text_points (adjusted_current b.tree)) (is_html_point (adjusted_current b.tree))
    (goes UseCurrentMode ∷ []) (goes (Use ForeignContent) ∷ []) e

-- the rules for the current mode come to it
pub by_its_mode : (mode : StandardMode) (b : Building) (t : GrowingTree) (ok : Bool) (c : ℕ) (attrs : List NodeAttr) (x : Building) → b.mode ≡ mode → goes_to_mode t ≡ true →
    ComesOnlyTo mode (behind b t ok (AChar c) attrs) x → ComesOnlyTo Dispatcher (behind b t ok (AChar c) attrs) x
by_its_mode mode b t ok c attrs x e here only =
    only_in_mode (behind b t ok (AChar c) attrs) x (dispatched_char (behind b t ok (AChar c) attrs) c refl here)
    (subst (λ (m : StandardMode). ComesOnlyTo m (behind b t ok (AChar c) attrs) x) (sym e) only)

-- ---- characters are ignored, or inserted

abbrev pub Ignores : StandardMode → ℕ → Type 0
Ignores mode c = (b : Building) (t : GrowingTree) (ok : Bool) (attrs : List NodeAttr) → ComesOnlyTo mode (behind b t ok (AChar c) attrs) (behind b t ok (AChar c) attrs)

abbrev pub Puts : StandardMode → ℕ → Type 0
Puts mode c = (b : Building) (t : GrowingTree) (ok : Bool) (attrs : List NodeAttr) → ComesOnlyTo mode (behind b t ok (AChar c) attrs) (behind b (with_char c t) ok (AChar c) attrs)

ignored_as : (mode : StandardMode) (c d : ℕ) → Alike c d → ((b : Building) → chosen (AChar d) b (rules mode) ≡ []) → Ignores mode c
ignored_as mode c d same e b t ok attrs =
    only_performed mode (behind b t ok (AChar c) attrs) [] (taken_char c d same (behind b t ok (AChar c) attrs) refl (rules mode) ∙ e (behind b t ok (AChar c) attrs))

put_as : (mode : StandardMode) (c d : ℕ) → Alike c d → ((b : Building) → chosen (AChar d) b (rules mode) ≡ plainly (InsertCharacter ∷ []) Next.Done) → Puts mode c
unfolding perform
put_as mode c d same e b t ok attrs =
    only_performed mode (behind b t ok (AChar c) attrs) (InsertCharacter ∷ []) (taken_char c d same (behind b t ok (AChar c) attrs) refl (rules mode) ∙ e (behind b t ok (AChar c) attrs))

pub spaces_ignored : (m : Mode) (c : ℕ) → is_space c ≡ true → way_of_spaces m ≡ RunWay.Ignore → Ignores (mode_of m) c
unfolding rules
spaces_ignored Mode.Initial c e h = ignored_as (mode_of Mode.Initial) c 32 (space_alike c e) (λ b. refl)
spaces_ignored Mode.BeforeHtml c e h = ignored_as (mode_of Mode.BeforeHtml) c 32 (space_alike c e) (λ b. refl)
spaces_ignored Mode.BeforeHead c e h = ignored_as (mode_of Mode.BeforeHead) c 32 (space_alike c e) (λ b. refl)
spaces_ignored _ c e h = absurd (cc)

null_in_body : (c : ℕ) → is_null c ≡ true → Ignores InBody c
unfolding rules
null_in_body c e = ignored_as InBody c 0 (null_alike c e) (λ b. refl)

null_used : (mode : StandardMode) (c : ℕ) → is_null c ≡ true → ((b : Building) → chosen (AChar 0) b (rules mode) ≡ goes (Use InBody) ∷ []) → Ignores mode c
null_used mode c e f b t ok attrs =
    only_used mode InBody (behind b t ok (AChar c) attrs) (behind b t ok (AChar c) attrs)
    (taken_char c 0 (null_alike c e) (behind b t ok (AChar c) attrs) refl (rules mode) ∙ f (behind b t ok (AChar c) attrs)) (null_in_body c e b t ok attrs)

pub null_ignored : (m : Mode) (c : ℕ) → is_null c ≡ true → way_of_nulls m ≡ RunWay.Ignore → Ignores (mode_of m) c
unfolding rules
null_ignored Mode.InBody c e h = null_in_body c e
null_ignored Mode.InCaption c e h = null_used (mode_of Mode.InCaption) c e (λ b. refl)
null_ignored Mode.InCell c e h = null_used (mode_of Mode.InCell) c e (λ b. refl)
null_ignored Mode.InTemplate c e h = null_used (mode_of Mode.InTemplate) c e (λ b. refl)
null_ignored Mode.InTableText c e h = ignored_as (mode_of Mode.InTableText) c 0 (null_alike c e) (λ b. refl)
null_ignored Mode.InFrameset c e h = ignored_as (mode_of Mode.InFrameset) c 0 (null_alike c e) (λ b. refl)
null_ignored Mode.AfterFrameset c e h = ignored_as (mode_of Mode.AfterFrameset) c 0 (null_alike c e) (λ b. refl)
null_ignored Mode.AfterAfterFrameset c e h = ignored_as (mode_of Mode.AfterAfterFrameset) c 0 (null_alike c e) (λ b. refl)
null_ignored _ c e h = absurd (cc)

pub letters_ignored : (m : Mode) (c : ℕ) → is_null c ≡ false → is_space c ≡ false → way_of_letters m ≡ RunWay.Ignore → Ignores (mode_of m) c
unfolding rules
letters_ignored Mode.InFrameset c e f h = ignored_as (mode_of Mode.InFrameset) c 97 (letter_alike c e f) (λ b. refl)
letters_ignored Mode.AfterFrameset c e f h = ignored_as (mode_of Mode.AfterFrameset) c 97 (letter_alike c e f) (λ b. refl)
letters_ignored Mode.AfterAfterFrameset c e f h = ignored_as (mode_of Mode.AfterAfterFrameset) c 97 (letter_alike c e f) (λ b. refl)
letters_ignored _ c e f h = absurd (cc)

-- white space where it is inserted, and any character in the text of an element
pub spaces_put : (m : Mode) (c : ℕ) → is_space c ≡ true → way_of_spaces m ≡ RunWay.Put → Puts (mode_of m) c
unfolding rules
spaces_put Mode.InHead c e h = put_as (mode_of Mode.InHead) c 32 (space_alike c e) (λ b. refl)
spaces_put Mode.AfterHead c e h = put_as (mode_of Mode.AfterHead) c 32 (space_alike c e) (λ b. refl)
spaces_put Mode.InColumnGroup c e h = put_as (mode_of Mode.InColumnGroup) c 32 (space_alike c e) (λ b. refl)
spaces_put Mode.InFrameset c e h = put_as (mode_of Mode.InFrameset) c 32 (space_alike c e) (λ b. refl)
spaces_put Mode.AfterFrameset c e h = put_as (mode_of Mode.AfterFrameset) c 32 (space_alike c e) (λ b. refl)
spaces_put Mode.InHeadNoscript c e h = λ b t ok attrs. only_used (mode_of Mode.InHeadNoscript) (mode_of Mode.InHead) (behind b t ok (AChar c) attrs) (behind b (with_char c t) ok (AChar c) attrs)
    (taken_char c 32 (space_alike c e) (behind b t ok (AChar c) attrs) refl (rules (mode_of Mode.InHeadNoscript)))
    (put_as (mode_of Mode.InHead) c 32 (space_alike c e) (λ b. refl) b t ok attrs)
spaces_put Mode.Text c e h = put_as (mode_of Mode.Text) c c (λ p. refl) (λ b. refl)
spaces_put _ c e h = absurd (cc)

pub text_put : (c : ℕ) → Puts (mode_of Mode.Text) c
unfolding rules
text_put c = put_as (mode_of Mode.Text) c c (λ p. refl) (λ b. refl)

-- ---- "in body"

abbrev pub InBodyWay : StandardMode → ℕ → Type 0
InBodyWay mode c =
    (b : Building) (t : GrowingTree) (ok : Bool) (attrs : List NodeAttr) →
    ComesOnlyTo mode (behind b t ok (AChar c) attrs) (behind b (with_char c (reconstructed t)) (ok_behind c ok) (AChar c) attrs)

body_char : (c : ℕ) → is_null c ≡ false → InBodyWay InBody c
unfolding rules perform
body_char c other b t ok attrs = elim (cases_Bool (is_space c)) [
  | inl e ↦ subst (λ (x : Bool). ComesOnlyTo InBody (behind b t ok (AChar c) attrs) (behind b (with_char c (reconstructed t)) x (AChar c) attrs))
      (sym (ap (λ (s : Bool). if s then ok else false) e))
      (only_performed InBody (behind b t ok (AChar c) attrs) (ReconstructFormatting ∷ InsertCharacter ∷ [])
      (taken_char c 32 (space_alike c e) (behind b t ok (AChar c) attrs) refl (rules InBody)))
  | inr f ↦ subst (λ (x : Bool). ComesOnlyTo InBody (behind b t ok (AChar c) attrs) (behind b (with_char c (reconstructed t)) x (AChar c) attrs))
      (sym (ap (λ (s : Bool). if s then ok else false) f))
      (only_performed InBody (behind b t ok (AChar c) attrs) (ReconstructFormatting ∷ InsertCharacter ∷ FramesetNotOk ∷ [])
      (taken_char c 97 (letter_alike c other f) (behind b t ok (AChar c) attrs) refl (rules InBody)))
]

body_used : (mode : StandardMode) (c d : ℕ) → Alike c d → is_null c ≡ false → ((b : Building) → chosen (AChar d) b (rules mode) ≡ goes (Use InBody) ∷ []) → InBodyWay mode c
body_used mode c d same other e b t ok attrs =
    only_used mode InBody (behind b t ok (AChar c) attrs) (behind b (with_char c (reconstructed t)) (ok_behind c ok) (AChar c) attrs)
    (taken_char c d same (behind b t ok (AChar c) attrs) refl (rules mode) ∙ e (behind b t ok (AChar c) attrs)) (body_char c other b t ok attrs)

pub char_in_body : (m : Mode) (c : ℕ) → is_null c ≡ false → way_of_letters m ≡ RunWay.Body → InBodyWay (mode_of m) c
unfolding rules
char_in_body Mode.InBody c other h = body_char c other
char_in_body Mode.InCaption c other h = body_used (mode_of Mode.InCaption) c c (λ p. refl) other (λ b. refl)
char_in_body Mode.InCell c other h = body_used (mode_of Mode.InCell) c c (λ p. refl) other (λ b. refl)
char_in_body Mode.InTemplate c other h = body_used (mode_of Mode.InTemplate) c c (λ p. refl) other (λ b. refl)
char_in_body _ c other h = absurd (cc)

pub space_in_body : (m : Mode) (c : ℕ) → is_space c ≡ true → way_of_spaces m ≡ RunWay.Body → InBodyWay (mode_of m) c
unfolding rules
space_in_body Mode.InBody c e h = body_char c (space_no_null c e)
space_in_body Mode.InCaption c e h = body_used (mode_of Mode.InCaption) c c (λ p. refl) (space_no_null c e) (λ b. refl)
space_in_body Mode.InCell c e h = body_used (mode_of Mode.InCell) c c (λ p. refl) (space_no_null c e) (λ b. refl)
space_in_body Mode.InTemplate c e h = body_used (mode_of Mode.InTemplate) c c (λ p. refl) (space_no_null c e) (λ b. refl)
space_in_body Mode.AfterBody c e h = body_used (mode_of Mode.AfterBody) c 32 (space_alike c e) (space_no_null c e) (λ b. refl)
space_in_body Mode.AfterAfterBody c e h = body_used (mode_of Mode.AfterAfterBody) c 32 (space_alike c e) (space_no_null c e) (λ b. refl)
space_in_body Mode.AfterAfterFrameset c e h = body_used (mode_of Mode.AfterAfterFrameset) c 32 (space_alike c e) (space_no_null c e) (λ b. refl)
space_in_body _ c e h = absurd (cc)

-- ---- foreign content

pub char_in_foreign : (b : Building) (t : GrowingTree) (ok : Bool) (c : ℕ) (attrs : List NodeAttr) → is_null c ≡ false → goes_to_mode t ≡ false →
    ComesOnlyTo Dispatcher (behind b t ok (AChar c) attrs) (behind b (with_char c t) (ok_behind c ok) (AChar c) attrs)
unfolding rules perform
char_in_foreign b t ok c attrs other foreign = elim (cases_Bool (is_space c)) [
  | inl e ↦ subst (λ (x : Bool). ComesOnlyTo Dispatcher (behind b t ok (AChar c) attrs) (behind b (with_char c t) x (AChar c) attrs))
      (sym (ap (λ (s : Bool). if s then ok else false) e))
      (only_used Dispatcher ForeignContent (behind b t ok (AChar c) attrs) (behind b (with_char c t) ok (AChar c) attrs) (foreign_char (behind b t ok (AChar c) attrs) c refl foreign)
      (only_performed ForeignContent (behind b t ok (AChar c) attrs) (InsertCharacter ∷ []) (taken_char c 32 (space_alike c e) (behind b t ok (AChar c) attrs) refl (rules ForeignContent))))
  | inr f ↦ subst (λ (x : Bool). ComesOnlyTo Dispatcher (behind b t ok (AChar c) attrs) (behind b (with_char c t) x (AChar c) attrs))
      (sym (ap (λ (s : Bool). if s then ok else false) f))
      (only_used Dispatcher ForeignContent (behind b t ok (AChar c) attrs) (behind b (with_char c t) false (AChar c) attrs) (foreign_char (behind b t ok (AChar c) attrs) c refl foreign)
      (only_performed ForeignContent (behind b t ok (AChar c) attrs) (InsertCharacter ∷ FramesetNotOk ∷ []) (taken_char c 97 (letter_alike c other f) (behind b t ok (AChar c) attrs) refl (rules ForeignContent))))
]

pub null_in_foreign : (b : Building) (t : GrowingTree) (ok : Bool) (c : ℕ) (attrs : List NodeAttr) → is_null c ≡ true → goes_to_mode t ≡ false →
    ComesOnlyTo Dispatcher (behind b t ok (AChar c) attrs) (behind b (with_char 0xfffd t) ok (AChar c) attrs)
unfolding rules perform
null_in_foreign b t ok c attrs e foreign =
    only_used Dispatcher ForeignContent (behind b t ok (AChar c) attrs) (behind b (with_char 0xfffd t) ok (AChar c) attrs) (foreign_char (behind b t ok (AChar c) attrs) c refl foreign)
    (only_performed ForeignContent (behind b t ok (AChar c) attrs) (InsertReplacement ∷ []) (taken_char c 0 (null_alike c e) (behind b t ok (AChar c) attrs) refl (rules ForeignContent)))
