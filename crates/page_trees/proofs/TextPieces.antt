-- What comes of a text piece by piece: words and the white space between them, and stretches between nulls.
use Rattle.std.proofs.Common.{◌≡◌, ◌<◌, ℕ, Bool, true, false, ◌&&◌, ◌||◌, not, List, [], ◌∷◌, ◌++◌, refl, sym, ap, subst, ◌∙◌, true≢false, arith}
use Rattle.std.specs.List.{list_all}
use Rattle.std.specs.Prelude.{encode_utf8_all, get_or, length, nat_eq}
use Rattle.std.proofs.lemmas.Str.{encode_ascii}
use Rattle.standard_trees.specs.Building.{is_space}
use Rattle.page_trees.specs.CharacterSteps.{fits_mode, has_no_null}
use Rattle.page_trees.specs.CharacterTexts.{LeavesRest, TakesCharacters, TakesNoNulls, TakesPiece, TakesText, fits_piece, front_spaces, front_word, past_spaces, past_word}
use Rattle.page_trees.specs.Constructs.{RemembersLimits}
use Rattle.page_trees.specs.Modes.{drops_letters, joins_spaces}
use Rattle.page_trees.specs.declared.builder.Mode.{Mode}
use Rattle.page_trees.specs.declared.builder.TreeBuilder.{TreeBuilder}
use Rattle.page_trees.specs.declared.chars.Run.{Run}
use Rattle.page_trees.proofs.CharacterTurns.{is_empty_by, is_letters, take_both, take_front, take_no_text}
use Rattle.page_trees.proofs.NamesAgree.{both}
use Rattle.page_trees.proofs.SpacesApart.{joined, nulls_encoded, past_encoded}
use Rattle.page_trees.proofs.WordsApart.{cut_at_null, nowhere_null, past_plain, rest_encoded, rest_plain, word_encoded, word_joined, word_letters, word_plain}

-- ---- words

-- letters alone fit every mode
word_fits : (m : Mode) (cs : List ℕ) → has_no_null cs ≡ true → list_all (λ c. not (is_space c)) cs ≡ true → fits_piece m Run.Letters cs ≡ true
word_fits m [] all letters = refl
word_fits m (c ∷ cs) all letters =
    let two = both (not (is_space c)) (list_all (λ c. not (is_space c)) cs) letters in
    ap (λ (x : Bool). x && fits_mode m Run.Letters (c ∷ cs)) (is_letters (c ∷ cs) all (some (is_space c) (list_all is_space cs) two.0))
    ∙ ap (λ (x : Bool). (joins_spaces m || x) && (not (drops_letters m) || list_all (λ c. not (is_space c)) cs)) two.0
    ∙ ap (λ (x : Bool). (joins_spaces m || true) && (not (drops_letters m) || x)) two.1 ∙ by (joins_spaces m) (not (drops_letters m))
  where
    some : (x y : Bool) → not x ≡ true → (x && y) ≡ false
    some true y e = absurd (true≢false (sym e))
    some false y e = refl

    by : (x y : Bool) → ((x || true) && (y || true)) ≡ true
    by true true = refl
    by true false = refl
    by false true = refl
    by false false = refl

-- a word, the white space after it, and the rest
pub take_word : (text word spaces rest : List ℕ) (old mid now : TreeBuilder) → word ≡ front_word text → spaces ≡ front_spaces (past_word text) → rest ≡ past_spaces (past_word text) →
    TakesPiece Run.Letters word old mid → TakesPiece Run.Spaces spaces mid now → RemembersLimits mid now → LeavesRest text rest old now
take_word text word spaces rest old mid now word_is spaces_is rest_is first second limits new more last cs spelt all =
    let after : List ℕ = past_word cs in
    let tail : past_word text ≡ encode_utf8_all after = ap (λ (xs : List ℕ). past_word xs) spelt ∙ rest_encoded cs in
    let kept : has_no_null after ≡ true = rest_plain cs all in
    subst (λ (xs : List ℕ). TakesCharacters xs old new) (word_joined cs)
    (take_both (front_word cs) after old mid new (λ within. limits (more within))
    (first (front_word cs) (word_is ∙ ap (λ (xs : List ℕ). front_word xs) spelt ∙ word_encoded cs) (word_fits old.mode (front_word cs) (word_plain cs all) (word_letters cs)))
    (subst (λ (xs : List ℕ). TakesCharacters xs mid new) (joined after)
    (take_both (front_spaces after) (past_spaces after) mid now new more
    (take_front (past_word text) spaces mid now spaces_is second after tail)
    (last (past_spaces after) (rest_is ∙ ap (λ (xs : List ℕ). past_spaces xs) tail ∙ past_encoded after) (past_plain after kept)))))

pub leaves_all : (text : List ℕ) (s : TreeBuilder) → LeavesRest text text s s
leaves_all text s new more last = last

pub leaves_next : (text rest less : List ℕ) (old now next : TreeBuilder) → RemembersLimits now next → LeavesRest text rest old now → LeavesRest rest less now next → LeavesRest text less old next
leaves_next text rest less old now next limits before after new more last = before new (λ within. limits (more within)) (after new more last)

-- nothing is left
pub take_rest : (text rest : List ℕ) (old now : TreeBuilder) → nat_eq (length rest) 0 ≡ true → LeavesRest text rest old now → TakesNoNulls text old now
take_rest text rest old now none before =
    before now (λ within. within) (λ cs spelt all. take_no_text rest now (sym (is_empty_by rest) ∙ none) cs spelt)

-- ---- nulls

-- what is to be shown of any text, is left to be shown of its rest
abbrev pub LeavesText : List ℕ → List ℕ → TreeBuilder → TreeBuilder → Type 0
LeavesText text rest old now = (new : TreeBuilder) → RemembersLimits now new → TakesText rest now new → TakesText text old new

one_null : 0 ∷ [] ≡ encode_utf8_all (0 ∷ [])
one_null = sym (ap (λ bytes. bytes ++ []) (encode_ascii 0 (omega arith)))

pub take_to_null : (text rest front after : List ℕ) (old now mid next : TreeBuilder) → LeavesText text rest old now → rest ≡ front ++ 0 ∷ after →
    ((i : ℕ) → i < length front → get_or front i 0 ≡ 0 → ⊥) → TakesNoNulls front now mid → TakesPiece Run.Nulls (0 ∷ []) mid next → RemembersLimits now mid → RemembersLimits mid next →
    LeavesText text after old next
take_to_null text rest front after old now mid next before cut none first null one two new more last =
    before new (λ within. one (two (more within))) (λ cs spelt.
    let parts = cut_at_null cs front after (sym spelt ∙ cut) (nowhere_null front none) in
    subst (λ (xs : List ℕ). TakesCharacters xs now new) (sym parts.is)
    (take_both parts.xs (0 ∷ parts.ys) now mid new (λ within. two (more within)) (first parts.xs parts.front_is parts.plain)
    (take_both (0 ∷ []) parts.ys mid next new more (null (0 ∷ []) one_null refl) (last parts.ys parts.after_is))))

-- the rest has no null
pub take_last : (text rest : List ℕ) (old now new : TreeBuilder) → LeavesText text rest old now → ((i : ℕ) → i < length rest → get_or rest i 0 ≡ 0 → ⊥) → RemembersLimits now new →
    TakesNoNulls rest now new → TakesText text old new
take_last text rest old now new before none limits last =
    before new limits (λ cs spelt. last cs spelt (sym (nulls_encoded cs) ∙ sym (ap (λ bytes. has_no_null bytes) spelt) ∙ nowhere_null rest none))

-- a text of which it is known that it has none
pub take_plain : (text : List ℕ) (old new : TreeBuilder) → has_no_null text ≡ true → TakesNoNulls text old new → TakesText text old new
take_plain text old new all rule cs spelt = rule cs spelt (sym (nulls_encoded cs) ∙ sym (ap (λ bytes. has_no_null bytes) spelt) ∙ all)
