-- Loops over lists of words.
use Rattle.std.proofs.Common.{ℕ, zero, suc, ◌≡◌, ◌<◌, ◌≤◌, ◌∙◌, Bool, true, false, true≢false, ℤ, pos, List, [], ◌∷◌, refl, sym, ap, arith, drop, get_or, length, map}
use Rattle.std.specs.Prelude.{slice_get, if◌then◌else◌}
use Rattle.std.specs.Borrow.{Bor}
use Rattle.std.specs.Option.{option_map_or}
use Rattle.std.specs.Str.{bytes_eq}
use Rattle.dom_article.specs.Names.{base_in, tag_by, tag_in}
use Rattle.dom_article.specs.Words.{Entry, has_look, is_look, pair_at, pair_of, with_word, with_words}
use Rattle.dom_article.specs.declared.kinds.Tag.{Tag}
use Rattle.dom_article.specs.declared.tables.List.{List as WordList}
use Rattle.dom_article.specs.declared.tables.Way.{Way}
use Rattle.dom_article.specs.declared.words.Found.{Found}

-- Nothing is left behind the end.
pub behind : {A B : Type 0} (f : A → B) (xs : List A) (i : ℕ) → length xs ≤ i → drop i (map f xs) ≡ []
behind f [] zero past = refl
behind f [] (suc i) past = refl
behind f (x ∷ xs) zero past = absurd (omega (arith, past))
behind f (x ∷ xs) (suc i) past = behind f xs i (omega (arith, past))

-- ---- tags and points

abbrev pub NamedTag : Type 0
NamedTag = Bor (List ℕ) × Tag

abbrev pub named_tag : NamedTag → List ℕ × Tag
named_tag pair = (pair.0.now, pair.1)

pub tag_on : (tags : List NamedTag) (i : ℕ) (name : List ℕ) (old new : Tag) → i < length tags →
    new ≡ option_map_or (λ e. tag_by (named_tag e) name old) (slice_get tags i) old → tag_in (drop (suc i) (map named_tag tags)) name new ≡ tag_in (drop i (map named_tag tags)) name old
tag_on [] i name old new inside is = absurd (omega (arith, inside))
tag_on (tag ∷ tags) zero name old new inside is = ap (λ (t : Tag). tag_in (map named_tag tags) name t) is
tag_on (tag ∷ tags) (suc i) name old new inside is = tag_on tags i name old new (omega (arith, inside)) is

abbrev pub NamedBase : Type 0
NamedBase = Bor (List ℕ) × ℤ

abbrev pub named_base : NamedBase → List ℕ × ℤ
named_base pair = (pair.0.now, pair.1)

pub base_here : (bases : List NamedBase) (i : ℕ) (name : List ℕ) (points : ℤ) → option_map_or (λ e. bytes_eq e.0.now name) (slice_get bases i) false ≡ true →
    points ≡ option_map_or (λ e. e.1) (slice_get bases i) (pos 0) → points ≡ base_in (drop i (map named_base bases)) name
base_here [] i name points named is = absurd (true≢false (sym named))
base_here (base ∷ bases) zero name points named is = is ∙ rw named refl
base_here (base ∷ bases) (suc i) name points named is = base_here bases i name points named is

pub base_on : (bases : List NamedBase) (i : ℕ) (name : List ℕ) → i < length bases → option_map_or (λ e. bytes_eq e.0.now name) (slice_get bases i) false ≡ false →
    base_in (drop (suc i) (map named_base bases)) name ≡ base_in (drop i (map named_base bases)) name
base_on [] i name inside other = absurd (omega (arith, inside))
base_on (base ∷ bases) zero name inside other = rw other refl
base_on (base ∷ bases) (suc i) name inside other = base_on bases i name (omega (arith, inside)) other

pub base_none : (bases : List NamedBase) → option_map_or (λ e. e.1) (slice_get bases (length bases)) (pos 0) ≡ pos 0
base_none [] = refl
base_none (base ∷ bases) = base_none bases

-- ---- words

-- A word of the table of the code.
abbrev pub TableWord : Type 0
TableWord = Bor (List ℕ) × Way × WordList

abbrev pub entry : TableWord → Entry
entry word = (word.0.now, word.1, word.2)

pub word_on : (words : List TableWord) (i : ℕ) (text : List ℕ) (first : Bool) (old new : Found) → i < length words →
    new ≡ option_map_or (λ e. with_word (entry e) text first old) (slice_get words i) old → with_words (drop (suc i) (map entry words)) text first new ≡ with_words (drop i (map entry words)) text first old
word_on [] i text first old new inside is = absurd (omega (arith, inside))
word_on (word ∷ words) zero text first old new inside is = ap (λ (f : Found). with_words (map entry words) text first f) is
word_on (word ∷ words) (suc i) text first old new inside is = word_on words i text first old new (omega (arith, inside)) is

abbrev pub shown : Bor (List ℕ) → List ℕ
shown look = look.now

pub look_on : (looks : List (Bor (List ℕ))) (i : ℕ) (text : List ℕ) (old new : Bool) → i < length looks →
    new ≡ option_map_or (λ look. if is_look look.now text then true else old) (slice_get looks i) old → has_look (drop (suc i) (map shown looks)) text new ≡ has_look (drop i (map shown looks)) text old
look_on [] i text old new inside is = absurd (omega (arith, inside))
look_on (look ∷ looks) zero text old new inside is = ap (λ (b : Bool). has_look (map shown looks) text b) is
look_on (look ∷ looks) (suc i) text old new inside is = look_on looks i text old new (omega (arith, inside)) is

-- The number of the first two letters of a word.
pub pair_is : (words : List TableWord) (i : ℕ) → option_map_or (λ e. pair_of e.0.now) (slice_get words i) 0 ≡ get_or (map pair_at (map entry words)) i 0
pair_is [] i = refl
pair_is (word ∷ words) zero = refl
pair_is (word ∷ words) (suc i) = pair_is words i
