-- What comes of a run of characters, by what the code does with it.
use Rattle.std.proofs.Common.{◌≡◌, ℕ, Bool, true, false, ◌&&◌, ◌||◌, not, List, [], ◌∷◌, refl, sym, ap, subst, ◌∙◌, true≢false, inl, inr, if◌then◌else◌}
use Rattle.std.proofs.lemmas.Bool.{cases_Bool}
use Rattle.std.specs.List.{list_all}
use Rattle.std.specs.Prelude.{IfSome}
use Rattle.standard_tokens.specs.Tokens.{AChar}
use Rattle.standard_trees.specs.Building.{Building, is_empty, is_space, perform, with_tree}
use Rattle.standard_trees.specs.Formatting.{reconstructed}
use Rattle.standard_trees.specs.GrowingTree.{GrowingTree, with_char, with_chars}
use Rattle.standard_trees.specs.RuleWords.{Action, Dispatcher, Mode as StandardMode}
use Rattle.standard_trees.specs.TreeRules.{rules}
use Rattle.standard_trees.specs.TreeStore.{NodeAttr}
use Rattle.page_trees.specs.CharacterSteps.{Completes, RunOutcome, covers_between, covers_characters, covers_closed, covers_in_mode, covers_open, fits_mode}
use Rattle.page_trees.specs.CharacterSteps.{goes_to_mode, has_begun, has_no_null, inserted_in_body, is_dropping, is_null, is_run, ok_behind, ok_behind_all, way_of, way_of_letters, way_of_nulls, way_of_spaces}
use Rattle.page_trees.specs.Constructs.{Constructs, HaveOneToken, LeavesBy, WithinLimits, all_performed, leaving}
use Rattle.page_trees.specs.Modes.{drops_letters, joins_spaces, mode_of}
use Rattle.page_trees.specs.declared.builder.Mode.{Mode}
use Rattle.page_trees.specs.declared.builder.Next.{Next}
use Rattle.page_trees.specs.declared.builder.TreeBuilder.{TreeBuilder}
use Rattle.page_trees.specs.declared.chars.Run.{Run}
use Rattle.page_trees.specs.declared.chars.RunWay.{RunWay}
use Rattle.page_trees.proofs.CharacterRules.{Alike, by_its_mode, char_in_body, char_in_foreign, dispatched_char, letter_alike, letters_ignored, null_alike, null_ignored, null_in_foreign, space_in_body, space_no_null}
use Rattle.page_trees.proofs.CharacterRules.{spaces_ignored, spaces_put, taken_char, text_put}
use Rattle.page_trees.proofs.CharactersBehind.{Treats, all_chars, all_left, all_ok, behind, completed, ComesOnlyTo}
use Rattle.page_trees.proofs.NamesAgree.{both}
use Rattle.page_trees.proofs.RulesRun.{outcome, plainly}
use Rattle.page_trees.proofs.RulesTaken.{chosen}
use Rattle.page_trees.proofs.SettledFormatting.{IsSettled, char_mode, char_settled, nothing_reopened, settles}
use Rattle.page_trees.proofs.TextTags.{tag_in_mode}

-- ---- the states of which it is stated

pub covered_begun : (b : Building) → covers_characters b ≡ true → has_begun b ≡ true
covered_begun b e = (both (has_begun b) (not (goes_to_mode b.tree) || covers_in_mode b) e).0

-- the test of the state in a mode where none is covered while no element is open
here : (x g closed wide none between : Bool) → (x && (not g || (closed || ((wide && not none) || between)))) ≡ true → g ≡ true → closed ≡ false → ((wide && not none) || between) ≡ true
here false g closed wide none between e f h = absurd (true≢false (sym e))
here true false closed wide none between e f h = absurd (true≢false (sym f))
here true true true wide none between e f h = absurd (true≢false h)
here true true false wide none between e f h = e

pub covered_here : (m : Mode) (b : Building) → covers_characters b ≡ true → goes_to_mode b.tree ≡ true → b.mode ≡ mode_of m → covers_closed (mode_of m) ≡ false →
    ((covers_open (mode_of m) && not (is_empty b.tree.stack)) || covers_between (mode_of m) b) ≡ true
covered_here m b e goes mode closed =
    sym (ap (λ (n : StandardMode). (covers_open n && not (is_empty b.tree.stack)) || covers_between n b) mode)
    ∙ here (has_begun b) (goes_to_mode b.tree) (covers_closed b.mode) (covers_open b.mode) (is_empty b.tree.stack) (covers_between b.mode b) e goes (ap covers_closed mode ∙ closed)

only_open : (wide none between : Bool) → ((wide && not none) || between) ≡ true → between ≡ false → none ≡ false
only_open true true between e f = absurd (true≢false (sym e ∙ f))
only_open true false between e f = refl
only_open false none between e f = absurd (true≢false (sym e ∙ f))

covered_open : (m : Mode) (b : Building) → covers_characters b ≡ true → goes_to_mode b.tree ≡ true → b.mode ≡ mode_of m → covers_closed (mode_of m) ≡ false →
    covers_between (mode_of m) b ≡ false → is_empty b.tree.stack ≡ false
covered_open m b e goes mode closed between =
    only_open (covers_open (mode_of m)) (is_empty b.tree.stack) (covers_between (mode_of m) b) (covered_here m b e goes mode closed) between

-- ---- the characters of a run

pub spaces_ok : (cs : List ℕ) (ok : Bool) → list_all is_space cs ≡ true → ok_behind_all cs ok ≡ ok
spaces_ok [] ok all = refl
spaces_ok (c ∷ cs) ok all =
    let two = both (is_space c) (list_all is_space cs) all in
    ap (λ (s : Bool). ok_behind_all cs (if s then ok else false)) two.0 ∙ spaces_ok cs ok two.1

same_false : (s : Bool) → (if s then false else false) ≡ false
same_false true = refl
same_false false = refl

spoiled_stays : (cs : List ℕ) → ok_behind_all cs false ≡ false
spoiled_stays [] = refl
spoiled_stays (c ∷ cs) = ap (ok_behind_all cs) (same_false (is_space c)) ∙ spoiled_stays cs

pub letters_ok : (cs : List ℕ) (ok : Bool) → list_all is_space cs ≡ false → ok_behind_all cs ok ≡ false
letters_ok [] ok some = absurd (true≢false some)
letters_ok (c ∷ cs) ok some = elim (cases_Bool (is_space c)) [
  | inl t ↦ ap (λ (s : Bool). ok_behind_all cs (if s then ok else false)) t ∙ letters_ok cs ok (sym (ap (λ (s : Bool). s && list_all is_space cs) t) ∙ some)
  | inr f ↦ ap (λ (s : Bool). ok_behind_all cs (if s then ok else false)) f ∙ spoiled_stays cs
]

pub spaces_no_null : (cs : List ℕ) → list_all is_space cs ≡ true → has_no_null cs ≡ true
spaces_no_null [] all = refl
spaces_no_null (c ∷ cs) all =
    let two = both (is_space c) (list_all is_space cs) all in
    ap (λ (x : Bool). not x && has_no_null cs) (space_no_null c two.0) ∙ spaces_no_null cs two.1

pub negated : (x : Bool) → not x ≡ true → x ≡ false
negated true e = absurd (true≢false (sym e))
negated false e = refl

pub no_nulls : (cs : List ℕ) → is_run Run.Letters cs ≡ true → has_no_null cs ≡ true
no_nulls cs e = (both (has_no_null cs) (not (list_all is_space cs)) e).0

pub some_letter : (cs : List ℕ) → is_run Run.Letters cs ≡ true → list_all is_space cs ≡ false
some_letter cs e = negated (list_all is_space cs) (both (has_no_null cs) (not (list_all is_space cs)) e).1

pub first_no_null : (c : ℕ) (cs : List ℕ) → is_run Run.Letters (c ∷ cs) ≡ true → is_null c ≡ false
first_no_null c cs e = negated (is_null c) (both (not (is_null c)) (has_no_null cs) (no_nulls (c ∷ cs) e)).0

pub rest_no_null : (c : ℕ) (cs : List ℕ) → is_run Run.Letters (c ∷ cs) ≡ true → has_no_null cs ≡ true
rest_no_null c cs e = (both (not (is_null c)) (has_no_null cs) (no_nulls (c ∷ cs) e)).1

all_pass : (cs : List ℕ) → list_all (λ c. true) cs ≡ true
all_pass [] = refl
all_pass (c ∷ cs) = all_pass cs

-- ---- what is done with each

abbrev Goes : GrowingTree → Type 0
Goes t = goes_to_mode t ≡ true

pub nothing_more : (b : Building) → Treats b (λ c. false) (λ t. Unit {0}) (λ c t. t) (λ c ok. ok)
nothing_more b = record { once = λ t ok c attrs good pass. absurd (true≢false (sym pass)); good = λ t c good. good }

ignoring : (m : Mode) (b : Building) → b.mode ≡ mode_of m → way_of_spaces m ≡ RunWay.Ignore → Treats b is_space Goes (λ c t. t) (λ c ok. ok)
ignoring m b mode way = record {
  once = λ t ok c attrs goes space. by_its_mode (mode_of m) b t ok c attrs (behind b t ok (AChar c) attrs) mode goes (spaces_ignored m c space way b t ok attrs);
  good = λ t c good. good;
}

putting : (m : Mode) (b : Building) → b.mode ≡ mode_of m → way_of_spaces m ≡ RunWay.Put → Treats b is_space Goes with_char (λ c ok. ok)
putting m b mode way = record {
  once = λ t ok c attrs goes space. by_its_mode (mode_of m) b t ok c attrs (behind b (with_char c t) ok (AChar c) attrs) mode goes (spaces_put m c space way b t ok attrs);
  good = λ t c good. char_mode c t ∙ good;
}

putting_text : (b : Building) → b.mode ≡ mode_of Mode.Text → Treats b (λ c. true) Goes with_char (λ c ok. ok)
putting_text b mode = record {
  once = λ t ok c attrs goes any. by_its_mode (mode_of Mode.Text) b t ok c attrs (behind b (with_char c t) ok (AChar c) attrs) mode goes (text_put c b t ok attrs);
  good = λ t c good. char_mode c t ∙ good;
}

settled_once : (b : Building) (t : GrowingTree) (ok : Bool) (c : ℕ) (attrs : List NodeAttr) → IsSettled t →
    ComesOnlyTo Dispatcher (behind b t ok (AChar c) attrs) (behind b (with_char c (reconstructed t)) (ok_behind c ok) (AChar c) attrs) →
    ComesOnlyTo Dispatcher (behind b t ok (AChar c) attrs) (behind b (with_char c t) (ok_behind c ok) (AChar c) attrs)
settled_once b t ok c attrs is only =
    subst (λ (u : GrowingTree). ComesOnlyTo Dispatcher (behind b t ok (AChar c) attrs) (behind b (with_char c u) (ok_behind c ok) (AChar c) attrs)) (nothing_reopened t is.none) only

in_body : (m : Mode) (b : Building) → b.mode ≡ mode_of m → way_of_letters m ≡ RunWay.Body → Treats b (λ c. not (is_null c)) IsSettled with_char ok_behind
in_body m b mode way = record {
  once = λ t ok c attrs is other. settled_once b t ok c attrs is
      (by_its_mode (mode_of m) b t ok c attrs _ mode is.mode (char_in_body m c (negated (is_null c) other) way b t ok attrs));
  good = λ t c is. char_settled c t is;
}

spaces_in_body : (m : Mode) (b : Building) → b.mode ≡ mode_of m → way_of_spaces m ≡ RunWay.Body → Treats b is_space IsSettled with_char ok_behind
spaces_in_body m b mode way = record {
  once = λ t ok c attrs is space. settled_once b t ok c attrs is (by_its_mode (mode_of m) b t ok c attrs _ mode is.mode (space_in_body m c space way b t ok attrs));
  good = λ t c is. char_settled c t is;
}

in_foreign : (b : Building) → Treats b (λ c. not (is_null c)) (λ t. goes_to_mode t ≡ false) with_char ok_behind
in_foreign b = record {
  once = λ t ok c attrs foreign other. char_in_foreign b t ok c attrs (negated (is_null c) other) foreign;
  good = λ t c foreign. char_mode c t ∙ foreign;
}

-- ---- runs

-- the state once all are treated, as the code has it
pub stood : (new : TreeBuilder) (b : Building) (t u : GrowingTree) (ok flag : Bool) → t ≡ u → ok ≡ flag → Constructs new (record b { tree = u; frameset_ok = flag }) →
    Constructs new (record b { tree = t; frameset_ok = ok })
stood new b t u ok flag e f stands =
    subst (λ (v : GrowingTree). Constructs new (record b { tree = v; frameset_ok = ok })) (sym e)
    (subst (λ (g : Bool). Constructs new (record b { tree = u; frameset_ok = g })) (sym f) stands)

-- the first character of a run that fits a mode which does not join white space
pub begins_with_letter : (m : Mode) (c : ℕ) (cs : List ℕ) → fits_mode m Run.Letters (c ∷ cs) ≡ true → joins_spaces m ≡ false → is_space c ≡ false
begins_with_letter m c cs fits joins =
    negated (is_space c) (sym (ap (λ (x : Bool). x || not (is_space c)) joins)
    ∙ (both (joins_spaces m || not (is_space c)) (not (drops_letters m) || list_all (λ c. not (is_space c)) cs) fits).0)

letters_dropped : (m : Mode) → way_of_letters m ≡ RunWay.Ignore → (joins_spaces m ≡ false) × (drops_letters m ≡ true)
letters_dropped Mode.InFrameset e = (refl, refl)
letters_dropped Mode.AfterFrameset e = (refl, refl)
letters_dropped Mode.AfterAfterFrameset e = (refl, refl)
letters_dropped _ e = absurd (cc)

abbrev pub is_letter : ℕ → Bool
is_letter c = not (is_null c) && not (is_space c)

pub all_letters : (cs : List ℕ) → has_no_null cs ≡ true → list_all (λ c. not (is_space c)) cs ≡ true → list_all is_letter cs ≡ true
all_letters [] one other = refl
all_letters (c ∷ cs) one other =
    let two = both (not (is_null c)) (has_no_null cs) one in
    let three = both (not (is_space c)) (list_all (λ c. not (is_space c)) cs) other in
    ap (λ (x : Bool). (x && not (is_space c)) && list_all is_letter cs) two.0 ∙ ap (λ (x : Bool). x && list_all is_letter cs) three.0 ∙ all_letters cs two.1 three.1

-- no white space is in a run that fits a mode which drops letters
pub rest_of_letters : (m : Mode) (c : ℕ) (cs : List ℕ) → fits_mode m Run.Letters (c ∷ cs) ≡ true → drops_letters m ≡ true → list_all (λ c. not (is_space c)) cs ≡ true
rest_of_letters m c cs fits drops =
    sym (ap (λ (x : Bool). not x || list_all (λ c. not (is_space c)) cs) drops)
    ∙ (both (joins_spaces m || not (is_space c)) (not (drops_letters m) || list_all (λ c. not (is_space c)) cs) fits).1

ignoring_letters : (m : Mode) (b : Building) → b.mode ≡ mode_of m → way_of_letters m ≡ RunWay.Ignore → Treats b is_letter Goes (λ c t. t) (λ c ok. ok)
ignoring_letters m b mode way = record {
  once = λ t ok c attrs goes letter. (let two = both (not (is_null c)) (not (is_space c)) letter in
      by_its_mode (mode_of m) b t ok c attrs (behind b t ok (AChar c) attrs) mode goes (letters_ignored m c (negated (is_null c) two.0) (negated (is_space c) two.1) way b t ok attrs));
  good = λ t c good. good;
}

pub run_ignored : (kind : Run) (s : TreeBuilder) (c : ℕ) (cs : List ℕ) → way_of kind s.mode ≡ RunWay.Ignore → is_run kind (c ∷ cs) ≡ true → fits_mode s.mode kind (c ∷ cs) ≡ true → (b : Building) → b.token ≡ AChar c →
    goes_to_mode b.tree ≡ true → covers_characters b ≡ true → Constructs s b → Completes cs b s
run_ignored Run.Spaces s c cs way is fits b token goes covered stands =
    let two = both (is_space c) (list_all is_space cs) is in
    completed s b c cs b.tree b.frameset_ok is_space Goes (λ c t. t) (λ c ok. ok) (covered_begun b covered) token
    (by_its_mode (mode_of s.mode) b b.tree b.frameset_ok c b.attrs _ stands.mode goes (spaces_ignored s.mode c two.0 way b b.tree b.frameset_ok b.attrs))
    (ignoring s.mode b stands.mode way) two.1 goes
    (stood s b _ b.tree _ b.frameset_ok (all_left cs b.tree) (all_left cs b.frameset_ok) stands)
run_ignored Run.Nulls s c [] way is fits b token goes covered stands =
    completed s b c [] b.tree b.frameset_ok (λ c. false) (λ t. Unit {0}) (λ c t. t) (λ c ok. ok) (covered_begun b covered) token
    (by_its_mode (mode_of s.mode) b b.tree b.frameset_ok c b.attrs _ stands.mode goes (null_ignored s.mode c is way b b.tree b.frameset_ok b.attrs))
    (nothing_more b) refl tt stands
run_ignored Run.Nulls s c (d ∷ cs) way is fits b token goes covered stands = absurd (true≢false (sym is))
run_ignored Run.Letters s c cs way is fits b token goes covered stands =
    let kept = letters_dropped s.mode way in
    let first = first_no_null c cs is in
    completed s b c cs b.tree b.frameset_ok is_letter Goes (λ c t. t) (λ c ok. ok) (covered_begun b covered) token
    (by_its_mode (mode_of s.mode) b b.tree b.frameset_ok c b.attrs _ stands.mode goes
    (letters_ignored s.mode c first (begins_with_letter s.mode c cs fits kept.0) way b b.tree b.frameset_ok b.attrs))
    (ignoring_letters s.mode b stands.mode way) (all_letters cs (rest_no_null c cs is) (rest_of_letters s.mode c cs fits kept.1)) goes
    (stood s b _ b.tree _ b.frameset_ok (all_left cs b.tree) (all_left cs b.frameset_ok) stands)

-- the text of an element
pub put_in_text : (s new : TreeBuilder) (c : ℕ) (cs : List ℕ) → s.mode ≡ Mode.Text → (b : Building) → b.token ≡ AChar c → goes_to_mode b.tree ≡ true → covers_characters b ≡ true → Constructs s b →
    Constructs new (with_tree b (with_chars (c ∷ cs) b.tree)) → Completes cs b new
put_in_text s new c cs text b token goes covered stands put =
    let mode = stands.mode ∙ ap mode_of text in
    completed new b c cs (with_char c b.tree) b.frameset_ok (λ c. true) Goes with_char (λ c ok. ok) (covered_begun b covered) token
    (by_its_mode (mode_of Mode.Text) b b.tree b.frameset_ok c b.attrs _ mode goes (text_put c b b.tree b.frameset_ok b.attrs))
    (putting_text b mode) (all_pass cs) (char_mode c b.tree ∙ goes)
    (stood new b _ (with_chars (c ∷ cs) b.tree) _ b.frameset_ok (all_chars cs (with_char c b.tree)) (all_left cs b.frameset_ok) put)

letters_text : (m : Mode) → way_of_letters m ≡ RunWay.Put → m ≡ Mode.Text
letters_text Mode.Text e = refl
letters_text _ e = absurd (cc)

nulls_text : (m : Mode) → way_of_nulls m ≡ RunWay.Put → m ≡ Mode.Text
nulls_text Mode.Text e = refl
nulls_text _ e = absurd (cc)

pub run_put : (kind : Run) (s new : TreeBuilder) (c : ℕ) (cs : List ℕ) → way_of kind s.mode ≡ RunWay.Put → is_run kind (c ∷ cs) ≡ true → (b : Building) → b.token ≡ AChar c →
    goes_to_mode b.tree ≡ true → covers_characters b ≡ true → Constructs s b → Constructs new (with_tree b (with_chars (c ∷ cs) b.tree)) → Completes cs b new
run_put Run.Spaces s new c cs way is b token goes covered stands put =
    let two = both (is_space c) (list_all is_space cs) is in
    completed new b c cs (with_char c b.tree) b.frameset_ok is_space Goes with_char (λ c ok. ok) (covered_begun b covered) token
    (by_its_mode (mode_of s.mode) b b.tree b.frameset_ok c b.attrs _ stands.mode goes (spaces_put s.mode c two.0 way b b.tree b.frameset_ok b.attrs))
    (putting s.mode b stands.mode way) two.1 (char_mode c b.tree ∙ goes)
    (stood new b _ (with_chars (c ∷ cs) b.tree) _ b.frameset_ok (all_chars cs (with_char c b.tree)) (all_left cs b.frameset_ok) put)
run_put Run.Letters s new c cs way is b token goes covered stands put = put_in_text s new c cs (letters_text s.mode way) b token goes covered stands put
run_put Run.Nulls s new c cs way is b token goes covered stands put = put_in_text s new c cs (nulls_text s.mode way) b token goes covered stands put

-- the modes in which characters are covered while an element is open
abbrev IsOpenMode : Mode → Type 0
IsOpenMode m = (covers_closed (mode_of m) ≡ false) × ((b : Building) → covers_between (mode_of m) b ≡ false)

spaces_open : (m : Mode) → way_of_spaces m ≡ RunWay.Body → IsOpenMode m
spaces_open Mode.InBody e = (refl, λ b. refl)
spaces_open Mode.InCaption e = (refl, λ b. refl)
spaces_open Mode.InCell e = (refl, λ b. refl)
spaces_open Mode.InTemplate e = (refl, λ b. refl)
spaces_open Mode.AfterBody e = (refl, λ b. refl)
spaces_open Mode.AfterAfterBody e = (refl, λ b. refl)
spaces_open Mode.AfterAfterFrameset e = (refl, λ b. refl)
spaces_open _ e = absurd (cc)

letters_open : (m : Mode) → way_of_letters m ≡ RunWay.Body → IsOpenMode m
letters_open Mode.InBody e = (refl, λ b. refl)
letters_open Mode.InCaption e = (refl, λ b. refl)
letters_open Mode.InCell e = (refl, λ b. refl)
letters_open Mode.InTemplate e = (refl, λ b. refl)
letters_open _ e = absurd (cc)

no_nulls_in_body : (m : Mode) → way_of_nulls m ≡ RunWay.Body → ⊥
no_nulls_in_body Mode.InBody e = cc
no_nulls_in_body _ e = cc

pub run_in_body : (kind : Run) (s new : TreeBuilder) (c : ℕ) (cs : List ℕ) → way_of kind s.mode ≡ RunWay.Body → is_run kind (c ∷ cs) ≡ true → (b : Building) → b.token ≡ AChar c →
    goes_to_mode b.tree ≡ true → covers_characters b ≡ true → Constructs s b → Constructs new (inserted_in_body kind (c ∷ cs) b) → Completes cs b new
run_in_body Run.Spaces s new c cs way is b token goes covered stands put =
    let two = both (is_space c) (list_all is_space cs) is in
    let open_mode = spaces_open s.mode way in
    let some = covered_open s.mode b covered goes stands.mode open_mode.0 (open_mode.1 b) in
    completed new b c cs (with_char c (reconstructed b.tree)) (ok_behind c b.frameset_ok) is_space IsSettled with_char ok_behind (covered_begun b covered) token
    (by_its_mode (mode_of s.mode) b b.tree b.frameset_ok c b.attrs _ stands.mode goes (space_in_body s.mode c two.0 way b b.tree b.frameset_ok b.attrs))
    (spaces_in_body s.mode b stands.mode way) two.1 (char_settled c (reconstructed b.tree) (settles b.tree some goes))
    (stood new b _ (with_chars (c ∷ cs) (reconstructed b.tree)) _ b.frameset_ok (all_chars cs (with_char c (reconstructed b.tree)))
    (all_ok cs (ok_behind c b.frameset_ok) ∙ spaces_ok (c ∷ cs) b.frameset_ok is) put)
run_in_body Run.Letters s new c cs way is b token goes covered stands put =
    let open_mode = letters_open s.mode way in
    let some = covered_open s.mode b covered goes stands.mode open_mode.0 (open_mode.1 b) in
    completed new b c cs (with_char c (reconstructed b.tree)) (ok_behind c b.frameset_ok) (λ c. not (is_null c)) IsSettled with_char ok_behind (covered_begun b covered) token
    (by_its_mode (mode_of s.mode) b b.tree b.frameset_ok c b.attrs _ stands.mode goes (char_in_body s.mode c (first_no_null c cs is) way b b.tree b.frameset_ok b.attrs))
    (in_body s.mode b stands.mode way) (rest_no_null c cs is) (char_settled c (reconstructed b.tree) (settles b.tree some goes))
    (stood new b _ (with_chars (c ∷ cs) (reconstructed b.tree)) _ false (all_chars cs (with_char c (reconstructed b.tree)))
    (all_ok cs (ok_behind c b.frameset_ok) ∙ letters_ok (c ∷ cs) b.frameset_ok (some_letter (c ∷ cs) is)) put)
run_in_body Run.Nulls s new c cs way is b token goes covered stands put = absurd (no_nulls_in_body s.mode way)

-- ---- foreign content

pub spaces_in_foreign : (new : TreeBuilder) (c : ℕ) (cs : List ℕ) → is_run Run.Spaces (c ∷ cs) ≡ true → (b : Building) → b.token ≡ AChar c → goes_to_mode b.tree ≡ false →
    has_begun b ≡ true → Constructs new (with_tree b (with_chars (c ∷ cs) b.tree)) → Completes cs b new
spaces_in_foreign new c cs is b token foreign begun put =
    let two = both (is_space c) (list_all is_space cs) is in
    completed new b c cs (with_char c b.tree) (ok_behind c b.frameset_ok) (λ c. not (is_null c)) (λ t. goes_to_mode t ≡ false) with_char ok_behind begun token
    (char_in_foreign b b.tree b.frameset_ok c b.attrs (space_no_null c two.0) foreign) (in_foreign b) (spaces_no_null cs two.1) (char_mode c b.tree ∙ foreign)
    (stood new b _ (with_chars (c ∷ cs) b.tree) _ b.frameset_ok (all_chars cs (with_char c b.tree))
    (all_ok cs (ok_behind c b.frameset_ok) ∙ spaces_ok (c ∷ cs) b.frameset_ok is) put)

pub letters_in_foreign : (new : TreeBuilder) (c : ℕ) (cs : List ℕ) → is_run Run.Letters (c ∷ cs) ≡ true → (b : Building) → b.token ≡ AChar c → goes_to_mode b.tree ≡ false →
    has_begun b ≡ true → Constructs new (record b { tree = with_chars (c ∷ cs) b.tree; frameset_ok = false }) → Completes cs b new
letters_in_foreign new c cs is b token foreign begun put =
    completed new b c cs (with_char c b.tree) (ok_behind c b.frameset_ok) (λ c. not (is_null c)) (λ t. goes_to_mode t ≡ false) with_char ok_behind begun token
    (char_in_foreign b b.tree b.frameset_ok c b.attrs (first_no_null c cs is) foreign) (in_foreign b) (rest_no_null c cs is) (char_mode c b.tree ∙ foreign)
    (stood new b _ (with_chars (c ∷ cs) b.tree) _ false (all_chars cs (with_char c b.tree))
    (all_ok cs (ok_behind c b.frameset_ok) ∙ letters_ok (c ∷ cs) b.frameset_ok (some_letter (c ∷ cs) is)) put)

pub nulls_in_foreign : (new : TreeBuilder) (c : ℕ) (cs : List ℕ) → is_run Run.Nulls (c ∷ cs) ≡ true → (b : Building) → b.token ≡ AChar c → goes_to_mode b.tree ≡ false →
    has_begun b ≡ true → Constructs new (with_tree b (with_chars (0xfffd ∷ []) b.tree)) → Completes cs b new
nulls_in_foreign new c [] is b token foreign begun put =
    completed new b c [] (with_char 0xfffd b.tree) b.frameset_ok (λ c. false) (λ t. Unit {0}) (λ c t. t) (λ c ok. ok) begun token
    (null_in_foreign b b.tree b.frameset_ok c b.attrs is foreign) (nothing_more b) refl tt put
nulls_in_foreign new c (d ∷ cs) is b token foreign begun put = absurd (true≢false (sym is))

-- ---- the mode is left

pub dropping_is : (m : Mode) → is_dropping (mode_of m) ≡ drops_letters m
dropping_is Mode.InColumnGroup = refl
dropping_is _ = refl

-- a run that begins with a letter fits a mode that does not drop letters
pub fits_plainly : (m : Mode) (c : ℕ) (cs : List ℕ) → is_space c ≡ false → drops_letters m ≡ false → fits_mode m Run.Letters (c ∷ cs) ≡ true
fits_plainly m c cs letter keeps =
    ap (λ (x : Bool). (joins_spaces m || not x) && (not (drops_letters m) || list_all (λ c. not (is_space c)) cs)) letter
    ∙ ap (λ (x : Bool). (joins_spaces m || true) && (not x || list_all (λ c. not (is_space c)) cs)) keeps
    ∙ ap (λ (x : Bool). x && true) (or_true (joins_spaces m))
  where
    or_true : (x : Bool) → (x || true) ≡ true
    or_true true = refl
    or_true false = refl

goes_again : (kind : Run) (m : Mode) (actions : List Action) (old new : TreeBuilder) (next : Next) (c d : ℕ) (cs : List ℕ) → Alike c d →
    ((b : Building) → HaveOneToken b (all_performed actions b)) → ((b : Building) → chosen (AChar d) b (rules (mode_of m)) ≡ plainly actions Next.Again) →
    ((b : Building) → is_dropping (all_performed actions b).mode ≡ false) → (drops_letters new.mode ≡ false → fits_mode new.mode kind (c ∷ cs) ≡ true) → LeavesBy actions old new next →
    old.mode ≡ m → WithinLimits new → (b : Building) → b.token ≡ AChar c → goes_to_mode b.tree ≡ true → Constructs old b → RunOutcome kind c cs b new next
goes_again kind m actions old new next c d cs alike same e keeps fits by is within b token goes stands =
    let stood = by.rule within b stands in
    let dropped = sym (dropping_is new.mode) ∙ ap is_dropping (sym stood.mode) ∙ keeps b in
    subst (λ (n : Next). RunOutcome kind c cs b new n) (sym by.again) (record {
      outcome = tag_in_mode m b new Next.Again (dispatched_char b c token goes) (stands.mode ∙ ap mode_of is)
          (outcome (mode_of m) b new actions Next.Again stood (same b) (taken_char c d alike b token (rules (mode_of m)) ∙ e b));
      fits = fits dropped;
    })

-- a character that is no white space, for which one stands that the rules do not tell apart from it
abbrev LeavesRun : Run → Mode → ℕ → Type 0
LeavesRun kind m d =
    (old new : TreeBuilder) (next : Next) (c : ℕ) (cs : List ℕ) → Alike c d → (drops_letters new.mode ≡ false → fits_mode new.mode kind (c ∷ cs) ≡ true) →
    IfSome (leaving m) (λ actions. LeavesBy actions old new next) → old.mode ≡ m → WithinLimits new → (b : Building) → b.token ≡ AChar c → goes_to_mode b.tree ≡ true → Constructs old b →
    RunOutcome kind c cs b new next

abbrev left_plainly : Mode → Bool
left_plainly Mode.Initial = true
left_plainly Mode.BeforeHtml = true
left_plainly Mode.BeforeHead = true
left_plainly Mode.InHead = true
left_plainly Mode.InHeadNoscript = true
left_plainly Mode.AfterHead = true
left_plainly Mode.AfterBody = true
left_plainly Mode.AfterAfterBody = true
left_plainly _ = false

letter_leaves : (kind : Run) (m : Mode) → left_plainly m ≡ true → LeavesRun kind m 97
unfolding rules perform
letter_leaves kind Mode.Initial h old new next c cs alike fits by = goes_again kind Mode.Initial _ old new next c 97 cs alike (λ b. record { token = refl; attrs = refl }) (λ b. refl) (λ b. refl) fits by
letter_leaves kind Mode.BeforeHtml h old new next c cs alike fits by = goes_again kind Mode.BeforeHtml _ old new next c 97 cs alike (λ b. record { token = refl; attrs = refl }) (λ b. refl) (λ b. refl) fits by
letter_leaves kind Mode.BeforeHead h old new next c cs alike fits by = goes_again kind Mode.BeforeHead _ old new next c 97 cs alike (λ b. record { token = refl; attrs = refl }) (λ b. refl) (λ b. refl) fits by
letter_leaves kind Mode.InHead h old new next c cs alike fits by = goes_again kind Mode.InHead _ old new next c 97 cs alike (λ b. record { token = refl; attrs = refl }) (λ b. refl) (λ b. refl) fits by
letter_leaves kind Mode.InHeadNoscript h old new next c cs alike fits by = goes_again kind Mode.InHeadNoscript _ old new next c 97 cs alike (λ b. record { token = refl; attrs = refl }) (λ b. refl) (λ b. refl) fits by
letter_leaves kind Mode.AfterHead h old new next c cs alike fits by = goes_again kind Mode.AfterHead _ old new next c 97 cs alike (λ b. record { token = refl; attrs = refl }) (λ b. refl) (λ b. refl) fits by
letter_leaves kind Mode.AfterBody h old new next c cs alike fits by = goes_again kind Mode.AfterBody _ old new next c 97 cs alike (λ b. record { token = refl; attrs = refl }) (λ b. refl) (λ b. refl) fits by
letter_leaves kind Mode.AfterAfterBody h old new next c cs alike fits by = goes_again kind Mode.AfterAfterBody _ old new next c 97 cs alike (λ b. record { token = refl; attrs = refl }) (λ b. refl) (λ b. refl) fits by
letter_leaves kind _ h old new next c cs alike fits by = absurd (cc)

null_leaves : (kind : Run) (m : Mode) → left_plainly m ≡ true → LeavesRun kind m 0
unfolding rules perform
null_leaves kind Mode.Initial h old new next c cs alike fits by = goes_again kind Mode.Initial _ old new next c 0 cs alike (λ b. record { token = refl; attrs = refl }) (λ b. refl) (λ b. refl) fits by
null_leaves kind Mode.BeforeHtml h old new next c cs alike fits by = goes_again kind Mode.BeforeHtml _ old new next c 0 cs alike (λ b. record { token = refl; attrs = refl }) (λ b. refl) (λ b. refl) fits by
null_leaves kind Mode.BeforeHead h old new next c cs alike fits by = goes_again kind Mode.BeforeHead _ old new next c 0 cs alike (λ b. record { token = refl; attrs = refl }) (λ b. refl) (λ b. refl) fits by
null_leaves kind Mode.InHead h old new next c cs alike fits by = goes_again kind Mode.InHead _ old new next c 0 cs alike (λ b. record { token = refl; attrs = refl }) (λ b. refl) (λ b. refl) fits by
null_leaves kind Mode.InHeadNoscript h old new next c cs alike fits by = goes_again kind Mode.InHeadNoscript _ old new next c 0 cs alike (λ b. record { token = refl; attrs = refl }) (λ b. refl) (λ b. refl) fits by
null_leaves kind Mode.AfterHead h old new next c cs alike fits by = goes_again kind Mode.AfterHead _ old new next c 0 cs alike (λ b. record { token = refl; attrs = refl }) (λ b. refl) (λ b. refl) fits by
null_leaves kind Mode.AfterBody h old new next c cs alike fits by = goes_again kind Mode.AfterBody _ old new next c 0 cs alike (λ b. record { token = refl; attrs = refl }) (λ b. refl) (λ b. refl) fits by
null_leaves kind Mode.AfterAfterBody h old new next c cs alike fits by = goes_again kind Mode.AfterAfterBody _ old new next c 0 cs alike (λ b. record { token = refl; attrs = refl }) (λ b. refl) (λ b. refl) fits by
null_leaves kind _ h old new next c cs alike fits by = absurd (cc)

letters_leave : (m : Mode) → way_of_letters m ≡ RunWay.Leave → joins_spaces m ≡ false
letters_leave Mode.InBody e = absurd (cc)
letters_leave Mode.InCaption e = absurd (cc)
letters_leave Mode.InCell e = absurd (cc)
letters_leave Mode.InTemplate e = absurd (cc)
letters_leave _ e = refl

-- the other mode that is left there
left_otherwise : (m : Mode) → way_of_letters m ≡ RunWay.Leave → left_plainly m ≡ false → m ≡ Mode.InColumnGroup
left_otherwise Mode.InColumnGroup e h = refl
left_otherwise _ e h = absurd (cc)

nulls_leave : (m : Mode) → way_of_nulls m ≡ RunWay.Leave → way_of_letters m ≡ RunWay.Leave
nulls_leave Mode.InBody e = absurd (cc)
nulls_leave Mode.InCaption e = absurd (cc)
nulls_leave Mode.InCell e = absurd (cc)
nulls_leave Mode.InTemplate e = absurd (cc)
nulls_leave Mode.InTableText e = absurd (cc)
nulls_leave Mode.InTable e = absurd (cc)
nulls_leave Mode.InTableBody e = absurd (cc)
nulls_leave Mode.InRow e = absurd (cc)
nulls_leave Mode.Text e = absurd (cc)
nulls_leave Mode.InFrameset e = absurd (cc)
nulls_leave Mode.AfterFrameset e = absurd (cc)
nulls_leave Mode.AfterAfterFrameset e = absurd (cc)
nulls_leave _ e = refl

pub no_spaces_leave : (m : Mode) → way_of_spaces m ≡ RunWay.Leave → ⊥
no_spaces_leave Mode.InBody e = cc
no_spaces_leave _ e = cc

pub run_left : (kind : Run) (old new : TreeBuilder) (next : Next) (c : ℕ) (cs : List ℕ) → way_of kind old.mode ≡ RunWay.Leave → is_run kind (c ∷ cs) ≡ true →
    fits_mode old.mode kind (c ∷ cs) ≡ true → IfSome (leaving old.mode) (λ actions. LeavesBy actions old new next) → WithinLimits new → (b : Building) → b.token ≡ AChar c →
    goes_to_mode b.tree ≡ true → Constructs old b → (old.mode ≡ Mode.InColumnGroup → RunOutcome kind c cs b new next) → RunOutcome kind c cs b new next
run_left Run.Letters old new next c cs way is fits by within b token goes stands group = elim (cases_Bool (left_plainly old.mode)) [
  | inl plain ↦ (let letter = begins_with_letter old.mode c cs fits (letters_leave old.mode way) in
      letter_leaves Run.Letters old.mode plain old new next c cs (letter_alike c (first_no_null c cs is) letter)
      (λ keeps. fits_plainly new.mode c cs letter keeps) by refl within b token goes stands)
  | inr other ↦ group (left_otherwise old.mode way other)
]
run_left Run.Nulls old new next c [] way is fits by within b token goes stands group = elim (cases_Bool (left_plainly old.mode)) [
  | inl plain ↦ null_leaves Run.Nulls old.mode plain old new next c [] (null_alike c is) (λ keeps. refl) by refl within b token goes stands
  | inr other ↦ group (left_otherwise old.mode (nulls_leave old.mode way) other)
]
run_left Run.Nulls old new next c (d ∷ cs) way is fits by within b token goes stands group = absurd (true≢false (sym is))
run_left Run.Spaces old new next c cs way is fits by within b token goes stands group = absurd (no_spaces_leave old.mode way)
