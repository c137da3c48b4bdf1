-- Letters and nulls in a column group: they close it and are reprocessed, or are ignored where the current node is none.
use Rattle.std.proofs.Common.{◌≡◌, ℕ, Bool, true, false, not, List, [], ◌∷◌, refl, sym, ap, ◌∙◌, true≢false}
use Rattle.standard_tokens.specs.Tokens.{AChar}
use Rattle.standard_trees.specs.Building.{Building, is_space, perform, taken}
use Rattle.standard_trees.specs.GrowingTree.{GrowingTree}
use Rattle.standard_trees.specs.RuleWords.{Dispatcher, InColumnGroup}
use Rattle.standard_trees.specs.TreeRules.{rules}
use Rattle.standard_trees.specs.TreeStore.{NodeAttr}
use Rattle.page_trees.specs.CharacterSteps.{Completes, RunOutcome, covers_characters, fits_mode, goes_to_mode, is_dropping, is_null, is_run, way_of}
use Rattle.page_trees.specs.Constructs.{Constructs, WithinLimits, all_performed}
use Rattle.page_trees.specs.Modes.{drops_letters, joins_spaces, mode_of}
use Rattle.page_trees.specs.LeftGroups.{LeavesGroup}
use Rattle.page_trees.specs.TableSteps.{closing_group, is_in_group}
use Rattle.page_trees.specs.declared.builder.Mode.{Mode}
use Rattle.page_trees.specs.declared.builder.Next.{Next}
use Rattle.page_trees.specs.declared.builder.TreeBuilder.{TreeBuilder}
use Rattle.page_trees.specs.declared.chars.Run.{Run}
use Rattle.page_trees.specs.declared.chars.RunWay.{RunWay}
use Rattle.page_trees.proofs.CharacterRules.{by_its_mode, dispatched_char, letter_alike, null_alike, taken_char}
use Rattle.page_trees.proofs.CharactersBehind.{ComesOnlyTo, Treats, all_left, behind, completed, only_performed}
use Rattle.page_trees.proofs.NamesAgree.{both}
use Rattle.page_trees.proofs.RulesRun.{outcome, plainly}
use Rattle.page_trees.proofs.RunOutcomes.{all_letters, begins_with_letter, covered_begun, dropping_is, first_no_null, fits_plainly, is_letter, negated, no_spaces_leave, nothing_more, rest_no_null, rest_of_letters, stood}
use Rattle.page_trees.proofs.TableRules.{choice}
use Rattle.page_trees.proofs.TextTags.{tag_in_mode}

-- ---- the rule that is taken

-- the rule for anything else is taken for that character
abbrev InGroup : ℕ → Type 0
InGroup c = (b : Building) → b.token ≡ AChar c → taken b (rules InColumnGroup) ≡ choice (is_in_group b.tree) (plainly closing_group Next.Again)

letter_in_group : (c : ℕ) → is_null c ≡ false → is_space c ≡ false → InGroup c
unfolding rules
letter_in_group c other letter b token = taken_char c 97 (letter_alike c other letter) b token (rules InColumnGroup)

null_in_group : (c : ℕ) → is_null c ≡ true → InGroup c
unfolding rules
null_in_group c null b token = taken_char c 0 (null_alike c null) b token (rules InColumnGroup)

-- ---- the column group is closed

group_left : (kind : Run) (old new : TreeBuilder) (c : ℕ) (cs : List ℕ) → InGroup c → (drops_letters new.mode ≡ false → fits_mode new.mode kind (c ∷ cs) ≡ true) →
    LeavesGroup old new Next.Again → old.mode ≡ Mode.InColumnGroup → WithinLimits new → (b : Building) → b.token ≡ AChar c → goes_to_mode b.tree ≡ true → Constructs old b →
    RunOutcome kind c cs b new Next.Again
unfolding perform
group_left kind old new c cs rule fits left is within b token goes stands =
    let stood : Constructs new (all_performed closing_group b) = left.rule within b stands in
    record {
      outcome = tag_in_mode Mode.InColumnGroup b new Next.Again (dispatched_char b c token goes) (stands.mode ∙ ap mode_of is)
          (outcome InColumnGroup b new closing_group Next.Again stood (record { token = refl; attrs = refl })
          (rule b token ∙ ap (λ (x : Bool). choice x (plainly closing_group Next.Again)) (sym (left.found b.tree stands.tree))));
      fits = fits (sym (dropping_is new.mode) ∙ ap is_dropping (sym stood.mode));
    }

-- ---- they are ignored

record IsOutside (t : GrowingTree) : Type 0 where
  pub goes : goes_to_mode t ≡ true
  pub out : is_in_group t ≡ false

ignored_once : (b : Building) (t : GrowingTree) (ok : Bool) (c : ℕ) (attrs : List NodeAttr) → InGroup c → b.mode ≡ InColumnGroup → IsOutside t →
    ComesOnlyTo Dispatcher (behind b t ok (AChar c) attrs) (behind b t ok (AChar c) attrs)
ignored_once b t ok c attrs rule mode is =
    by_its_mode InColumnGroup b t ok c attrs (behind b t ok (AChar c) attrs) mode is.goes
    (only_performed InColumnGroup (behind b t ok (AChar c) attrs) []
    (rule (behind b t ok (AChar c) attrs) refl ∙ ap (λ (x : Bool). choice x (plainly closing_group Next.Again)) is.out))

ignoring : (b : Building) → b.mode ≡ InColumnGroup → Treats b is_letter IsOutside (λ c t. t) (λ c ok. ok)
ignoring b mode = record {
  once = λ t ok c attrs is letter. (let two = both (not (is_null c)) (not (is_space c)) letter in
      ignored_once b t ok c attrs (letter_in_group c (negated (is_null c) two.0) (negated (is_space c) two.1)) mode is);
  good = λ t c good. good;
}

letters_stay : (old new : TreeBuilder) (c : ℕ) (cs : List ℕ) → is_run Run.Letters (c ∷ cs) ≡ true → fits_mode old.mode Run.Letters (c ∷ cs) ≡ true → old.mode ≡ Mode.InColumnGroup →
    (b : Building) → b.token ≡ AChar c → covers_characters b ≡ true → b.mode ≡ InColumnGroup → IsOutside b.tree → Constructs new b → Completes cs b new
letters_stay old new c cs run fits is b token covered mode outside stands =
    let letter = begins_with_letter old.mode c cs fits (ap joins_spaces is) in
    completed new b c cs b.tree b.frameset_ok is_letter IsOutside (λ c t. t) (λ c ok. ok) (covered_begun b covered) token
    (ignored_once b b.tree b.frameset_ok c b.attrs (letter_in_group c (first_no_null c cs run) letter) mode outside)
    (ignoring b mode) (all_letters cs (rest_no_null c cs run) (rest_of_letters old.mode c cs fits (ap drops_letters is))) outside
    (stood new b _ b.tree _ b.frameset_ok (all_left cs b.tree) (all_left cs b.frameset_ok) stands)

null_stays : (new : TreeBuilder) (c : ℕ) → is_null c ≡ true → (b : Building) → b.token ≡ AChar c → covers_characters b ≡ true → b.mode ≡ InColumnGroup → IsOutside b.tree → Constructs new b →
    Completes [] b new
null_stays new c null b token covered mode outside stands =
    completed new b c [] b.tree b.frameset_ok (λ c. false) (λ t. Unit {0}) (λ c t. t) (λ c ok. ok) (covered_begun b covered) token
    (ignored_once b b.tree b.frameset_ok c b.attrs (null_in_group c null) mode outside) (nothing_more b) refl tt stands

-- ---- runs

pub run_left_group : (kind : Run) (old new : TreeBuilder) (next : Next) (c : ℕ) (cs : List ℕ) → way_of kind old.mode ≡ RunWay.Leave → is_run kind (c ∷ cs) ≡ true →
    fits_mode old.mode kind (c ∷ cs) ≡ true → LeavesGroup old new next → old.mode ≡ Mode.InColumnGroup → WithinLimits new → (b : Building) → b.token ≡ AChar c →
    goes_to_mode b.tree ≡ true → covers_characters b ≡ true → Constructs old b → RunOutcome kind c cs b new next
run_left_group Run.Letters old new Next.Again c cs way run fits left is within b token goes covered stands =
    let letter = begins_with_letter old.mode c cs fits (ap joins_spaces is) in
    group_left Run.Letters old new c cs (letter_in_group c (first_no_null c cs run) letter) (λ keeps. fits_plainly new.mode c cs letter keeps) left is within b token goes stands
run_left_group Run.Letters old new Next.Done c cs way run fits left is within b token goes covered stands =
    letters_stay old new c cs run fits is b token covered (stands.mode ∙ ap mode_of is) (record { goes = goes; out = sym (left.found b.tree stands.tree) }) (left.rule within b stands)
run_left_group Run.Nulls old new Next.Again c [] way run fits left is within b token goes covered stands =
    group_left Run.Nulls old new c [] (null_in_group c run) (λ keeps. refl) left is within b token goes stands
run_left_group Run.Nulls old new Next.Done c [] way run fits left is within b token goes covered stands =
    null_stays new c run b token covered (stands.mode ∙ ap mode_of is) (record { goes = goes; out = sym (left.found b.tree stands.tree) }) (left.rule within b stands)
run_left_group Run.Nulls old new next c (d ∷ cs) way run fits left is within b token goes covered stands = absurd (true≢false (sym run))
run_left_group Run.Spaces old new next c cs way run fits left is within b token goes covered stands = absurd (no_spaces_leave old.mode way)
