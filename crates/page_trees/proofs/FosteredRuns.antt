-- Characters that "in table" processes by the rules for "in body", with foster parenting: the current node is no part of a table.
use Rattle.std.proofs.Common.{◌≡◌, ℕ, suc, zero, Bool, true, false, ◌&&◌, not, List, [], ◌∷◌, drop, refl, sym, ap, subst, ◌∙◌, Some, Option, None, inl, inr, true≢false}
use Rattle.std.specs.Option.{option_and_then}
use Rattle.std.proofs.lemmas.Option.{same_Some}
use Rattle.standard_tokens.specs.Tokens.{AChar}
use Rattle.standard_trees.specs.Building.{Building, is_empty, perform, performed, run, taken}
use Rattle.standard_trees.specs.Formatting.{reconstructed}
use Rattle.standard_trees.specs.GrowingTree.{GrowingTree, current, is_among, with_char, with_chars}
use Rattle.standard_trees.specs.RuleWords.{Act, EmptyPending, FosterOff, FosterOn, InBody, InTable, InTableText, KeepMode, Mode as StandardMode, SwitchTo, Use, does, goes}
use Rattle.standard_trees.specs.TreeRules.{rules}
use Rattle.standard_trees.specs.TreeStore.{NodeAttr}
use Rattle.page_trees.specs.CharacterSteps.{Completes, covers_characters, fosters_text, goes_to_mode, has_begun, has_no_null, is_null, is_run, keeps_text, ok_behind, ok_behind_all, pending_names, way_of, with_foster}
use Rattle.page_trees.specs.Constructs.{Constructs}
use Rattle.page_trees.specs.Modes.{mode_of}
use Rattle.page_trees.specs.TableTexts.{fostered_in_body}
use Rattle.page_trees.specs.declared.builder.Mode.{Mode}
use Rattle.page_trees.specs.declared.builder.Next.{Next}
use Rattle.page_trees.specs.declared.builder.TreeBuilder.{TreeBuilder}
use Rattle.page_trees.specs.declared.chars.Run.{Run}
use Rattle.page_trees.specs.declared.chars.RunWay.{RunWay}
use Rattle.page_trees.proofs.CharacterRules.{by_its_mode, char_in_body, null_ignored}
use Rattle.page_trees.proofs.CharactersBehind.{ComesOnlyTo, Treats, all_of, all_ok, behind, completed, only_used}
use Rattle.page_trees.proofs.ClosedEntries.{reconstructed_fosters}
use Rattle.page_trees.proofs.NamesAgree.{both}
use Rattle.page_trees.proofs.RulesRun.{plainly}
use Rattle.page_trees.proofs.RulesTaken.{chosen}
use Rattle.page_trees.proofs.RunOutcomes.{covered_begun, letters_ok, negated, no_nulls, some_letter, spaces_no_null, spaces_ok, stood}
use Rattle.page_trees.proofs.SettledFormatting.{IsSettled, char_looks, char_nodes, char_settled, nothing_reopened, settles}
use Rattle.page_trees.proofs.TableRuns.{IsTableMode, table_fosters, table_mode}
use Rattle.page_trees.proofs.TokenRules.{taken_of}

-- ---- the rule that is taken

abbrev pub fostering_acts : List Act
fostering_acts = does FosterOn [] ∷ goes (Use InBody) ∷ does FosterOff [] ∷ []

abbrev beginning : List Act
beginning = plainly (EmptyPending ∷ KeepMode ∷ SwitchTo InTableText ∷ []) Next.Again

passed : (x : Bool) (acts others : List Act) → x ≡ false → elim (x && true) [ true ↦ acts | false ↦ others ] ≡ others
passed true acts others e = absurd (true≢false e)
passed false acts others e = refl

fosters_char : (b : Building) (c : ℕ) → b.token ≡ AChar c → keeps_text b.tree ≡ false → taken b (rules InTable) ≡ fostering_acts
unfolding rules
fosters_char b c token other =
    taken_of (AChar c) b token (rules InTable) ∙ passed (keeps_text b.tree) beginning (chosen (AChar c) b (drop 1 (rules InTable))) other

-- what the rules for "in body" come to with foster parenting, comes of it "in table"
only_fostered : (b c : Building) → taken b (rules InTable) ≡ fostering_acts → ComesOnlyTo InBody (perform FosterOn b) c → ComesOnlyTo InTable b (perform FosterOff c)
unfolding run
only_fostered b c e only zero x h = cc
only_fostered b c e only (suc d) x h = by (run d InBody (perform FosterOn b)) refl (sym (ap (λ acts. performed (run d) acts b) e) ∙ h)
  where
    by : (o : Option Building) → run d InBody (perform FosterOn b) ≡ o → option_and_then (performed (run d) (does FosterOff [] ∷ [])) o ≡ Some x → x ≡ perform FosterOff c
    by None f k = absurd (cc)
    by (Some y) f k = same_Some _ _ (sym k) ∙ ap (perform FosterOff) (only d y f)

-- ---- what becomes of a character

-- the tree behind a character, where no active formatting element is to be reconstructed
abbrev changed : ℕ → GrowingTree → GrowingTree
changed c t = with_foster false (with_char c (with_foster true t))

abbrev InTableWay : StandardMode → ℕ → (GrowingTree → GrowingTree) → (Bool → Bool) → Type 0
InTableWay mode c change flag =
    (b : Building) (t : GrowingTree) (ok : Bool) (attrs : List NodeAttr) → keeps_text t ≡ false →
    ComesOnlyTo mode (behind b t ok (AChar c) attrs) (behind b (with_foster false (change (with_foster true t))) (flag ok) (AChar c) attrs)

abbrev BodyWay : ℕ → (GrowingTree → GrowingTree) → (Bool → Bool) → Type 0
BodyWay c change flag =
    (b : Building) (t : GrowingTree) (ok : Bool) (attrs : List NodeAttr) → ComesOnlyTo InBody (behind b t ok (AChar c) attrs) (behind b (change t) (flag ok) (AChar c) attrs)

way_in_table : (c : ℕ) (change : GrowingTree → GrowingTree) (flag : Bool → Bool) → BodyWay c change flag → InTableWay InTable c change flag
unfolding perform
way_in_table c change flag way b t ok attrs other =
    only_fostered (behind b t ok (AChar c) attrs) (behind b (change (with_foster true t)) (flag ok) (AChar c) attrs)
    (fosters_char (behind b t ok (AChar c) attrs) c refl other) (way b (with_foster true t) ok attrs)

way_in : (m : Mode) (c : ℕ) (change : GrowingTree → GrowingTree) (flag : Bool → Bool) → IsTableMode m → InTableWay InTable c change flag → InTableWay (mode_of m) c change flag
unfolding rules
way_in Mode.InTable c change flag is way b t ok attrs other = way b t ok attrs other
way_in Mode.InTableBody c change flag is way b t ok attrs other =
    only_used (mode_of Mode.InTableBody) InTable (behind b t ok (AChar c) attrs) _ (taken_of (AChar c) (behind b t ok (AChar c) attrs) refl (rules (mode_of Mode.InTableBody))) (way b t ok attrs other)
way_in Mode.InRow c change flag is way b t ok attrs other =
    only_used (mode_of Mode.InRow) InTable (behind b t ok (AChar c) attrs) _ (taken_of (AChar c) (behind b t ok (AChar c) attrs) refl (rules (mode_of Mode.InRow))) (way b t ok attrs other)
way_in _ c change flag is way b t ok attrs other = elim is [ inl e ↦ absurd (cc) | inr others ↦ elim others [ inl e ↦ absurd (cc) | inr e ↦ absurd (cc) ] ]

char_way : (m : Mode) (c : ℕ) → IsTableMode m → is_null c ≡ false → InTableWay (mode_of m) c (λ t. with_char c (reconstructed t)) (ok_behind c)
char_way m c is other =
    way_in m c (λ t. with_char c (reconstructed t)) (ok_behind c) is (way_in_table c (λ t. with_char c (reconstructed t)) (ok_behind c) (char_in_body Mode.InBody c other refl))

null_way : (m : Mode) (c : ℕ) → IsTableMode m → is_null c ≡ true → InTableWay (mode_of m) c (λ t. t) (λ ok. ok)
null_way m c is null = way_in m c (λ t. t) (λ ok. ok) is (way_in_table c (λ t. t) (λ ok. ok) (null_ignored Mode.InBody c null refl))

-- ---- several characters

-- the state in which each of the characters after the first one is processed
record IsApart (t : GrowingTree) : Type 0 where
  pub settled : IsSettled t
  pub other : keeps_text t ≡ false

settled_by : (on : Bool) (t : GrowingTree) → IsSettled t → IsSettled (with_foster on t)
settled_by on t is = record { mode = is.mode; none = is.none }

keeps_char : (c : ℕ) (t : GrowingTree) → keeps_text (with_char c t) ≡ keeps_text t
keeps_char c t = ap keeps_text (char_nodes c t) ∙ ap (λ (key : List ℕ). is_among key pending_names) (char_looks c t (current t)).key

treats_apart : (m : Mode) (b : Building) → IsTableMode m → b.mode ≡ mode_of m → Treats b (λ c. not (is_null c)) IsApart changed ok_behind
treats_apart m b is mode = record {
  once = λ t ok c attrs good plain. by_its_mode (mode_of m) b t ok c attrs (behind b (changed c t) (ok_behind c ok) (AChar c) attrs) mode good.settled.mode
      (subst (λ (u : GrowingTree). ComesOnlyTo (mode_of m) (behind b t ok (AChar c) attrs) (behind b (with_foster false (with_char c u)) (ok_behind c ok) (AChar c) attrs))
      (nothing_reopened (with_foster true t) good.settled.none) (char_way m c is (negated (is_null c) plain) b t ok attrs good.other));
  good = λ t c good. record {
    settled = settled_by false (with_char c (with_foster true t)) (char_settled c (with_foster true t) (settled_by true t good.settled));
    other = keeps_char c (with_foster true t) ∙ good.other;
  };
}

-- foster parenting is enabled and disabled again for each
all_changed : (cs : List ℕ) (u : GrowingTree) → u.fostering ≡ true → all_of changed cs (with_foster false u) ≡ with_foster false (with_chars cs u)
all_changed [] u e = refl
all_changed (c ∷ cs) u e =
    ap (λ (v : GrowingTree). all_of changed cs (with_foster false (with_char c v))) (ap (λ (on : Bool). with_foster on u) (sym e))
    ∙ all_changed cs (with_char c u) (ap (λ (v : GrowingTree). v.fostering) (char_nodes c u) ∙ e)

-- ---- runs

-- what the test of the state says
apart : (t : GrowingTree) → fosters_text t ≡ true → (is_empty t.stack ≡ false) × (keeps_text (reconstructed (with_foster true t)) ≡ false)
apart t e = (let two = both (not (is_empty t.stack)) (not (keeps_text (reconstructed (with_foster true t)))) e in (negated (is_empty t.stack) two.0, negated _ two.1))

chars_foster : (new : TreeBuilder) (m : Mode) (c : ℕ) (cs : List ℕ) (flag : Bool) → IsTableMode m → has_no_null (c ∷ cs) ≡ true → (b : Building) → b.token ≡ AChar c → goes_to_mode b.tree ≡ true →
    has_begun b ≡ true → b.mode ≡ mode_of m → keeps_text b.tree ≡ false → fosters_text b.tree ≡ true → ok_behind_all (c ∷ cs) b.frameset_ok ≡ flag →
    Constructs new (record b { tree = with_foster false (with_chars (c ∷ cs) (reconstructed (with_foster true b.tree))); frameset_ok = flag }) → Completes cs b new
chars_foster new m c cs flag is all b token here begun mode other fosters oks put =
    let on : GrowingTree = with_foster true b.tree in
    let plain = both (not (is_null c)) (has_no_null cs) all in
    let facts = apart b.tree fosters in
    let first : GrowingTree = with_char c (reconstructed on) in
    completed new b c cs (with_foster false first) (ok_behind c b.frameset_ok) (λ c. not (is_null c)) IsApart changed ok_behind begun token
    (by_its_mode (mode_of m) b b.tree b.frameset_ok c b.attrs _ mode here (char_way m c is (negated (is_null c) plain.0) b b.tree b.frameset_ok b.attrs other))
    (treats_apart m b is mode) plain.1
    (record { settled = settled_by false first (char_settled c (reconstructed on) (settles on facts.0 here)); other = keeps_char c (reconstructed on) ∙ facts.1 })
    (stood new b _ (with_foster false (with_chars (c ∷ cs) (reconstructed on))) _ flag
    (all_changed cs first (ap (λ (v : GrowingTree). v.fostering) (char_nodes c (reconstructed on)) ∙ reconstructed_fosters on))
    (all_ok cs (ok_behind c b.frameset_ok) ∙ oks) put)

nothing_more : (b : Building) → Treats b (λ c. false) (λ t. Unit {0}) (λ c t. t) (λ c ok. ok)
nothing_more b = record { once = λ t ok c attrs good pass. absurd (true≢false (sym pass)); good = λ t c good. good }

pub run_fosters : (kind : Run) (old new : TreeBuilder) (c : ℕ) (cs : List ℕ) → way_of kind old.mode ≡ RunWay.Table → is_run kind (c ∷ cs) ≡ true → (b : Building) → b.token ≡ AChar c →
    goes_to_mode b.tree ≡ true → covers_characters b ≡ true → Constructs old b → keeps_text b.tree ≡ false → Constructs new (fostered_in_body kind (c ∷ cs) b) → Completes cs b new
run_fosters Run.Spaces old new c cs way is b token here covered stands other put =
    let table = table_mode Run.Spaces old.mode way in
    chars_foster new old.mode c cs b.frameset_ok table (spaces_no_null (c ∷ cs) is) b token here (covered_begun b covered) stands.mode other
    (table_fosters Run.Spaces old.mode b way covered here stands.mode other) (spaces_ok (c ∷ cs) b.frameset_ok is) put
run_fosters Run.Letters old new c cs way is b token here covered stands other put =
    let table = table_mode Run.Letters old.mode way in
    chars_foster new old.mode c cs false table (no_nulls (c ∷ cs) is) b token here (covered_begun b covered) stands.mode other
    (table_fosters Run.Letters old.mode b way covered here stands.mode other) (letters_ok (c ∷ cs) b.frameset_ok (some_letter (c ∷ cs) is)) put
run_fosters Run.Nulls old new c [] way is b token here covered stands other put =
    let table = table_mode Run.Nulls old.mode way in
    completed new b c [] (with_foster false (with_foster true b.tree)) b.frameset_ok (λ c. false) (λ t. Unit {0}) (λ c t. t) (λ c ok. ok) (covered_begun b covered) token
    (by_its_mode (mode_of old.mode) b b.tree b.frameset_ok c b.attrs _ stands.mode here (null_way old.mode c table is b b.tree b.frameset_ok b.attrs other))
    (nothing_more b) refl tt put
run_fosters Run.Nulls old new c (d ∷ cs) way is b token here covered stands other put = absurd (true≢false (sym is))
