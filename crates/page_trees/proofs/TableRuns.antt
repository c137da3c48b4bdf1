-- What comes of a run of characters between the elements of a table.
use Rattle.std.proofs.Common.{◌≡◌, ◌⊎◌, ℕ, Bool, true, false, ◌&&◌, ◌||◌, List, [], ◌∷◌, drop, refl, sym, ap, subst, ◌∙◌, inl, inr, true≢false}
use Rattle.standard_tokens.specs.Tokens.{AChar}
use Rattle.standard_trees.specs.Building.{Building, perform}
use Rattle.standard_trees.specs.RuleWords.{Act, Action, EmptyPending, InTable, InTableText, KeepMode, SwitchTo}
use Rattle.standard_trees.specs.TreeRules.{rules}
use Rattle.page_trees.specs.CharacterSteps.{Completes, RunOutcome, covers_characters, covers_in_table, fits_mode, fosters_text, goes_to_mode, has_no_null, is_run, keeps_text, way_of, way_of_nulls}
use Rattle.page_trees.specs.Constructs.{Constructs, Outcome, Performs, WithinLimits, all_performed}
use Rattle.page_trees.specs.Modes.{joins_spaces, mode_of}
use Rattle.page_trees.specs.TableTexts.{added}
use Rattle.page_trees.specs.TokenSteps.{keeps_characters}
use Rattle.page_trees.specs.declared.builder.Mode.{Mode}
use Rattle.page_trees.specs.declared.builder.Next.{Next}
use Rattle.page_trees.specs.declared.builder.TreeBuilder.{TreeBuilder}
use Rattle.page_trees.specs.declared.chars.Run.{Run}
use Rattle.page_trees.specs.declared.chars.RunWay.{RunWay}
use Rattle.page_trees.proofs.CharacterRules.{dispatched_char}
use Rattle.page_trees.proofs.PendingTexts.{all_pending}
use Rattle.page_trees.proofs.RulesRun.{outcome, outcome_by, plainly}
use Rattle.page_trees.proofs.RulesTaken.{chosen}
use Rattle.page_trees.proofs.RunOutcomes.{begins_with_letter, covered_begun, covered_here, fits_plainly, no_nulls, spaces_no_null}
use Rattle.page_trees.proofs.TextTags.{tag_in_mode}
use Rattle.page_trees.proofs.TokenRules.{taken_of}

-- ---- the modes of tables

abbrev pub IsTableMode : Mode → Type 0
IsTableMode m = (m ≡ Mode.InTable) ⊎ ((m ≡ Mode.InTableBody) ⊎ (m ≡ Mode.InRow))

pub table_mode : (kind : Run) (m : Mode) → way_of kind m ≡ RunWay.Table → IsTableMode m
table_mode Run.Spaces Mode.InTable e = inl refl
table_mode Run.Spaces Mode.InTableBody e = inr (inl refl)
table_mode Run.Spaces Mode.InRow e = inr (inr refl)
table_mode Run.Nulls Mode.InTable e = inl refl
table_mode Run.Nulls Mode.InTableBody e = inr (inl refl)
table_mode Run.Nulls Mode.InRow e = inr (inr refl)
table_mode Run.Letters Mode.InTable e = inl refl
table_mode Run.Letters Mode.InTableBody e = inr (inl refl)
table_mode Run.Letters Mode.InRow e = inr (inr refl)
table_mode _ _ e = absurd (cc)

-- they don't insert white space as they insert the characters after it
joins_nothing : (m : Mode) → IsTableMode m → joins_spaces m ≡ false
joins_nothing m is = elim is [ inl e ↦ ap joins_spaces e | inr other ↦ elim other [ inl e ↦ ap joins_spaces e | inr e ↦ ap joins_spaces e ] ]

-- what the test of the state says there
table_covered : (kind : Run) (m : Mode) (b : Building) → way_of kind m ≡ RunWay.Table → covers_characters b ≡ true → goes_to_mode b.tree ≡ true → b.mode ≡ mode_of m →
    covers_in_table b.tree ≡ true
table_covered kind m b way covered goes mode = elim (table_mode kind m way) [
  | inl e ↦ covered_here Mode.InTable b covered goes (mode ∙ ap mode_of e) refl
  | inr other ↦ elim other [
    | inl e ↦ covered_here Mode.InTableBody b covered goes (mode ∙ ap mode_of e) refl
    | inr e ↦ covered_here Mode.InRow b covered goes (mode ∙ ap mode_of e) refl
  ]
]

left_over : (x y : Bool) → x ≡ false → (x || y) ≡ true → y ≡ true
left_over true y e h = absurd (true≢false e)
left_over false y e h = h

pub table_fosters : (kind : Run) (m : Mode) (b : Building) → way_of kind m ≡ RunWay.Table → covers_characters b ≡ true → goes_to_mode b.tree ≡ true → b.mode ≡ mode_of m →
    keeps_text b.tree ≡ false → fosters_text b.tree ≡ true
table_fosters kind m b way covered goes mode other = left_over (keeps_text b.tree) (fosters_text b.tree) other (table_covered kind m b way covered goes mode)

-- ---- characters become pending

abbrev beginning_text : List Action
beginning_text = EmptyPending ∷ KeepMode ∷ SwitchTo InTableText ∷ []

picked : (x : Bool) (acts others : List Act) → x ≡ true → elim (x && true) [ true ↦ acts | false ↦ others ] ≡ acts
picked true acts others e = refl
picked false acts others e = absurd (true≢false (sym e))

begins_in_table : (b : Building) (new : TreeBuilder) (c : ℕ) → b.token ≡ AChar c → keeps_text b.tree ≡ true → Constructs new (all_performed beginning_text b) →
    Outcome InTable b new Next.Again
unfolding rules perform
begins_in_table b new c token keeps stands =
    outcome InTable b new beginning_text Next.Again stands (record { token = refl; attrs = refl })
    (taken_of (AChar c) b token (rules InTable) ∙ picked (keeps_text b.tree) (plainly beginning_text Next.Again) (chosen (AChar c) b (drop 1 (rules InTable))) keeps)

begins_in : (m : Mode) (b : Building) (new : TreeBuilder) (c : ℕ) → IsTableMode m → b.token ≡ AChar c → Outcome InTable b new Next.Again → Outcome (mode_of m) b new Next.Again
unfolding rules
begins_in Mode.InTable b new c is token o = o
begins_in Mode.InTableBody b new c is token o = outcome_by (mode_of Mode.InTableBody) InTable b new Next.Again (taken_of (AChar c) b token (rules (mode_of Mode.InTableBody))) o
begins_in Mode.InRow b new c is token o = outcome_by (mode_of Mode.InRow) InTable b new Next.Again (taken_of (AChar c) b token (rules (mode_of Mode.InRow))) o
begins_in _ b new c is token o = elim is [ inl e ↦ absurd (cc) | inr other ↦ elim other [ inl e ↦ absurd (cc) | inr e ↦ absurd (cc) ] ]

-- the run fits the new mode
fits_text : (kind : Run) (m : Mode) (c : ℕ) (cs : List ℕ) → joins_spaces m ≡ false → fits_mode m kind (c ∷ cs) ≡ true → fits_mode Mode.InTableText kind (c ∷ cs) ≡ true
fits_text Run.Letters m c cs joins fits = fits_plainly Mode.InTableText c cs (begins_with_letter m c cs fits joins) refl
fits_text Run.Spaces m c cs joins fits = refl
fits_text Run.Nulls m c cs joins fits = refl

pub text_begun : (kind : Run) (old new : TreeBuilder) (next : Next) (c : ℕ) (cs : List ℕ) → way_of kind old.mode ≡ RunWay.Table → fits_mode old.mode kind (c ∷ cs) ≡ true →
    next ≡ Next.Again → new.mode ≡ Mode.InTableText → Performs beginning_text old new → WithinLimits new → (b : Building) → b.token ≡ AChar c → goes_to_mode b.tree ≡ true →
    keeps_text b.tree ≡ true → Constructs old b → RunOutcome kind c cs b new next
text_begun kind old new next c cs way fits again text by within b token goes keeps stands =
    let is = table_mode kind old.mode way in
    subst (λ (n : Next). RunOutcome kind c cs b new n) (sym again) (record {
      outcome = tag_in_mode old.mode b new Next.Again (dispatched_char b c token goes) stands.mode
          (begins_in old.mode b new c is token (begins_in_table b new c token keeps (by within b stands)));
      fits = subst (λ (m : Mode). fits_mode m kind (c ∷ cs) ≡ true) (sym text) (fits_text kind old.mode c cs (joins_nothing old.mode is) fits);
    })

-- ---- pending table character tokens

-- nulls are ignored in that mode
no_pending_nulls : (m : Mode) → way_of_nulls m ≡ RunWay.Pending → ⊥
no_pending_nulls Mode.InBody e = cc
no_pending_nulls _ e = cc

pub pending_mode : (kind : Run) (m : Mode) → way_of kind m ≡ RunWay.Pending → m ≡ Mode.InTableText
pending_mode Run.Spaces Mode.InTableText e = refl
pending_mode Run.Spaces _ e = absurd (cc)
pending_mode Run.Letters Mode.InTableText e = refl
pending_mode Run.Letters _ e = absurd (cc)
pending_mode Run.Nulls m e = absurd (no_pending_nulls m e)

pub pending_plain : (kind : Run) (m : Mode) (cs : List ℕ) → way_of kind m ≡ RunWay.Pending → is_run kind cs ≡ true → has_no_null cs ≡ true
pending_plain Run.Spaces m cs way is = spaces_no_null cs is
pending_plain Run.Letters m cs way is = no_nulls cs is
pending_plain Run.Nulls m cs way is = absurd (no_pending_nulls m way)

pub run_pending : (kind : Run) (old new : TreeBuilder) (c : ℕ) (cs : List ℕ) → way_of kind old.mode ≡ RunWay.Pending → is_run kind (c ∷ cs) ≡ true → (b : Building) → b.token ≡ AChar c →
    goes_to_mode b.tree ≡ true → covers_characters b ≡ true → Constructs old b →
    (keeps_characters old.mode ≡ true → Constructs new (record b { pending = added (c ∷ cs) b.pending })) → Completes cs b new
run_pending kind old new c cs way is b token goes covered stands put =
    let text = pending_mode kind old.mode way in
    all_pending new b c cs (pending_plain kind old.mode (c ∷ cs) way is) (covered_begun b covered) token (stands.mode ∙ ap mode_of text) goes (put (ap keeps_characters text))
