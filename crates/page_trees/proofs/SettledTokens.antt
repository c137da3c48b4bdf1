-- A token that the code processes after pending table character tokens, and in the same call.
use Rattle.std.proofs.Common.{◌≡◌, ℕ, zero, suc, true, false, ◌&&◌, List, [], ◌∷◌, refl, sym, ap, subst, ◌∙◌, true≢false, inl, inr}
use Rattle.std.proofs.lemmas.Bool.{cases_Bool}
use Rattle.std.specs.Prelude.{Some}
use Rattle.standard_tokens.specs.Tokens.{Token as StandardToken}
use Rattle.standard_trees.specs.Building.{Building, is_line_feed, taken, with_next}
use Rattle.standard_trees.specs.RuleWords.{Act, Dispatcher, InTableText, UseCurrentMode, goes}
use Rattle.standard_trees.specs.TreeRules.{rules}
use Rattle.page_trees.specs.CharacterSteps.{has_no_null}
use Rattle.page_trees.specs.Constructs.{Constructs, Outcome, RemembersLimits, WithinLimits}
use Rattle.page_trees.specs.CoveredTurns.{TakesTokens, covered_turn, covers, enters_plainly, is_in_mode, suits_settling, uses_current_mode}
use Rattle.page_trees.specs.Modes.{mode_of}
use Rattle.page_trees.specs.TableTexts.{SettlesText, text_settled}
use Rattle.page_trees.specs.TokenSteps.{keeps_characters}
use Rattle.standard_order.specs.Turns.{run_while}
use Rattle.page_trees.specs.declared.builder.Mode.{Mode}
use Rattle.page_trees.specs.declared.builder.Next.{Next}
use Rattle.page_trees.specs.declared.builder.TreeBuilder.{TreeBuilder}
use Rattle.page_trees.proofs.BoundedTurns.{covers_it}
use Rattle.page_trees.proofs.NamesAgree.{both}
use Rattle.page_trees.proofs.PendingTexts.{is_character, text_settles}
use Rattle.page_trees.proofs.SettledTexts.{nothing_pending, text_stands}
use Rattle.page_trees.proofs.TableTexts.{keeps_is}
use Rattle.page_trees.proofs.TextTags.{tag_in_mode}
use Rattle.page_trees.proofs.TokenStates.{begun}
use Rattle.page_trees.proofs.TokenTurns.{turns_of}
use Rattle.page_trees.proofs.TurnsPassed.{no_turn, turn_passes}

used : (acts : List Act) → uses_current_mode acts ≡ true → acts ≡ goes UseCurrentMode ∷ []
used (goes UseCurrentMode ∷ []) e = refl
used _ e = absurd (true≢false (sym e))

-- a turn in "in table text", and what comes after it
settled_turn : (b : Building) (new : TreeBuilder) → is_character b.token ≡ false → b.mode ≡ InTableText → (is_in_mode b && suits_settling b) ≡ true → Constructs new (text_settled b) →
    Outcome Dispatcher b new Next.Again
settled_turn b new other mode suits stands =
    let two = both (is_in_mode b) (suits_settling b) suits in
    tag_in_mode Mode.InTableText b new Next.Again (used (taken b (rules Dispatcher)) two.0) mode
    (text_settles b new other (both (enters_plainly b.original) (has_no_null b.pending) two.1).1 stands)

-- the turn of a token that comes after pending table character tokens, and the turns after it
settled_turns : (depth : ℕ) (token : StandardToken) (first mid new : TreeBuilder) (b c : Building) → b.token ≡ token → is_character token ≡ false → b.mode ≡ InTableText →
    (is_in_mode b && suits_settling b) ≡ true → Constructs mid (text_settled b) →
    (keeps_characters mid.mode ≡ false → (x : Building) → x.token ≡ token → Constructs mid x → (d : ℕ) → run_while covered_turn d Dispatcher x ≡ Some c → Constructs new c) →
    run_while covered_turn depth Dispatcher b ≡ Some c → Constructs new c
settled_turns zero token first mid new b c is other mode suits settled rule runs = absurd (no_turn covered_turn Dispatcher b c runs)
settled_turns (suc d) token first mid new b c is other mode suits settled rule runs =
    let o = settled_turn b mid (ap is_character is ∙ other) mode suits settled in
    rule (nothing_pending mid b (both (is_in_mode b) (suits_settling b) suits).1 settled) o.after (o.runs.0.token ∙ is) o.stands d (o.runs.2 covered_turn d c runs)

-- a token that stands alone: where no characters are pending, the code goes on with the state as it is
pub taken_settled : (token : StandardToken) (old first mid new : TreeBuilder) → is_line_feed token ≡ false → is_character token ≡ false → first ≡ record old { skip_line_feed = false } →
    (keeps_characters first.mode ≡ false → mid ≡ first) → SettlesText first mid → RemembersLimits mid new →
    ((b : Building) → b.mode ≡ InTableText → covers token b ≡ true → (is_in_mode b && suits_settling b) ≡ true) →
    (keeps_characters mid.mode ≡ false → WithinLimits new → (b : Building) → b.token ≡ token → Constructs mid b → (depth : ℕ) (c : Building) →
    run_while covered_turn depth Dispatcher b ≡ Some c → Constructs new c) →
    TakesTokens (token ∷ []) old new
taken_settled token old first mid new plain other e same settles limits asked rule quiet within b stands depth c h =
    let next : Building = with_next token b in
    let begins : Constructs first next = begun old first token e quiet b stands in
    let runs = turns_of depth b c token plain h in
    elim (cases_Bool (keeps_characters first.mode)) [
      | inl on ↦ (let text : next.mode ≡ InTableText = begins.mode ∙ ap mode_of (keeps_is first.mode on) in
          let suits = asked next text (covers_it next (turn_passes covered_turn depth next c runs)) in
          settled_turns depth token first mid new next c refl other text suits
          (text_stands first mid next settles (limits within) on (both (is_in_mode next) (suits_settling next) suits).1 begins)
          (λ early x is stood d turns. rule early within x is stood d c turns) runs)
      | inr off ↦ rule (ap (λ (s : TreeBuilder). keeps_characters s.mode) (same off) ∙ off) within next refl
          (subst (λ (s : TreeBuilder). Constructs s next) (sym (same off)) begins) depth c runs
    ]
