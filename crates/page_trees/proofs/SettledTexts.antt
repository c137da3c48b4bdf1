-- Where another token comes, the pending table character tokens are processed, in the code as by the rules.
use Rattle.std.proofs.Common.{◌≡◌, Bool, true, false, not, refl, reverse, sym, ap, subst, ◌∙◌}
use Rattle.std.specs.List.{list_all}
use Rattle.standard_tokens.specs.Entries.{Ending, Starting, TagKind as StandardKind}
use Rattle.standard_tokens.specs.Machine.{Tag as StandardTag, distinct, token_of}
use Rattle.standard_tokens.specs.Tokens.{AStart, AnEnd, AnEof}
use Rattle.standard_trees.specs.Building.{Building, is_space}
use Rattle.standard_trees.specs.RuleWords.{Dispatcher, InTableText, Mode as StandardMode}
use Rattle.page_trees.specs.CharacterSteps.{has_no_null}
use Rattle.page_trees.specs.Constructs.{Constructs, Outcome, WithinLimits, is_entered_plainly, returns_later}
use Rattle.page_trees.specs.CoveredTurns.{covers_end, enters_plainly, suits_settling}
use Rattle.page_trees.specs.Modes.{mode_of}
use Rattle.page_trees.specs.TableTexts.{SettlesText, text_placed, text_settled}
use Rattle.page_trees.specs.TokenSteps.{keeps_characters}
use Rattle.page_trees.specs.declared.builder.Mode.{Mode}
use Rattle.page_trees.specs.declared.builder.Next.{Next}
use Rattle.page_trees.specs.declared.builder.TreeBuilder.{TreeBuilder}
use Rattle.page_trees.proofs.CoveredLemmas.{entered_is, original_plain}
use Rattle.page_trees.proofs.NamesAgree.{both}
use Rattle.page_trees.proofs.PageEnds.{by_current}
use Rattle.page_trees.proofs.PendingTexts.{is_character, text_settles}
use Rattle.page_trees.proofs.TableTexts.{keeps_is}

pub no_character : (standard : StandardTag) → is_character (token_of standard) ≡ false
no_character standard = by standard.kind
  where
    by : (k : StandardKind) → is_character (elim k [ Starting ↦ AStart standard.name (distinct (reverse standard.attrs)) standard.self_closing | Ending ↦ AnEnd standard.name ]) ≡ false
    by Starting = refl
    by Ending = refl

-- the code's state stands for the one after the text
pub text_stands : (old new : TreeBuilder) (b : Building) → SettlesText old new → WithinLimits new → keeps_characters old.mode ≡ true → suits_settling b ≡ true → Constructs old b →
    Constructs new (text_settled b)
text_stands old new b rule within keeps suits stands =
    let plain = (both (enters_plainly b.original) (has_no_null b.pending) suits).0 in
    rule keeps (original_plain old b stands plain (ap returns_later (keeps_is old.mode keeps))) within b stands

pub text_comes : (old new : TreeBuilder) (b : Building) → SettlesText old new → WithinLimits new → keeps_characters old.mode ≡ true → is_character b.token ≡ false →
    suits_settling b ≡ true → Constructs old b → Outcome InTableText b new Next.Again
text_comes old new b rule within keeps other suits stands =
    text_settles b new other (both (enters_plainly b.original) (has_no_null b.pending) suits).1 (text_stands old new b rule within keeps suits stands)

-- at the end of the page
pub text_ends : (old new : TreeBuilder) (b : Building) → SettlesText old new → WithinLimits new → keeps_characters old.mode ≡ true → b.token ≡ AnEof → covers_end b.mode b ≡ true →
    Constructs old b → Outcome Dispatcher b new Next.Again
text_ends old new b rule within keeps token covered stands =
    let here : b.mode ≡ mode_of Mode.InTableText = stands.mode ∙ ap mode_of (keeps_is old.mode keeps) in
    by_current Mode.InTableText b new Next.Again token here
    (text_comes old new b rule within keeps (ap is_character token) (subst (λ (m : StandardMode). covers_end m b ≡ true) here covered) stands)

-- the mode is the original one, in which no characters are pending
settled_mode : (letters : Bool) (b : Building) → (text_placed letters (reverse b.pending) (record b { mode = b.original })).mode ≡ b.original
settled_mode true b = refl
settled_mode false b = refl

not_kept : (m : Mode) → is_entered_plainly m ≡ true → keeps_characters m ≡ false
not_kept Mode.InTableText e = sym e
not_kept _ e = refl

pub nothing_pending : (new : TreeBuilder) (b : Building) → suits_settling b ≡ true → Constructs new (text_settled b) → keeps_characters new.mode ≡ false
nothing_pending new b suits stands =
    let plain = (both (enters_plainly b.original) (has_no_null b.pending) suits).0 in
    not_kept new.mode (sym (entered_is new.mode) ∙ ap enters_plainly (sym stands.mode ∙ settled_mode (not (list_all is_space b.pending)) b) ∙ plain)
