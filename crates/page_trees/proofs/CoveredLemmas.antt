-- What the tests of covered turns tell of the code's state.
use Rattle.std.proofs.Common.{◌≡◌, Bool, true, false, ◌||◌, not, reverse, refl, sym, ap, subst, ◌∙◌, true≢false}
use Rattle.standard_tokens.specs.Entries.{Ending, Starting, TagKind as StandardKind}
use Rattle.standard_tokens.specs.Machine.{Tag as StandardTag, distinct, token_of}
use Rattle.standard_tokens.specs.Tokens.{AStart, AnEnd}
use Rattle.standard_trees.specs.Building.{Building}
use Rattle.standard_trees.specs.RuleWords.{Mode as StandardMode, Text}
use Rattle.page_trees.specs.Constructs.{Constructs, is_entered_plainly, returns_later}
use Rattle.page_trees.specs.CoveredTurns.{covers, covers_end, covers_tag, covers_tag_in, enters_plainly, returns, returns_plainly}
use Rattle.page_trees.specs.Modes.{mode_of}
use Rattle.page_trees.specs.TokenSteps.{EndsPlainly, ReturnsPlainly, keeps_characters}
use Rattle.page_trees.specs.declared.builder.Mode.{Mode}
use Rattle.page_trees.specs.declared.builder.TreeBuilder.{TreeBuilder}

-- ---- the original insertion mode

returns_is : (m : Mode) → returns (mode_of m) ≡ returns_later m
returns_is Mode.Text = refl
returns_is Mode.InTableText = refl
returns_is _ = refl

pub entered_is : (m : Mode) → enters_plainly (mode_of m) ≡ is_entered_plainly m
entered_is Mode.Initial = refl
entered_is _ = refl

pub original_plain : (s : TreeBuilder) (b : Building) → Constructs s b → enters_plainly b.original ≡ true → ReturnsPlainly s
original_plain s b c plain later = sym (entered_is s.original) ∙ sym (ap enters_plainly (c.original later)) ∙ plain

behind_or : (x y : Bool) → x ≡ true → (not x || y) ≡ true → y ≡ true
behind_or true y e h = h
behind_or false y e h = absurd (true≢false (sym e))

pub returns_back : (s : TreeBuilder) (b : Building) → Constructs s b → returns_plainly b ≡ true → ReturnsPlainly s
returns_back s b c plain later =
    original_plain s b c (behind_or (returns b.mode) (enters_plainly b.original) (ap returns c.mode ∙ returns_is s.mode ∙ later) plain) later

pub text_returns : (s : TreeBuilder) (b : Building) → Constructs s b → covers_tag_in Text b ≡ true → ReturnsPlainly s
text_returns s b c covered = original_plain s b c covered

-- ---- the end of the page

ending : (m : Mode) (b : Building) → covers_end (mode_of m) b ≡ true → keeps_characters m ≡ false → returns_plainly b ≡ true
ending Mode.InTableText b h settled = absurd (true≢false settled)
ending _ b h settled = h

pub ends_plainly : (s : TreeBuilder) (b : Building) → Constructs s b → covers_end b.mode b ≡ true → keeps_characters s.mode ≡ false → EndsPlainly s
ends_plainly s b c covered settled =
    record { settled = settled; original = returns_back s b c (ending s.mode b (subst (λ (m : StandardMode). covers_end m b ≡ true) c.mode covered) settled) }

-- ---- tags

pub covers_a_tag : (standard : StandardTag) (b : Building) → covers (token_of standard) b ≡ covers_tag b
covers_a_tag standard b = by standard.kind
  where
    by : (k : StandardKind) → covers (elim k [ Starting ↦ AStart standard.name (distinct (reverse standard.attrs)) standard.self_closing | Ending ↦ AnEnd standard.name ]) b
        ≡ covers_tag b
    by Starting = refl
    by Ending = refl
