-- The pending characters of a table: where they become pending, and where each is processed using the rules for "in body".
use Rattle.std.specs.Prelude.{◌≡◌, ◌||◌, ◌&&◌, refl, ℕ, Bool, true, false, not, ◌==◌, List, [], ◌∷◌, Option, codes, reverse}
use Rattle.std.proofs.Common.{inl}
use Rattle.std.specs.List.{list_all}
use Rattle.std.proofs.lemmas.Option.{same_Some}
use mathlib.Core.Path.{◌∙◌, ap, subst}
use Rattle.standard_tokens.specs.Tokens.{AChar}
use Rattle.standard_trees.specs.RuleWords.{Act, CurrentNode, FramesetNotOk, InBody, InTableText, InsertCharacter, Mode}
use Rattle.standard_trees.specs.RuleWords.{ReconstructFormatting, Test, These, UseForEachPending, does, is}
use Rattle.standard_trees.specs.TreeRules.{rules}
use Rattle.standard_trees.specs.TreeStore.{key_in}
use Rattle.standard_trees.specs.GrowingTree.{GrowingTree, current, is_among, is_one, key, kind_of, top, with_chars}
use Rattle.standard_trees.specs.Formatting.{reconstructed}
use Rattle.standard_trees.specs.Building.{Building, char_of, each_char, gone, is_met, is_space, perform, performed, taken, with_token}
use Rattle.standard_trees.specs.Building.{with_tree}
use Rattle.standard_order.proofs.Labels.{Is as IsAt, at_kind, label_of, labels, only_chars}
use Rattle.standard_order.proofs.StandingStacks.{Inside, Stands, both, named_apart, never, valid}
use Rattle.standard_order.proofs.GoodTrees.{Good, among_more, good_reconstructed}
use Rattle.standard_order.proofs.Levels.{In, Late, Level, Of, is_cell, is_inside, is_inside_level, is_tabled, own, tabled_names}
use Rattle.standard_order.proofs.LevelFacts.{At, Content, TreeIs, Turn, inner, tree_nodes}
use Rattle.standard_order.proofs.LevelTrees.{good_of, inside_own, of_good}
use Rattle.standard_order.proofs.Follows.{Follows, mapped, then_follows}
use Rattle.standard_order.proofs.RulesUsed.{tabled_in_html}

-- ---- they become pending

inside_late : (level : Level) (b : Building) → is_inside_level level ≡ true → At level b → (is_inside b.mode ≡ true) ×
    Content b.template_modes × TreeIs (own b.mode) b.tree
inside_late (Late (In c) Of kept) b h at = (at.0.0, at.1, at.2)
inside_late _ b h at = never h

tabled_now : (tests : List Test) (b : Building) → is_tabled tests ≡ true → list_all (is_met b) tests ≡ true → is_one b.tree tabled_names
    (current b.tree) ≡ true
tabled_now (is (CurrentNode (These names)) ∷ []) b h met = among_more (key_in (kind_of b.tree (current b.tree))) names tabled_names h
    (both (is_one b.tree names (current b.tree)) true met).0
tabled_now _ b h met = never h

html_top : (t : GrowingTree) (c : Bool) (s : List ℕ) → Stands Inside (labels t.nodes) s → is_one t tabled_names (top s) ≡ true →
    IsAt inner (labels t.nodes) (top s)
html_top t c [] st h = absurd st
html_top t c (n ∷ ns) st h =
    at_kind (λ l. true) inner t.nodes n (valid Inside (labels t.nodes) n ns st)
    (ap (λ x. x && not (is_among (key t n) (codes "html" ∷ []))) (tabled_in_html (kind_of t n) h)
    ∙ named_apart tabled_names (codes "html" ∷ []) refl (label_of (kind_of t n)) h)

pub turn_pending : (level : Level) (tests : List Test) (b : Building) → is_inside_level level ≡ true → is_tabled tests ≡ true →
    list_all (is_met b) tests ≡ true → At level b →
    Turn (record b { pending = []; original = b.mode; mode = InTableText })
turn_pending level tests b l t met at =
    let late : (is_inside b.mode ≡ true) × Content b.template_modes × TreeIs (own b.mode) b.tree = inside_late level b l at in
    let good : Good Inside (is_cell b.mode) b.tree = good_of Inside (is_cell b.mode) b.mode Of b.tree (inside_own b.mode late.0)
    (inl refl) late.2 in
    (late.1, (late.2, late.0, html_top b.tree false b.tree.stack good.0 (tabled_now tests b t met)))

-- ---- each is processed

abbrev pub PendingAt : Building → Type 0
PendingAt b = Content b.template_modes × TreeIs (own b.original) b.tree × (is_inside b.original ≡ true)

reconstructs : (b : Building) → PendingAt b → PendingAt (with_tree b (reconstructed b.tree))
reconstructs b p = (
  p.0,
  of_good Inside (is_cell b.original) b.original (reconstructed b.tree) (inside_own b.original p.2)
      (good_reconstructed Inside (is_cell b.original) b.tree (good_of Inside (is_cell b.original) b.original Of b.tree
      (inside_own b.original p.2) (inl refl) p.1)),
  p.2,
)

inserts_char : (b : Building) → PendingAt b → PendingAt (with_tree b (with_chars (char_of b.token) b.tree))
inserts_char b p = (
  p.0,
  tree_nodes (own b.original) b.tree (with_chars (char_of b.token) b.tree) (only_chars (char_of b.token) b.tree) p.1,
  p.2,
)

abbrev pub with_char : ℕ → Building → Building
with_char x b = with_token (AChar x) [] b

abbrev pub body_acts : ℕ → List Act
body_acts x = elim (x == 0 || false) [
  | true ↦ []
  | false ↦ elim (is_space x || false) [
    | true ↦ does ReconstructFormatting [] ∷ does InsertCharacter [] ∷ []
    | false ↦ does ReconstructFormatting [] ∷ does InsertCharacter [] ∷ does FramesetNotOk [] ∷ []
  ]
]

pub body_taken : (x : ℕ) (b : Building) → taken (with_char x b) (rules InBody) ≡ body_acts x
unfolding rules taken
body_taken x b = refl

pub body_char : (one other : Mode → Building → Option Building) (x : ℕ) (b : Building) → PendingAt b →
    Follows PendingAt (performed one (body_acts x) b) (performed other (body_acts x) b)
unfolding perform
body_char one other x b at = by (x == 0 || false) (is_space x || false)
  where
    by : (y z : Bool) → Follows PendingAt
        (performed one (elim y [
          | true ↦ []
          | false ↦ elim z [
            | true ↦ does ReconstructFormatting [] ∷ does InsertCharacter [] ∷ []
            | false ↦ does ReconstructFormatting [] ∷ does InsertCharacter [] ∷ does FramesetNotOk [] ∷ []
          ]
        ]) b)
        (performed other (elim y [
          | true ↦ []
          | false ↦ elim z [
            | true ↦ does ReconstructFormatting [] ∷ does InsertCharacter [] ∷ []
            | false ↦ does ReconstructFormatting [] ∷ does InsertCharacter [] ∷ does FramesetNotOk [] ∷ []
          ]
        ]) b)
    by true z c h = (h, subst PendingAt (same_Some b c h) at)
    by false true c h = (h, subst PendingAt (same_Some _ c h) (inserts_char (with_tree b (reconstructed b.tree)) (reconstructs b at)))
    by false false c h = (h, subst PendingAt (same_Some _ c h) (inserts_char (with_tree b (reconstructed b.tree)) (reconstructs b at)))

abbrev pub CharsRun : (Mode → Building → Option Building) → (Mode → Building → Option Building) → Type 0
CharsRun f g = (x : ℕ) (b : Building) → PendingAt b → Follows PendingAt (f InBody (with_char x b)) (g InBody (with_char x b))

pending_chars : (f g : Mode → Building → Option Building) → CharsRun f g → (xs : List ℕ) (b : Building) → PendingAt b →
    Follows PendingAt (each_char (f InBody) xs b) (each_char (g InBody) xs b)
pending_chars f g chars [] b at = λ c h. (h, subst PendingAt (same_Some b c h) at)
pending_chars f g chars (x ∷ xs) b at =
    then_follows PendingAt PendingAt (each_char (f InBody) xs) (each_char (g InBody) xs) (λ y k. pending_chars f g chars xs y k)
    (f InBody (with_char x b)) (g InBody (with_char x b)) (chars x b at)

pub pending_run : (f g : Mode → Building → Option Building) → CharsRun f g → (b : Building) → PendingAt b →
    Follows PendingAt (gone f (UseForEachPending InBody) b) (gone g (UseForEachPending InBody) b)
pending_run f g chars b at =
    mapped PendingAt (with_token b.token b.attrs) (λ x k. k) (each_char (f InBody) (reverse b.pending) b)
    (each_char (g InBody) (reverse b.pending) b) (pending_chars f g chars (reverse b.pending) b at)
