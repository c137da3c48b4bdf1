-- How often a token is processed at most.
use Rattle.std.specs.Prelude.{◌≡◌, ◌≤◌, ◌+◌, ◌*◌, ◌&&◌, ◌++◌, ℕ, Bool, true, false, List, [], ◌∷◌, Some, length, map, refl, reverse}
use Rattle.std.specs.List.{list_all}
use Rattle.std.proofs.Common.{arith}
use Rattle.std.proofs.lemmas.List.{length-map, length-reverse, reverse-append}
use Rattle.std.proofs.lemmas.List.Folds.{list_all-append, list_all-map}
use mathlib.Core.Path.{◌∙◌, ap}
use Rattle.standard_trees.specs.Building.{Building}
use Rattle.standard_trees.specs.GrowingTree.{Entry as StandardEntry}
use Rattle.standard_trees.specs.Laws.{depth_at, is_plain, is_real}
use Rattle.standard_trees.specs.RuleWords.{Dispatcher, Mode as StandardMode}
use Rattle.standard_trees.proofs.EveryMode.{every_token_ends}
use Rattle.standard_order.specs.Turns.{run_while}
use Rattle.page_trees.specs.Constructs.{Constructs, is_entered_plainly}
use Rattle.page_trees.specs.CoveredTurns.{AreEnoughTurns, covered_turn, covers}
use Rattle.page_trees.specs.Modes.{mode_of}
use Rattle.page_trees.specs.Stands.{entry_of}
use Rattle.page_trees.specs.declared.builder.Mode.{Mode}
use Rattle.page_trees.specs.declared.builder.TreeBuilder.{TreeBuilder}
use Rattle.page_trees.specs.declared.formatting.Entry.{Entry}
use Rattle.page_trees.specs.declared.stack.Open.{Open}
use Rattle.page_trees.proofs.ShallowRuns.{at_that_depth}
use Rattle.page_trees.proofs.TurnsPassed.{turn_passes}

-- ---- what a covered turn says

both : (x y : Bool) → x && y ≡ true → (x ≡ true) × (y ≡ true)
both true y h = (refl, h)
both false y h = cc

pub covers_it : (b : Building) → covered_turn b ≡ true → covers b.token b ≡ true
covers_it b h = (both (is_plain b.original) (covers b.token b) h).1

-- ---- the modes of a state are those in which every token comes to an end

real_mode : (m : Mode) → is_real (mode_of m) ≡ true
real_mode Mode.Text = refl
real_mode _ = refl

plain_mode : (m : Mode) → is_entered_plainly m ≡ true → is_plain (mode_of m) ≡ true
plain_mode Mode.Text h = cc
plain_mode Mode.InTableText h = cc
plain_mode _ h = refl

all_plain : (items : List Mode) → list_all is_entered_plainly items ≡ true → list_all (λ m. is_plain (mode_of m)) items ≡ true
all_plain [] h = refl
all_plain (m ∷ ms) h =
    let two : (is_entered_plainly m ≡ true) × (list_all is_entered_plainly ms ≡ true) = both (is_entered_plainly m) (list_all is_entered_plainly ms) h in
    ap (λ x. x && list_all (λ n. is_plain (mode_of n)) ms) (plain_mode m two.0) ∙ all_plain ms two.1

turned : (p : Mode → Bool) (ms : List Mode) → list_all p ms ≡ true → list_all p (reverse ms) ≡ true
turned p [] h = refl
turned p (m ∷ ms) h =
    let two : (p m ≡ true) × (list_all p ms ≡ true) = both (p m) (list_all p ms) h in
    ap (list_all p) (reverse-append (m ∷ []) ms) ∙ list_all-append p (reverse ms) (m ∷ []) ∙ ap (λ x. x && (p m && true)) (turned p ms two.1)
    ∙ ap (λ x. x && true) two.0

template_modes_plain : (s : TreeBuilder) (b : Building) → Constructs s b → list_all is_plain b.template_modes ≡ true
template_modes_plain s b stands =
    ap (list_all is_plain) stands.template_modes.0 ∙ list_all-map is_plain mode_of (reverse s.template_modes.items)
    ∙ turned (λ m. is_plain (mode_of m)) s.template_modes.items (all_plain s.template_modes.items stands.template_modes.1)

-- what covered turns come to, they come to so soon
pub comes_soon : (s : TreeBuilder) (b last : Building) (depth : ℕ) → Constructs s b → run_while covered_turn depth Dispatcher b ≡ Some last →
    run_while covered_turn (depth_at b) Dispatcher b ≡ Some last
comes_soon s b last depth stands runs =
    let original : is_plain b.original ≡ true = (both (is_plain b.original) (covers b.token b) (turn_passes covered_turn depth b last runs)).0 in
    let end = every_token_ends b (ap is_real stands.mode ∙ real_mode s.mode) original (template_modes_plain s b stands) in
    at_that_depth covered_turn depth (depth_at b) Dispatcher b last end.0 runs end.1

-- ---- how often that is

pub enough_turns : (s : TreeBuilder) (turns : ℕ) → 96 + 32 * (length s.tree.stack + length s.tree.formatting + length s.template_modes.items) ≤ turns →
    AreEnoughTurns s turns
enough_turns s turns enough b stands =
    let stack : length b.tree.stack ≡ length s.tree.stack =
    ap length stands.tree.stack.ids ∙ length-map (reverse s.tree.stack) (λ (o : Open). o.id) ∙ length-reverse s.tree.stack in
    let listed : length b.tree.listed ≡ length s.tree.formatting =
    ap (λ (es : List StandardEntry). length es) stands.tree.listed.list ∙ length-map (reverse s.tree.formatting) entry_of ∙ length-reverse s.tree.formatting in
    let modes : length b.template_modes ≡ length s.template_modes.items =
    ap (λ (ms : List StandardMode). length ms) stands.template_modes.0 ∙ length-map (reverse s.template_modes.items) mode_of
    ∙ length-reverse s.template_modes.items in
    omega (arith, enough, stack, listed, modes)
