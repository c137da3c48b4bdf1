-- Every text has a document, and in every context a fragment.
use Rattle.std.specs.Prelude.{◌≡◌, refl, ℕ, zero, suc, Bool, true, false, cond, ◌&&◌, [], ◌∷◌, Option, None, Some, option_map}
use Rattle.std.specs.List.{list_all}
use Rattle.std.proofs.Common.{arith}
use mathlib.Core.Path.{◌∙◌, sym, ap, subst}
use Rattle.standard_tokens.specs.Machine.{Machine, Step}
use Rattle.standard_tokens.specs.Reading.{switched}
use Rattle.standard_tokens.specs.States.{State, PLAINTEXT, RAWTEXT, RCDATA, ScriptData}
use Rattle.standard_trees.specs.RuleWords.{InTemplate, PlainText, RawText, RcdataText, ScriptText, TextState}
use Rattle.standard_trees.specs.GrowingTree.{is_template}
use Rattle.standard_trees.specs.Building.{Building, Surroundings, fragment_start, reset, run, start, tree_steps}
use Rattle.standard_trees.specs.Laws.{EveryTextHasADocument, EveryTextHasAFragment}
use Rattle.standard_trees.specs.Parsing.{Parser, after_step, behind, document_of, fragment_parser, is_foreign_now, nodes_of, page_parser, parsed, state_of, step_of}
use Rattle.standard_trees.proofs.MoreDepth.{BelowIn, more, run_left, run_right, steps_below}
use Rattle.standard_trees.proofs.OneWay.{deeper_only}
use Rattle.standard_trees.proofs.KeptModes.{Good, plain_real, plain_reset}
use Rattle.standard_trees.proofs.Ending.{then_some}
use Rattle.standard_trees.proofs.EveryMode.{StepsEnd, Within, size, steps_end, within_size}
use Rattle.standard_trees.proofs.Settling.{Progress, all_settle, closer, front, further, is_return, progress, return_after, settles, soon, stopped, text_states}

-- the parser comes to an end, at some depth and after some steps
abbrev pub Parses : Parser → Type 0
Parses p = (depth : ℕ) × (steps : ℕ) × (b : Building) × (parsed depth steps p ≡ Some b)

abbrev pub IsReady : Parser → Type 0
IsReady p = Good p.building × (is_return p.machine.return_state ≡ true)

-- the parsers with so much text
abbrev pub AllParse : ℕ → Type 0
AllParse k = (p : Parser) → IsReady p → Within k p.text → Parses p

-- of these, the ones whose tokenizer settles so soon
abbrev pub SoonParse : ℕ → ℕ → Type 0
SoonParse k n = (p : Parser) → IsReady p → Within k p.text → settles (front p.text) n p.machine.state ≡ true → Parses p

-- the tokens of a step
abbrev pub tokens_taken : Parser → Building
tokens_taken p = record p.building { tokenizer = None }

abbrev pub Behind : Step → Building → Type 0
Behind s b = (depth : ℕ) × (steps : ℕ) × (c : Building) × (behind (parsed depth steps) s b ≡ Some c)

one_step : (p : Parser) → (taken : StepsEnd (tokens_taken p) (step_of p).tokens) → Behind (step_of p) taken.1 → Parses p
unfolding parsed
one_step p taken rest = (
  more taken.0 rest.0,
  suc rest.1,
  rest.2,
  then_some (behind (parsed (more taken.0 rest.0) rest.1) (step_of p)) (tree_steps (more taken.0 rest.0) (tokens_taken p) (step_of p).tokens) taken.1 (Some rest.2)
      (steps_below taken.0 (more taken.0 rest.0) (deeper taken.0 rest.0) (step_of p).tokens (tokens_taken p) taken.1 taken.2)
      (behind_deeper (step_of p) taken.1 rest.2 (parsed rest.0 rest.1) (parsed (more taken.0 rest.0) rest.1)
      (λ q c h. deeper_only rest.0 (more taken.0 rest.0) rest.1 (run_right taken.0 rest.0) q c h) rest.3),
)
  where
    deeper : (d e : ℕ) → BelowIn (run d) (run (more d e))
    deeper d e = run_left d e

    behind_deeper : (s : Step) (b c : Building) (f g : Parser → Option Building) → ((q : Parser) (x : Building) → f q ≡ Some x → g q ≡ Some x) →
        behind f s b ≡ Some c → behind g s b ≡ Some c
    behind_deeper s b c f g same h = by_stop s.stopped h
      where
        by_stop : (x : Bool) → elim x [ true ↦ Some b | false ↦ f (after_step s b) ] ≡ Some c → elim x [ true ↦ Some b | false ↦ g (after_step s b) ] ≡ Some c
        by_stop true k = k
        by_stop false k = same (after_step s b) c k

behind_last : (s : Step) (b : Building) → s.stopped ≡ true → Behind s b
behind_last s b e = (zero, zero, b, ap (λ x. elim x [ true ↦ Some b | false ↦ parsed zero zero (after_step s b) ]) e)

behind_next : (s : Step) (b : Building) → s.stopped ≡ false → Parses (after_step s b) → Behind s b
behind_next s b e rest =
    (rest.0, rest.1, rest.2, ap (λ x. elim x [ true ↦ Some b | false ↦ parsed rest.0 rest.1 (after_step s b) ]) e ∙ rest.3)

-- tree construction may have switched the tokenizer
switched_settles : (again : State → Bool) (m : Machine) (switch : Option TextState) → again m.state ≡ true → list_all again text_states ≡ true →
    again (switched (option_map state_of switch) m).state ≡ true
switched_settles again m None h all = h
switched_settles again m (Some state) h all = by_state state (four (again RCDATA) (again RAWTEXT) (again ScriptData) (again PLAINTEXT) all)
  where
    four : (u v x y : Bool) → u && (v && (x && (y && true))) ≡ true → (u ≡ true) × (v ≡ true) × (x ≡ true) × (y ≡ true)
    four true true true true e = (refl, refl, refl, refl)
    four true true true false e = cc
    four true true false y e = cc
    four true false x y e = cc
    four false v x y e = cc

    by_state : (one : TextState) → (again RCDATA ≡ true) × (again RAWTEXT ≡ true) × (again ScriptData ≡ true) × (again PLAINTEXT ≡ true) →
        again (state_of one) ≡ true
    by_state RcdataText all4 = all4.0
    by_state RawText all4 = all4.1
    by_state ScriptText all4 = all4.2
    by_state PlainText all4 = all4.3

switched_returns : (m : Machine) (switch : Option TextState) → is_return m.return_state ≡ true → is_return (switched (option_map state_of switch) m).return_state ≡ true
switched_returns m None h = h
switched_returns m (Some state) h = h

same_less_one : (k j : ℕ) → suc k ≡ suc j → k ≡ j
same_less_one k j e = omega arith

soon_parse : (k : ℕ) → ((j : ℕ) → k ≡ suc j → AllParse j) → (n : ℕ) → SoonParse k n
soon_parse k later zero p ready few h = cc
soon_parse k later (suc n) p ready few h =
    one_step p taken (by_progress (step_of p) ready_now (progress n (is_foreign_now p.building) p.machine p.text ready.1 h) (soon_parse k later n))
  where
    taken : StepsEnd (tokens_taken p) (step_of p).tokens
    taken = steps_end (step_of p).tokens (tokens_taken p) ready.0

    ready_now : is_return (step_of p).machine.return_state ≡ true
    ready_now = return_after n (is_foreign_now p.building) p.machine p.text ready.1 h

    by_progress : (s : Step) → is_return s.machine.return_state ≡ true → Progress (settles (front p.text) n) p.text s → SoonParse k n → Behind s taken.1
    by_progress s back (stopped e) sooner = behind_last s taken.1 e
    by_progress s back (closer e same here all) sooner =
        behind_next s taken.1 e (sooner (after_step s taken.1) (taken.3, switched_returns s.machine taken.1.tokenizer back)
        (subst (λ text. Within k text) (sym same) few)
        (subst (λ text. settles (front text) n (switched (option_map state_of taken.1.tokenizer) s.machine).state ≡ true) (sym same)
        (switched_settles (settles (front p.text) n) s.machine taken.1.tokenizer here all)))
    by_progress s back (further e less) sooner =
        behind_next s taken.1 e (later (less k few).0 (less k few).1 (after_step s taken.1) (taken.3, switched_returns s.machine taken.1.tokenizer back) (less k few).2)

all_parse : (k : ℕ) → AllParse k
all_parse zero p ready few = soon_parse zero (λ j e. absurd (no_case j e)) soon p ready few (all_settle p.text p.machine.state)
  where
    no_case : (j : ℕ) → zero ≡ suc j → ⊥
    no_case j e = omega arith
all_parse (suc k) p ready few =
    soon_parse (suc k) (λ j e. subst (λ n. AllParse n) (same_less_one k j e) (all_parse k)) soon p ready few (all_settle p.text p.machine.state)

parses : (p : Parser) → IsReady p → Parses p
parses p ready = all_parse (size p.text) p ready (within_size p.text)

result : {A : Type 0} (of : Building → A) (p : Parser) → Parses p → (a : A) × ((depth : ℕ) × (steps : ℕ) × (option_map of (parsed depth steps p) ≡ Some a))
result of p end = (of end.2, (end.0, end.1, ap (option_map of) end.3))

pub every_text_has_a_document : EveryTextHasADocument
every_text_has_a_document scripting text = result document_of (page_parser scripting text) (parses (page_parser scripting text) ((refl, refl, refl), refl))

fragment_good : (scripting : Bool) (around : Surroundings) → Good (fragment_start scripting around)
fragment_good scripting around = by_template (is_template around.space around.name)
  where
    begun : Bool → Building
    begun x = record (start scripting) {
      tree = (fragment_start scripting around).tree;
      quirks = around.quirks;
      template_modes = cond x (InTemplate ∷ []) [];
    }

    begun_good : (x : Bool) → Good (begun x)
    begun_good true = (refl, refl, refl)
    begun_good false = (refl, refl, refl)

    by_template : (x : Bool) → Good (reset (begun x))
    by_template x = (plain_real (reset (begun x)).mode (plain_reset (begun x) (begun_good x)), refl, (begun_good x).2)

pub every_text_has_a_fragment : EveryTextHasAFragment
every_text_has_a_fragment scripting around text =
    result nodes_of (fragment_parser scripting around text) (parses (fragment_parser scripting around text) (fragment_good scripting around, refl))
