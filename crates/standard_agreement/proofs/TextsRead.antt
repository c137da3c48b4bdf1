-- Every text is read as tokens, of which tree construction builds what the parser comes to.
use Rattle.std.specs.Prelude.{◌≡◌, refl, ℕ, zero, suc, Bool, true, false, List, [], ◌∷◌, ◌++◌, Option, None, Some, option_map}
use Rattle.std.specs.Option.{option_and_then, option_map_or}
use Rattle.std.proofs.lemmas.List.{append-nil}
use Rattle.std.proofs.lemmas.Option.{same_Some}
use mathlib.Core.Path.{◌∙◌, sym, ap, subst}
use Rattle.standard_tokens.specs.Machine.{Machine, Step, normalized, start_in, step}
use Rattle.standard_tokens.specs.Reading.{Reader, Reads, ReadsText, answered, here, next, reader, step_at, switched}
use Rattle.standard_tokens.specs.States.{Data, State}
use Rattle.standard_tokens.specs.Tokens.{Token}
use Rattle.standard_trees.specs.Building.{Building, Surroundings, fragment_start, start, tree_step, tree_steps}
use Rattle.standard_trees.specs.Parsing.{Parser, after_step, behind, document_of, first_state, fragment_parser, is_foreign_now, nodes_of, page_parser}
use Rattle.standard_trees.specs.Parsing.{parsed, parser, state_of, step_of}
use Rattle.standard_trees.proofs.EveryText.{every_text_has_a_document, every_text_has_a_fragment}
use Rattle.standard_agreement.specs.TokensAndTrees.{EveryFragmentIsBuiltOfTokens, EveryTextIsBuiltOfTokens, feedback_of}
use Rattle.standard_agreement.proofs.Joined.{quiet, steps_append}

-- reading goes on from there to the end of the text, and tree construction takes all the tokens
record IsRead (depth : ℕ) (b : Building) (r : Reader) : Type 0 where
  last : Reader
  reads : Reads (feedback_of depth b) r last
  stops : (step_at (feedback_of depth b) last).stopped ≡ true
  end : Building
  builds : tree_steps depth b (last.seen ++ (step_at (feedback_of depth b) last).tokens) ≡ Some end

-- ---- a step of the tokenizer

-- what the parser has taken behind these tokens
record IsTaken (depth : ℕ) (b : Building) (seen ts : List Token) (m : Machine) (y : Building) : Type 0 where
  now : Building
  tokens : tree_steps depth b (seen ++ ts) ≡ Some now
  same : quiet y ≡ quiet now
  machine : switched (option_map state_of y.tokenizer) m ≡ answered (feedback_of depth b) seen ts m

taken : (depth : ℕ) (b c x y : Building) (seen ts : List Token) (m : Machine) → tree_steps depth b seen ≡ Some x → quiet c ≡ quiet x →
    tree_steps depth (quiet c) ts ≡ Some y → IsTaken depth b seen ts m y
unfolding tree_step
taken depth b c x y seen [] m now same h = record {
  now = x;
  tokens = ap (tree_steps depth b) (append-nil seen) ∙ now;
  same = sym (ap quiet (same_Some (quiet c) y h)) ∙ same;
  machine = sym (ap (λ (z : Building). switched (option_map state_of z.tokenizer) m) (same_Some (quiet c) y h));
}
taken depth b c x y seen (t ∷ ts) m now same h =
    let all : tree_steps depth b (seen ++ t ∷ ts) ≡ Some y =
    steps_append depth b x seen (t ∷ ts) now ∙ sym (ap (λ z. tree_steps depth z (t ∷ ts)) same) ∙ h in record {
      now = y;
      tokens = all;
      same = refl;
      machine = sym (ap (λ (o : Option Building). switched (option_and_then (λ (z : Building). option_map state_of z.tokenizer) o) m) all);
    }

-- the tokenizer and the parser take one step
one_step : (depth : ℕ) (b c x : Building) (m : Machine) (text : List ℕ) (seen : List Token) → tree_steps depth b seen ≡ Some x → quiet c ≡ quiet x →
    step_of (parser m text c) ≡ step_at (feedback_of depth b) (reader m text seen)
one_step depth b c x m text seen now same =
    ap (λ z. step z m text) (ap is_foreign_now same ∙ sym (ap (λ (o : Option Building). option_map_or is_foreign_now o false) now))

in_turn : (o : Option Building) (f : Building → Option Building) (e : Building) → option_and_then f o ≡ Some e → (y : Building) × (o ≡ Some y) × (f y ≡ Some e)
in_turn None f e h = cc
in_turn (Some y) f e h = (y, refl, h)

-- ---- all steps

no_steps : (depth : ℕ) (p : Parser) (e : Building) → parsed depth zero p ≡ Some e → ⊥
unfolding parsed
no_steps depth p e h = cc

steps_taken : (depth n : ℕ) (p : Parser) (e : Building) → parsed depth (suc n) p ≡ Some e →
    option_and_then (behind (parsed depth n) (step_of p)) (tree_steps depth (quiet p.building) (step_of p).tokens) ≡ Some e
unfolding parsed
steps_taken depth n p e h = h

read_on : (n depth : ℕ) (b c x e : Building) (m : Machine) (text : List ℕ) (seen : List Token) → tree_steps depth b seen ≡ Some x → quiet c ≡ quiet x →
    parsed depth n (parser m text c) ≡ Some e → IsRead depth b (reader m text seen)
read_on zero depth b c x e m text seen now same h = absurd (no_steps depth (parser m text c) e h)
read_on (suc n) depth b c x e m text seen now same h =
    by_stop s.stopped refl two.2 (λ k. read_on n depth b two.0 t.now e (answered (feedback_of depth b) seen s.tokens s.machine) s.rest (seen ++ s.tokens) t.tokens t.same
    (ap (λ (z : Machine). parsed depth n (parser z s.rest two.0)) (sym t.machine) ∙ k))
  where
    s : Step
    s = step_at (feedback_of depth b) (reader m text seen)

    all : option_and_then (behind (parsed depth n) s) (tree_steps depth (quiet c) s.tokens) ≡ Some e
    all = subst (λ (z : Step). option_and_then (behind (parsed depth n) z) (tree_steps depth (quiet c) z.tokens) ≡ Some e)
        (one_step depth b c x m text seen now same) (steps_taken depth n (parser m text c) e h)

    two : (y : Building) × (tree_steps depth (quiet c) s.tokens ≡ Some y) × (behind (parsed depth n) s y ≡ Some e)
    two = in_turn (tree_steps depth (quiet c) s.tokens) (behind (parsed depth n) s) e all

    t : IsTaken depth b seen s.tokens s.machine two.0
    t = taken depth b c x two.0 seen s.tokens s.machine now same two.1

    after_it : Reader
    after_it = reader (answered (feedback_of depth b) seen s.tokens s.machine) s.rest (seen ++ s.tokens)

    by_stop : (z : Bool) → s.stopped ≡ z → elim z [ true ↦ Some two.0 | false ↦ parsed depth n (after_step s two.0) ] ≡ Some e →
        (parsed depth n (after_step s two.0) ≡ Some e → IsRead depth b after_it) → IsRead depth b (reader m text seen)
    by_stop true stops k more = record { last = reader m text seen; reads = here; stops = stops; end = t.now; builds = t.tokens }
    by_stop false runs k more =
        let rest : IsRead depth b after_it = more k in
        record { last = rest.last; reads = next s refl runs rest.reads; stops = rest.stops; end = rest.end; builds = rest.builds }

-- ---- texts

-- what comes of a text, where the parser comes to an end
abbrev IsBuilt : State → Building → List ℕ → Type 0
IsBuilt first b text = (depth : ℕ) × (all : List Token) × (end : Building) × ReadsText (feedback_of depth b) first text all × (tree_steps depth b all ≡ Some end)

is_built : {A : Type 0} (of : Building → A) (first : State) (b : Building) (text : List ℕ) (depth steps : ℕ) (o : Option Building) (a : A) →
    parsed depth steps (parser (start_in first) (normalized text) b) ≡ o → option_map of o ≡ Some a → IsBuilt first b text
is_built of first b text depth steps None a is h = cc
is_built of first b text depth steps (Some e) a is h =
    let r : IsRead depth b (reader (start_in first) (normalized text) []) = read_on steps depth b b b e (start_in first) (normalized text) [] refl refl is in (
      depth,
      r.last.seen ++ (step_at (feedback_of depth b) r.last).tokens,
      r.end,
      record { last = r.last; reads = r.reads; stops = r.stops; all = refl },
      r.builds,
    )

pub every_text_is_built : EveryTextIsBuiltOfTokens
every_text_is_built scripting text =
    let d = every_text_has_a_document scripting text in
    is_built document_of Data (start scripting) text d.1.0 d.1.1 (parsed d.1.0 d.1.1 (page_parser scripting text)) d.0 refl d.1.2

pub every_fragment_is_built : EveryFragmentIsBuiltOfTokens
every_fragment_is_built scripting around text =
    let d = every_text_has_a_fragment scripting around text in
    is_built nodes_of (first_state scripting around) (fragment_start scripting around) text d.1.0 d.1.1
    (parsed d.1.0 d.1.1 (fragment_parser scripting around text)) d.0 refl d.1.2
