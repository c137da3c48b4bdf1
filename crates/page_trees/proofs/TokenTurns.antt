-- What the turns of a token come to.
use Rattle.std.proofs.Common.{◌≡◌, ◌≤◌, ◌+◌, ℕ, zero, suc, Bool, true, false, ◌&&◌, ◌||◌, not, List, [], ◌∷◌, map, refl, sym, ap, subst, ◌∙◌, true≢false, inl, inr, arith}
use Rattle.std.specs.Borrow.{Bor}
use Rattle.std.specs.List.{list_all}
use Rattle.std.proofs.lemmas.Bool.{cases_Bool}
use Rattle.std.specs.Option.{option_and_then}
use Rattle.std.specs.Prelude.{Some}
use Rattle.standard_tokens.specs.Tokens.{AChar, AnEof, Token as StandardToken}
use Rattle.standard_trees.specs.Building.{Building, is_line_feed, is_space, run, token_attrs, tree_steps, with_next}
use Rattle.standard_trees.specs.RuleWords.{Dispatcher, Mode as StandardMode}
use Rattle.page_tokens.specs.declared.token.Tag.{Tag}
use Rattle.page_trees.specs.CharacterSteps.{Completes as RunCompletes, IsRun, ProcessesRun, RunOutcome, fits_in, fits_mode, is_dropping, is_joining}
use Rattle.page_trees.specs.Constructs.{Constructs, HaveOneToken, IsCurrentTag, Outcome, RemembersLimits, WithinLimits}
use Rattle.page_trees.specs.CoveredTurns.{AreEnoughTurns, Completes, DispatchesCovered, IsCurrent, ProcessesOnce, ProcessesToken, Reprocesses, TakesTokens, TurnEnds, covered_turn, covers, covers_end}
use Rattle.page_trees.specs.Modes.{drops_letters, joins_spaces, mode_of}
use Rattle.page_trees.specs.TableTexts.{LeavesText}
use Rattle.page_trees.specs.TokenSteps.{EndsPlainly, ProcessesBy, keeps_characters}
use Rattle.standard_order.specs.Turns.{run_while, tree_step_while, tree_steps_while}
use Rattle.page_trees.specs.declared.builder.Mode.{Mode}
use Rattle.page_trees.specs.declared.builder.Next.{Next}
use Rattle.page_trees.specs.declared.builder.TreeBuilder.{TreeBuilder}
use Rattle.page_trees.specs.declared.chars.Run.{Run}
use Rattle.page_trees.specs.declared.modes.Token.{Token}
use Rattle.page_trees.specs.declared.name.Name.{Name}
use Rattle.standard_trees.specs.Laws.{depth_at}
use Rattle.page_trees.proofs.BoundedTurns.{comes_soon, covers_it}
use Rattle.page_trees.proofs.CoveredRuns.{is_covered}
use Rattle.page_trees.proofs.CoveredLemmas.{covers_a_tag, ends_plainly}
use Rattle.page_trees.proofs.RulesRun.{only_some}
use Rattle.page_trees.proofs.SettledTexts.{text_ends}
use Rattle.page_trees.proofs.TokenStates.{begun}
use Rattle.page_trees.proofs.DeeperRuns.{then_below}
use Rattle.page_trees.proofs.FollowingTurns.{in_turn}
use Rattle.page_trees.proofs.TurnsPassed.{no_turn, turn_passes, while_all_steps, while_is, while_next, while_runs}

-- ---- one turn

-- the rules are done with a token that stands alone
pub done_alone : (others : List StandardToken) (b : Building) (new : TreeBuilder) → others ≡ [] → Outcome Dispatcher b new Next.Done → Completes others b new
done_alone others b new alone o = subst (λ (xs : List StandardToken). Completes xs b new) (sym alone)
    (λ depth c h. subst (λ (x : Building). Constructs new x)
    (while_is covered_turn depth o.runs.0 Dispatcher b c o.after (only_some (run_while covered_turn depth Dispatcher b) c h) o.runs.1) o.stands)

same_tag : (name : Name) (tag : Tag) (b c : Building) → HaveOneToken b c → IsCurrentTag name tag b → IsCurrentTag name tag c
same_tag name tag b c same current = record {
  standard = current.standard;
  is = current.is;
  written = current.written;
  plain = current.plain;
  named = current.named;
  token = same.token ∙ current.token;
  attrs = same.attrs ∙ current.attrs ∙ ap token_attrs (sym same.token);
}

tag_ends : (name : Name) (tag : Bor Tag) (others : List StandardToken) (b : Building) (new : TreeBuilder) (next : Next) → IsCurrent (Token.Tag name tag) others b →
    Outcome Dispatcher b new next → TurnEnds (Token.Tag name tag) others b new next
tag_ends name tag others b new Next.Done current o = done_alone others b new current.1 o
tag_ends name tag others b new Next.Again current o = record {
  after = o.after;
  stands = o.stands;
  current = (same_tag name tag.now b o.after o.runs.0 current.0, current.1);
  runs = o.runs;
}

pub tag_turn : (name : Name) (tag : Bor Tag) (old new : TreeBuilder) (next : Next) → DispatchesCovered name tag.now old new next → ProcessesOnce (Token.Tag name tag) old new next
tag_turn name tag old new next rule within others b current covered stands =
    tag_ends name tag others b new next current
    (rule within b current.0 (sym (ap (λ (t : StandardToken). covers t b) current.0.token ∙ covers_a_tag current.0.standard b) ∙ covers_it b covered) stands)

end_ends : (others : List StandardToken) (b : Building) (new : TreeBuilder) (next : Next) → IsCurrent Token.End others b → Outcome Dispatcher b new next →
    TurnEnds Token.End others b new next
end_ends others b new Next.Done current o = done_alone others b new current.1 o
end_ends others b new Next.Again current o = record {
  after = o.after;
  stands = o.stands;
  current = (o.runs.0.token ∙ current.0, current.1);
  runs = o.runs;
}

pub end_turn : (old new : TreeBuilder) (next : Next) → (EndsPlainly old → ProcessesBy Dispatcher AnEof old new next) → (keeps_characters old.mode ≡ true → LeavesText old new next) →
    ProcessesOnce Token.End old new next
end_turn old new next rule pending within others b current covered stands =
    let ends : covers_end b.mode b ≡ true = sym (ap (λ (t : StandardToken). covers t b) current.0) ∙ covers_it b covered in
    end_ends others b new next current (elim (cases_Bool (keeps_characters old.mode)) [
      | inl keeps ↦ (let leaves = pending keeps in
          subst (λ (n : Next). Outcome Dispatcher b new n) (sym leaves.again) (text_ends old new b leaves.rule within keeps current.0 ends stands))
      | inr other ↦ rule (ends_plainly old b stands ends other) within b current.0 stands
    ])

-- ---- runs of characters

joins_is : (m : Mode) → is_joining (mode_of m) ≡ joins_spaces m
joins_is Mode.InBody = refl
joins_is _ = refl

pub drops_is : (m : Mode) → is_dropping (mode_of m) ≡ drops_letters m
drops_is Mode.InBody = refl
drops_is _ = refl

pub fits_is : (m : Mode) (kind : Run) (cs : List ℕ) → fits_in (mode_of m) kind cs ≡ fits_mode m kind cs
fits_is m Run.Letters [] = refl
fits_is m Run.Letters (c ∷ cs) =
    ap (λ (x : Bool). (x || not (is_space c)) && (not (is_dropping (mode_of m)) || list_all (λ d. not (is_space d)) cs)) (joins_is m)
    ∙ ap (λ (x : Bool). (joins_spaces m || not (is_space c)) && (not x || list_all (λ d. not (is_space d)) cs)) (drops_is m)
fits_is m Run.Nulls cs = refl
fits_is m Run.Spaces cs = refl

-- what the turns of the characters come to, the rules come to
run_completes : (rest : List ℕ) (others : List StandardToken) (b : Building) (new : TreeBuilder) → others ≡ map AChar rest → RunCompletes rest b new → Completes others b new
run_completes rest others b new are completes = subst (λ (xs : List StandardToken). Completes xs b new) (sym are)
    (λ depth c h. completes depth c
    (then_below (λ after. tree_steps_while covered_turn depth after (map AChar rest)) (λ after. tree_steps depth after (map AChar rest))
    (λ x y k. while_all_steps covered_turn depth (map AChar rest) x y k) (run_while covered_turn depth Dispatcher b) (run depth Dispatcher b)
    (λ x k. while_runs covered_turn depth Dispatcher b x k) c h))

run_ends : (kind : Run) (text : Bor (List ℕ)) (others : List StandardToken) (b : Building) (new : TreeBuilder) (next : Next) →
    (current : IsCurrent (Token.Run kind text) others b) → RunOutcome kind current.first current.rest b new next → TurnEnds (Token.Run kind text) others b new next
run_ends kind text others b new Next.Done current o = run_completes current.rest others b new current.others_are o
run_ends kind text others b new Next.Again current o = record {
  after = o.outcome.after;
  stands = o.outcome.stands;
  current = record {
    first = current.first;
    rest = current.rest;
    spelt = current.spelt;
    run = current.run;
    fits = ap (λ (m : StandardMode). fits_in m kind (current.first ∷ current.rest)) o.outcome.stands.mode ∙ fits_is new.mode kind (current.first ∷ current.rest) ∙ o.fits;
    token = o.outcome.runs.0.token ∙ current.token;
    attrs = o.outcome.runs.0.attrs ∙ current.attrs;
    others_are = current.others_are;
  };
  runs = o.outcome.runs;
}

pub run_turn : (kind : Run) (text : Bor (List ℕ)) (old new : TreeBuilder) (next : Next) →
    ((c : ℕ) (cs : List ℕ) → IsRun kind old.mode text.now c cs → ProcessesRun kind c cs old new next) → ProcessesOnce (Token.Run kind text) old new next
run_turn kind text old new next rule within others b current covered stands =
    run_ends kind text others b new next current
    (rule current.first current.rest
    (record {
      spelt = current.spelt;
      run = current.run;
      fits = sym (ap (λ (m : StandardMode). fits_in m kind (current.first ∷ current.rest)) stands.mode ∙ fits_is old.mode kind (current.first ∷ current.rest)) ∙ current.fits;
    })
    within b current.token (is_covered b (sym (ap (λ (t : StandardToken). covers t b) current.token) ∙ covers_it b covered)).covered stands)

-- ---- several turns

-- after so many turns, what comes of the token in the state at the beginning comes of it in this one
pub record IsUnderWay (token : Token) (others : List StandardToken) (depth turns : ℕ) (last : Building) (now : TreeBuilder) : Type 0 where
  pub b : Building
  pub stands : Constructs now b
  pub current : IsCurrent token others b
  pub left : ℕ
  pub count : left + turns ≡ depth
  pub runs : run_while covered_turn left Dispatcher b ≡ Some last

pub under_way_first : (token : Token) (others : List StandardToken) (depth : ℕ) (b last : Building) (now : TreeBuilder) → IsCurrent token others b → Constructs now b →
    run_while covered_turn depth Dispatcher b ≡ Some last → IsUnderWay token others depth 0 last now
under_way_first token others depth b last now current stands runs = record { b = b; stands = stands; current = current; left = depth; count = omega arith; runs = runs }

pub under_way_next : (token : Token) (others : List StandardToken) (depth turns : ℕ) (last : Building) (old new : TreeBuilder) → ProcessesOnce token old new Next.Again →
    WithinLimits new → IsUnderWay token others depth turns last old → IsUnderWay token others depth (turns + 1) last new
under_way_next token others depth turns last old new once within way =
    by way.left way.count way.runs (once within others way.b way.current (turn_passes covered_turn way.left way.b last way.runs) way.stands)
  where
    by : (left : ℕ) → left + turns ≡ depth → run_while covered_turn left Dispatcher way.b ≡ Some last → Reprocesses token others way.b new →
        IsUnderWay token others depth (turns + 1) last new
    by zero count runs r = absurd (no_turn covered_turn Dispatcher way.b last runs)
    by (suc left) count runs r = record {
      b = r.after;
      stands = r.stands;
      current = r.current;
      left = left;
      count = omega (arith, count);
      runs = r.runs.2 covered_turn left last runs;
    }

-- the same by a greater depth
deeper : (extra left depth : ℕ) (b last : Building) → left + extra ≡ depth → run_while covered_turn left Dispatcher b ≡ Some last →
    run_while covered_turn depth Dispatcher b ≡ Some last
deeper zero left depth b last e h = subst (λ (n : ℕ). run_while covered_turn n Dispatcher b ≡ Some last) (omega (arith, e)) h
deeper (suc extra) left depth b last e h = deeper extra (suc left) depth b last (omega (arith, e)) (while_next covered_turn left Dispatcher b last h)

pub under_way_ends : (token : Token) (others : List StandardToken) (depth turns : ℕ) (last : Building) (old new : TreeBuilder) → ProcessesOnce token old new Next.Done →
    WithinLimits new → IsUnderWay token others depth turns last old → (c : Building) → tree_steps_while covered_turn depth last others ≡ Some c → Constructs new c
under_way_ends token others depth turns last old new once within way c steps =
    once within others way.b way.current (turn_passes covered_turn way.left way.b last way.runs) way.stands depth c
    (ap (option_and_then (λ after. tree_steps_while covered_turn depth after others)) (deeper turns way.left depth way.b last way.count way.runs) ∙ steps)

pub under_way_over : (token : Token) (others : List StandardToken) (depth turns : ℕ) (last : Building) (now : TreeBuilder) → depth ≤ turns →
    IsUnderWay token others depth turns last now → ⊥
under_way_over token others depth turns last now many way =
    no_turn covered_turn Dispatcher way.b last
    (subst (λ (n : ℕ). run_while covered_turn n Dispatcher way.b ≡ Some last) (omega (arith, way.count, many)) way.runs)

-- ---- a token that stands alone

step_is : (depth : ℕ) (b : Building) (token : StandardToken) → is_line_feed token ≡ false →
    tree_step_while covered_turn depth b token ≡ run_while covered_turn depth Dispatcher (with_next token b)
unfolding tree_step_while
step_is depth b token plain = by b.skip (is_line_feed token) plain
  where
    by : (x y : Bool) → y ≡ false → elim (x && y) [ true ↦ Some (with_next token b) | false ↦ run_while covered_turn depth Dispatcher (with_next token b) ]
        ≡ run_while covered_turn depth Dispatcher (with_next token b)
    by true true e = absurd (true≢false e)
    by true false e = refl
    by false y e = refl

-- what a step with one token comes to, its turns come to
pub turns_of : (depth : ℕ) (b c : Building) (token : StandardToken) → is_line_feed token ≡ false → tree_steps_while covered_turn depth b (token ∷ []) ≡ Some c →
    run_while covered_turn depth Dispatcher (with_next token b) ≡ Some c
turns_of depth b c token plain h = sym (step_is depth b token plain) ∙ only_some (tree_step_while covered_turn depth b token) c h

-- where the code processes the token as the tests of turns ask
pub taken_alone : (token : StandardToken) (old mid new : TreeBuilder) → is_line_feed token ≡ false →
    ((b : Building) → Constructs old b → covered_turn (with_next token b) ≡ true → mid ≡ record old { skip_line_feed = false }) →
    (WithinLimits new → (b : Building) → b.token ≡ token → b.attrs ≡ token_attrs token → Constructs mid b → (depth : ℕ) (c : Building) →
    run_while covered_turn depth Dispatcher b ≡ Some c → Constructs new c) →
    TakesTokens (token ∷ []) old new
taken_alone token old mid new plain settled rule quiet within b stands depth c h =
    let runs = turns_of depth b c token plain h in
    rule within (with_next token b) refl refl
    (begun old mid token (settled b stands (turn_passes covered_turn depth (with_next token b) c runs)) quiet b stands) depth c runs

-- the rules are done with it in one turn
pub taken_at_once : (b c : Building) (new : TreeBuilder) (depth : ℕ) → Outcome Dispatcher b new Next.Done → run_while covered_turn depth Dispatcher b ≡ Some c → Constructs new c
taken_at_once b c new depth o runs = done_alone [] b new refl o depth c (ap (option_and_then (λ x. Some x)) runs)

-- ---- the loop over turns

-- from the state at its beginning
abbrev pub GoesOn : Token → TreeBuilder → TreeBuilder → ℕ → Type 0
GoesOn token first now turns =
    WithinLimits now → (others : List StandardToken) (b : Building) → IsCurrent token others b → Constructs first b → (depth : ℕ) (last : Building) →
    run_while covered_turn depth Dispatcher b ≡ Some last → IsUnderWay token others depth turns last now

pub goes_first : (token : Token) (now : TreeBuilder) → GoesOn token now now 0
goes_first token now within others b current stands depth last runs = under_way_first token others depth b last now current stands runs

pub goes_next : (token : Token) (first old new : TreeBuilder) (turns : ℕ) (next : Next) → next ≡ Next.Again → RemembersLimits old new → ProcessesOnce token old new next →
    GoesOn token first old turns → GoesOn token first new (turns + 1)
goes_next token first old new turns next e limits once way within others b current stands depth last runs =
    under_way_next token others depth turns last old new (subst (λ (n : Next). ProcessesOnce token old new n) e once) within
    (way (limits within) others b current stands depth last runs)

pub goes_done : (token : Token) (first old new : TreeBuilder) (turns : ℕ) (next : Next) → next ≡ Next.Done → RemembersLimits old new → ProcessesOnce token old new next →
    GoesOn token first old turns → ProcessesToken token first new
goes_done token first old new turns next e limits once way within others b current stands depth c h =
    let parts = in_turn (run_while covered_turn depth Dispatcher b) (λ after. tree_steps_while covered_turn depth after others) c h in
    under_way_ends token others depth turns parts.0 old new (subst (λ (n : Next). ProcessesOnce token old new n) e once) within
    (way (limits within) others b current stands depth parts.0 parts.1) c parts.2

pub goes_over : (token : Token) (first now : TreeBuilder) (most turns : ℕ) → AreEnoughTurns first most → most ≤ turns → GoesOn token first now turns → ProcessesToken token first now
goes_over token first now most turns enough many way within others b current stands depth c h =
    let parts = in_turn (run_while covered_turn depth Dispatcher b) (λ after. tree_steps_while covered_turn depth after others) c h in
    let few : depth_at b ≤ turns = omega (arith, enough b stands, many) in
    absurd (under_way_over token others (depth_at b) turns parts.0 now few
    (way within others b current stands (depth_at b) parts.0 (comes_soon first b parts.0 depth stands parts.1)))

-- done with in one turn, or processed again
pub once_done : (token : Token) (old new : TreeBuilder) (next : Next) → next ≡ Next.Done → RemembersLimits old new → ProcessesOnce token old new next →
    ProcessesToken token old new
once_done token old new next e limits once = goes_done token old old new 0 next e limits once (goes_first token old)

pub once_again : (token : Token) (old mid new : TreeBuilder) (next : Next) → next ≡ Next.Again → RemembersLimits mid new → ProcessesOnce token old mid next →
    ProcessesToken token mid new → ProcessesToken token old new
once_again token old mid new next e limits once again within others b current stands depth c h =
    let parts = in_turn (run_while covered_turn depth Dispatcher b) (λ after. tree_steps_while covered_turn depth after others) c h in
    let way : IsUnderWay token others depth 1 parts.0 mid =
    under_way_next token others depth 0 parts.0 old mid (subst (λ (n : Next). ProcessesOnce token old mid n) e once) (limits within)
    (under_way_first token others depth b parts.0 old current stands parts.1) in
    again within others way.b way.current way.stands depth c
    (ap (option_and_then (λ after. tree_steps_while covered_turn depth after others)) (deeper 1 way.left depth way.b parts.0 way.count way.runs) ∙ parts.2)

-- past a limit nothing is said of the token
pub goes_beyond : (token : Token) (first now new : TreeBuilder) → (WithinLimits now → ⊥) → RemembersLimits now new → ProcessesToken token first new
goes_beyond token first now new beyond limits within others b current stands depth c h = absurd (beyond (limits within))
