-- What the rules for "in table text" make of characters, and of the pending table character tokens where another token comes.
use Rattle.std.proofs.Common.{◌≡◌, ℕ, zero, suc, Bool, true, false, ◌&&◌, not, List, [], ◌∷◌, ◌++◌, map, refl, reverse, sym, ap, subst, ◌∙◌, Option, None, Some, true≢false, inl, inr, if◌then◌else◌}
use Rattle.std.specs.Prelude.{option_map}
use Rattle.std.specs.List.{list_all}
use Rattle.std.specs.Option.{option_and_then}
use Rattle.std.proofs.lemmas.Bool.{cases_Bool}
use Rattle.std.proofs.lemmas.List.{append-nil, append_assoc, reverse-append}
use Rattle.std.proofs.lemmas.List.Folds.{list_all-append}
use Rattle.std.proofs.lemmas.Option.{same_Some}
use Rattle.standard_tokens.specs.Tokens.{AChar, AComment, ADoctype, AStart, AnEnd, AnEof, Token}
use Rattle.standard_trees.specs.Building.{Building, each_char, is_space, perform, performed, run, taken, tree_step, tree_steps, with_token}
use Rattle.standard_trees.specs.Formatting.{reconstructed}
use Rattle.standard_trees.specs.GrowingTree.{GrowingTree, with_char, with_chars}
use Rattle.standard_trees.specs.RuleWords.{Act, AddToPending, Dispatcher, FosterOff, FosterOn, FramesetNotOk, InBody, InTableText, InsertCharacter, InsertPending, Mode as StandardMode}
use Rattle.standard_trees.specs.RuleWords.{ReconstructFormatting, Reprocess, SwitchBack, TextState, UseForEachPending, does, goes}
use Rattle.standard_trees.specs.TreeRules.{rules}
use Rattle.standard_trees.specs.TreeStore.{NodeAttr}
use Rattle.page_trees.specs.CharacterSteps.{Completes, goes_to_mode, has_begun, has_no_null, is_null, ok_behind, ok_behind_all}
use Rattle.page_trees.specs.Constructs.{ComesTo, Constructs, Outcome, TakesTurn, state_for}
use Rattle.page_trees.specs.TableTexts.{added, fostered_in_body, text_placed, text_settled, with_fostering}
use Rattle.standard_order.specs.Turns.{run_while}
use Rattle.page_trees.specs.declared.builder.Next.{Next}
use Rattle.page_trees.specs.declared.builder.TreeBuilder.{TreeBuilder}
use Rattle.page_trees.specs.declared.chars.Run.{Run}
use Rattle.page_trees.proofs.CharacterRules.{dispatched_char, letter_alike, space_alike, taken_char}
use Rattle.page_trees.proofs.CharactersBehind.{ComesOnlyTo, end_of_plain, next_chars, no_skip, no_state, only_in_mode, only_performed}
use Rattle.page_trees.proofs.DeeperRuns.{run_right}
use Rattle.page_trees.proofs.FollowingTurns.{in_turn}
use Rattle.page_trees.proofs.NamesAgree.{both}
use Rattle.page_trees.proofs.RulesRun.{only_some, outcome, plainly, turn_of}
use Rattle.page_trees.proofs.RulesTaken.{chosen}
use Rattle.page_trees.proofs.RunOutcomes.{letters_ok, negated}
use Rattle.page_trees.proofs.SettledFormatting.{char_closed, closed_in, none_closed, nothing_reopened}
use Rattle.page_trees.proofs.TokenRules.{taken_of}
use Rattle.page_trees.proofs.TurnsPassed.{while_runs}

-- ---- lists of characters

pub reversed_first : (c : ℕ) (cs : List ℕ) → reverse (c ∷ cs) ≡ reverse cs ++ c ∷ []
reversed_first c cs = reverse-append (c ∷ []) cs

pub all_reversed : (p : ℕ → Bool) (cs : List ℕ) → list_all p (reverse cs) ≡ list_all p cs
all_reversed p [] = refl
all_reversed p (c ∷ cs) =
    ap (list_all p) (reversed_first c cs) ∙ list_all-append p (reverse cs) (c ∷ []) ∙ ap (λ (x : Bool). x && (p c && true)) (all_reversed p cs)
    ∙ turned (list_all p cs) (p c)
  where
    turned : (x y : Bool) → (x && (y && true)) ≡ (y && x)
    turned true true = refl
    turned true false = refl
    turned false true = refl
    turned false false = refl

pub added_reversed : (cs pending : List ℕ) → reverse (added cs pending) ≡ reverse pending ++ cs
added_reversed [] pending = sym (append-nil (reverse pending))
added_reversed (c ∷ cs) pending =
    added_reversed cs (c ∷ pending) ∙ ap (λ (xs : List ℕ). xs ++ cs) (reversed_first c pending) ∙ append_assoc (reverse pending) (c ∷ []) cs

pub all_added : (p : ℕ → Bool) (cs pending : List ℕ) → list_all p (added cs pending) ≡ (list_all p cs && list_all p pending)
all_added p [] pending = refl
all_added p (c ∷ cs) pending = all_added p cs (c ∷ pending) ∙ turned (list_all p cs) (p c) (list_all p pending)
  where
    turned : (x y z : Bool) → (x && (y && z)) ≡ ((y && x) && z)
    turned true true z = refl
    turned true false z = refl
    turned false true z = refl
    turned false false z = refl

-- ---- characters become pending

-- the state is that before them, but for the pending table character tokens and the token
abbrev pub pending_behind : Building → List ℕ → Token → List NodeAttr → Building
pending_behind b cs token attrs = record b { pending = cs; token = token; attrs = attrs; skip = false; tokenizer = None }

pub record IsPendingBehind (b : Building) (cs : List ℕ) (c : Building) : Type 0 where
  pub token : Token
  pub attrs : List NodeAttr
  pub is : c ≡ pending_behind b cs token attrs

-- which rule is taken for a character
char_added : (b : Building) (c : ℕ) → b.token ≡ AChar c → is_null c ≡ false → taken b (rules InTableText) ≡ plainly (AddToPending ∷ []) Next.Done
unfolding rules
char_added b c token other = elim (cases_Bool (is_space c)) [
  | inl e ↦ taken_char c 32 (space_alike c e) b token (rules InTableText)
  | inr f ↦ taken_char c 97 (letter_alike c other f) b token (rules InTableText)
]

added_once : (b : Building) (cs : List ℕ) (c : ℕ) (attrs : List NodeAttr) → b.mode ≡ InTableText → goes_to_mode b.tree ≡ true → is_null c ≡ false →
    ComesOnlyTo Dispatcher (pending_behind b cs (AChar c) attrs) (pending_behind b (c ∷ cs) (AChar c) attrs)
unfolding perform
added_once b cs c attrs mode here other =
    let x : Building = pending_behind b cs (AChar c) attrs in
    let y : Building = pending_behind b (c ∷ cs) (AChar c) attrs in
    only_in_mode x y (dispatched_char x c refl here)
    (subst (λ (m : StandardMode). ComesOnlyTo m x y) (sym mode) (only_performed InTableText x (AddToPending ∷ []) (char_added x c refl other)))

begun_step : (b : Building) (cs : List ℕ) (token : Token) (attrs : List NodeAttr) (c : ℕ) (d : ℕ) →
    tree_step d (pending_behind b cs token attrs) (AChar c) ≡ run d Dispatcher (pending_behind b cs (AChar c) [])
unfolding tree_step
begun_step b cs token attrs c d = refl

added_all : (b : Building) → b.mode ≡ InTableText → goes_to_mode b.tree ≡ true → (cs : List ℕ) → has_no_null cs ≡ true → (pending : List ℕ) (token : Token) (attrs : List NodeAttr)
    (d : ℕ) (x : Building) → tree_steps d (pending_behind b pending token attrs) (map (λ c. AChar c) cs) ≡ Some x → IsPendingBehind b (added cs pending) x
added_all b mode here [] all pending token attrs d x h = record { token = token; attrs = attrs; is = sym (same_Some _ _ h) }
added_all b mode here (c ∷ cs) all pending token attrs d x h =
    let two = both (not (is_null c)) (has_no_null cs) all in
    next_chars d cs (pending_behind b (c ∷ pending) (AChar c) []) x (IsPendingBehind b (added (c ∷ cs) pending) x) (run d Dispatcher (pending_behind b pending (AChar c) []))
    (λ y e. added_once b pending c [] mode here (negated (is_null c) two.0) d y e)
    (λ k. added_all b mode here cs two.1 (c ∷ pending) (AChar c) [] d x k)
    (sym (ap (λ (o : Option Building). option_and_then (λ y. tree_steps d y (map (λ c. AChar c) cs)) o) (begun_step b pending token attrs c d)) ∙ h)

-- with a token that has begun, the state is of that form
begun_is : (b : Building) (c : ℕ) → has_begun b ≡ true → b.token ≡ AChar c → b ≡ pending_behind b b.pending (AChar c) b.attrs
begun_is b c begun token =
    ap (λ (skip : Bool). record b { skip = skip }) (no_skip b begun)
    ∙ ap (λ (state : Option TextState). record b { skip = false; tokenizer = state }) (no_state b begun)
    ∙ ap (λ (token : Token). record b { skip = false; tokenizer = None; token = token }) token

-- the token does not matter
stands_pending : (new : TreeBuilder) (b : Building) (cs : List ℕ) (c : Building) → has_begun b ≡ true → Constructs new (record b { pending = cs }) → IsPendingBehind b cs c → Constructs new c
stands_pending new b cs c begun stands is = subst (λ (x : Building). Constructs new x) (sym is.is) (record {
  tree = stands.tree;
  foster = stands.foster;
  in_head = stands.in_head;
  mode = stands.mode;
  original = stands.original;
  template_modes = stands.template_modes;
  frameset_ok = stands.frameset_ok;
  scripting = stands.scripting;
  quirks = stands.quirks;
  unread = stands.unread;
  pending = stands.pending;
  skip = sym (no_skip b begun) ∙ stands.skip;
  tokenizer = sym (ap (λ (o : Option TextState). option_map state_for o) (no_state b begun)) ∙ stands.tokenizer;
})

-- a run of characters without nulls
pub all_pending : (new : TreeBuilder) (b : Building) (c : ℕ) (cs : List ℕ) → has_no_null (c ∷ cs) ≡ true → has_begun b ≡ true → b.token ≡ AChar c → b.mode ≡ InTableText →
    goes_to_mode b.tree ≡ true → Constructs new (record b { pending = added (c ∷ cs) b.pending }) → Completes cs b new
all_pending new b c cs all begun token mode here stands d x h =
    let two = both (not (is_null c)) (has_no_null cs) all in
    next_chars d cs (pending_behind b (c ∷ b.pending) (AChar c) b.attrs) x (Constructs new x) (run d Dispatcher b)
    (λ y e. added_once b b.pending c b.attrs mode here (negated (is_null c) two.0) d y (ap (run d Dispatcher) (sym (begun_is b c begun token)) ∙ e))
    (λ k. stands_pending new b (added (c ∷ cs) b.pending) x begun stands (added_all b mode here cs two.1 (c ∷ b.pending) (AChar c) b.attrs d x k)) h

-- ---- another token comes

abbrev pub is_character : Token → Bool
is_character (AChar c) = true
is_character _ = false

abbrev spaces_acts : List Act
spaces_acts = plainly (InsertPending ∷ SwitchBack ∷ []) Next.Again

abbrev after_letters : List Act
after_letters = does FosterOff [] ∷ does SwitchBack [] ∷ goes Reprocess ∷ []

abbrev letters_acts : List Act
letters_acts = does FosterOn [] ∷ goes (UseForEachPending InBody) ∷ after_letters

abbrev pending_acts : Bool → List Act
pending_acts spaces = elim (spaces && true) [ true ↦ spaces_acts | false ↦ letters_acts ]

pending_row : (t : Token) (b : Building) (spaces : Bool) → is_character t ≡ false → list_all is_space b.pending ≡ spaces → chosen t b (rules InTableText) ≡ pending_acts spaces
unfolding rules
pending_row (AStart name attrs closing) b spaces other e = ap pending_acts e
pending_row (AnEnd name) b spaces other e = ap pending_acts e
pending_row (AComment text) b spaces other e = ap pending_acts e
pending_row (ADoctype doctype) b spaces other e = ap pending_acts e
pending_row AnEof b spaces other e = ap pending_acts e
pending_row (AChar c) b spaces other e = absurd (true≢false other)

-- ---- white space alone

spaces_settle : (b : Building) (new : TreeBuilder) → is_character b.token ≡ false → list_all is_space b.pending ≡ true → Constructs new (text_settled b) → Outcome InTableText b new Next.Again
unfolding perform
spaces_settle b new other e stands =
    outcome InTableText b new (InsertPending ∷ SwitchBack ∷ []) Next.Again
    (subst (λ (spaces : Bool). Constructs new (text_placed (not spaces) (reverse b.pending) (record b { mode = b.original }))) e stands)
    (record { token = refl; attrs = refl }) (taken_of b.token b refl (rules InTableText) ∙ pending_row b.token b true other e)

-- ---- other characters

-- the state after a character is processed by the rules for "in body"
abbrev charred : ℕ → Building → Building
charred c b = record b { tree = with_char c (reconstructed b.tree); frameset_ok = ok_behind c b.frameset_ok; token = AChar c; attrs = [] }

abbrev all_charred : List ℕ → Building → Building
all_charred [] b = b
all_charred (c ∷ cs) b = all_charred cs (charred c b)

-- one character comes to that at each depth but 0
body_runs : (c : ℕ) (d : ℕ) (b : Building) → is_null c ≡ false → run (suc d) InBody (with_token (AChar c) [] b) ≡ Some (charred c b)
unfolding run rules perform
body_runs c d b other = elim (cases_Bool (is_space c)) [
  | inl e ↦ ap (λ acts. performed (run d) acts (with_token (AChar c) [] b)) (taken_char c 32 (space_alike c e) (with_token (AChar c) [] b) refl (rules InBody))
      ∙ end_of_plain (ReconstructFormatting ∷ InsertCharacter ∷ []) (with_token (AChar c) [] b) d
      ∙ ap (λ (s : Bool). Some (record b { tree = with_char c (reconstructed b.tree); frameset_ok = if s then b.frameset_ok else false; token = AChar c; attrs = [] })) (sym e)
  | inr f ↦ ap (λ acts. performed (run d) acts (with_token (AChar c) [] b)) (taken_char c 97 (letter_alike c other f) (with_token (AChar c) [] b) refl (rules InBody))
      ∙ end_of_plain (ReconstructFormatting ∷ InsertCharacter ∷ FramesetNotOk ∷ []) (with_token (AChar c) [] b) d
      ∙ ap (λ (s : Bool). Some (record b { tree = with_char c (reconstructed b.tree); frameset_ok = if s then b.frameset_ok else false; token = AChar c; attrs = [] })) (sym f)
]

each_some : (cs : List ℕ) → has_no_null cs ≡ true → (d : ℕ) (b : Building) → each_char (run (suc d) InBody) cs b ≡ Some (all_charred cs b)
each_some [] all d b = refl
each_some (c ∷ cs) all d b =
    let two = both (not (is_null c)) (has_no_null cs) all in
    ap (option_and_then (each_char (run (suc d) InBody) cs)) (body_runs c d b (negated (is_null c) two.0)) ∙ each_some cs two.1 d (charred c b)

no_run : (b c : Building) → run zero InBody b ≡ Some c → ⊥
unfolding run
no_run b c h = cc

body_only : (c : ℕ) → is_null c ≡ false → (d : ℕ) (b x : Building) → run d InBody (with_token (AChar c) [] b) ≡ Some x → x ≡ charred c b
body_only c other zero b x h = absurd (no_run (with_token (AChar c) [] b) x h)
body_only c other (suc d) b x h = same_Some _ _ (sym h ∙ body_runs c d b other)

each_only : (test : Building → Bool) (d : ℕ) (cs : List ℕ) → has_no_null cs ≡ true → (b x : Building) → each_char (run_while test d InBody) cs b ≡ Some x → x ≡ all_charred cs b
each_only test d [] all b x h = same_Some _ _ (sym h)
each_only test d (c ∷ cs) all b x h =
    let two = both (not (is_null c)) (has_no_null cs) all in
    let parts = in_turn (run_while test d InBody (with_token (AChar c) [] b)) (each_char (run_while test d InBody) cs) x h in
    let first = body_only c (negated (is_null c) two.0) d b parts.0 (while_runs test d InBody (with_token (AChar c) [] b) parts.0 parts.1) in
    each_only test d cs two.1 parts.0 x parts.2 ∙ ap (all_charred cs) first

-- all characters are inserted, once nothing is to be reconstructed
charred_on : (cs : List ℕ) (b : Building) (t : GrowingTree) (ok : Bool) (token : Token) (attrs : List NodeAttr) (last : Token) (others : List NodeAttr) → closed_in t ≡ [] →
    with_token last others (all_charred cs (record b { tree = t; frameset_ok = ok; token = token; attrs = attrs }))
    ≡ with_token last others (record b { tree = with_chars cs t; frameset_ok = ok_behind_all cs ok })
charred_on [] b t ok token attrs last others none = refl
charred_on (c ∷ cs) b t ok token attrs last others none =
    ap (λ (u : GrowingTree). with_token last others (all_charred cs (record b { tree = with_char c u; frameset_ok = ok_behind c ok; token = AChar c; attrs = [] }))) (nothing_reopened t none)
    ∙ charred_on cs b (with_char c t) (ok_behind c ok) (AChar c) [] last others (char_closed c t ∙ none)

-- what is left of the state behind them
abbrev inserted : List ℕ → Building → Building
inserted cs b = record b { tree = with_chars cs (reconstructed b.tree); frameset_ok = false }

charred_is : (cs : List ℕ) (b : Building) → list_all is_space cs ≡ false → with_token b.token b.attrs (all_charred cs b) ≡ inserted cs b
charred_is [] b some = absurd (true≢false some)
charred_is (c ∷ cs) b some =
    charred_on cs b (with_char c (reconstructed b.tree)) (ok_behind c b.frameset_ok) (AChar c) [] b.token b.attrs (char_closed c (reconstructed b.tree) ∙ none_closed b.tree)
    ∙ ap (λ (ok : Bool). record b { tree = with_chars cs (with_char c (reconstructed b.tree)); frameset_ok = ok }) (letters_ok (c ∷ cs) b.frameset_ok some)

-- the state after foster parenting and the mode are set back
abbrev fostered : List ℕ → Building → Building
fostered cs b = fostered_in_body Run.Letters cs (record b { mode = b.original })

letters_come : (b : Building) → list_all is_space (reverse b.pending) ≡ false → has_no_null (reverse b.pending) ≡ true → taken b (rules InTableText) ≡ letters_acts →
    (c : Building) → ComesTo Dispatcher (fostered (reverse b.pending) b) c → ComesTo InTableText b c
unfolding run perform
letters_come b some all e c h =
    let on : Building = with_fostering true b in
    let text : List ℕ = reverse b.pending in (
      suc (suc h.0),
      ap (λ acts. performed (run (suc h.0)) acts b) e
          ∙ ap (λ (o : Option Building). option_and_then (performed (run (suc h.0)) after_letters) (option_map (with_token b.token b.attrs) o)) (each_some text all h.0 on)
          ∙ ap (performed (run (suc h.0)) after_letters) (charred_is text on some)
          ∙ ap (option_and_then (λ x. Some x)) (run_right (suc zero) h.0 Dispatcher (fostered text b) c h.1),
    )

mapped : (f : Building → Building) (o : Option Building) (x : Building) → option_map f o ≡ Some x → (y : Building) × (o ≡ Some y) × (x ≡ f y)
mapped f None x h = absurd (cc)
mapped f (Some y) x h = (y, refl, same_Some _ _ (sym h))

letters_turn : (b : Building) → list_all is_space (reverse b.pending) ≡ false → has_no_null (reverse b.pending) ≡ true → taken b (rules InTableText) ≡ letters_acts →
    TakesTurn InTableText b (fostered (reverse b.pending) b)
unfolding perform
letters_turn b some all e test d c h =
    let on : Building = with_fostering true b in
    let text : List ℕ = reverse b.pending in
    let parts = in_turn (option_map (with_token b.token b.attrs) (each_char (run_while test d InBody) text on)) (performed (run_while test d) after_letters) c
    (turn_of test d InTableText b c letters_acts e h) in
    let found = mapped (with_token b.token b.attrs) (each_char (run_while test d InBody) text on) parts.0 parts.1 in
    let is : parts.0 ≡ inserted text on = found.2 ∙ ap (with_token b.token b.attrs) (each_only test d text all on found.0 found.1) ∙ charred_is text on some in
    only_some (run_while test d Dispatcher (fostered text b)) c (sym (ap (performed (run_while test d) after_letters) is) ∙ parts.2)

letters_settle : (b : Building) (new : TreeBuilder) → is_character b.token ≡ false → list_all is_space b.pending ≡ false → has_no_null b.pending ≡ true → Constructs new (text_settled b) →
    Outcome InTableText b new Next.Again
letters_settle b new other e all stands =
    let some = all_reversed is_space b.pending ∙ e in
    let plain = all_reversed (λ c. not (is_null c)) b.pending ∙ all in
    let acts = taken_of b.token b refl (rules InTableText) ∙ pending_row b.token b false other e in
    record {
      after = fostered (reverse b.pending) b;
      stands = subst (λ (spaces : Bool). Constructs new (text_placed (not spaces) (reverse b.pending) (record b { mode = b.original }))) e stands;
      runs = (record { token = refl; attrs = refl }, letters_come b some plain acts, letters_turn b some plain acts);
    }

-- what the rules make of a token that comes after pending table character tokens
pub text_settles : (b : Building) (new : TreeBuilder) → is_character b.token ≡ false → has_no_null b.pending ≡ true → Constructs new (text_settled b) → Outcome InTableText b new Next.Again
text_settles b new other all stands = elim (cases_Bool (list_all is_space b.pending)) [
  | inl e ↦ spaces_settle b new other e stands
  | inr f ↦ letters_settle b new other f all stands
]
