-- Characters, comments, and the start tags on which the state decides: `a`, `button` and `input`.
use Rattle.std.specs.Prelude.{◌≡◌, suc, drop, ℕ, Bool, true, false, not, ◌==◌, List, [], ◌∷◌, ◌++◌, map, Option, None, Some, codes, refl}
use Rattle.std.specs.List.{list_all}
use Rattle.std.proofs.lemmas.Bool.{and_parts, true≢false}
use Rattle.std.proofs.lemmas.List.{append_assoc, append-nil}
use mathlib.Core.Path.{◌∙◌, sym, ap, subst}
use Rattle.standard_rules.specs.Building.{Building, Open, Taken, act, done, fits, holds, is_hidden, is_none, last_listed, closed_p, in_scope, is_space, needs_none, run, taken, tree_step, with_stack}
use Rattle.standard_rules.specs.ElementNames.{scope_of}
use Rattle.standard_rules.specs.PlainTrees.{Place, FlowPlace, HeadingPlace, ListPlace, DescriptionListPlace, RubyPlace, TablePlace, ColumnGroupPlace, RowGroupPlace, RowPlace, HeadPlace, Within, is_text}
use Rattle.standard_rules.specs.TreeRules.{rules}
use Rattle.standard_tokens.specs.Tokens.{Attr, Token, AChar, AComment, AStart}
use Rattle.standard_rules.specs.TreeTokens.{Trees, no_trees, text_node, comment_node, joined, with_char}
use Rattle.standard_rules.specs.RuleWords.{Hidden, ImpliedEndTags, InScope, Pop, PopUntil, Scope, Action, InsertCharacter, Always, ButtonScope, Character, Condition, ListElement, FramesetNotOk, Next, InBody, InCaption, InCell, InColumnGroup, InHead, InRow, InTable, InTableBody, InsertElement, Mode}
use Rattle.standard_rules.specs.RuleWords.{NoListed, Null, Pattern, Reconstruct, Rule, WhiteSpace, StartOf, Stay, Text, These, rule}
use Rattle.standard_rules.proofs.TreeLists.{Steps, ends_text, more_char, new_char, step_on}
use Rattle.standard_rules.proofs.RuleShapes.{OpensAnchor, grown, inserted_plainly, Runs, RunsIn, marked, pick}
use Rattle.standard_rules.proofs.StackKeys.{At, FlowMode, body, caption, cell, InFlow, Key, Outer, Ready, Steady, key, keys, lacking, lacks, mode_at, none_needed, outer}

in_step : (b : Building) (token : Token) → b.skip ≡ false → tree_step b token ≡ run 12 token b.mode b
unfolding tree_step
in_step b token h = subst (λ x. tree_step x token ≡ run 12 token x.mode x) (ap (λ s. record b { skip = s }) (sym h)) refl

-- a step by the rules of one mode
pub step_in : (b c : Building) (token : Token) (mode : Mode) → b.mode ≡ mode → b.skip ≡ false → RunsIn mode token b c → tree_step b token ≡ Some c
step_in b c token mode is skip runs = in_step b token skip ∙ ap (λ m. run 12 token m b) is ∙ runs

-- a step where the contents of a body are read
pub step_by_rules : (b c : Building) (ks : List Key) (token : Token) → InFlow (outer b) ks → b.skip ≡ false → Runs token b c → tree_step b token ≡ Some c
step_by_rules b c ks token f skip runs = step_in b c token (mode_at f.flow) f.mode skip (pick (λ m. RunsIn m token b c) runs f.flow)

pub nothing_to_close : (os : List Open) → lacks (codes "p") (keys os) ≡ true → closed_p os ≡ Some os
nothing_to_close os h = rw (lacking (scope_of ButtonScope) (codes "p") os h, closed_p) refl

-- nodes are built as the next children of an open element
pub record Built (b : Building) (o : Open) (os : List Open) (tokens : List Token) (t : Trees) : Type 0 where
  pub after : Building
  pub steps : Steps (with_stack b (o ∷ os)) tokens (with_stack after (record o { children = joined o.children t } ∷ os))
  pub ready : Ready after (key o ∷ keys os)
  pub kept : outer after ≡ outer b

-- ---- characters

abbrev with_one : Open → ℕ → Open
with_one o c = record o { children = with_char o.children c }

abbrev taking : List Action → Next → Taken
taking acts goes = record { acts = acts; goes = goes }

abbrev chosen : Bool → Bool → Taken → Taken → Taken
chosen x y t other = elim x [ true ↦ elim y [ true ↦ t | false ↦ other ] | false ↦ other ]

-- a rule that does not fit, and one that does
pub skip_rule : (token : Token) (b : Building) (pattern : Pattern) (condition : Condition) (acts : List Action) (goes : Next) (rs : List Rule) → fits pattern token ≡ false →
    taken token b (rule pattern condition acts goes ∷ rs) ≡ taken token b rs
unfolding taken
skip_rule token b pattern condition acts goes rs h = by_test (fits pattern token) h
  where
    by_test : (x : Bool) → x ≡ false → chosen x (holds condition token b) (taking acts goes) (taken token b rs) ≡ taken token b rs
    by_test true k = absurd (true≢false k)
    by_test false k = refl

pub take_rule : (token : Token) (b : Building) (pattern : Pattern) (condition : Condition) (acts : List Action) (goes : Next) (rs : List Rule) → fits pattern token ≡ true →
    holds condition token b ≡ true → taken token b (rule pattern condition acts goes ∷ rs) ≡ record { acts = acts; goes = goes }
unfolding taken
take_rule token b pattern condition acts goes rs h k = by_tests (fits pattern token) (holds condition token b) h k
  where
    by_tests : (x y : Bool) → x ≡ true → y ≡ true → chosen x y (taking acts goes) (taken token b rs) ≡ taking acts goes
    by_tests true true h k = refl
    by_tests true false h k = absurd (true≢false (sym k))
    by_tests false y h k = absurd (true≢false (sym h))

body_space : (b : Building) (c : ℕ) → (c == 0) ≡ false → is_space c ≡ true → taken (AChar c) b (rules InBody) ≡ record { acts = Reconstruct ∷ InsertCharacter ∷ []; goes = Stay }
unfolding rules
body_space b c z s =
    skip_rule (AChar c) b Null Always [] Stay (drop 1 (rules InBody)) z
    ∙ take_rule (AChar c) b WhiteSpace Always (Reconstruct ∷ InsertCharacter ∷ []) Stay (drop 2 (rules InBody)) s refl

body_other : (b : Building) (c : ℕ) → (c == 0) ≡ false → is_space c ≡ false → taken (AChar c) b (rules InBody) ≡ record { acts = Reconstruct ∷ InsertCharacter ∷ FramesetNotOk ∷ []; goes = Stay }
unfolding rules
body_other b c z s =
    skip_rule (AChar c) b Null Always [] Stay (drop 1 (rules InBody)) z
    ∙ skip_rule (AChar c) b WhiteSpace Always (Reconstruct ∷ InsertCharacter ∷ []) Stay (drop 2 (rules InBody)) s
    ∙ take_rule (AChar c) b Character Always (Reconstruct ∷ InsertCharacter ∷ FramesetNotOk ∷ []) Stay (drop 3 (rules InBody)) refl refl

space_done : (again : Mode → Building → Option Building) (b : Building) (o : Open) (os : List Open) (c : ℕ) → (c == 0) ≡ false → is_space c ≡ true → needs_none b.listed (o ∷ os) ≡ true →
    done again (taken (AChar c) (with_stack b (o ∷ os)) (rules InBody)) (AChar c) (with_stack b (o ∷ os)) ≡ Some (with_stack b (with_one o c ∷ os))
unfolding act
space_done again b o os c z s h = ap (λ t. done again t (AChar c) (with_stack b (o ∷ os))) (body_space (with_stack b (o ∷ os)) c z s) ∙ rw (h, act) refl

other_done : (again : Mode → Building → Option Building) (b : Building) (o : Open) (os : List Open) (c : ℕ) → (c == 0) ≡ false → is_space c ≡ false → needs_none b.listed (o ∷ os) ≡ true →
    done again (taken (AChar c) (with_stack b (o ∷ os)) (rules InBody)) (AChar c) (with_stack b (o ∷ os)) ≡ Some (with_stack (record b { frameset_ok = false }) (with_one o c ∷ os))
unfolding act
other_done again b o os c z s h = ap (λ t. done again t (AChar c) (with_stack b (o ∷ os))) (body_other (with_stack b (o ∷ os)) c z s) ∙ rw (h, act) refl

space_runs : (b : Building) (o : Open) (os : List Open) (c : ℕ) → (c == 0) ≡ false → is_space c ≡ true → needs_none b.listed (o ∷ os) ≡ true →
    Runs (AChar c) (with_stack b (o ∷ os)) (with_stack b (with_one o c ∷ os))
unfolding run rules taken
space_runs b o os c z s h = (space_done (run 11 (AChar c)) b o os c z s h, space_done (run 10 (AChar c)) b o os c z s h, space_done (run 10 (AChar c)) b o os c z s h)

other_runs : (b : Building) (o : Open) (os : List Open) (c : ℕ) → (c == 0) ≡ false → is_space c ≡ false → needs_none b.listed (o ∷ os) ≡ true →
    Runs (AChar c) (with_stack b (o ∷ os)) (with_stack (record b { frameset_ok = false }) (with_one o c ∷ os))
unfolding run rules taken
other_runs b o os c z s h = (other_done (run 11 (AChar c)) b o os c z s h, other_done (run 10 (AChar c)) b o os c z s h, other_done (run 10 (AChar c)) b o os c z s h)

-- an anchor's start tag, where none is open
anchor_taken : (attrs : List Attr) (b : Building) → last_listed (codes "a" ∷ []) b.listed ≡ None →
    taken (AStart (codes "a") attrs false) b (rules InBody) ≡ record { acts = Reconstruct ∷ InsertElement ∷ ListElement ∷ []; goes = Stay }
unfolding rules taken
anchor_taken attrs b k = take_rule (AStart (codes "a") attrs false) b (StartOf (codes "a" ∷ [])) (NoListed (These (codes "a" ∷ []))) (Reconstruct ∷ InsertElement ∷ ListElement ∷ []) Stay (drop 29 (rules InBody)) refl (ap is_none k)

anchor_done : (again : Mode → Building → Option Building) (attrs : List Attr) (b : Building) → needs_none b.listed b.stack ≡ true → last_listed (codes "a" ∷ []) b.listed ≡ None →
    done again (taken (AStart (codes "a") attrs false) b (rules InBody)) (AStart (codes "a") attrs false) b ≡ Some (marked (codes "a") attrs b)
unfolding act
anchor_done again attrs b h k = ap (λ t. done again t (AStart (codes "a") attrs false) b) (anchor_taken attrs b k) ∙ rw (h, act) refl

run_suc : (fuel : ℕ) (token : Token) (mode : Mode) (b : Building) → run (suc fuel) token mode b ≡ done (run fuel token) (taken token b (rules mode)) token b
unfolding run
run_suc fuel token mode b = refl

anchor_by : (again : Mode → Building → Option Building) (attrs : List Attr) (b : Building) →
    (done again (taken (AStart (codes "a") attrs false) b (rules InCaption)) (AStart (codes "a") attrs false) b ≡ again InBody b)
    × (done again (taken (AStart (codes "a") attrs false) b (rules InCell)) (AStart (codes "a") attrs false) b ≡ again InBody b)
unfolding rules taken
anchor_by again attrs b = (refl, refl)

pub anchor_opens : OpensAnchor (codes "a")
anchor_opens attrs b h k =
    let token : Token = AStart (codes "a") attrs false in
    let inner : run 11 token InBody b ≡ Some (marked (codes "a") attrs b) = run_suc 10 token InBody b ∙ anchor_done (run 10 token) attrs b h k in (
      run_suc 11 token InBody b ∙ anchor_done (run 11 token) attrs b h k,
      run_suc 11 token InCaption b ∙ (anchor_by (run 11 token) attrs b).0 ∙ inner,
      run_suc 11 token InCell b ∙ (anchor_by (run 11 token) attrs b).1 ∙ inner,
    )

-- a rule whose condition fails
pub pass_rule : (token : Token) (b : Building) (pattern : Pattern) (condition : Condition) (acts : List Action) (goes : Next) (rs : List Rule) → holds condition token b ≡ false →
    taken token b (rule pattern condition acts goes ∷ rs) ≡ taken token b rs
unfolding taken
pass_rule token b pattern condition acts goes rs h = by_tests (fits pattern token) (holds condition token b) h
  where
    by_tests : (x y : Bool) → y ≡ false → chosen x y (taking acts goes) (taken token b rs) ≡ taken token b rs
    by_tests true true k = absurd (true≢false k)
    by_tests true false k = refl
    by_tests false y k = refl

-- what the rules of body do the other two modes do
pub from_body : (token : Token) (b c : Building) → ((again : Mode → Building → Option Building) → done again (taken token b (rules InBody)) token b ≡ Some c) →
    ((again : Mode → Building → Option Building) → (done again (taken token b (rules InCaption)) token b ≡ again InBody b) × (done again (taken token b (rules InCell)) token b ≡ again InBody b)) → Runs token b c
from_body token b c by hand =
    let inner : run 11 token InBody b ≡ Some c = run_suc 10 token InBody b ∙ by (run 10 token) in
    (run_suc 11 token InBody b ∙ by (run 11 token), run_suc 11 token InCaption b ∙ (hand (run 11 token)).0 ∙ inner, run_suc 11 token InCell b ∙ (hand (run 11 token)).1 ∙ inner)

button_taken : (attrs : List Attr) (b : Building) → in_scope (scope_of Scope) (codes "button" ∷ []) b.stack ≡ false →
    taken (AStart (codes "button") attrs false) b (rules InBody) ≡ record { acts = Reconstruct ∷ InsertElement ∷ FramesetNotOk ∷ []; goes = Stay }
unfolding rules taken
button_taken attrs b k =
    pass_rule (AStart (codes "button") attrs false) b (StartOf (codes "button" ∷ [])) (InScope Scope (These (codes "button" ∷ [])))
    (ImpliedEndTags ∷ PopUntil (These (codes "button" ∷ [])) ∷ Reconstruct ∷ InsertElement ∷ FramesetNotOk ∷ []) Stay (drop 20 (rules InBody)) k

button_done : (attrs : List Attr) (b : Building) → needs_none b.listed b.stack ≡ true → in_scope (scope_of Scope) (codes "button" ∷ []) b.stack ≡ false →
    (again : Mode → Building → Option Building) → done again (taken (AStart (codes "button") attrs false) b (rules InBody)) (AStart (codes "button") attrs false) b ≡ Some (inserted_plainly (codes "button") attrs b)
unfolding act
button_done attrs b h k again = ap (λ t. done again t (AStart (codes "button") attrs false) b) (button_taken attrs b k) ∙ rw (h, act) refl

button_by : (attrs : List Attr) (b : Building) (again : Mode → Building → Option Building) →
    (done again (taken (AStart (codes "button") attrs false) b (rules InCaption)) (AStart (codes "button") attrs false) b ≡ again InBody b)
    × (done again (taken (AStart (codes "button") attrs false) b (rules InCell)) (AStart (codes "button") attrs false) b ≡ again InBody b)
unfolding rules taken
button_by attrs b again = (refl, refl)

pub button_opens : (attrs : List Attr) (b : Building) → needs_none b.listed b.stack ≡ true → in_scope (scope_of Scope) (codes "button" ∷ []) b.stack ≡ false →
    Runs (AStart (codes "button") attrs false) b (inserted_plainly (codes "button") attrs b)
button_opens attrs b h k = from_body (AStart (codes "button") attrs false) b (inserted_plainly (codes "button") attrs b) (button_done attrs b h k) (button_by attrs b)

input_taken : (attrs : List Attr) (b : Building) → is_hidden attrs ≡ true → taken (AStart (codes "input") attrs false) b (rules InBody) ≡ record { acts = Reconstruct ∷ InsertElement ∷ Pop ∷ []; goes = Stay }
unfolding rules taken
input_taken attrs b k = take_rule (AStart (codes "input") attrs false) b (StartOf (codes "input" ∷ [])) Hidden (Reconstruct ∷ InsertElement ∷ Pop ∷ []) Stay (drop 38 (rules InBody)) refl k

input_seen : (attrs : List Attr) (b : Building) → is_hidden attrs ≡ false → taken (AStart (codes "input") attrs false) b (rules InBody) ≡ record { acts = Reconstruct ∷ InsertElement ∷ Pop ∷ FramesetNotOk ∷ []; goes = Stay }
unfolding rules taken
input_seen attrs b k = pass_rule (AStart (codes "input") attrs false) b (StartOf (codes "input" ∷ [])) Hidden (Reconstruct ∷ InsertElement ∷ Pop ∷ []) Stay (drop 38 (rules InBody)) k

input_by : (attrs : List Attr) (b : Building) (again : Mode → Building → Option Building) →
    (done again (taken (AStart (codes "input") attrs false) b (rules InCaption)) (AStart (codes "input") attrs false) b ≡ again InBody b)
    × (done again (taken (AStart (codes "input") attrs false) b (rules InCell)) (AStart (codes "input") attrs false) b ≡ again InBody b)
unfolding rules taken
input_by attrs b again = (refl, refl)

input_done : (attrs : List Attr) (b : Building) (o : Open) (os : List Open) → needs_none b.listed (o ∷ os) ≡ true → is_hidden attrs ≡ true → (again : Mode → Building → Option Building) →
    done again (taken (AStart (codes "input") attrs false) (with_stack b (o ∷ os)) (rules InBody)) (AStart (codes "input") attrs false) (with_stack b (o ∷ os)) ≡ Some (record b { stack = grown o (codes "input") attrs no_trees ∷ os; next = suc b.next })
unfolding act
input_done attrs b o os h k again = ap (λ t. done again t (AStart (codes "input") attrs false) (with_stack b (o ∷ os))) (input_taken attrs (with_stack b (o ∷ os)) k) ∙ rw (h, act) refl

input_seen_done : (attrs : List Attr) (b : Building) (o : Open) (os : List Open) → needs_none b.listed (o ∷ os) ≡ true → is_hidden attrs ≡ false → (again : Mode → Building → Option Building) →
    done again (taken (AStart (codes "input") attrs false) (with_stack b (o ∷ os)) (rules InBody)) (AStart (codes "input") attrs false) (with_stack b (o ∷ os)) ≡
    Some (record b { stack = grown o (codes "input") attrs no_trees ∷ os; next = suc b.next; frameset_ok = false })
unfolding act
input_seen_done attrs b o os h k again = ap (λ t. done again t (AStart (codes "input") attrs false) (with_stack b (o ∷ os))) (input_seen attrs (with_stack b (o ∷ os)) k) ∙ rw (h, act) refl

-- an input, hidden or not
pub input_made : (attrs : List Attr) (b : Building) (o : Open) (os : List Open) → needs_none b.listed (o ∷ os) ≡ true →
    (ok : Bool) × Runs (AStart (codes "input") attrs false) (with_stack b (o ∷ os)) (record b { stack = grown o (codes "input") attrs no_trees ∷ os; next = suc b.next; frameset_ok = ok })
input_made attrs b o os h = by_test (is_hidden attrs) refl
  where
    by_test : (x : Bool) → is_hidden attrs ≡ x → (ok : Bool) × Runs (AStart (codes "input") attrs false) (with_stack b (o ∷ os)) (record b { stack = grown o (codes "input") attrs no_trees ∷ os; next = suc b.next; frameset_ok = ok })
    by_test true k = (b.frameset_ok, from_body (AStart (codes "input") attrs false) (with_stack b (o ∷ os)) (record b { stack = grown o (codes "input") attrs no_trees ∷ os; next = suc b.next }) (input_done attrs b o os h k) (input_by attrs (with_stack b (o ∷ os))))
    by_test false k = (false, from_body (AStart (codes "input") attrs false) (with_stack b (o ∷ os)) (record b { stack = grown o (codes "input") attrs no_trees ∷ os; next = suc b.next; frameset_ok = false }) (input_seen_done attrs b o os h k) (input_by attrs (with_stack b (o ∷ os))))

-- ---- comments

commented : Open → List ℕ → Open
commented o text = record o { children = joined o.children (comment_node text no_trees) }

-- a comment in any of the modes
CommentRuns : Mode → Type 0
CommentRuns mode = (b : Building) (o : Open) (os : List Open) (text : List ℕ) → RunsIn mode (AComment text) (with_stack b (o ∷ os)) (with_stack b (commented o text ∷ os))

comment_runs : (flow : FlowMode) → CommentRuns (mode_at flow)
unfolding run rules taken act CommentRuns commented
comment_runs body b o os text = refl
comment_runs caption b o os text = refl
comment_runs cell b o os text = refl

comment_in_table : CommentRuns InTable
unfolding run rules taken act CommentRuns commented
comment_in_table b o os text = refl

comment_in_column_group : CommentRuns InColumnGroup
unfolding run rules taken act CommentRuns commented
comment_in_column_group b o os text = refl

comment_in_row_group : CommentRuns InTableBody
unfolding run rules taken act CommentRuns commented
comment_in_row_group b o os text = refl

comment_in_row : CommentRuns InRow
unfolding run rules taken act CommentRuns commented
comment_in_row b o os text = refl

comment_in_head : CommentRuns InHead
unfolding run rules taken act CommentRuns commented
comment_in_head b o os text = refl

-- the mode of a place, and a comment there
comment_at : (p : Place) (x : Outer) (ks : List Key) → At p x ks → (mode : Mode) × (x.mode ≡ mode) × CommentRuns mode
comment_at FlowPlace x ks a = (mode_at a.0.flow, a.0.mode, comment_runs a.0.flow)
comment_at HeadingPlace x ks a = (mode_at a.flow, a.mode, comment_runs a.flow)
comment_at ListPlace x ks a = (mode_at a.0.flow, a.0.mode, comment_runs a.0.flow)
comment_at DescriptionListPlace x ks a = (mode_at a.0.flow, a.0.mode, comment_runs a.0.flow)
comment_at RubyPlace x ks a = (mode_at a.0.flow, a.0.mode, comment_runs a.0.flow)
comment_at TablePlace x ks a = (InTable, a.0, comment_in_table)
comment_at ColumnGroupPlace x ks a = (InColumnGroup, a.0, comment_in_column_group)
comment_at RowGroupPlace x ks a = (InTableBody, a.0, comment_in_row_group)
comment_at RowPlace x ks a = (InRow, a.0, comment_in_row)
comment_at HeadPlace x ks a = (InHead, a, comment_in_head)

pub comment_built : (b : Building) (o : Open) (os : List Open) (text : List ℕ) (w : Within) → Steady w (outer b) (key o ∷ keys os) → Ready b (key o ∷ keys os) →
    Built b o os (AComment text ∷ []) (comment_node text no_trees)
unfolding CommentRuns commented
comment_built b o os text w s r =
    let c : Building = with_stack b (record o { children = joined o.children (comment_node text no_trees) } ∷ os) in
    let m : (mode : Mode) × (b.mode ≡ mode) × CommentRuns mode = comment_at w.place (outer b) (key o ∷ keys os) s.place in
    record {
      after = b;
      steps = step_on (with_stack b (o ∷ os)) c c (AComment text) [] refl (step_in (with_stack b (o ∷ os)) c (AComment text) m.0 m.1 r.skip (m.2 b o os text)) refl;
      ready = r;
      kept = refl;
    }

-- ---- texts in flow

-- one character
char_built : (b : Building) (o : Open) (os : List Open) (c : ℕ) → (c == 0) ≡ false → InFlow (outer b) (key o ∷ keys os) → Ready b (key o ∷ keys os) →
    (d : Building) × (tree_step (with_stack b (o ∷ os)) (AChar c) ≡ Some (with_stack d (with_one o c ∷ os))) × Ready d (key o ∷ keys os) × (outer d ≡ outer b)
char_built b o os c z f r = by_test (is_space c) refl
  where
    by_test : (x : Bool) → is_space c ≡ x → (d : Building) × (tree_step (with_stack b (o ∷ os)) (AChar c) ≡ Some (with_stack d (with_one o c ∷ os))) × Ready d (key o ∷ keys os) × (outer d ≡ outer b)
    by_test true s =
        (b, step_by_rules (with_stack b (o ∷ os)) (with_stack b (with_one o c ∷ os)) (key o ∷ keys os) (AChar c) f r.skip (space_runs b o os c z s (none_needed (o ∷ os) b.listed r.fits)), r, refl)
    by_test false s = (
      record b { frameset_ok = false },
      step_by_rules (with_stack b (o ∷ os)) (with_stack (record b { frameset_ok = false }) (with_one o c ∷ os)) (key o ∷ keys os) (AChar c) f r.skip (other_runs b o os c z s (none_needed (o ∷ os) b.listed r.fits)),
      record { skip = r.skip; fits = r.fits; numbers = r.numbers },
      refl,
    )

not_so : (b : Bool) → not b ≡ true → b ≡ false
not_so true k = cc
not_so false k = refl

-- with a text behind the nodes
abbrev text_of : Trees → List ℕ → Trees
text_of before cs = joined before (text_node cs no_trees)

-- more characters behind some
more_built : (b : Building) (o : Open) (os : List Open) (before : Trees) (cs more : List ℕ) → list_all (λ d. not (d == 0)) more ≡ true → InFlow (outer b) (key o ∷ keys os) → Ready b (key o ∷ keys os) →
    (d : Building) × Steps (with_stack b (record o { children = text_of before cs } ∷ os)) (map AChar more) (with_stack d (record o { children = text_of before (cs ++ more) } ∷ os)) × Ready d (key o ∷ keys os) × (outer d ≡ outer b)
more_built b o os before cs [] h f r = (b, rw (append-nil cs) refl, r, refl)
more_built b o os before cs (c ∷ more) h f r =
    let parts : (not (c == 0) ≡ true) × (list_all (λ d. not (d == 0)) more ≡ true) = and_parts (not (c == 0)) (list_all (λ d. not (d == 0)) more) h in
    let p : Open = record o { children = text_of before cs } in
    let q : Open = record o { children = text_of before (cs ++ c ∷ []) } in
    let a : (d : Building) × (tree_step (with_stack b (p ∷ os)) (AChar c) ≡ Some (with_stack d (with_one p c ∷ os))) × Ready d (key o ∷ keys os) × (outer d ≡ outer b) = char_built b p os c (not_so (c == 0) parts.0) f r in
    let same : Some (with_stack a.0 (with_one p c ∷ os)) ≡ Some (with_stack a.0 (q ∷ os)) = ap (λ t. Some (with_stack a.0 (record o { children = t } ∷ os))) (more_char before cs c) in
    let e : (d : Building) × Steps (with_stack a.0 (q ∷ os)) (map AChar more) (with_stack d (record o { children = text_of before ((cs ++ c ∷ []) ++ more) } ∷ os)) × Ready d (key o ∷ keys os) × (outer d ≡ outer a.0) =
    more_built a.0 o os before (cs ++ c ∷ []) more parts.1 (subst (λ (x : Outer). InFlow x (key o ∷ keys os)) (sym a.3) f) a.2 in
    let whole : Steps (with_stack b (p ∷ os)) (map AChar (c ∷ more)) (with_stack e.0 (record o { children = text_of before ((cs ++ c ∷ []) ++ more) } ∷ os)) =
    step_on (with_stack b (p ∷ os)) (with_stack a.0 (q ∷ os)) (with_stack e.0 (record o { children = text_of before ((cs ++ c ∷ []) ++ more) } ∷ os)) (AChar c) (map AChar more) refl (a.1 ∙ same) e.1 in
    (e.0, subst (λ (x : List ℕ). Steps (with_stack b (p ∷ os)) (map AChar (c ∷ more)) (with_stack e.0 (record o { children = text_of before x } ∷ os))) (append_assoc cs (c ∷ []) more) whole, e.2, e.3 ∙ a.3)

-- a text behind what is no text
pub text_built : (b : Building) (o : Open) (os : List Open) (contents : List ℕ) → is_text contents ≡ true → ends_text o.children ≡ false → InFlow (outer b) (key o ∷ keys os) → Ready b (key o ∷ keys os) →
    Built b o os (map AChar contents) (text_node contents no_trees)
text_built b o os [] h e f r = absurd (true≢false (sym h))
text_built b o os (c ∷ more) h e f r =
    let parts : (not (c == 0) ≡ true) × (list_all (λ d. not (d == 0)) more ≡ true) = and_parts (not (c == 0)) (list_all (λ d. not (d == 0)) more) h in
    let q : Open = record o { children = text_of o.children (c ∷ []) } in
    let a : (d : Building) × (tree_step (with_stack b (o ∷ os)) (AChar c) ≡ Some (with_stack d (with_one o c ∷ os))) × Ready d (key o ∷ keys os) × (outer d ≡ outer b) = char_built b o os c (not_so (c == 0) parts.0) f r in
    let same : Some (with_stack a.0 (with_one o c ∷ os)) ≡ Some (with_stack a.0 (q ∷ os)) = ap (λ t. Some (with_stack a.0 (record o { children = t } ∷ os))) (new_char o.children c e) in
    let m : (d : Building) × Steps (with_stack a.0 (q ∷ os)) (map AChar more) (with_stack d (record o { children = text_of o.children (c ∷ more) } ∷ os)) × Ready d (key o ∷ keys os) × (outer d ≡ outer a.0) =
    more_built a.0 o os o.children (c ∷ []) more parts.1 (subst (λ (x : Outer). InFlow x (key o ∷ keys os)) (sym a.3) f) a.2 in
    record {
      after = m.0;
      steps = step_on (with_stack b (o ∷ os)) (with_stack a.0 (q ∷ os)) (with_stack m.0 (record o { children = text_of o.children (c ∷ more) } ∷ os)) (AChar c) (map AChar more) refl (a.1 ∙ same) m.1;
      ready = m.2;
      kept = m.3 ∙ a.3;
    }

-- ---- texts that change nothing but the current node: white space among the parts of a table, and what a script, a style or a title holds

more_fixed : (b : Building) (o : Open) (os : List Open) (test : ℕ → Bool) (before : Trees) (cs more : List ℕ) → list_all test more ≡ true →
    ((children : Trees) (c : ℕ) → test c ≡ true → tree_step (with_stack b (record o { children = children } ∷ os)) (AChar c) ≡ Some (with_stack b (record o { children = with_char children c } ∷ os))) →
    Steps (with_stack b (record o { children = text_of before cs } ∷ os)) (map AChar more) (with_stack b (record o { children = text_of before (cs ++ more) } ∷ os))
more_fixed b o os test before cs [] h each = rw (append-nil cs) refl
more_fixed b o os test before cs (c ∷ more) h each =
    let parts : (test c ≡ true) × (list_all test more ≡ true) = and_parts (test c) (list_all test more) h in
    let p : Building = with_stack b (record o { children = text_of before cs } ∷ os) in
    let q : Building = with_stack b (record o { children = text_of before (cs ++ c ∷ []) } ∷ os) in
    let first : tree_step p (AChar c) ≡ Some q = each (text_of before cs) c parts.0 ∙ ap (λ t. Some (with_stack b (record o { children = t } ∷ os))) (more_char before cs c) in
    let last : Building = with_stack b (record o { children = text_of before ((cs ++ c ∷ []) ++ more) } ∷ os) in
    subst (λ (x : List ℕ). Steps p (map AChar (c ∷ more)) (with_stack b (record o { children = text_of before x } ∷ os))) (append_assoc cs (c ∷ []) more)
    (step_on p q last (AChar c) (map AChar more) refl first (more_fixed b o os test before (cs ++ c ∷ []) more parts.1 each))

pub fixed_text : (b : Building) (o : Open) (os : List Open) (test : ℕ → Bool) (c : ℕ) (more : List ℕ) → list_all test (c ∷ more) ≡ true → ends_text o.children ≡ false →
    ((children : Trees) (d : ℕ) → test d ≡ true → tree_step (with_stack b (record o { children = children } ∷ os)) (AChar d) ≡ Some (with_stack b (record o { children = with_char children d } ∷ os))) →
    Steps (with_stack b (o ∷ os)) (map AChar (c ∷ more)) (with_stack b (record o { children = joined o.children (text_node (c ∷ more) no_trees) } ∷ os))
fixed_text b o os test c more h e each =
    let parts : (test c ≡ true) × (list_all test more ≡ true) = and_parts (test c) (list_all test more) h in
    let q : Building = with_stack b (record o { children = text_of o.children (c ∷ []) } ∷ os) in
    let last : Building = with_stack b (record o { children = text_of o.children (c ∷ more) } ∷ os) in
    let first : tree_step (with_stack b (o ∷ os)) (AChar c) ≡ Some q = each o.children c parts.0 ∙ ap (λ t. Some (with_stack b (record o { children = t } ∷ os))) (new_char o.children c e) in
    step_on (with_stack b (o ∷ os)) q last (AChar c) (map AChar more) refl first (more_fixed b o os test o.children (c ∷ []) more parts.1 each)

raw_runs : (b : Building) (o : Open) (os : List Open) (children : Trees) (c : ℕ) →
    RunsIn Text (AChar c) (with_stack b (record o { children = children } ∷ os)) (with_stack b (record o { children = with_char children c } ∷ os))
unfolding run rules taken act
raw_runs b o os children c = refl

-- what a script, a style or a title holds
pub raw_built : (b : Building) (o : Open) (os : List Open) (contents : List ℕ) → is_text contents ≡ true → ends_text o.children ≡ false → b.mode ≡ Text → b.skip ≡ false →
    Steps (with_stack b (o ∷ os)) (map AChar contents) (with_stack b (record o { children = joined o.children (text_node contents no_trees) } ∷ os))
raw_built b o os [] h e mode skip = absurd (true≢false (sym h))
raw_built b o os (c ∷ more) h e mode skip =
    fixed_text b o os (λ d. not (d == 0)) c more h e (λ children d k. step_in (with_stack b (record o { children = children } ∷ os)) (with_stack b (record o { children = with_char children d } ∷ os)) (AChar d) Text mode skip (raw_runs b o os children d))
