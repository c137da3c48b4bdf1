-- The parser goes on as the tokenizer does with the answers of tree construction between its steps.
use Rattle.std.specs.Prelude.{◌≡◌, refl, ℕ, suc, true, false, List, [], ◌∷◌, ◌++◌, Option, None, Some, option_map}
use Rattle.std.specs.Option.{option_and_then}
use Rattle.std.proofs.lemmas.List.{append_assoc, append-nil}
use Rattle.std.proofs.lemmas.Option.{same_Some}
use mathlib.Core.Path.{◌∙◌, sym, ap, subst}
use Rattle.standard_tokens.specs.Machine.{Machine, Step, normalized, start_in, step}
use Rattle.standard_tokens.specs.Reading.{Feedback, Reader, Reads, ReadsText, here, next, answered, step_at, switched}
use Rattle.standard_tokens.specs.States.{State}
use Rattle.standard_tokens.specs.Tokens.{Token}
use Rattle.standard_trees.specs.Building.{Building, tree_step, tree_steps}
use Rattle.standard_trees.specs.Parsing.{Parser, after_step, behind, is_foreign_now, parsed, parser, state_of, step_of}

-- ---- what tree construction answers

-- what it tells the tokenizer is what the feedback says behind these tokens
pub record Says (f : Feedback) (seen : List Token) (b : Building) : Type 0 where
  pub foreign : is_foreign_now b ≡ f.in_foreign seen
  pub switch : option_map state_of b.tokenizer ≡ f.switch seen

-- and so behind each front of the tokens that come after those before
abbrev pub Answers : ℕ → Building → Feedback → List Token → List Token → Type 0
Answers depth b f before all = (seen more : List Token) → all ≡ seen ++ more → (now : Building) × (tree_steps depth b seen ≡ Some now) × Says f (before ++ seen) now

pub says_first : (f : Feedback) (before : List Token) (b : Building) → Says f before b → Says f (before ++ []) b
says_first f before b s = subst (λ ts. Says f ts b) (sym (append-nil before)) s

pub answers_none : (depth : ℕ) (b : Building) (f : Feedback) (before : List Token) → Says f before b → Answers depth b f before []
answers_none depth b f before s [] more e = (b, refl, says_first f before b s)
answers_none depth b f before s (x ∷ seen) more e = cc

-- a token more
pub answers_more : (depth : ℕ) (b c : Building) (f : Feedback) (before : List Token) (t : Token) (all : List Token) → tree_step depth b t ≡ Some c → Says f before b →
    Answers depth c f (before ++ t ∷ []) all → Answers depth b f before (t ∷ all)
answers_more depth b c f before t all steps s later [] more e = (b, refl, says_first f before b s)
answers_more depth b c f before t all steps s later (x ∷ seen) more e =
    let head : t ≡ x = first_is e in
    let k = later seen more (rest_is e) in (
      k.0,
      ap (λ u. option_and_then (λ d. tree_steps depth d seen) (tree_step depth b u)) (sym head) ∙ ap (option_and_then (λ d. tree_steps depth d seen)) steps ∙ k.1,
      subst (λ ts. Says f ts k.0) (append_assoc before (t ∷ []) seen ∙ ap (λ u. before ++ u ∷ seen) head) k.2,
    )
  where
    first_is : {t x : Token} {ts xs : List Token} → t ∷ ts ≡ x ∷ xs → t ≡ x
    first_is e = cc

    rest_is : {t x : Token} {ts xs : List Token} → t ∷ ts ≡ x ∷ xs → ts ≡ xs
    rest_is e = cc

-- ---- tree construction without what it last told the tokenizer

abbrev pub quiet : Building → Building
quiet b = record b { tokenizer = None }

pub steps_append : (depth : ℕ) (b c : Building) (xs ys : List Token) → tree_steps depth b xs ≡ Some c → tree_steps depth b (xs ++ ys) ≡ tree_steps depth c ys
steps_append depth b c [] ys h = ap (λ x. tree_steps depth x ys) (same_Some b c h)
steps_append depth b c (x ∷ xs) ys h = by_step (tree_step depth b x) h (λ d k. steps_append depth d c xs ys k)
  where
    by_step : (o : Option Building) → option_and_then (λ d. tree_steps depth d xs) o ≡ Some c →
        ((d : Building) → tree_steps depth d xs ≡ Some c → tree_steps depth d (xs ++ ys) ≡ tree_steps depth c ys) → option_and_then (λ d. tree_steps depth d (xs ++ ys)) o ≡ tree_steps depth c ys
    by_step None k each = cc
    by_step (Some d) k each = each d k

-- the tokens of a step of the tokenizer
record Taken (depth : ℕ) (c y : Building) (ts : List Token) : Type 0 where
  now : Building
  steps : tree_steps depth (quiet c) ts ≡ Some now
  same : quiet now ≡ quiet y
  answer : (f : Feedback) (seen : List Token) (m : Machine) → option_map state_of y.tokenizer ≡ f.switch (seen ++ ts) → switched (option_map state_of now.tokenizer) m ≡ answered f seen ts m

taken_on : (depth : ℕ) (c x y : Building) (ts : List Token) → quiet c ≡ quiet x → tree_steps depth x ts ≡ Some y → Taken depth c y ts
unfolding tree_step
taken_on depth c x y [] same h = record { now = quiet c; steps = refl; same = same ∙ ap quiet (same_Some x y h); answer = λ f seen m k. refl }
taken_on depth c x y (t ∷ ts) same h = record {
  now = y;
  steps = ap (λ b. tree_steps depth b (t ∷ ts)) same ∙ h;
  same = refl;
  answer = λ f seen m k. ap (λ s. switched s m) k;
}

-- ---- the parser

-- it comes to an end, with the tree of all tokens
pub record Ends (depth : ℕ) (b : Building) (all : List Token) (p : Parser) : Type 0 where
  pub steps : ℕ
  pub last : Building
  pub parsed : parsed depth steps p ≡ Some last
  pub now : Building
  pub tokens : tree_steps depth b all ≡ Some now
  pub same : quiet last ≡ quiet now

parsed_last : (depth : ℕ) (p : Parser) (s : Step) (e : Building) → step_of p ≡ s → s.stopped ≡ true → tree_steps depth (quiet p.building) s.tokens ≡ Some e → parsed depth 1 p ≡ Some e
unfolding parsed
parsed_last depth p s e is stops steps =
    ap (λ (z : Step). option_and_then (behind (parsed depth 0) z) (tree_steps depth (quiet p.building) z.tokens)) is
    ∙ ap (option_and_then (behind (parsed depth 0) s)) steps ∙ ap (λ x. elim x [ true ↦ Some e | false ↦ parsed depth 0 (after_step s e) ]) stops

parsed_more : (depth steps : ℕ) (p : Parser) (s : Step) (c e : Building) → step_of p ≡ s → s.stopped ≡ false → tree_steps depth (quiet p.building) s.tokens ≡ Some c →
    parsed depth steps (after_step s c) ≡ Some e → parsed depth (suc steps) p ≡ Some e
unfolding parsed
parsed_more depth steps p s c e is runs taken more =
    ap (λ (z : Step). option_and_then (behind (parsed depth steps) z) (tree_steps depth (quiet p.building) z.tokens)) is
    ∙ ap (option_and_then (behind (parsed depth steps) s)) taken ∙ ap (λ x. elim x [ true ↦ Some c | false ↦ parsed depth steps (after_step s c) ]) runs ∙ more

-- what was seen comes before what is seen later
record Later (first last : List Token) : Type 0 where
  more : List Token
  is : last ≡ first ++ more

seen_later : {f : Feedback} {r q : Reader} → Reads f r q → Later r.seen q.seen
seen_later {f} {r} here = record { more = []; is = sym (append-nil r.seen) }
seen_later {f} {r} (next s is runs reads) =
    let l : Later (r.seen ++ s.tokens) _ = seen_later reads in
    record { more = s.tokens ++ l.more; is = l.is ∙ append_assoc r.seen s.tokens l.more }

same_step : (f : Feedback) (r : Reader) (c x : Building) → quiet c ≡ quiet x → Says f r.seen x → step_of (parser r.machine r.text c) ≡ step_at f r
same_step f r c x same says = ap (λ z. step z r.machine r.text) (ap is_foreign_now same ∙ says.foreign)

joined_reads : (f : Feedback) (depth : ℕ) (b : Building) (all : List Token) → Answers depth b f [] all → {r q : Reader} → Reads f r q → all ≡ q.seen ++ (step_at f q).tokens →
    (step_at f q).stopped ≡ true → (c x : Building) → tree_steps depth b r.seen ≡ Some x → quiet c ≡ quiet x → Says f r.seen x → Ends depth b all (parser r.machine r.text c)
joined_reads f depth b all answers {r} here is_all stops c x now same says =
    let s : Step = step_at f r in
    let end = answers all [] (sym (append-nil all)) in
    let taken : Taken depth c end.0 s.tokens = taken_on depth c x end.0 s.tokens same (sym (steps_append depth b x r.seen s.tokens now) ∙ ap (tree_steps depth b) (sym is_all) ∙ end.1) in
    record {
      steps = 1;
      last = taken.now;
      parsed = parsed_last depth (parser r.machine r.text c) s taken.now (same_step f r c x same says) stops taken.steps;
      now = end.0;
      tokens = end.1;
      same = taken.same;
    }
joined_reads f depth b all answers {r} {q} (next s is runs reads) is_all stops c x now same says =
    let last : List Token = (step_at f q).tokens in
    let l : Later (r.seen ++ s.tokens) q.seen = seen_later reads in
    let front : all ≡ (r.seen ++ s.tokens) ++ (l.more ++ last) = is_all ∙ ap (λ ts. ts ++ last) l.is ∙ append_assoc (r.seen ++ s.tokens) l.more last in
    let k = answers (r.seen ++ s.tokens) (l.more ++ last) front in
    let taken : Taken depth c k.0 s.tokens = taken_on depth c x k.0 s.tokens same (sym (steps_append depth b x r.seen s.tokens now) ∙ k.1) in
    let rest : Ends depth b all (parser (answered f r.seen s.tokens s.machine) s.rest taken.now) = joined_reads f depth b all answers reads is_all stops taken.now k.0 k.1 taken.same k.2 in
    let machine : answered f r.seen s.tokens s.machine ≡ switched (option_map state_of taken.now.tokenizer) s.machine = sym (taken.answer f r.seen s.machine k.2.switch) in
    record {
      steps = suc rest.steps;
      last = rest.last;
      parsed = parsed_more depth rest.steps (parser r.machine r.text c) s taken.now rest.last (same_step f r c x same says ∙ is) runs taken.steps
          (ap (λ (m : Machine). parsed depth rest.steps (parser m s.rest taken.now)) (sym machine) ∙ rest.parsed);
      now = rest.now;
      tokens = rest.tokens;
      same = rest.same;
    }

-- a text whose tokens tree construction answers as the feedback says
pub text_joined : (f : Feedback) (depth : ℕ) (b : Building) (first : State) (text : List ℕ) (all : List Token) → ReadsText f first text all → Answers depth b f [] all →
    Ends depth b all (parser (start_in first) (normalized text) b)
text_joined f depth b first text all read answers =
    let begins = answers [] all refl in
    let same : b ≡ begins.0 = same_Some b begins.0 begins.1 in
    joined_reads f depth b all answers read.reads read.all read.stops b begins.0 begins.1 (ap quiet same) begins.2

-- what is made of the end
pub end_of : {A : Type 0} → (of : Building → A) → ((b : Building) → of (quiet b) ≡ of b) → (depth : ℕ) (b : Building) (all : List Token) (a : A) (p : Parser) → Ends depth b all p →
    option_map of (tree_steps depth b all) ≡ Some a → (steps : ℕ) × (option_map of (parsed depth steps p) ≡ Some a)
end_of of same depth b all a p e h = (
  e.steps,
  ap (option_map of) e.parsed ∙ ap Some (sym (same e.last) ∙ ap of e.same ∙ same e.now) ∙ sym (ap (option_map of) e.tokens) ∙ h,
)
