-- The beginning of a text, and the tokens of the whole text that come of it.
use Rattle.std.proofs.Common.{◌≡◌, ◌∙◌, ◌++◌, List, [], ap, refl, subst, sym, true, ℕ, true≢false}
use Rattle.std.proofs.lemmas.List.{append-nil, append_assoc}
use Rattle.standard_tokens.specs.Machine.{Step, normalized, start_in}
use Rattle.standard_tokens.specs.Reading.{Feedback, Reader, Reads, ReadsText, after, here, next, reader, step_at}
use Rattle.standard_tokens.specs.States.{State}
use Rattle.standard_tokens.specs.Tokens.{Token}

-- ---- the tokens so far

-- what was seen comes before what is seen later
pub record Later (first last : List Token) : Type 0 where
  pub more : List Token
  pub is : last ≡ first ++ more

seen_later : {f : Feedback} {r q : Reader} → Reads f r q → Later r.seen q.seen
seen_later {f} {r} here = record { more = []; is = sym (append-nil r.seen) }
seen_later {f} {r} (next s is runs reads) =
    let l : Later (r.seen ++ s.tokens) _ = seen_later reads in
    record { more = s.tokens ++ l.more; is = l.is ∙ append_assoc r.seen s.tokens l.more }

-- one reading goes on to where the other stops
meet : {f : Feedback} {a b c : Reader} → Reads f a b → Reads f a c → (step_at f c).stopped ≡ true → Reads f b c
meet here other stops = other
meet (next s is runs reads) here stops = absurd (true≢false (sym stops ∙ ap (λ (s : Step). s.stopped) is ∙ runs))
meet {f} {a} {b} {c} (next s is runs reads) (next s' is' runs' other) stops =
    meet reads (subst (λ (z : Step). Reads f (after f a z) c) (sym is' ∙ is) other) stops

-- where reading a text has come, its tokens are a front of all
pub front_of_all : (f : Feedback) (first : State) (text : List ℕ) (all : List Token) (r : Reader) → ReadsText f first text all →
    Reads f (reader (start_in first) (normalized text) []) r → Later r.seen all
front_of_all f first text all r whole reads =
    let l = seen_later (meet reads whole.reads whole.stops) in
    record { more = l.more ++ (step_at f whole.last).tokens; is = whole.all ∙ ap (λ ts. ts ++ (step_at f whole.last).tokens) l.is ∙ append_assoc r.seen l.more (step_at f whole.last).tokens }

-- a text is read as one list of tokens
stays_there : {f : Feedback} {a b : Reader} → Reads f a b → (step_at f a).stopped ≡ true → b ≡ a
stays_there here stops = refl
stays_there (next s is runs reads) stops = absurd (true≢false (sym stops ∙ ap (λ (s : Step). s.stopped) is ∙ runs))

pub one_list : (f : Feedback) (first : State) (text : List ℕ) (all other : List Token) → ReadsText f first text all → ReadsText f first text other →
    other ≡ all
one_list f first text all other one two =
    let same : two.last ≡ one.last = stays_there (meet one.reads two.reads two.stops) one.stops in
    two.all ∙ ap (λ (r : Reader). r.seen ++ (step_at f r).tokens) same ∙ sym one.all
