-- Steps of the machine behind characters that are kept, and the step at which it is asked whether this is foreign content.
use Rattle.std.specs.Prelude.{◌≡◌, ℕ, ◌==◌, ◌&&◌, Bool, true, false, not, length, List, [], ◌∷◌, ◌++◌, map, refl}
use Rattle.std.specs.Str.{encode_utf8_all}
use Rattle.std.proofs.lemmas.Bool.{eqb-true, true≢false}
use Rattle.std.proofs.lemmas.List.{append-nil, append_assoc, nil_from_length}
use Rattle.std.proofs.lemmas.Str.{encodes_same}
use mathlib.Core.Path.{◌∙◌, sym, ap, subst}
use Rattle.standard_tokens.specs.Machine.{Machine, Step, step}
use Rattle.standard_tokens.specs.Tokens.{Token as StandardToken, AChar}
use Rattle.page_tokens.specs.Reading.{text_of}
use Rattle.page_tokens.specs.Standard.{Goes, stays, steps, StepsAsked}
use Rattle.page_tokens.specs.StandardPages.{Comes, here, next, Finishes}
use Rattle.page_tokens.specs.StandardStates.{may_begin_cdata}
use Rattle.page_tokens.specs.TextStates.{wants_characters_of}
use Rattle.page_tokens.specs.declared.tokenizer.Tokenizer.{Tokenizer}
use Rattle.page_tokens.proofs.LastSteps.{head_of, nil_cons, tail_of}

-- ---- steps that emit characters

-- characters in two parts
pub record Parts (ts us : List StandardToken) (cs : List ℕ) : Type 0 where
  pub first : List ℕ
  pub second : List ℕ
  pub front : ts ≡ map AChar first
  pub back : us ≡ map AChar second
  pub all : cs ≡ first ++ second

pub parts_of : (ts us : List StandardToken) (cs : List ℕ) → ts ++ us ≡ map AChar cs → Parts ts us cs
parts_of [] us cs e = record { first = []; second = cs; front = refl; back = e; all = refl }
parts_of (t ∷ ts) us [] e = absurd (nil_cons t (ts ++ us) (sym e))
parts_of (t ∷ ts) us (c ∷ cs) e =
    let head : t ≡ AChar c = head_of t (AChar c) (ts ++ us) (map AChar cs) e in
    let tail : ts ++ us ≡ map AChar cs = tail_of t (AChar c) (ts ++ us) (map AChar cs) e in
    let more : Parts ts us cs = parts_of ts us cs tail in
    record { first = c ∷ more.first; second = more.second; front = ap (λ x. x ∷ ts) head ∙ ap (λ xs. AChar c ∷ xs) more.front; back = more.back; all = ap (λ xs. c ∷ xs) more.all }

nothing_shown : (cs : List ℕ) → [] ≡ map AChar cs → cs ≡ []
nothing_shown [] e = refl
nothing_shown (c ∷ cs) e = absurd (nil_cons (AChar c) (map AChar cs) e)

-- a place where these are kept is one where those are kept
kept_as : {flag : List ℕ → Bool} {kept : List ℕ} {m : Machine} {text : List ℕ} (all : List ℕ) → kept ≡ all → Comes flag kept m text all m text
kept_as {flag} {kept} {m} {text} all e = subst (λ k. Comes flag kept m text k m text) e here

pub come_on : {flag : List ℕ → Bool} {kept mid all : List ℕ} {m n k : Machine} {text left rest : List ℕ} → Comes flag kept m text mid n left → Comes flag mid n left all k rest → Comes flag kept m text all k rest
come_on here more = more
come_on (next s shown is runs tokens comes) more = next s shown is runs tokens (come_on comes more)

-- where the flag doesn't matter
pub from_goes : {m n : Machine} {text rest : List ℕ} {ts : List StandardToken} (flag : List ℕ → Bool) (kept cs : List ℕ) → Goes m text ts n rest → ts ≡ map AChar cs → Comes flag kept m text (kept ++ cs) n rest
from_goes flag kept cs stays e = kept_as (kept ++ cs) (sym (append-nil kept) ∙ ap (λ ds. kept ++ ds) (sym (nothing_shown cs e)))
from_goes {m} {n} {text} {rest} {ts} flag kept cs (steps {tokens = later} s is runs goes) e =
    let parts : Parts s.tokens later cs = parts_of s.tokens later cs e in
    let same : (kept ++ parts.first) ++ parts.second ≡ kept ++ cs = append_assoc kept parts.first parts.second ∙ ap (λ ds. kept ++ ds) (sym parts.all) in
    next s parts.first (is (flag kept)) runs parts.front
    (subst (λ all. Comes flag (kept ++ parts.first) s.machine s.rest all n rest) same (from_goes flag (kept ++ parts.first) parts.second goes parts.back))

-- characters are emitted before
pub finish_behind : {flag : List ℕ → Bool} {kept mid : List ℕ} {m n : Machine} {text left : List ℕ} (all : List ℕ) (k : Machine) (rest : List ℕ) (tokens : List StandardToken) → Comes flag kept m text mid n left →
    Finishes flag mid n left all tokens k rest → Finishes flag kept m text all tokens k rest
finish_behind all k rest [] comes last = come_on comes last
finish_behind all k rest (token ∷ tokens) comes last = record {
  before = last.before;
  left = last.left;
  comes = come_on comes last.comes;
  runs = last.runs;
  tokens = last.tokens;
  machine = last.machine;
  rest_is = last.rest_is;
  leads = last.leads;
}

-- ---- the step at which the flag is asked

-- where that may be, and no characters have to be told, none are kept
pub none_kept : (t : Tokenizer) (kept : List ℕ) → may_begin_cdata t.state ≡ true → wants_characters_of t ≡ false → text_of t ≡ encode_utf8_all kept → kept ≡ []
none_kept t kept begun wants spelled =
    encodes_same kept [] (sym spelled ∙ nil_from_length (text_of t) (eqb-true (length (text_of t)) 0 (is_empty (may_begin_cdata t.state) (length (text_of t) == 0) begun wants)))
  where
    is_empty : (begins empty : Bool) → begins ≡ true → (begins && not empty) ≡ false → empty ≡ true
    is_empty true true e f = refl
    is_empty true false e f = absurd (true≢false f)
    is_empty false empty e f = absurd (true≢false (sym e))

pub asked : {m : Machine} {text rest : List ℕ} (flag : List ℕ → Bool) (foreign : Bool) (kept : List ℕ) (new : Tokenizer) → kept ≡ [] → flag [] ≡ foreign → (at : StepsAsked foreign new m text rest) →
    Comes flag kept m text kept (step foreign m text).machine rest
asked {m} {text} {rest} flag foreign kept new none is at =
    let s : Step = step foreign m text in
    next s [] (ap (λ x. step x m text) (ap flag none ∙ is)) at.runs at.tokens
    (subst (λ k. Comes flag k s.machine s.rest kept s.machine rest) (sym (append-nil kept)) (subst (λ r. Comes flag kept s.machine s.rest kept s.machine r) at.rest_is here))
