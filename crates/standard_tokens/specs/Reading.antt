-- How pages are read: the tokenizer's steps, with the answers of tree construction between them.
use Rattle.std.specs.Prelude.{◌≡◌, ℕ, zero, suc, Bool, true, false, List, [], ◌∷◌, ◌++◌, Option, None, Some, bytes_eq, codes, if◌then◌else◌}
use Rattle.std.specs.List.{list_any}
use Rattle.standard_tokens.specs.Machine.{Machine, Step, at_state, normalized, start_in, step}
use Rattle.standard_tokens.specs.States.{State, Data, RCDATA, RAWTEXT, ScriptData, PLAINTEXT}
use Rattle.standard_tokens.specs.Tokens.{Token, AChar, AComment, ADoctype, AStart, AnEnd, AnEof}

-- what tree construction answers to the tokens so far: the state to which it switches the tokenizer behind the last of them, and whether
-- its adjusted current node is an element outside the HTML namespace
pub record Feedback : Type 0 where
  pub switch : List Token → Option State
  pub in_foreign : List Token → Bool

-- the names of the start tags behind which it may switch (13.2.6.4: those that have "switch the tokenizer to")
abbrev pub switching_names : List (List ℕ)
switching_names = codes "title" ∷ codes "textarea" ∷ codes "style" ∷ codes "xmp" ∷ codes "iframe" ∷ codes "noembed" ∷ codes "noframes"
    ∷ codes "script" ∷ codes "noscript" ∷ codes "plaintext" ∷ []

abbrev pub is_switching : List ℕ → Bool
is_switching name = list_any (bytes_eq name) switching_names

abbrev pub may_switch : Token → Bool
may_switch (AStart name attrs self_closing) = is_switching name
may_switch (AnEnd name) = false
may_switch (AChar c) = false
may_switch (AComment text) = false
may_switch (ADoctype doctype) = false
may_switch AnEof = false

-- it switches behind those alone
abbrev pub IsFeedback : Feedback → Type 0
IsFeedback f = (seen : List Token) (token : Token) → may_switch token ≡ false → f.switch (seen ++ token ∷ []) ≡ None

-- where a page is read: the machine, the text that is left, the tokens so far
pub record Reader : Type 0 where
  pub machine : Machine
  pub text : List ℕ
  pub seen : List Token

abbrev pub reader : Machine → List ℕ → List Token → Reader
reader machine text seen = record { machine = machine; text = text; seen = seen }

abbrev pub switched : Option State → Machine → Machine
switched None m = m
switched (Some state) m = at_state m state

-- with the answer to new tokens, if there are some
abbrev pub answered : Feedback → List Token → List Token → Machine → Machine
answered f seen [] m = m
answered f seen (token ∷ tokens) m = switched (f.switch (seen ++ token ∷ tokens)) m

abbrev pub step_at : Feedback → Reader → Step
step_at f r = step (f.in_foreign r.seen) r.machine r.text

abbrev pub after : Feedback → Reader → Step → Reader
after f r s = reader (answered f r.seen s.tokens s.machine) s.rest (r.seen ++ s.tokens)

-- reading goes on from one place to another
pub data Reads (f : Feedback) : Reader → Reader → Type 0 where
  here : {r : Reader} → Reads f r r
  next : {r q : Reader} → (s : Step) → step_at f r ≡ s → s.stopped ≡ false → Reads f (after f r s) q → Reads f r q

-- these are the tokens of a text, which is read from this state on
pub record ReadsText (f : Feedback) (first : State) (text : List ℕ) (tokens : List Token) : Type 0 where
  pub last : Reader
  pub reads : Reads f (reader (start_in first) (normalized text) []) last
  pub stops : (step_at f last).stopped ≡ true
  pub all : tokens ≡ last.seen ++ (step_at f last).tokens

-- these are the tokens of a page
abbrev pub ReadsPage : Feedback → List ℕ → List Token → Type 0
ReadsPage f page tokens = ReadsText f Data page tokens

-- the same as a function, for examples: the tokens where reading ends in at most so many steps
unfoldable pub run : Feedback → ℕ → Reader → Option (List Token)
unfolding step
run f zero r = None
run f (suc steps) r =
    let s : Step = step_at f r in
    elim s.stopped [ true ↦ Some (r.seen ++ s.tokens) | false ↦ run f steps (after f r s) ]

-- ---- tree construction's answers in HTML content

-- the state to which it switches behind such a start tag, with scripting disabled
abbrev pub switch_at : List ℕ → Option State
switch_at name = first_of ((codes "title", RCDATA) ∷ (codes "textarea", RCDATA) ∷ (codes "style", RAWTEXT) ∷ (codes "xmp", RAWTEXT)
    ∷ (codes "iframe", RAWTEXT) ∷ (codes "noembed", RAWTEXT) ∷ (codes "noframes", RAWTEXT) ∷ (codes "script", ScriptData)
    ∷ (codes "plaintext", PLAINTEXT) ∷ []) name
  where
    first_of : List (List ℕ × State) → List ℕ → Option State
    first_of [] name = None
    first_of (entry ∷ others) name = if bytes_eq entry.0 name then Some entry.1 else first_of others name

abbrev pub switch_behind : List Token → Option State
switch_behind [] = None
switch_behind (AStart name attrs self_closing ∷ []) = switch_at name
switch_behind (token ∷ []) = None
switch_behind (token ∷ other ∷ tokens) = switch_behind (other ∷ tokens)

-- the answers where every element is an HTML element, or every one is none
abbrev pub plain_feedback : Bool → Feedback
plain_feedback foreign = record { switch = switch_behind; in_foreign = λ seen. foreign }
