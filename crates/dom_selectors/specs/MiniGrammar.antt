-- The grammar of mini selectors: as which mini selector the beginning of a text is read, and what is left of it. Texts are UTF-8.
use Rattle.std.specs.Prelude.{◌≡◌, ◌≢◌, ℕ, List, [], ◌∷◌, true, false, nat_eq, drop, Option, Some, None, Result, MatchBool, MatchOption, MatchResult}
use Rattle.std.specs.Borrow.{Bor}
use Rattle.std.specs.List.{take_while}
use Rattle.dom_nodes.specs.Ascii.{dot, left_bracket, number_sign, right_bracket}
use Rattle.dom_selectors.specs.declared.mini_selector.fault.MiniFault.{MiniFault}
use Rattle.dom_selectors.specs.declared.mini_selector.fault.MiniFault.TheVariants.{NoSelector, BadQuotedValue, Memory}
use Rattle.dom_selectors.specs.declared.syntax.Combinator.{Combinator}
use Rattle.dom_selectors.specs.declared.syntax.AttrOperator.{AttrOperator}
use Rattle.dom_selectors.specs.Attributes.{SpellsOperator}
use Rattle.dom_selectors.specs.Grammar as grammar
use Rattle.dom_selectors.specs.Characters.{begins}
use Rattle.dom_selectors.specs.MiniLetters.{after_blanks, after_while, is_word, isnt}
use Rattle.dom_selectors.specs.MiniSyntax.{Asked, Mini, has_part}
use Rattle.dom_selectors.specs.Spelling.{Many, SpellsNone}
use Rattle.dom_selectors.specs.Strings.{is_quote}

-- an optional part, which is read if it is there
abbrev pub Maybe : {A : Type 0} → (A → List ℕ → List ℕ → Type 0) → Option A → List ℕ → List ℕ → Type 0
Maybe Spells None text rest = SpellsNone Spells text × (rest ≡ text)
Maybe Spells (Some v) text rest = Spells v text rest

-- as many parts as can be read, which no malformed part follows
pub record AsMany {A : Type 0} (Spells : A → List ℕ → List ℕ → Type 0) (IsBad : List ℕ → Type 0) (values : List A) (text rest : List ℕ) : Type 0 where
  pub each : Many Spells values text rest
  pub ends : SpellsNone Spells rest
  pub sound : IsBad rest → ⊥

-- a malformed part follows the parts that can be read
pub record MeetsBad {A : Type 0} (Spells : A → List ℕ → List ℕ → Type 0) (IsBad : List ℕ → Type 0) (text : List ℕ) : Type 0 where
  pub read : List A
  pub at : List ℕ
  pub each : Many Spells read text at
  pub bad : IsBad at

-- a word: ASCII letters, digits and `-`, at least one, and as many as there are
abbrev pub SpellsWord : List ℕ → List ℕ → List ℕ → Type 0
SpellsWord word text rest = (begins is_word text ≡ true) × (word ≡ take_while is_word text) × (rest ≡ after_while is_word text)

-- a mark such as `#`, and a word
abbrev pub SpellsMarked : ℕ → List ℕ → List ℕ → List ℕ → Type 0
SpellsMarked mark word [] rest = ⊥
SpellsMarked mark word (c ∷ more) rest = (c ≡ mark) × SpellsWord word more rest

abbrev pub SpellsId : List ℕ → List ℕ → List ℕ → Type 0
SpellsId word text rest = SpellsMarked number_sign word text rest

abbrev pub SpellsClass : List ℕ → List ℕ → List ℕ → Type 0
SpellsClass word text rest = SpellsMarked dot word text rest

-- the combinator `>`, `+` or `~` at the start of the text
abbrev pub sign_at : List ℕ → Option Combinator
sign_at [] = None
sign_at (c ∷ more) = grammar.combinator_of c

-- a combinator with optional blanks around it
abbrev pub SpellsLead : Combinator → List ℕ → List ℕ → Type 0
SpellsLead v text rest = (sign_at (after_blanks text) ≡ Some v) × (rest ≡ after_blanks (drop 1 (after_blanks text)))

-- a quoted value: it is not empty, and ends at the next quote of the same kind
abbrev pub SpellsQuoted : List ℕ → List ℕ → List ℕ → Type 0
SpellsQuoted v [] rest = ⊥
SpellsQuoted v (quote ∷ inside) rest =
    (is_quote quote ≡ true) × (v ≢ []) × (v ≡ take_while (isnt quote) inside) × (after_while (isnt quote) inside ≡ quote ∷ rest)

-- a value without quotes: it is not empty, and ends at the next `]`
abbrev pub SpellsBare : List ℕ → List ℕ → List ℕ → Type 0
SpellsBare v text rest = (v ≢ []) × (v ≡ take_while (isnt right_bracket) text) × (rest ≡ after_while (isnt right_bracket) text)

abbrev pub SpellsValue : List ℕ → List ℕ → List ℕ → Type 0
SpellsValue v text rest = MatchBool (begins is_quote text) (SpellsQuoted v text rest) (SpellsBare v text rest)

-- an operator with optional blanks around it, and a value
pub record SpellsTest (v : AttrOperator × List ℕ) (text rest : List ℕ) : Type 0 where
  pub after_operator : List ℕ
  pub operator : SpellsOperator v.0 (after_blanks text) after_operator
  pub value : SpellsValue v.1 (after_blanks after_operator) rest

-- an attribute in brackets, which no second `]` follows directly
pub record SpellsAttr (v : Asked) (text rest : List ℕ) : Type 0 where
  pub inside : List ℕ
  pub opens : text ≡ left_bracket ∷ inside
  pub after_key : List ℕ
  pub key : SpellsWord v.key inside after_key
  pub test : Maybe SpellsTest v.test after_key (right_bracket ∷ rest)
  pub apart : begins (λ c. nat_eq c right_bracket) rest ≡ false

-- a comparison whose value starts with a quote and is no quoted value
pub record IsBadTest (text : List ℕ) : Type 0 where
  pub operator : AttrOperator
  pub after_operator : List ℕ
  pub compares : SpellsOperator operator (after_blanks text) after_operator
  pub quoted : begins is_quote (after_blanks after_operator) ≡ true
  pub bad : SpellsNone SpellsQuoted (after_blanks after_operator)

-- an attribute with such a comparison
pub record IsBadAttr (text : List ℕ) : Type 0 where
  pub inside : List ℕ
  pub opens : text ≡ left_bracket ∷ inside
  pub key : List ℕ
  pub after_key : List ℕ
  pub named : SpellsWord key inside after_key
  pub test : IsBadTest after_key

abbrev pub SpellsClasses : List (List ℕ) → List ℕ → List ℕ → Type 0
SpellsClasses words text rest = AsMany SpellsClass (λ _. ⊥) words text rest

abbrev pub SpellsAttrs : List Asked → List ℕ → List ℕ → Type 0
SpellsAttrs attrs text rest = AsMany SpellsAttr IsBadAttr attrs text rest

-- a malformed attribute follows the attributes that can be read
abbrev pub MeetsBadAttr : List ℕ → Type 0
MeetsBadAttr text = MeetsBad SpellsAttr IsBadAttr text

-- what comes before the attributes
pub record SpellsFront (lead : Option Combinator) (name id : Option (List ℕ)) (classes : List (List ℕ)) (text rest : List ℕ) : Type 0 where
  pub after_lead : List ℕ
  pub leads : Maybe SpellsLead lead text after_lead
  pub after_name : List ℕ
  pub names : Maybe SpellsWord name after_lead after_name
  pub after_id : List ℕ
  pub ids : Maybe SpellsId id after_name after_id
  pub marks : SpellsClasses classes after_id rest

-- a mini selector, which has at least one part
pub record SpellsMini (v : Mini) (text rest : List ℕ) : Type 0 where
  pub after_front : List ℕ
  pub front : SpellsFront v.lead v.name v.id v.classes text after_front
  pub attrs : SpellsAttrs v.attrs after_front rest
  pub some : has_part v ≡ true

-- one of its attributes has a malformed quoted value
pub record IsBadMini (text : List ℕ) : Type 0 where
  pub lead : Option Combinator
  pub name : Option (List ℕ)
  pub id : Option (List ℕ)
  pub classes : List (List ℕ)
  pub after_front : List ℕ
  pub front : SpellsFront lead name id classes text after_front
  pub bad : MeetsBadAttr after_front

-- a mini selector with optional blanks around it
abbrev pub SpellsStep : Mini → List ℕ → List ℕ → Type 0
SpellsStep v text rest = (after : List ℕ) × SpellsMini v (after_blanks text) after × (rest ≡ after_blanks after)

abbrev pub IsBadStep : List ℕ → Type 0
IsBadStep text = IsBadMini (after_blanks text)

-- a sequence of mini selectors, which may be empty
abbrev pub SpellsPath : List Mini → List ℕ → List ℕ → Type 0
SpellsPath minis text rest = AsMany SpellsStep IsBadStep minis text rest

abbrev pub IsBadPath : List ℕ → Type 0
IsBadPath text = MeetsBad SpellsStep IsBadStep text

-- nothing can be read, and there is no malformed value
abbrev pub IsPlainlyNone : {A : Type 0} → (A → List ℕ → List ℕ → Type 0) → (List ℕ → Type 0) → List ℕ → Type 0
IsPlainlyNone Spells IsBad text = SpellsNone Spells text × (IsBad text → ⊥)

-- What a fault says about the text: that it starts with no mini selector, and whether a malformed quoted value is the reason. If
-- the text starts with a mini selector, the only fault is that memory ran out.
abbrev pub RefusesMini : MiniFault → List ℕ → Type 0
RefusesMini NoSelector text = IsPlainlyNone SpellsMini IsBadMini text
RefusesMini BadQuotedValue text = SpellsNone SpellsMini text × IsBadMini text
RefusesMini Memory text = Unit {0}

-- What a fault says if the part is optional: that a value is malformed.
abbrev pub ReportsBad : MiniFault → Type 0 → Type 0
ReportsBad NoSelector bad = ⊥
ReportsBad BadQuotedValue bad = bad
ReportsBad Memory bad = Unit {0}

-- what a fault says about a text that is parsed as a sequence, which may be empty
abbrev pub RefusesPath : MiniFault → List ℕ → Type 0
RefusesPath fault text = ReportsBad fault (SpellsNone SpellsPath text × IsBadPath text)

-- The contract of a call that parses an optional part: the part and what follows it, nothing if it isn't there, or a fault if it
-- is malformed.
abbrev pub TakesMaybe : {T A : Type 0} → Result (Option (T × Bor (List ℕ))) MiniFault → (T → A) → (A → List ℕ → List ℕ → Type 0) → (List ℕ → Type 0) → List ℕ → Type 0
TakesMaybe result read Spells IsBad text =
    MatchResult result (λ found. MatchOption found (IsPlainlyNone Spells IsBad text) (λ p. Spells (read p.0) text p.1.now)) (λ fault. ReportsBad fault (IsBad text))

-- The contract of a call that parses as many parts as it can: the parts and what follows them, or a fault if a malformed part
-- follows.
abbrev pub TakesMany : {T A : Type 0} → Result (T × Bor (List ℕ)) MiniFault → (T → A) → (A → List ℕ → List ℕ → Type 0) → (List ℕ → Type 0) → List ℕ → Type 0
TakesMany result read Spells MeetsBad text = MatchResult result (λ p. Spells (read p.0) text p.1.now) (λ fault. ReportsBad fault (MeetsBad text))

-- The contract of a call that parses the beginning of a text: what it starts with and what is left, or why it starts with
-- nothing.
abbrev pub ParsesFront : {T A : Type 0} → Result (Bor (List ℕ) × T) MiniFault → (T → A) → (A → List ℕ → List ℕ → Type 0) → (MiniFault → List ℕ → Type 0) → List ℕ → Type 0
ParsesFront result read Spells Refuses text = MatchResult result (λ p. Spells (read p.1) text p.0.now) (λ fault. Refuses fault text)

-- the grammar is unambiguous: a text is read in at most one way, and the same rest is left
abbrev pub HasOneReading : {A : Type 0} → (A → List ℕ → List ℕ → Type 0) → Type 0
HasOneReading {A} Spells = (v w : A) (text r s : List ℕ) → Spells v text r → Spells w text s → (v ≡ w) × (r ≡ s)

-- a text with a malformed value is not read as anything
abbrev pub Excludes : {A : Type 0} → (A → List ℕ → List ℕ → Type 0) → (List ℕ → Type 0) → Type 0
Excludes {A} Spells IsBad = (v : A) (text r : List ℕ) → Spells v text r → IsBad text → ⊥
