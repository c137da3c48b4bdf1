-- What follows a spelling is no longer than the text, and no character stands in it more often.
use Rattle.std.proofs.Common.{ℕ, zero, suc, ◌+◌, ◌≤◌, List, [], ◌∷◌, length, drop, Bool, true, false, ◌&&◌, ◌||◌, cond, nat_eq, nat_lt, ap, arith, ◌≡◌, Option, None, Some, MatchOption}
use Rattle.std.specs.Char.{is_ascii_whitespace}
use Rattle.std.specs.List.{prefix_len}
use Rattle.dom_nodes.specs.Ascii.{left_parenthesis, right_parenthesis}
use Rattle.dom_nodes.specs.declared.indexes.Signed.{Signed}
use Rattle.dom_selectors.specs.declared.syntax.Combinator.{Combinator}
use Rattle.dom_selectors.specs.declared.syntax.Combinator.TheVariants.{Descendant}
use Rattle.dom_selectors.specs.declared.syntax.Pseudo.{Pseudo}
use Rattle.dom_selectors.specs.declared.syntax.ParseContext.{ParseContext}
use Rattle.dom_selectors.specs.Nth.{SpellsNumber, SpellsOffset, SpellsAfterNumber, SpellsUnsigned, SpellsNth, after_sign, begins_even, begins_odd, is_n, is_sign}
use Rattle.dom_selectors.specs.Pseudos.{is_relative}
use Rattle.dom_selectors.specs.Spelling.{Many}
use Rattle.dom_selectors.specs.Characters.{after_white, begins, digits_len, greatest_number, how_many, how_many_large, is_line_end, is_name_char, number_at}
use Rattle.dom_selectors.specs.Names.{SpellsEscape, SpellsNameChar, SpellsName, after_space, hex_len, is_hex, starts_name}
use Rattle.dom_selectors.specs.Strings.{SpellsStringEscape, SpellsPiece, SpellsString, after_line_end, is_quote}
use Rattle.dom_selectors.specs.Attributes.{SpellsOperator, SpellsValue, SpellsCase, SpellsComparison, SpellsAsked, SpellsAttribute}
use Rattle.dom_selectors.specs.Syntax.{SelectorList}
use Rattle.dom_selectors.specs.Grammar.{Opens, SpellsEnclosed, SpellsLead, SpellsWithin, combinator_of, SpellsForm, SpellsPseudo, SpellsItem, is_star, SpellsType, SpellsCompound, is_combinator, SpellsCombinator, SpellsStep, SpellsSelector, SpellsLater, SpellsList, SpellsInner}
use Rattle.dom_selectors.proofs.NameLemmas.{by_test}

-- a number that a character at the front never makes less
abbrev pub Grows : (List ℕ → ℕ) → Type 0
Grows m = (c : ℕ) (text : List ℕ) → m text ≤ m (c ∷ text)

pub length_grows : Grows length
length_grows c text = omega arith

pub many_grows : (c : ℕ) → Grows (how_many c)
many_grows c d text = by (nat_eq d c)
  where
    by : (b : Bool) → how_many c text ≤ cond b 1 0 + how_many c text
    by true = omega arith
    by false = omega arith

pub large_grows : Grows how_many_large
large_grows d text = by (nat_lt greatest_number (number_at (d ∷ text)))
  where
    by : (b : Bool) → how_many_large text ≤ cond b 1 0 + how_many_large text
    by true = omega arith
    by false = omega arith

module _ (m : List ℕ → ℕ) (grows : Grows m) where
  abbrev pub Keeps : {A : Type 0} → (A → List ℕ → List ℕ → Type 0) → Type 0
  Keeps {A} S = (v : A) (text r : List ℕ) → S v text r → m r ≤ m text

  pub many_keeps : {A : Type 0} (S : A → List ℕ → List ℕ → Type 0) → Keeps S → Keeps (Many S)
  many_keeps S keeps [] text r h = let is = ap m h in omega arith
  many_keeps S keeps (v ∷ vs) text r h = let first = keeps v text h.0 h.1 in let later = many_keeps S keeps vs h.0 r h.2 in omega arith

  pub drop_keeps : (n : ℕ) (text : List ℕ) → m (drop n text) ≤ m text
  drop_keeps zero text = omega arith
  drop_keeps (suc n) [] = omega arith
  drop_keeps (suc n) (c ∷ text) = let more = grows c text in let later = drop_keeps n text in omega arith

  pub white_keeps : (text : List ℕ) → m (after_white text) ≤ m text
  white_keeps text = drop_keeps (prefix_len is_ascii_whitespace text) text

  space_keeps : (text : List ℕ) → m (after_space text) ≤ m text
  space_keeps [] = omega arith
  space_keeps (c ∷ []) = by (is_ascii_whitespace c)
    where
      by : (b : Bool) → m (cond b [] (c ∷ [])) ≤ m (c ∷ [])
      by true = grows c []
      by false = omega arith
  space_keeps (c ∷ d ∷ text) = by (nat_eq c 13 && nat_eq d 10) (is_ascii_whitespace c)
    where
      one : m (d ∷ text) ≤ m (c ∷ d ∷ text)
      one = grows c (d ∷ text)

      two : m text ≤ m (d ∷ text)
      two = grows d text

      by : (a b : Bool) → m (cond a text (cond b (d ∷ text) (c ∷ d ∷ text))) ≤ m (c ∷ d ∷ text)
      by true b = omega (arith, one, two)
      by false true = omega (arith, one)
      by false false = omega arith

  escape_keeps : Keeps SpellsEscape
  escape_keeps v [] r h = absurd h
  escape_keeps v (c ∷ more) r h =
      by_test (is_hex c) _ _ _
      (λ _ p. let is = ap m p.1 in let space = space_keeps (drop (hex_len (c ∷ more)) (c ∷ more)) in let long = drop_keeps (hex_len (c ∷ more)) (c ∷ more) in omega arith)
      (λ _ p. let is = ap m p.2 in let more = grows c more in omega arith)
      h

  name_char_keeps : Keeps SpellsNameChar
  name_char_keeps v [] r h = absurd h
  name_char_keeps v (c ∷ more) r h =
      let front = grows c more in
      by_test (is_name_char c) _ _ _ (λ _ p. let is = ap m p.1 in omega arith) (λ _ p. let less = escape_keeps v more r p.1 in omega arith) h

  pub name_keeps : Keeps SpellsName
  name_keeps v text r h = many_keeps SpellsNameChar name_char_keeps h.name text r h.run.each

  line_end_keeps : (text : List ℕ) → m (after_line_end text) ≤ m text
  line_end_keeps [] = omega arith
  line_end_keeps (c ∷ []) = grows c []
  line_end_keeps (c ∷ d ∷ text) = by (nat_eq c 13 && nat_eq d 10)
    where
      one : m (d ∷ text) ≤ m (c ∷ d ∷ text)
      one = grows c (d ∷ text)

      two : m text ≤ m (d ∷ text)
      two = grows d text

      by : (b : Bool) → m (cond b text (d ∷ text)) ≤ m (c ∷ d ∷ text)
      by true = omega (arith, one, two)
      by false = one

  string_escape_keeps : Keeps SpellsStringEscape
  string_escape_keeps v text r h =
      by_test (begins is_line_end text) _ _ _ (λ _ p. let is = ap m p.1 in let le = line_end_keeps text in omega arith)
      (λ _ p. let le = escape_keeps p.0 text r p.1 in omega arith) h

  piece_keeps : (quote : ℕ) → Keeps (SpellsPiece quote)
  piece_keeps quote v [] r h = absurd h
  piece_keeps quote v (c ∷ more) r h =
      let front = grows c more in
      by_test (nat_eq c 92) _ _ _ (λ _ p. let le = string_escape_keeps v more r p in omega arith) (λ _ p. let is = ap m p.2 in omega arith) h.1

  string_keeps : Keeps SpellsString
  string_keeps v text r h =
      let inside = many_keeps (SpellsPiece h.quote) (piece_keeps h.quote) h.pieces h.inside (h.quote ∷ r) h.run.each in
      let opens = ap m h.opens in
      let front = grows h.quote h.inside in
      let back = grows h.quote r in
      omega arith

  operator_keeps : Keeps SpellsOperator
  operator_keeps v [] r h = absurd h
  operator_keeps v (c ∷ more) r h =
      let front = grows c more in
      by_test (nat_eq c 61) _ _ _ (λ _ p. let is = ap m p.1 in omega arith) (λ _ p. let is = ap m p.1 in let sign = grows 61 r in omega arith) h

  value_keeps : Keeps SpellsValue
  value_keeps v text r h = by_test (begins is_quote text) _ _ _ (λ _ p. string_keeps v text r p) (λ _ p. name_keeps v text r p) h

  case_keeps : Keeps SpellsCase
  case_keeps v text r h =
      let close = grows 93 r in
      by_test (begins (λ c. nat_eq c 93) text) _ _ _ (λ _ p. let is = ap m p.1 in omega arith)
      (λ _ p. let name = name_keeps p.name text p.after p.named in let white = white_keeps p.after in let is = ap m p.closes in omega arith) h

  comparison_keeps : Keeps SpellsComparison
  comparison_keeps v text r h =
      let a = operator_keeps v.operator text h.after_operator h.operator in
      let b = white_keeps h.after_operator in
      let d = value_keeps v.value (after_white h.after_operator) h.after_value h.value in
      let e = white_keeps h.after_value in
      let f = case_keeps v.case_sensitivity (after_white h.after_value) r h.case_sensitivity in
      omega arith

  asked_keeps : Keeps SpellsAsked
  asked_keeps v text r h =
      let close = grows 93 r in
      by_test (begins (λ c. nat_eq c 93) text) _ _ _ (λ _ p. let is = ap m p.1 in omega arith) (λ _ p. comparison_keeps p.0 text r p.1) h

  attribute_keeps : Keeps SpellsAttribute
  attribute_keeps v text r h =
      let a = white_keeps text in
      let b = name_keeps v.name (after_white text) h.after_name h.name in
      let d = white_keeps h.after_name in
      let e = asked_keeps v.comparison (after_white h.after_name) r h.asked in
      omega arith

  pub type_keeps : Keeps SpellsType
  type_keeps v text r h =
      by_test (begins is_star text) _ _ _ (λ _ p. let is = ap m p.1 in let le = drop_keeps 1 text in omega arith)
      (λ _ p. by_test (starts_name text) _ _ _ (λ _ x. name_keeps x.0 text r x.1) (λ _ x. let is = ap m x.1 in omega arith) p) h

  pub combinator_keeps : Keeps SpellsCombinator
  combinator_keeps v [] r h = absurd h
  combinator_keeps v (c ∷ more) r h =
      let front = grows c more in
      by_test (is_combinator c) _ _ _ (λ _ p. let is = ap m p.1 in let le = white_keeps more in omega arith) (λ _ p. let is = ap m p.1 in omega arith) h

  pub number_keeps : Keeps SpellsNumber
  number_keeps v text r h = let is = ap m h.rest_is in let le = drop_keeps (digits_len text) text in omega arith

  offset_keeps : Keeps SpellsOffset
  offset_keeps v text r h =
      let a = white_keeps text in
      let b = drop_keeps 1 (after_white text) in
      let d = white_keeps (drop 1 (after_white text)) in
      by_test (begins is_sign (after_white text)) _ _ _ (λ _ p. let e = number_keeps p.0 _ r p.1 in omega arith) (λ _ p. let is = ap m p.1 in omega arith) h

  after_number_keeps : (number : Signed) → Keeps (SpellsAfterNumber number)
  after_number_keeps number v text r h =
      let a = drop_keeps 1 text in
      by_test (begins is_n text) _ _ _ (λ _ p. let b = offset_keeps v.b (drop 1 text) r p.1 in omega arith) (λ _ p. let is = ap m p.2 in omega arith) h

  unsigned_keeps : (is_negative : Bool) → Keeps (SpellsUnsigned is_negative)
  unsigned_keeps is_negative v text r h =
      by_test (begins is_n text) _ _ _ (λ _ p. after_number_keeps _ v text r p)
      (λ _ p. let a = number_keeps p.0 text p.1 p.2 in let b = after_number_keeps _ v p.1 r p.3 in omega arith) h

  pub after_sign_keeps : (text : List ℕ) → m (after_sign text) ≤ m text
  after_sign_keeps text = by (begins is_sign text)
    where
      less : m (drop 1 text) ≤ m text
      less = drop_keeps 1 text

      by : (b : Bool) → m (cond b (drop 1 text) text) ≤ m text
      by true = less
      by false = omega arith

  pub nth_keeps : Keeps SpellsNth
  nth_keeps v text r h =
      by_test (begins_even text) _ _ _ (λ _ p. let is = ap m p.1 in let le = drop_keeps 4 text in omega arith)
      (λ _ p. by_test (begins_odd text) _ _ _ (λ _ x. let is = ap m x.1 in let le = drop_keeps 3 text in omega arith)
      (λ _ x. let a = after_sign_keeps text in let b = unsigned_keeps _ v (after_sign text) r x in omega arith) p) h

  pub opens_keeps : (depth : ℕ) (text r : List ℕ) → Opens depth text r → m r ≤ m text
  opens_keeps depth text r h =
      let a = ap m h.opens in
      let b = grows left_parenthesis h.inside in
      let d = white_keeps h.inside in
      let e = ap m h.skipped in
      omega arith

  enclosed_keeps : (depth : ℕ) {A : Type 0} (S : A → List ℕ → List ℕ → Type 0) → Keeps S → Keeps (SpellsEnclosed depth S)
  enclosed_keeps depth {A} S keeps v text r h =
      let a = opens_keeps depth text h.inside h.opens in
      let b = keeps v h.inside h.after h.value in
      let d = white_keeps h.after in
      let e = ap m h.closes in
      let f = grows right_parenthesis r in
      omega arith

  led_keeps : (o : Option Combinator) (v : Combinator) (text end r : List ℕ) → m end ≤ m text → MatchOption o ((v ≡ Descendant) × (r ≡ text)) (λ k. (v ≡ k) × (r ≡ end)) → m r ≤ m text
  led_keeps None v text end r le h = let is = ap m h.1 in omega arith
  led_keeps (Some c) v text end r le h = let is = ap m h.1 in omega arith

  pub lead_keeps : (relative : Bool) → Keeps (SpellsLead relative)
  lead_keeps false v text r h = let is = ap m h.1 in omega arith
  lead_keeps true v [] r h = let is = ap m h.1 in omega arith
  lead_keeps true v (c ∷ more) r h =
      let a = white_keeps more in
      let b = grows c more in
      let le : m (after_white more) ≤ m (c ∷ more) = omega arith in
      led_keeps (combinator_of c) v (c ∷ more) (after_white more) r le h

  module _ (context : ParseContext) (Inner : Bool → SelectorList → List ℕ → List ℕ → Type 0) (inner_keeps : (relative : Bool) → Keeps (Inner relative)) where
    form_keeps : (pseudo : Pseudo) → Keeps (SpellsForm context Inner pseudo)
    form_keeps (Pseudo.Plain bare) v text r h = let is = ap m h.2 in omega arith
    form_keeps (Pseudo.Listed q) v text r h = enclosed_keeps context.depth (Inner (is_relative q)) (inner_keeps (is_relative q)) h.1 text r h.2
    form_keeps (Pseudo.Nth kind) v text r h = enclosed_keeps context.depth SpellsNth nth_keeps h.0 text r h.1
    form_keeps (Pseudo.Text test) v text r h = enclosed_keeps context.depth SpellsString string_keeps h.0 text r h.1

    pseudo_keeps : Keeps (SpellsPseudo context Inner)
    pseudo_keeps v text r h =
        let a = name_keeps h.name text h.after h.named in
        let b = form_keeps h.pseudo v h.after r h.form in
        omega arith

    -- what follows an item is a part of what follows its first character
    pub item_rest : (v : _) (c : ℕ) (more r : List ℕ) → SpellsItem context Inner v (c ∷ more) r → m r ≤ m more
    item_rest v c more r h =
        by_test (nat_eq c 35) _ _ (m r ≤ m more) (λ _ p. name_keeps p.0 more r p.1)
        (λ _ p. by_test (nat_eq c 46) _ _ (m r ≤ m more) (λ _ p. name_keeps p.0 more r p.1)
        (λ _ p. by_test (nat_eq c 91) _ _ (m r ≤ m more) (λ _ p. attribute_keeps p.0 more r p.1) (λ _ p. pseudo_keeps v more r p.1) p) p) h

    pub item_keeps : Keeps (SpellsItem context Inner)
    item_keeps v [] r h = absurd h
    item_keeps v (c ∷ more) r h = let front = grows c more in let le = item_rest v c more r h in omega arith

    pub compound_keeps : Keeps (SpellsCompound context Inner)
    compound_keeps v text r h =
        let a = type_keeps h.front text h.after h.first in
        let b = many_keeps (SpellsItem context Inner) item_keeps h.items h.after r h.run.each in
        omega arith

    pub step_keeps : Keeps (SpellsStep context Inner)
    step_keeps v text r h =
        let a = white_keeps text in
        let b = combinator_keeps v.0 (after_white text) h.mid h.combinator in
        let d = compound_keeps v.1 h.mid r h.compound in
        omega arith

    pub selector_keeps : Keeps (SpellsSelector context Inner)
    selector_keeps v text r h =
        let l = lead_keeps context.is_relative v.0 text h.begin h.lead in
        let a = compound_keeps v.1 h.begin h.after h.first in
        let b = many_keeps (SpellsStep context Inner) step_keeps h.steps h.after r h.run.each in
        omega arith

    pub later_keeps : Keeps (SpellsLater context Inner)
    later_keeps v text r h =
        let a = white_keeps text in
        let b = drop_keeps 1 (after_white text) in
        let d = white_keeps (drop 1 (after_white text)) in
        let e = selector_keeps v _ r h.selector in
        omega arith

    pub list_keeps : Keeps (SpellsList context Inner)
    list_keeps v text r h =
        let a = selector_keeps h.one text h.after h.first in
        let b = many_keeps (SpellsLater context Inner) later_keeps h.more h.after r h.run.each in
        omega arith

  within_keeps : (depth : ℕ) (in_has relative : Bool) → Keeps (SpellsWithin depth in_has relative)
  unfolding SpellsWithin
  within_keeps zero in_has relative v text r h = absurd h
  within_keeps (suc depth) in_has relative v text r h =
      list_keeps (record { depth = depth; in_has = in_has || relative; is_relative = relative }) (SpellsWithin depth (in_has || relative)) (λ other. within_keeps depth (in_has || relative) other) v text r h

  pub inner_keeps : (context : ParseContext) (relative : Bool) → Keeps (SpellsInner context relative)
  inner_keeps context relative = within_keeps context.depth context.in_has relative
