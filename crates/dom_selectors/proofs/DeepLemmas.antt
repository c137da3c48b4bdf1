-- The colons, parentheses and large numbers of a part are the whole text's.
use Rattle.std.proofs.Common.{◌≡◌, ℕ, ◌+◌, ◌≤◌, List, ◌∷◌, Bool, true, false, ◌||◌, cond, ap, arith}
use Rattle.dom_selectors.specs.declared.fault.SelectorFault.{SelectorFault}
use Rattle.dom_nodes.specs.Ascii.{colon, left_parenthesis}
use Rattle.dom_selectors.specs.declared.fault.SelectorFault.TheVariants.{Syntax, UnknownPseudoClass, Number, NestedHas, TooDeep, Memory}
use Rattle.dom_selectors.specs.declared.syntax.Combinator.{Combinator}
use Rattle.dom_selectors.specs.declared.syntax.ParseContext.{ParseContext}
use Rattle.dom_selectors.specs.declared.syntax.Part.{Part}
use Rattle.dom_selectors.specs.Spelling.{Many, Refuses, large_stands}
use Rattle.dom_selectors.specs.Characters.{after_white, how_many, how_many_large}
use Rattle.dom_selectors.specs.Syntax.{CompoundSelector, Steps}
use Rattle.dom_selectors.specs.ListsAsTrees.{Item}
use Rattle.dom_selectors.specs.Grammar.{Opens, SpellsLead, inner_context, stands_behind, stands_for, SpellsType, SpellsItem, SpellsCompound, SpellsCombinator, SpellsStep, SpellsSelector, SpellsLater, SpellsInner}
use Rattle.dom_selectors.proofs.FaultLemmas.{refuses_more}
use Rattle.dom_selectors.proofs.KeepLemmas.{Grows, large_grows, lead_keeps, opens_keeps, many_grows, many_keeps, white_keeps, type_keeps, combinator_keeps, item_keeps, compound_keeps, step_keeps, selector_keeps, later_keeps, inner_keeps}

-- whatever is counted in a part is no more than in the text
pub record IsWithin (part text : List ℕ) : Type 0 where
  pub colons : how_many colon part ≤ how_many colon text
  pub opens : how_many left_parenthesis part ≤ how_many left_parenthesis text
  pub large : how_many_large part ≤ how_many_large text

pub within : (part text : List ℕ) → ((m : List ℕ → ℕ) → Grows m → m part ≤ m text) → IsWithin part text
within part text h =
    record { colons = h (how_many colon) (many_grows colon); opens = h (how_many left_parenthesis) (many_grows left_parenthesis); large = h how_many_large large_grows }

-- what stands in a part where a fault is by_test stands in the text
pub stands_within : (context : ParseContext) (part text : List ℕ) → IsWithin part text → (f : SelectorFault) → stands_for context part f → stands_for context text f
stands_within context part text w UnknownPseudoClass k = let le = w.colons in omega arith
stands_within context part text w Number k = let le = w.large in omega arith
stands_within context part text w NestedHas k = let le = w.colons in omega arith
stands_within context part text w TooDeep k = let le = w.opens in omega arith
stands_within context part text w Syntax k = tt
stands_within context part text w Memory k = tt

pub behind_within : (context : ParseContext) (part text : List ℕ) → IsWithin part text → (f : SelectorFault) → stands_behind context part f → stands_behind context text f
behind_within context part text w UnknownPseudoClass k = tt
behind_within context part text w Number k = let le = w.large in omega arith
behind_within context part text w NestedHas k = let le = w.colons in omega arith
behind_within context part text w TooDeep k = let le = w.opens in omega arith
behind_within context part text w Syntax k = tt
behind_within context part text w Memory k = tt

one_colon_more : (b : Bool) (n : ℕ) → cond b 0 1 ≤ n → cond b 1 2 ≤ 1 + n
one_colon_more true n le = omega arith
one_colon_more false n le = omega arith

-- behind the colon there is one less
pub colon_stands : (context : ParseContext) (text more : List ℕ) → text ≡ colon ∷ more → (f : SelectorFault) → stands_behind context more f → stands_for context text f
colon_stands context text more e UnknownPseudoClass k = let one : how_many colon text ≡ 1 + how_many colon more = ap (how_many colon) e in omega arith
colon_stands context text more e Number k = let a = large_grows colon more in let is = ap how_many_large e in omega arith
colon_stands context text more e NestedHas k =
    let one : how_many colon text ≡ 1 + how_many colon more = ap (how_many colon) e in let le = one_colon_more context.in_has (how_many colon more) k in omega arith
colon_stands context text more e TooDeep k =
    let a = many_grows left_parenthesis colon more in let is = ap (how_many left_parenthesis) e in omega arith
colon_stands context text more e Syntax k = tt
colon_stands context text more e Memory k = tt

has_more : (b c : Bool) (n : ℕ) → cond (b || c) 1 2 ≤ n → cond b 0 1 ≤ n
has_more true c n le = omega arith
has_more false true n le = le
has_more false false n le = omega arith

pub within_opened : (depth : ℕ) (text inside : List ℕ) → Opens depth text inside → IsWithin inside text
within_opened depth text inside opens = within inside text (λ m grows. opens_keeps m grows depth text inside opens)

-- behind the parenthesis that opens there is one less
pub deep_inside : (context : ParseContext) (relative : Bool) (text inside : List ℕ) → Opens context.depth text inside →
    (f : SelectorFault) → stands_for (inner_context context relative) inside f → stands_behind context text f
deep_inside context relative text inside opens UnknownPseudoClass k = tt
deep_inside context relative text inside opens Number k = let le = (within_opened context.depth text inside opens).large in omega arith
deep_inside context relative text inside opens NestedHas k =
    let le = (within_opened context.depth text inside opens).colons in let more = has_more context.in_has relative (how_many colon inside) k in omega arith
deep_inside context relative text inside opens TooDeep k =
    let white = white_keeps (how_many left_parenthesis) (many_grows left_parenthesis) opens.inside in
    let skipped = ap (how_many left_parenthesis) opens.skipped in
    let deep = opens.deep in
    let one : how_many left_parenthesis text ≡ 1 + how_many left_parenthesis opens.inside = ap (how_many left_parenthesis) opens.opens in
    omega arith
deep_inside context relative text inside opens Syntax k = tt
deep_inside context relative text inside opens Memory k = tt

pub large_inside : (context : ParseContext) (text inside : List ℕ) → Opens context.depth text inside → (f : SelectorFault) → large_stands inside f → stands_behind context text f
large_inside context text inside opens Number k = let le = (within_opened context.depth text inside opens).large in omega arith
large_inside context text inside opens UnknownPseudoClass k = absurd k
large_inside context text inside opens NestedHas k = absurd k
large_inside context text inside opens TooDeep k = absurd k
large_inside context text inside opens Syntax k = tt
large_inside context text inside opens Memory k = tt

-- a fault in a part is a fault in the text
pub refused_within : (context : ParseContext) (e : SelectorFault) (part text : List ℕ) (P Q : Type 0) → IsWithin part text → (P → Q) → Refuses (stands_for context part) e P → Refuses (stands_for context text) e Q
refused_within context e part text P Q inside h t = refuses_more e _ _ P Q (stands_within context part text inside) h t

pub within_white : (text : List ℕ) → IsWithin (after_white text) text
within_white text = within (after_white text) text (λ m grows. white_keeps m grows text)

module _ (context : ParseContext) where
  pub within_compound : (text after mid : List ℕ) (front : List Part) (items : List Item) → SpellsType front text after → Many (SpellsItem context (SpellsInner context)) items after mid → IsWithin mid text
  within_compound text after mid front items first each = within mid text
      (λ m grows. let a = type_keeps m grows front text after first in let b = many_keeps m grows (SpellsItem context (SpellsInner context)) (item_keeps m grows context (SpellsInner context) (inner_keeps m grows context)) items after mid each in omega arith)

  pub within_selector : (text begin after mid : List ℕ) (lead : Combinator) (first : CompoundSelector) (steps : List (Combinator × CompoundSelector)) → SpellsLead context.is_relative lead text begin → SpellsCompound context (SpellsInner context) first begin after →
      Many (SpellsStep context (SpellsInner context)) steps after mid → IsWithin mid text
  within_selector text begin after mid lead first steps led h each = within mid text
      (λ m grows. let l = lead_keeps m grows context.is_relative lead text begin led in
      let a = compound_keeps m grows context (SpellsInner context) (inner_keeps m grows context) first begin after h in
      let b = many_keeps m grows (SpellsStep context (SpellsInner context)) (step_keeps m grows context (SpellsInner context) (inner_keeps m grows context)) steps after mid each in omega arith)

  pub within_list : (text after mid : List ℕ) (one : Combinator × CompoundSelector × Steps) (more : List (Combinator × CompoundSelector × Steps)) → SpellsSelector context (SpellsInner context) one text after →
      Many (SpellsLater context (SpellsInner context)) more after mid → IsWithin mid text
  within_list text after mid one more h each = within mid text
      (λ m grows. let a = selector_keeps m grows context (SpellsInner context) (inner_keeps m grows context) one text after h in
      let b = many_keeps m grows (SpellsLater context (SpellsInner context)) (later_keeps m grows context (SpellsInner context) (inner_keeps m grows context)) more after mid each in omega arith)

pub within_step : (text mid : List ℕ) (k : Combinator) → SpellsCombinator k (after_white text) mid → IsWithin mid text
within_step text mid k h = within mid text (λ m grows. let a = white_keeps m grows text in let b = combinator_keeps m grows k (after_white text) mid h in omega arith)

pub within_later : (text rest : List ℕ) (c : ℕ) → after_white text ≡ c ∷ rest → IsWithin (after_white rest) text
within_later text rest c e = within (after_white rest) text
    (λ m grows. let a = white_keeps m grows text in let b = ap m e in let d = grows c rest in let f = white_keeps m grows rest in omega arith)

pub within_lead : (relative : Bool) (text begin : List ℕ) (lead : Combinator) → SpellsLead relative lead text begin → IsWithin begin text
within_lead relative text begin lead h = within begin text (λ m grows. lead_keeps m grows relative lead text begin h)
