-- Where a part of a selector is refused the whole is.
use Rattle.std.proofs.Common.{◌≡◌, ◌<◌, ◌||◌, Bool, ℕ, zero, suc, ◌-◌, List, [], ◌∷◌, ◌++◌, true, false, nat_eq, drop, append_assoc, refl, sym, ap, ◌∙◌, subst, true≢false, Some, None, arith}
use Rattle.std.proofs.lemmas.Bool.Decides.{when_true, when_false}
use Rattle.dom_selectors.specs.declared.syntax.Part.{Part}
use Rattle.dom_selectors.specs.declared.syntax.Pseudo.{Pseudo}
use Rattle.dom_nodes.specs.declared.indexes.IndexKind.{IndexKind}
use Rattle.dom_selectors.specs.declared.syntax.Quantifier.{Quantifier}
use Rattle.dom_selectors.specs.declared.syntax.ParseContext.{ParseContext}
use Rattle.dom_selectors.specs.declared.syntax.TextTest.{TextTest}
use Rattle.dom_selectors.specs.Nth.{SpellsNth}
use Rattle.dom_selectors.specs.Strings.{SpellsString}
use Rattle.dom_selectors.specs.declared.syntax.Combinator.{Combinator}
use Rattle.dom_nodes.specs.Ascii.{right_parenthesis}
use Rattle.dom_selectors.specs.declared.fault.SelectorFault.{SelectorFault}
use Rattle.dom_selectors.specs.Spelling.{Refuses, Many, Run, SpellsNone, no_other}
use Rattle.dom_selectors.specs.Characters.{after_white, begins}
use Rattle.dom_selectors.specs.Names.{SpellsName, starts_name}
use Rattle.dom_selectors.specs.Syntax.{CompoundSelector, SelectorList, Steps, NestedList, NestedLists, nested, no_lists}
use Rattle.dom_selectors.specs.ListsAsTrees.{Item, simple, two_parts, listed, parts_among, lists_among, lists_of}
use Rattle.dom_selectors.specs.Pseudos.{is_relative, pseudo_of}
use Rattle.dom_selectors.specs.Attributes.{SpellsAttribute}
use Rattle.dom_selectors.specs.Grammar.{StandsFor, SpellsListed, Closes, Opens, SpellsEnclosed, SpellsLead, SpellsWithin, inner_context, stands_behind, stands_for, whole, SpellsForm, SpellsPseudo, SpellsItem, begins_item, is_star, SpellsType, begins_compound, SpellsCompound, SpellsCombinator, SpellsStep, begins_step, SpellsSelector, begins_comma, SpellsLater, SpellsList, SpellsInner}
use Rattle.dom_selectors.specs.ValuesAsTrees.{PushesItem}
use Rattle.dom_selectors.proofs.Runs.{IsOnce, run_none}
use Rattle.dom_selectors.proofs.DeepLemmas.{refused_within, within_compound, within_list, within_selector}
use Rattle.dom_selectors.proofs.FaultLemmas.{refuses_wider, refuses_without_cause}
use Rattle.dom_selectors.proofs.NameLemmas.{name_once}
use Rattle.dom_selectors.proofs.SelectorLemmas.{opens_once, lead_once, list_once, inner_once, type_once, combinator_once, item_once, item_goes_on, compound_once, step_once, step_goes_on, selector_once, later_once, later_goes_on}

-- the lists with one more at their end
abbrev lists_then : NestedLists → NestedList → NestedLists
lists_then no_lists list = nested list no_lists
lists_then (nested l more) list = nested l (lists_then more list)

nested_last : (lists : List NestedList) (list : NestedList) → lists_of (lists ++ list ∷ []) ≡ lists_then (lists_of lists) list
nested_last [] list = refl
nested_last (l ∷ lists) list = ap (λ n. nested l n) (nested_last lists list)

pub type_no_name : (text : List ℕ) → begins is_star text ≡ false → starts_name text ≡ true → SpellsNone SpellsName text → SpellsNone SpellsType text
type_no_name text star named none v rest h = let x = when_true _ _ named (when_false _ _ star h) in none x.0 rest x.1

within_from_list : (depth : ℕ) (in_has relative : Bool) → 0 < depth → (v : SelectorList) (text rest : List ℕ) →
    SpellsList (record { depth = depth - 1; in_has = in_has || relative; is_relative = relative }) (SpellsWithin (depth - 1) (in_has || relative)) v text rest → SpellsWithin depth in_has relative v text rest
unfolding SpellsWithin
within_from_list zero in_has relative some v text rest h = absurd (omega arith)
within_from_list (suc depth) in_has relative some v text rest h =
    let e : suc depth - 1 ≡ depth = omega arith in
    subst (λ d. SpellsList (record { depth = d; in_has = in_has || relative; is_relative = relative }) (SpellsWithin d (in_has || relative)) v text rest) e h

list_from_within : (depth : ℕ) (in_has relative : Bool) → 0 < depth → (v : SelectorList) (text rest : List ℕ) →
    SpellsWithin depth in_has relative v text rest → SpellsList (record { depth = depth - 1; in_has = in_has || relative; is_relative = relative }) (SpellsWithin (depth - 1) (in_has || relative)) v text rest
unfolding SpellsWithin
list_from_within zero in_has relative some v text rest h = absurd (omega arith)
list_from_within (suc depth) in_has relative some v text rest h =
    let e : suc depth - 1 ≡ depth = omega arith in
    subst (λ d. SpellsList (record { depth = d; in_has = in_has || relative; is_relative = relative }) (SpellsWithin d (in_has || relative)) v text rest) (sym e) h

-- the list in parentheses is read in the context inside them
pub inner_from_list : (context : ParseContext) (relative : Bool) → 0 < context.depth → (v : SelectorList) (text rest : List ℕ) →
    SpellsList (inner_context context relative) (SpellsInner (inner_context context relative)) v text rest → SpellsInner context relative v text rest
inner_from_list context relative some v text rest h = within_from_list context.depth context.in_has relative some v text rest h

pub list_from_inner : (context : ParseContext) (relative : Bool) → 0 < context.depth → (v : SelectorList) (text rest : List ℕ) →
    SpellsInner context relative v text rest → SpellsList (inner_context context relative) (SpellsInner (inner_context context relative)) v text rest
list_from_inner context relative some v text rest h = list_from_within context.depth context.in_has relative some v text rest h

pub same_room : (e : SelectorFault) (context other : ParseContext) (text : List ℕ) → context ≡ other →
    Refuses (stands_for context text) e (SpellsNone (SpellsList context (SpellsInner context)) text) → Refuses (stands_for other text) e (SpellsNone (SpellsList other (SpellsInner other)) text)
same_room e context other text is h = subst (λ q. Refuses (stands_for q text) e (SpellsNone (SpellsList q (SpellsInner q)) text)) is h

-- what is not spelled inside the parentheses is not in them
module _ (depth : ℕ) {A : Type 0} (S : A → List ℕ → List ℕ → Type 0) (text : List ℕ) where
  pub enclosed_no_opening : ((inside : List ℕ) → Opens depth text inside → ⊥) → SpellsNone (SpellsEnclosed depth S) text
  enclosed_no_opening none v rest h = none h.inside h.opens

  pub enclosed_no_value : (inside : List ℕ) → Opens depth text inside → SpellsNone S inside → SpellsNone (SpellsEnclosed depth S) text
  enclosed_no_value inside opens none v rest h =
      none v h.after (subst (λ t. S v t h.after) (opens_once depth text h.inside inside h.opens opens) h.value)

  pub enclosed_no_closing : IsOnce S → (inside after : List ℕ) (v : A) → Opens depth text inside → S v inside after → ((rest : List ℕ) → after_white after ≡ right_parenthesis ∷ rest → ⊥) →
      SpellsNone (SpellsEnclosed depth S) text
  enclosed_no_closing once inside after v opens given none w rest h =
      let moved = subst (λ t. S w t h.after) (opens_once depth text h.inside inside h.opens opens) h.value in
      none rest (ap after_white (once v w inside after h.after given moved).1 ∙ h.closes)

-- and a fault in what opens or closes them is a fault there
module _ (context : ParseContext) {A : Type 0} (S : A → List ℕ → List ℕ → Type 0) (text : List ℕ) (e : SelectorFault) where
  pub opening_refused : Refuses (stands_behind context text) e ((inside : List ℕ) → Opens context.depth text inside → ⊥) → Refuses (stands_behind context text) e (SpellsNone (SpellsEnclosed context.depth S) text)
  opening_refused h = refuses_wider e (stands_behind context text) _ _ (enclosed_no_opening context.depth S text) h

  pub closing_refused : IsOnce S → (inside after : List ℕ) (v : A) → Opens context.depth text inside → S v inside after → Refuses no_other e ((rest : List ℕ) → Closes after rest → ⊥) →
      Refuses (stands_behind context text) e (SpellsNone (SpellsEnclosed context.depth S) text)
  closing_refused once inside after v opens given h = refuses_without_cause e (stands_behind context text) _ _ (enclosed_no_closing context.depth S text once inside after v opens given) h

module _ (context : ParseContext) where
  pub pseudo_no_name : (text : List ℕ) → SpellsNone SpellsName text → SpellsNone (SpellsPseudo context (SpellsInner context)) text
  pseudo_no_name text none v rest h = none h.name h.after h.named

  pub pseudo_unknown : (text name after : List ℕ) → SpellsName name text after → pseudo_of name ≡ None → SpellsNone (SpellsPseudo context (SpellsInner context)) text
  pseudo_unknown text name after named none v rest h =
      let same = name_once name h.name text after h.after named h.named in
      let alike = same.0 in
      let known = h.known in
      cc

  pub pseudo_no_form : (text name after : List ℕ) (pseudo : Pseudo) → SpellsName name text after → pseudo_of name ≡ Some pseudo →
      SpellsNone (SpellsForm context (SpellsInner context) pseudo) after → SpellsNone (SpellsPseudo context (SpellsInner context)) text
  pseudo_no_form text name after pseudo named known none v rest h =
      let same = name_once name h.name text after h.after named h.named in
      let alike = same.0 in
      let known_h = h.known in
      let one : h.pseudo ≡ pseudo = cc in
      none v rest (subst (λ p. SpellsForm context (SpellsInner context) p v after rest) one (subst (λ t. SpellsForm context (SpellsInner context) h.pseudo v t rest) (sym same.1) h.form))

  pub compound_no_start : (text : List ℕ) → begins_compound text ≡ false → SpellsNone (SpellsCompound context (SpellsInner context)) text
  compound_no_start text e v rest h = true≢false (sym h.some ∙ e)

  pub compound_no_type : (text : List ℕ) → SpellsNone SpellsType text → SpellsNone (SpellsCompound context (SpellsInner context)) text
  compound_no_type text none v rest h = none h.front h.after h.first

  pub compound_no_item : (text after mid : List ℕ) (front : List Part) (items : List Item) → SpellsType front text after → Many (SpellsItem context (SpellsInner context)) items after mid →
      begins_item mid ≡ true → SpellsNone (SpellsItem context (SpellsInner context)) mid → SpellsNone (SpellsCompound context (SpellsInner context)) text
  compound_no_item text after mid front items first many on none v rest h =
      let same = type_once front h.front text after h.after first h.first in
      run_none (SpellsItem context (SpellsInner context)) (item_once context (SpellsInner context) (inner_once context)) begins_item (item_goes_on context (SpellsInner context) (inner_once context)) items after mid many on none h.items rest
      (subst (λ t. Run (SpellsItem context (SpellsInner context)) begins_item h.items t rest) (sym same.1) h.run)

  pub step_no_compound : (text mid : List ℕ) (k : Combinator) → SpellsCombinator k (after_white text) mid → SpellsNone (SpellsCompound context (SpellsInner context)) mid → SpellsNone (SpellsStep context (SpellsInner context)) text
  step_no_compound text mid k sign none v rest h =
      let same = combinator_once k v.0 (after_white text) mid h.mid sign h.combinator in
      none v.1 rest (subst (λ t. SpellsCompound context (SpellsInner context) v.1 t rest) (sym same.1) h.compound)

  pub selector_no_first : (text begin : List ℕ) (lead : Combinator) → SpellsLead context.is_relative lead text begin → SpellsNone (SpellsCompound context (SpellsInner context)) begin →
      SpellsNone (SpellsSelector context (SpellsInner context)) text
  selector_no_first text begin lead led none v rest h =
      let same = lead_once context.is_relative lead v.0 text begin h.begin led h.lead in
      none v.1 h.after (subst (λ t. SpellsCompound context (SpellsInner context) v.1 t h.after) (sym same.1) h.first)

  pub selector_no_step : (text begin after mid : List ℕ) (lead : Combinator) (first : CompoundSelector) (steps : List (Combinator × CompoundSelector)) → SpellsLead context.is_relative lead text begin →
      SpellsCompound context (SpellsInner context) first begin after → Many (SpellsStep context (SpellsInner context)) steps after mid →
      begins_step mid ≡ true → SpellsNone (SpellsStep context (SpellsInner context)) mid → SpellsNone (SpellsSelector context (SpellsInner context)) text
  selector_no_step text begin after mid lead first steps led h many on none v rest k =
      let start = lead_once context.is_relative lead v.0 text begin k.begin led k.lead in
      let same = compound_once context (SpellsInner context) (inner_once context) first v.1 begin after k.after h (subst (λ t. SpellsCompound context (SpellsInner context) v.1 t k.after) (sym start.1) k.first) in
      run_none (SpellsStep context (SpellsInner context)) (step_once context (SpellsInner context) (inner_once context)) begins_step (step_goes_on context (SpellsInner context) (inner_once context)) steps after mid many on none k.steps rest
      (subst (λ t. Run (SpellsStep context (SpellsInner context)) begins_step k.steps t rest) (sym same.1) k.run)

  pub list_no_first : (text : List ℕ) → SpellsNone (SpellsSelector context (SpellsInner context)) text → SpellsNone (SpellsList context (SpellsInner context)) text
  list_no_first text none v rest h = none h.one h.after h.first

  pub list_no_later : (text after mid : List ℕ) (one : Combinator × CompoundSelector × Steps) (more : List (Combinator × CompoundSelector × Steps)) → SpellsSelector context (SpellsInner context) one text after → Many (SpellsLater context (SpellsInner context)) more after mid →
      begins_comma mid ≡ true → SpellsNone (SpellsLater context (SpellsInner context)) mid → SpellsNone (SpellsList context (SpellsInner context)) text
  list_no_later text after mid one more h many on none v rest k =
      let same = selector_once context (SpellsInner context) (inner_once context) one k.one text after k.after h k.first in
      run_none (SpellsLater context (SpellsInner context)) (later_once context (SpellsInner context) (inner_once context)) begins_comma (later_goes_on context (SpellsInner context) (inner_once context)) more after mid many on none k.more rest
      (subst (λ t. Run (SpellsLater context (SpellsInner context)) begins_comma k.more t rest) (sym same.1) k.run)

  -- a fault in what the text goes on with is a fault in the text
  pub compound_refused : (e : SelectorFault) (text after mid : List ℕ) (front : List Part) (items : List Item) → SpellsType front text after → Many (SpellsItem context (SpellsInner context)) items after mid →
      begins_item mid ≡ true → Refuses (stands_for context mid) e (SpellsNone (SpellsItem context (SpellsInner context)) mid) → Refuses (stands_for context text) e (SpellsNone (SpellsCompound context (SpellsInner context)) text)
  compound_refused e text after mid front items first many on =
      refused_within context e mid text _ _ (within_compound context text after mid front items first many) (compound_no_item text after mid front items first many on)

  pub selector_refused : (e : SelectorFault) (text begin after mid : List ℕ) (lead : Combinator) (first : CompoundSelector) (steps : List (Combinator × CompoundSelector)) → SpellsLead context.is_relative lead text begin →
      SpellsCompound context (SpellsInner context) first begin after → Many (SpellsStep context (SpellsInner context)) steps after mid →
      begins_step mid ≡ true → Refuses (stands_for context mid) e (SpellsNone (SpellsStep context (SpellsInner context)) mid) → Refuses (stands_for context text) e (SpellsNone (SpellsSelector context (SpellsInner context)) text)
  selector_refused e text begin after mid lead first steps led h many on =
      refused_within context e mid text _ _ (within_selector context text begin after mid lead first steps led h many) (selector_no_step text begin after mid lead first steps led h many on)

  pub list_refused : (e : SelectorFault) (text after mid : List ℕ) (one : Combinator × CompoundSelector × Steps) (more : List (Combinator × CompoundSelector × Steps)) → SpellsSelector context (SpellsInner context) one text after → Many (SpellsLater context (SpellsInner context)) more after mid →
      begins_comma mid ≡ true → Refuses (stands_for context mid) e (SpellsNone (SpellsLater context (SpellsInner context)) mid) → Refuses (stands_for context text) e (SpellsNone (SpellsList context (SpellsInner context)) text)
  list_refused e text after mid one more first many on = refused_within context e mid text _ _ (within_list context text after mid one more first many) (list_no_later text after mid one more first many on)

pub listed_no_list : (context : ParseContext) (quantifier : Quantifier) (relative : Bool) (text : List ℕ) → relative ≡ is_relative quantifier → SpellsNone (SpellsEnclosed context.depth (SpellsInner context relative)) text →
    SpellsNone (SpellsListed context (SpellsInner context) quantifier) text
listed_no_list context quantifier relative text e none v rest h =
    let refused : SpellsNone (SpellsEnclosed context.depth (SpellsInner context (is_relative quantifier))) text = subst (λ b. SpellsNone (SpellsEnclosed context.depth (SpellsInner context b)) text) e none in
    refused h.1 rest h.2

pub form_no_nth : (context : ParseContext) (pseudo : Pseudo) (kind : IndexKind) (text : List ℕ) → pseudo ≡ Pseudo.Nth kind → SpellsNone (SpellsEnclosed context.depth SpellsNth) text → SpellsNone (SpellsForm context (SpellsInner context) pseudo) text
form_no_nth context pseudo kind text e none v rest h = let x = subst (λ p. SpellsForm context (SpellsInner context) p v text rest) e h in none x.0 rest x.1

pub form_no_string : (context : ParseContext) (pseudo : Pseudo) (test : TextTest) (text : List ℕ) → pseudo ≡ Pseudo.Text test → SpellsNone (SpellsEnclosed context.depth SpellsString) text → SpellsNone (SpellsForm context (SpellsInner context) pseudo) text
form_no_string context pseudo test text e none v rest h = let x = subst (λ p. SpellsForm context (SpellsInner context) p v text rest) e h in none x.0 rest x.1

module _ (context : ParseContext) (c : ℕ) (text more : List ℕ) (begun : text ≡ c ∷ more) where
  opened : (v : Item) (rest : List ℕ) → SpellsItem context (SpellsInner context) v text rest → SpellsItem context (SpellsInner context) v (c ∷ more) rest
  opened v rest h = subst (λ t. SpellsItem context (SpellsInner context) v t rest) begun h

  pub item_no_identifier : c ≡ 35 → SpellsNone SpellsName more → SpellsNone (SpellsItem context (SpellsInner context)) text
  item_no_identifier e none v rest h = let test : nat_eq c 35 ≡ true = ap (λ d. nat_eq d 35) e in let x = when_true _ _ test (opened v rest h) in none x.0 rest x.1

  pub item_no_class : c ≡ 46 → SpellsNone SpellsName more → SpellsNone (SpellsItem context (SpellsInner context)) text
  item_no_class e none v rest h =
      let other : nat_eq c 35 ≡ false = ap (λ d. nat_eq d 35) e in
      let test : nat_eq c 46 ≡ true = ap (λ d. nat_eq d 46) e in
      let x = when_true _ _ test (when_false _ _ other (opened v rest h)) in none x.0 rest x.1

  pub item_no_attribute : c ≡ 91 → SpellsNone SpellsAttribute more → SpellsNone (SpellsItem context (SpellsInner context)) text
  item_no_attribute e none v rest h =
      let first : nat_eq c 35 ≡ false = ap (λ d. nat_eq d 35) e in
      let second : nat_eq c 46 ≡ false = ap (λ d. nat_eq d 46) e in
      let test : nat_eq c 91 ≡ true = ap (λ d. nat_eq d 91) e in
      let x = when_true _ _ test (when_false _ _ second (when_false _ _ first (opened v rest h))) in none x.0 rest x.1

  pub item_no_pseudo : c ≡ 58 → SpellsNone (SpellsPseudo context (SpellsInner context)) more → SpellsNone (SpellsItem context (SpellsInner context)) text
  item_no_pseudo e none v rest h =
      let first : nat_eq c 35 ≡ false = ap (λ d. nat_eq d 35) e in
      let second : nat_eq c 46 ≡ false = ap (λ d. nat_eq d 46) e in
      let third : nat_eq c 91 ≡ false = ap (λ d. nat_eq d 91) e in
      let x = when_false _ _ third (when_false _ _ second (when_false _ _ first (opened v rest h))) in none v rest x.1

  pub item_from_pseudo : c ≡ 58 → (v : Item) (rest : List ℕ) → SpellsPseudo context (SpellsInner context) v more rest → SpellsItem context (SpellsInner context) v text rest
  item_from_pseudo e v rest h =
      let colon : SpellsItem context (SpellsInner context) v (58 ∷ more) rest = (refl, h) in
      subst (λ t. SpellsItem context (SpellsInner context) v t rest) (sym (begun ∙ ap (λ d. d ∷ more) e)) colon

-- behind a comma the selector stands
pub comma_stands : (text rest : List ℕ) → after_white text ≡ 44 ∷ rest → (begins_comma text ≡ true) × (drop 1 (after_white text) ≡ rest)
comma_stands text rest e = (ap (λ t. begins (λ c. nat_eq c 44) t) e, ap (λ t. drop 1 t) e)

module _ (context : ParseContext) (text rest : List ℕ) (comma : after_white text ≡ 44 ∷ rest) where
  pub later_from_selector : (v : Combinator × CompoundSelector × Steps) (end : List ℕ) → SpellsSelector context (SpellsInner context) v (after_white rest) end → SpellsLater context (SpellsInner context) v text end
  later_from_selector v end h =
      let stands = comma_stands text rest comma in
      record { comma = stands.0; selector = subst (λ t. SpellsSelector context (SpellsInner context) v (after_white t) end) (sym stands.1) h }

  pub later_no_selector : SpellsNone (SpellsSelector context (SpellsInner context)) (after_white rest) → SpellsNone (SpellsLater context (SpellsInner context)) text
  later_no_selector none v end h = none v end (subst (λ t. SpellsSelector context (SpellsInner context) v (after_white t) end) (comma_stands text rest comma).1 h.selector)

parts_last : (items : List Item) (part : Part) → parts_among (items ++ simple part ∷ []) ≡ parts_among items ++ part ∷ []
parts_last [] part = refl
parts_last (simple p ∷ items) part = ap (λ ps. p ∷ ps) (parts_last items part)
parts_last (two_parts p q ∷ items) part = ap (λ ps. p ∷ q ∷ ps) (parts_last items part)
parts_last (listed l ∷ items) part = parts_last items part

parts_stay : (items : List Item) (list : NestedList) → parts_among (items ++ listed list ∷ []) ≡ parts_among items
parts_stay [] list = refl
parts_stay (simple p ∷ items) list = ap (λ ps. p ∷ ps) (parts_stay items list)
parts_stay (two_parts p q ∷ items) list = ap (λ ps. p ∷ q ∷ ps) (parts_stay items list)
parts_stay (listed l ∷ items) list = parts_stay items list

lists_last : (items : List Item) (list : NestedList) → lists_among (items ++ listed list ∷ []) ≡ lists_then (lists_among items) list
lists_last [] list = refl
lists_last (simple p ∷ items) list = lists_last items list
lists_last (two_parts p q ∷ items) list = lists_last items list
lists_last (listed l ∷ items) list = ap (λ ls. nested l ls) (lists_last items list)

lists_stay : (items : List Item) (part : Part) → lists_among (items ++ simple part ∷ []) ≡ lists_among items
lists_stay [] part = refl
lists_stay (simple p ∷ items) part = lists_stay items part
lists_stay (two_parts p q ∷ items) part = lists_stay items part
lists_stay (listed l ∷ items) part = ap (λ ls. nested l ls) (lists_stay items part)

two_last : (items : List Item) (part other : Part) → parts_among (items ++ two_parts part other ∷ []) ≡ parts_among items ++ part ∷ other ∷ []
two_last [] part other = refl
two_last (simple p ∷ items) part other = ap (λ ps. p ∷ ps) (two_last items part other)
two_last (two_parts p q ∷ items) part other = ap (λ ps. p ∷ q ∷ ps) (two_last items part other)
two_last (listed l ∷ items) part other = two_last items part other

two_stay : (items : List Item) (part other : Part) → lists_among (items ++ two_parts part other ∷ []) ≡ lists_among items
two_stay [] part other = refl
two_stay (simple p ∷ items) part other = two_stay items part other
two_stay (two_parts p q ∷ items) part other = two_stay items part other
two_stay (listed l ∷ items) part other = ap (λ ls. nested l ls) (two_stay items part other)

-- an item more in its order is a part or a list more
pub pushed_item : (item : Item) (front parts new_parts : List Part) (lists made_lists : List NestedList) (items : List Item) → PushesItem item parts lists new_parts made_lists →
    parts ≡ front ++ parts_among items → lists_of lists ≡ lists_among items → (new_parts ≡ front ++ parts_among (items ++ item ∷ [])) × (lists_of made_lists ≡ lists_among (items ++ item ∷ []))
pushed_item (simple part) front parts new_parts lists made_lists items push p l =
    (push.0 ∙ ap (λ ps. ps ++ part ∷ []) p ∙ append_assoc front (parts_among items) (part ∷ []) ∙ ap (λ ps. front ++ ps) (sym (parts_last items part)), ap lists_of push.1 ∙ l ∙ sym (lists_stay items part))
pushed_item (two_parts part other) front parts new_parts lists made_lists items push p l =
    (push.0 ∙ ap (λ ps. ps ++ part ∷ other ∷ []) p ∙ append_assoc front (parts_among items) (part ∷ other ∷ []) ∙ ap (λ ps. front ++ ps) (sym (two_last items part other)), ap lists_of push.1 ∙ l ∙ sym (two_stay items part other))
pushed_item (listed list) front parts new_parts lists made_lists items push p l =
    (push.0 ∙ p ∙ ap (λ ps. front ++ ps) (sym (parts_stay items list)), ap lists_of push.1 ∙ nested_last lists list ∙ ap (λ ls. lists_then ls list) l ∙ sym (lists_last items list))

pub none_without_list : (text : List ℕ) → SpellsNone (SpellsList whole (SpellsInner whole)) (after_white text) → (list : SelectorList) → StandsFor text list → ⊥
none_without_list text none list h = none list h.after h.spelled

pub none_before_more : (text after : List ℕ) (one : SelectorList) → SpellsList whole (SpellsInner whole) one (after_white text) after → (after_white after ≡ [] → ⊥) → (list : SelectorList) → StandsFor text list → ⊥
none_before_more text after one spelled more list h =
    more (ap after_white (list_once whole (SpellsInner whole) (inner_once whole) one list (after_white text) after h.after spelled h.spelled).1 ∙ h.ends)
