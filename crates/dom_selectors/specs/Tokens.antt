-- A selector list as a list of tokens, from which it can be rebuilt. It is how a contract tells the values of a matcher apart.
use Rattle.std.specs.Prelude.{◌≡◌, List, [], ◌∷◌, refl}
use Rattle.std.proofs.Common.{ap, ◌∙◌}
use Rattle.dom_selectors.specs.declared.syntax.Combinator.{Combinator}
use Rattle.dom_selectors.specs.declared.syntax.Part.{Part}
use Rattle.dom_selectors.specs.Syntax.{CompoundSelector, compound, NestedLists, no_lists, nested, NestedList, is_list, not_list, has_list, SelectorList, no_selectors, alternative, Steps, no_steps, step}

pub data Token : Type 0 where
  a_compound : List Part → Token
  last_list : Token
  a_list : Token
  some_of : Token
  none_of : Token
  relative_of : Token
  last_selector : Token
  a_selector : Combinator → Token
  last_step : Token
  a_step : Combinator → Token

-- a part of a selector that is rebuilt and not yet put into a larger one
pub data Piece : Type 0 where
  of_compound : CompoundSelector → Piece
  of_lists : NestedLists → Piece
  of_list : NestedList → Piece
  of_selectors : SelectorList → Piece
  of_steps : Steps → Piece

abbrev pub with_token : Token → List Piece → List Piece
with_token (a_compound parts) (of_lists lists ∷ pieces) = of_compound (compound parts lists) ∷ pieces
with_token last_list pieces = of_lists no_lists ∷ pieces
with_token a_list (of_lists lists ∷ of_list list ∷ pieces) = of_lists (nested list lists) ∷ pieces
with_token some_of (of_selectors list ∷ pieces) = of_list (is_list list) ∷ pieces
with_token none_of (of_selectors list ∷ pieces) = of_list (not_list list) ∷ pieces
with_token relative_of (of_selectors list ∷ pieces) = of_list (has_list list) ∷ pieces
with_token last_selector pieces = of_selectors no_selectors ∷ pieces
with_token (a_selector lead) (of_selectors list ∷ of_steps steps ∷ of_compound first ∷ pieces) = of_selectors (alternative lead first steps list) ∷ pieces
with_token last_step pieces = of_steps no_steps ∷ pieces
with_token (a_step k) (of_steps steps ∷ of_compound c ∷ pieces) = of_steps (step k c steps) ∷ pieces
with_token token pieces = pieces

abbrev pub put_together : List Token → List Piece → List Piece
put_together [] pieces = pieces
put_together (token ∷ tokens) pieces = put_together tokens (with_token token pieces)

abbrev mutual
  -- the tokens of a part, followed by other tokens
  pub compound_tokens : CompoundSelector → List Token → List Token
  compound_tokens (compound parts lists) tokens = lists_tokens lists (a_compound parts ∷ tokens)

  pub lists_tokens : NestedLists → List Token → List Token
  lists_tokens no_lists tokens = last_list ∷ tokens
  lists_tokens (nested list more) tokens = list_tokens list (lists_tokens more (a_list ∷ tokens))

  pub list_tokens : NestedList → List Token → List Token
  list_tokens (is_list list) tokens = selectors_tokens list (some_of ∷ tokens)
  list_tokens (not_list list) tokens = selectors_tokens list (none_of ∷ tokens)
  list_tokens (has_list list) tokens = selectors_tokens list (relative_of ∷ tokens)

  pub selectors_tokens : SelectorList → List Token → List Token
  selectors_tokens no_selectors tokens = last_selector ∷ tokens
  selectors_tokens (alternative lead first rest more) tokens = compound_tokens first (steps_tokens rest (selectors_tokens more (a_selector lead ∷ tokens)))

  pub steps_tokens : Steps → List Token → List Token
  steps_tokens no_steps tokens = last_step ∷ tokens
  steps_tokens (step k c more) tokens = compound_tokens c (steps_tokens more (a_step k ∷ tokens))

mutual
  compound_back : (c : CompoundSelector) (tokens : List Token) (pieces : List Piece) → put_together (compound_tokens c tokens) pieces ≡ put_together tokens (of_compound c ∷ pieces)
  compound_back (compound parts lists) tokens pieces = lists_back lists (a_compound parts ∷ tokens) pieces

  lists_back : (lists : NestedLists) (tokens : List Token) (pieces : List Piece) → put_together (lists_tokens lists tokens) pieces ≡ put_together tokens (of_lists lists ∷ pieces)
  lists_back no_lists tokens pieces = refl
  lists_back (nested list more) tokens pieces = list_back list (lists_tokens more (a_list ∷ tokens)) pieces ∙ lists_back more (a_list ∷ tokens) (of_list list ∷ pieces)

  list_back : (list : NestedList) (tokens : List Token) (pieces : List Piece) → put_together (list_tokens list tokens) pieces ≡ put_together tokens (of_list list ∷ pieces)
  list_back (is_list list) tokens pieces = selectors_back list (some_of ∷ tokens) pieces
  list_back (not_list list) tokens pieces = selectors_back list (none_of ∷ tokens) pieces
  list_back (has_list list) tokens pieces = selectors_back list (relative_of ∷ tokens) pieces

  selectors_back : (list : SelectorList) (tokens : List Token) (pieces : List Piece) → put_together (selectors_tokens list tokens) pieces ≡ put_together tokens (of_selectors list ∷ pieces)
  selectors_back no_selectors tokens pieces = refl
  selectors_back (alternative lead first rest more) tokens pieces =
      compound_back first (steps_tokens rest (selectors_tokens more (a_selector lead ∷ tokens))) pieces
      ∙ steps_back rest (selectors_tokens more (a_selector lead ∷ tokens)) (of_compound first ∷ pieces)
      ∙ selectors_back more (a_selector lead ∷ tokens) (of_steps rest ∷ of_compound first ∷ pieces)

  steps_back : (steps : Steps) (tokens : List Token) (pieces : List Piece) → put_together (steps_tokens steps tokens) pieces ≡ put_together tokens (of_steps steps ∷ pieces)
  steps_back no_steps tokens pieces = refl
  steps_back (step k c more) tokens pieces = compound_back c (steps_tokens more (a_step k ∷ tokens)) pieces ∙ steps_back more (a_step k ∷ tokens) (of_compound c ∷ pieces)

abbrev pub list_among : List Piece → SelectorList
list_among (of_selectors list ∷ []) = list
list_among pieces = no_selectors

abbrev pub tokens_of : SelectorList → List Token
tokens_of list = selectors_tokens list []

abbrev pub list_of : List Token → SelectorList
list_of tokens = list_among (put_together tokens [])

pub read_back : (list : SelectorList) → list_of (tokens_of list) ≡ list
read_back list = ap list_among (selectors_back list [] [])
