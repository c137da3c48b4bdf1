-- What the whole parser, the tokenizer and tree construction together, makes of the text of plain trees.
use Rattle.std.specs.Prelude.{◌≡◌, ℕ, Bool, List, [], flat_map, false, true}
use Rattle.std.specs.List.{list_all}
use Rattle.standard_tokens.specs.PlainMarkup.{AreAnswered, Item, is_plain_item, tokens as item_tokens, written}
use Rattle.standard_tokens.specs.Reading.{plain_feedback}
use Rattle.standard_tokens.specs.Tokens.{Token}
use Rattle.standard_rules.specs.PlainTrees.{FlowPlace, IsPlainPage, Page, are_plain, flow_contexts, outermost, page_trees}
use Rattle.standard_rules.specs.TreeTokens.{Trees, is_among, tokens}
use Rattle.standard_trees.specs.Parsing.{IsDocumentOf, IsFragmentOf}
use Rattle.standard_trees.specs.TreeStore.{NodeAttr}
use Rattle.standard_agreement.specs.PlainPages.{context_named, no_quirks, whole}

-- the text is plain markup of these tokens, and an element is written as a text element exactly where its name has a state of the tokenizer
pub record IsMarkupOf (text : List ℕ) (of : List Token) : Type 0 where
  pub items : List Item
  pub plain : list_all is_plain_item items ≡ true
  pub answered : AreAnswered (plain_feedback false) [] items
  pub is : text ≡ flat_map written items
  pub tokens : of ≡ flat_map item_tokens items

-- plain markup of a plain page is parsed as that page, in no-quirks mode, with and without scripting
abbrev pub PlainPagesAreParsed : Type 0
PlainPagesAreParsed = (scripting : Bool) (text : List ℕ) (page : Page) → IsPlainPage page → IsMarkupOf text (tokens (page_trees page)) →
    IsDocumentOf scripting text (no_quirks (whole (page_trees page)))

-- plain markup of plain trees is parsed as these trees where the context element is a `body`, `div`, `li`, `td` or `blockquote`
abbrev pub PlainFragmentsAreParsed : Type 0
PlainFragmentsAreParsed = (scripting : Bool) (name : List ℕ) (attrs : List NodeAttr) (text : List ℕ) (trees : Trees) →
    is_among name flow_contexts ≡ true → are_plain (outermost FlowPlace) trees ≡ true → IsMarkupOf text (tokens trees) →
    IsFragmentOf scripting (context_named name attrs) text (whole trees)
