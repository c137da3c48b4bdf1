-- What a policy leaves of a source, by the tree as which the HTML Standard parses it.
use Rattle.std.specs.Prelude.{◌≡◌, ◌⊎◌, ℕ, List, [], Some, codes, false}
use Rattle.std.specs.Str.{chars}
use Rattle.standard_trees.specs.Building.{NoQuirks, Surroundings}
use Rattle.standard_trees.specs.TreeStore.{Html}
use Rattle.dom_links.specs.Forest.{Forest}
use Rattle.dom_trees.specs.declared.quirks.QuirksMode.{QuirksMode}
use Rattle.page_trees.specs.DocumentTrees.{IsParsedAs, IsParsedAsFragment}
use Rattle.page_trees.specs.declared.reading.Options.{Options}
use Rattle.dom_clean.specs.Cleaned.{cleaned_below, cleaned_body}
use Rattle.dom_clean.specs.Laws.{page_around}
use Rattle.dom_clean.specs.Policy.{Policy}
use Rattle.dom_clean.specs.Written.{text_of}

-- how a source is read that isn't calm: without scripts, and with up to 512 nested elements
abbrev pub source_options : Options
source_options = record { scripting = false; max_depth = Some 512; errors = false }

-- a fragment is read as the contents of a `div` without attributes, outside of forms, in a document in no-quirks mode
abbrev pub in_div : Surroundings
in_div = record { space = Html; name = codes "div"; attrs = []; in_form = false; quirks = NoQuirks }

-- the text is that of what is left of the fragment as which the Standard parses the source
pub record IsLeftOfFragment (policy : Policy) (source text : List ℕ) : Type 0 where
  pub forest : Forest
  pub parsed : IsParsedAsFragment false in_div (chars source) forest
  pub is : text ≡ text_of (cleaned_below policy forest 1)

-- it is that of what is left of the body of the page as which the Standard parses the page with the source in its body
pub record IsLeftOfBody (policy : Policy) (source text : List ℕ) : Type 0 where
  pub forest : Forest
  pub quirks : QuirksMode
  pub parsed : IsParsedAs false (chars (page_around source)) forest quirks
  pub is : text ≡ text_of (cleaned_below policy forest 5)

-- one or the other: the second where that page is calm, so that its body is what is written down
abbrev pub IsLeftOfSource : Policy → List ℕ → List ℕ → Type 0
IsLeftOfSource policy source text = IsLeftOfFragment policy source text ⊎ IsLeftOfBody policy source text

-- the page is that with what is left of the body of the page as which the Standard parses the source
pub record IsLeftOfPage (policy : Policy) (source page : List ℕ) : Type 0 where
  pub forest : Forest
  pub quirks : QuirksMode
  pub parsed : IsParsedAs false (chars source) forest quirks
  pub is : page ≡ page_around (text_of (cleaned_body policy forest))
