-- What the HTML Standard makes of the text of what is left.
use Rattle.std.specs.Prelude.{◌≡◌, ℕ, true, List, None}
use Rattle.std.specs.Str.{IsUtf8, chars}
use Rattle.dom_markup.specs.ValueTrees.{ValueTrees}
use Rattle.encodings.specs.declared.encoding.Encoding.TheVariants.{Utf8}
use Rattle.text_decoding.specs.Pages.{IsPageEncoding}
use Rattle.text_decoding.specs.declared.page.Charset.{Charset}
use Rattle.text_decoding.specs.declared.page.Confidence.TheVariants.{Declared}
use Rattle.standard_rules.specs.PlainTrees.{flow_contexts}
use Rattle.standard_rules.specs.TreeTokens.{is_among}
use Rattle.standard_laws.specs.CalmTrees.{nodes_of}
use Rattle.standard_laws.specs.Parsing.{IsFragmentOnlyOf, IsPageOnlyOf}
use Rattle.dom_clean.specs.Laws.{IsSafe, page_around, page_of}
use Rattle.dom_clean.specs.Policy.{Policy, is_sound}

-- the text is parsed as these trees and as no others, with and without scripting: in the body of a page, and as a fragment in a `body`,
-- `div`, `li`, `td` or `blockquote` that is outside of forms, in a document in no-quirks mode
pub record IsParsedAs (text : List ℕ) (trees : ValueTrees) : Type 0 where
  pub page : IsPageOnlyOf (chars (page_around text)) (nodes_of (page_of trees))
  pub fragment : (context : List ℕ) → is_among context flow_contexts ≡ true → IsFragmentOnlyOf context (chars text) (nodes_of trees)

-- A text that is safe by a sound policy is parsed as the trees that are its own.
abbrev pub CleanedTextsAreParsed : Type 0
CleanedTextsAreParsed = (policy : Policy) → is_sound policy ≡ true → (text : List ℕ) (trees : ValueTrees) → IsUtf8 text →
    IsSafe policy text trees → IsParsedAs text trees

-- So is a page with such a text in its body.
abbrev pub CleanedPagesAreParsed : Type 0
CleanedPagesAreParsed = (policy : Policy) → is_sound policy ≡ true → (text : List ℕ) (trees : ValueTrees) → IsUtf8 (page_around text) →
    IsSafe policy text trees →
    IsPageOnlyOf (chars (page_around text)) (nodes_of (page_of trees))

-- ---- what is cleaned

-- the text is that of these trees, which the policy allows, and it is parsed as these trees
pub record IsCleanedAs (policy : Policy) (text : List ℕ) (trees : ValueTrees) : Type 0 where
  pub safe : IsSafe policy text trees
  pub parsed : IsParsedAs text trees

abbrev pub IsCleanedText : Policy → List ℕ → Type 0
IsCleanedText policy text = (trees : ValueTrees) × IsCleanedAs policy text trees

-- where nothing that came with the page says another encoding, it is in UTF-8, which it declares
abbrev pub DeclaresUtf8 : List ℕ → Type 0
DeclaresUtf8 page = (charset : Charset) → charset.transport ≡ None → IsPageEncoding charset page Utf8 Declared

-- a page with such a text in its body, and it is parsed as their document
pub record IsCleanedPage (policy : Policy) (page : List ℕ) : Type 0 where
  pub text : List ℕ
  pub trees : ValueTrees
  pub is : page ≡ page_around text
  pub cleaned : IsCleanedAs policy text trees
  pub parsed : IsPageOnlyOf (chars page) (nodes_of (page_of trees))
  pub encoding : DeclaresUtf8 page
