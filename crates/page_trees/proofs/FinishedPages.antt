-- What tree construction builds of the tokens of a text is the Document, or the fragment, as which the HTML Standard parses the text.
use Rattle.std.specs.Prelude.{◌≡◌, ◌++◌, ◌∷◌, [], List, Some, ℕ}
use mathlib.Core.Path.{◌∙◌, ap, sym}
use Rattle.standard_tokens.specs.Tokens.{AnEof, Token}
use Rattle.standard_trees.specs.Building.{Building, start, tree_steps}
use Rattle.standard_order.specs.Beginnings.{Beginning, OfFragment, OfPage}
use Rattle.standard_order.proofs.PartPages.{pages_have_their_shape}
use Rattle.standard_agreement.specs.TokensAndTrees.{DocumentsAreBuiltOfTokens, FragmentsAreBuiltOfTokens}
use Rattle.page_trees.specs.PagesRead.{IsAtEnd, IsRead}
use Rattle.page_trees.specs.StandardDocuments.{HasShape, TextsAreParsed}
use Rattle.page_trees.specs.declared.builder.TreeBuilder.{TreeBuilder}

pub texts_parsed : DocumentsAreBuiltOfTokens → FragmentsAreBuiltOfTokens → TextsAreParsed
texts_parsed documents fragments depth (OfPage scripting) text all end read = documents depth scripting text all end read.reads read.builds
texts_parsed documents fragments depth (OfFragment scripting around) text all end read =
    fragments depth scripting around text all end read.reads read.builds

-- the Document of a page that is read to its end has the shape of a page
pub page_shaped : (depth : ℕ) (beginning : Beginning) (text : List ℕ) (all : List Token) (end : Building) (s : TreeBuilder) →
    IsRead depth beginning text all end → IsAtEnd all end s → HasShape beginning end
page_shaped depth (OfPage scripting) text all end s read at =
    pages_have_their_shape depth scripting at.told end (sym (ap (tree_steps depth (start scripting)) at.are) ∙ read.builds)
page_shaped depth (OfFragment scripting around) text all end s read at = tt
