-- What the laws say of the HTML of documents.
use Rattle.std.specs.Prelude.{◌≡◌, List, []}
use Rattle.std.specs.Str.{chars}
use Rattle.dom_links.specs.Forest.{Forest}
use Rattle.dom_links.specs.Sound.{IsForest}
use Rattle.dom_markup.specs.Html.{html_of}
use Rattle.dom_markup.specs.Plain.{IsPlain}
use Rattle.standard_tokens.specs.PlainMarkup.{AreAnswered}
use Rattle.standard_tokens.specs.Reading.{Feedback, IsFeedback, ReadsPage}
use Rattle.standard_tokens.specs.Tokens.{Token}
use Rattle.standard_laws.specs.TokenLaws.{page_in}
use Rattle.standard_laws.specs.ReadableTrees.{AreReadable}
use Rattle.standard_laws.specs.TreeItems.{items_of}
use Rattle.standard_laws.specs.Values.{value_piece}

-- the HTML of a plain document, read as a page, has the tokens of the trees below its root
abbrev pub HtmlIsRead : Type 0
HtmlIsRead = (forest : Forest) → IsForest forest → (plain : IsPlain forest) → AreReadable plain.trees → (f : Feedback) → IsFeedback f →
    AreAnswered f [] (items_of value_piece plain.trees) → ReadsPage f (chars (html_of forest 0)) (page_in plain.trees)

-- and no others
abbrev pub HtmlIsReadOneWay : Type 0
HtmlIsReadOneWay = (forest : Forest) → IsForest forest → (plain : IsPlain forest) → AreReadable plain.trees → (f : Feedback) →
    IsFeedback f →
    AreAnswered f [] (items_of value_piece plain.trees) → (found : List Token) → ReadsPage f (chars (html_of forest 0)) found →
    found ≡ page_in plain.trees
