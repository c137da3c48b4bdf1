-- The HTML of a plain document is read as the tokens of its trees.
use Rattle.std.specs.Prelude.{◌≡◌, true, false}
use Rattle.std.specs.Str.{chars}
use mathlib.Core.Path.{◌∙◌, sym, subst}
use Rattle.dom_nodes.specs.Escaping.{value_char}
use Rattle.dom_links.specs.Forest.{Forest}
use Rattle.dom_links.specs.Sound.{IsForest}
use Rattle.dom_markup.specs.Html.{html_of}
use Rattle.dom_markup.specs.Plain.{IsPlain}
use Rattle.dom_markup.specs.ReadingBack.{DocumentIsWrittenAsTrees}
use Rattle.standard_tokens.specs.Laws.{PlainPagesAreRead, PlainPagesAreReadOneWay}
use Rattle.standard_tokens.specs.Reading.{ReadsPage}
use Rattle.standard_laws.proofs.Pieces.{html_writes_values}
use Rattle.standard_laws.proofs.TreesRead.{read_as_pages, read_one_way}
use Rattle.standard_laws.specs.HtmlLaws.{HtmlIsRead, HtmlIsReadOneWay}
use Rattle.standard_laws.specs.TokenLaws.{page_in}
use Rattle.standard_laws.specs.Values.{value_piece}
use Rattle.dom_markup.specs.WrittenTrees.{text_by}
use Rattle.dom_markup.proofs.plain.PlainText.{text_same}

html_same : ((forest : Forest) → IsForest forest → DocumentIsWrittenAsTrees forest) → (forest : Forest) → IsForest forest → (plain : IsPlain forest) → html_of forest 0 ≡ text_by value_char false plain.trees
html_same law forest sound plain = law forest sound plain.root plain.trees plain.below ∙ text_same false plain.trees

pub html_read : PlainPagesAreRead → ((forest : Forest) → IsForest forest → DocumentIsWrittenAsTrees forest) → HtmlIsRead
html_read law written forest sound plain readable f honest answers =
    subst (λ text. ReadsPage f (chars text) (page_in plain.trees)) (sym (html_same written forest sound plain))
    (read_as_pages law value_char value_piece html_writes_values f honest true plain.trees plain.plain readable answers)

pub html_read_one_way : PlainPagesAreReadOneWay → ((forest : Forest) → IsForest forest → DocumentIsWrittenAsTrees forest) → HtmlIsReadOneWay
html_read_one_way law written forest sound plain readable f honest answers found reads =
    read_one_way law value_char value_piece html_writes_values f honest true plain.trees plain.plain readable answers found
    (subst (λ text. ReadsPage f (chars text) found) (html_same written forest sound plain) reads)
