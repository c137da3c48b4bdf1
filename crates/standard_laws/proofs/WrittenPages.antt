-- Calm pages that are written as HTML is, or cautiously, are parsed as their documents alone.
use Rattle.std.proofs.Common.{◌≡◌, inl, inr, ℕ, false, List, subst, sym}
use Rattle.std.specs.Str.{IsUtf8, chars}
use Rattle.dom_nodes.specs.Escaping.{value_char}
use Rattle.dom_markup.specs.ValueTrees.{ValueTrees}
use Rattle.calm_pages.specs.Calm.{IsCalmPage}
use Rattle.standard_trees.specs.Laws.{DocumentsAreParsedOneWay, FragmentsAreParsedOneWay}
use Rattle.standard_trees.specs.TreeStore.{Trees}
use Rattle.standard_agreement.specs.PlainPages.{context_named, no_quirks}
use Rattle.standard_laws.specs.CalmTrees.{nodes_of}
use Rattle.dom_markup.specs.WrittenTrees.{ValueChar, safe_char, text_by}
use Rattle.standard_laws.specs.ParsingLaws.{CalmPagesAreParsed}
use Rattle.standard_laws.specs.Pages.{IsWrittenOf, WrittenPagesAreParsed}
use Rattle.standard_laws.specs.Parsing.{IsFragmentIn, IsFragmentOnlyOf, IsPageOf, IsPageOnlyOf}

-- what a text is parsed as, it is parsed as alone
pub page_alone : DocumentsAreParsedOneWay → (text : List ℕ) (children : Trees) → IsPageOf text children → IsPageOnlyOf text children
page_alone once text children p = record { parsed = p; only = λ scripting other q. once scripting text other (no_quirks children) q (p scripting) }

pub fragment_alone : FragmentsAreParsedOneWay → (context text : List ℕ) (nodes : Trees) → IsFragmentIn context text nodes → IsFragmentOnlyOf context text nodes
fragment_alone once context text nodes p =
    record { parsed = p; only = λ scripting attrs other q. once scripting (context_named context attrs) text other nodes q (p scripting attrs) }

by_writer : (by : ValueChar) → CalmPagesAreParsed by → (text : List ℕ) (trees : ValueTrees) → text ≡ text_by by false trees → IsUtf8 text → IsCalmPage text trees → IsPageOf (chars text) (nodes_of trees)
by_writer by calm text trees is utf8 page = subst (λ t. IsPageOf (chars t) (nodes_of trees)) (sym is) (calm trees (subst IsUtf8 is utf8) (subst (λ t. IsCalmPage t trees) is page))

pub written_parsed : CalmPagesAreParsed value_char → CalmPagesAreParsed safe_char → DocumentsAreParsedOneWay → WrittenPagesAreParsed
written_parsed calm safe once text trees utf8 page written = page_alone once (chars text) (nodes_of trees) (parsed written)
  where
    parsed : IsWrittenOf text trees → IsPageOf (chars text) (nodes_of trees)
    parsed (inl is) = by_writer value_char calm text trees is utf8 page
    parsed (inr is) = by_writer safe_char safe text trees is utf8 page
