-- What a calm page is parsed as, and how a fragment is read.
use Rattle.std.proofs.Common.{◌≡◌, ◌<◌, List, [], None, Option, Some, ap, arith, false, subst, suc, sym, zero, ℕ}
use Rattle.std.specs.Prelude.{IfSome, codes, slice_index}
use Rattle.std.specs.Str.{IsUtf8, chars}
use Rattle.std.proofs.lemmas.Str.{chars-IsAscii}
use Rattle.standard_trees.specs.Building.{NoQuirks, Surroundings}
use Rattle.standard_trees.specs.GrowingTree.{lower}
use Rattle.standard_trees.specs.TreeStore.{Html, is_member}
use Rattle.calm_pages.specs.Calm.{IsReadCalm}
use Rattle.dom_links.specs.Forest.{Forest}
use Rattle.dom_markup.specs.declared.document.Document.{Document}
use Rattle.dom_trees.specs.declared.quirks.QuirksMode.{QuirksMode}
use Rattle.page_trees.specs.DocumentTrees.{IsParsedAs}
use Rattle.standard_laws.specs.SpelledParsing.{CalmPagesAreDocuments}
use Rattle.dom_clean.specs.StandardSources.{in_div}

pub calm_parsed : CalmPagesAreDocuments → (text : List ℕ) → IsUtf8 text → (document : Document) → IsReadCalm text document →
    IsParsedAs false (chars text) document.tree document.quirks_mode
calm_parsed law text utf8 document read =
    subst (λ (mode : QuirksMode). IsParsedAs false (chars text) document.tree mode) (sym read.no_quirks)
    (subst (λ (tree : Forest). IsParsedAs false (chars text) tree QuirksMode.NoQuirks) (sym read.is) (law text read.trees utf8 read.page false))

pub found_parsed : CalmPagesAreDocuments → (text : List ℕ) → IsUtf8 text → (found : Option Document) → IfSome found (IsReadCalm text) →
    IfSome found (λ document. IsParsedAs false (chars text) document.tree document.quirks_mode)
found_parsed law text utf8 None read = tt
found_parsed law text utf8 (Some document) read = calm_parsed law text utf8 document read

-- ---- the name of the context

div_low : (i : ℕ) → slice_index (codes "div") i < 128
div_low zero = omega arith
div_low (suc zero) = omega arith
div_low (suc (suc zero)) = omega arith
div_low (suc (suc (suc zero))) = omega arith
div_low (suc (suc (suc (suc i)))) = omega arith

div_chars : chars (codes "div") ≡ codes "div"
div_chars = chars-IsAscii (codes "div") div_low

pub div_unspaced : is_member 32 (chars (codes "div")) ≡ false
div_unspaced = ap (is_member 32) div_chars

abbrev pub named_in : List ℕ → Surroundings
named_in name = record { space = Html; name = lower name; attrs = []; in_form = false; quirks = NoQuirks }

pub div_surrounds : named_in (chars (codes "div")) ≡ in_div
div_surrounds = ap named_in div_chars
