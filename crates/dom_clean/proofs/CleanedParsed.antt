-- The text of what was left is parsed as what was left.
use Rattle.std.specs.Prelude.{◌≡◌, ℕ, true, false, List}
use Rattle.std.specs.Str.{IsUtf8, chars}
use mathlib.Core.Path.{◌∙◌, sym, ap, subst}
use Rattle.dom_markup.specs.Numbered.{document_of}
use Rattle.dom_markup.specs.Plain.{IsPlain, IsPlainTrees}
use Rattle.dom_markup.specs.ValueTrees.{ValueTrees}
use Rattle.dom_links.specs.Forest.{Forest, children_of}
use Rattle.calm_pages.specs.Calm.{IsCalmPage}
use Rattle.standard_rules.specs.PlainTrees.{flow_contexts}
use Rattle.standard_rules.specs.TreeTokens.{is_among}
use Rattle.standard_laws.specs.CalmTrees.{nodes_of}
use Rattle.standard_laws.specs.ReadableTrees.{AreReadable}
use Rattle.standard_laws.specs.Values.{safe_piece}
use Rattle.dom_markup.specs.WrittenTrees.{safe_char, text_by}
use Rattle.standard_laws.proofs.Pieces.{safe_writes_values}
use Rattle.standard_trees.specs.Laws.{DocumentsAreParsedOneWay, FragmentsAreParsedOneWay}
use Rattle.standard_laws.specs.ParsingLaws.{CalmFragmentsAreParsed, CalmPagesAreParsed}
use Rattle.standard_laws.specs.Parsing.{IsFragmentIn, IsPageOf, IsPageOnlyOf}
use Rattle.standard_laws.proofs.CalmParsed.{OneMeaning, ReadIsPlain, StandForTheirTrees}
use Rattle.standard_laws.proofs.CalmReadable.{document_readable}
use Rattle.standard_laws.proofs.Kept.{calm_kept, safe_shows}
use Rattle.standard_laws.proofs.Utf8Pieces.{document_bare, document_utf8}
use Rattle.standard_laws.proofs.WrittenPages.{fragment_alone, page_alone}
use Rattle.dom_clean.specs.Cleaned.{cleaned_below}
use Rattle.dom_clean.specs.Laws.{IsSafe, left_below, page_around, page_of}
use Rattle.dom_clean.specs.Policy.{Policy, is_sound}
use Rattle.dom_clean.specs.Written.{text_of}
use Rattle.dom_clean.specs.Parsed.{CleanedPagesAreParsed, CleanedTextsAreParsed, DeclaresUtf8, IsCleanedAs, IsCleanedPage, IsCleanedText}
use Rattle.dom_clean.proofs.CalmPlaces.{fragment_calm}
use Rattle.dom_clean.proofs.CleanedText.{page_utf8, same_page, same_text}
use Rattle.dom_clean.proofs.DeclaresUtf8.{page_declares}
use Rattle.dom_clean.proofs.Pages.{safe_text}

-- the page as standard_laws writes it
page_is : (policy : Policy) → is_sound policy ≡ true → (text : List ℕ) (trees : ValueTrees) → IsSafe policy text trees → page_around text ≡ text_by safe_char false (page_of trees)
page_is policy sound text trees safe = ap page_around safe.is ∙ sym (same_page policy sound trees safe.allowed)

text_is : (policy : Policy) → is_sound policy ≡ true → (text : List ℕ) (trees : ValueTrees) → IsSafe policy text trees → text ≡ text_by safe_char false trees
text_is policy sound text trees safe = safe.is ∙ sym (same_text policy sound trees safe.allowed)

-- ---- pages

pub pages_parsed : CalmPagesAreParsed safe_char → DocumentsAreParsedOneWay → CleanedPagesAreParsed
pages_parsed calm once policy sound text trees utf8 safe =
    let is : page_around text ≡ text_by safe_char false (page_of trees) = page_is policy sound text trees safe in
    page_alone once (chars (page_around text)) (nodes_of (page_of trees))
    (subst (λ t. IsPageOf (chars t) (nodes_of (page_of trees))) (sym is) (calm (page_of trees) (subst IsUtf8 is utf8) (subst (λ t. IsCalmPage t (page_of trees)) is safe.page)))

-- ---- fragments

-- the document of a calm page is plain
page_plain : OneMeaning → ReadIsPlain → StandForTheirTrees → (text : List ℕ) (trees : ValueTrees) → IsUtf8 text → IsCalmPage text trees → IsPlainTrees true trees
page_plain meaning read stand text trees utf8 page =
    let plain : IsPlain (document_of trees) = read text trees utf8 page.spelled (document_bare trees page.document) in
    subst (IsPlainTrees true) (meaning (document_of trees) (children_of (document_of trees) 0) plain.trees trees plain.below (stand trees)) plain.plain

pub texts_parsed : OneMeaning → ReadIsPlain → StandForTheirTrees → CalmPagesAreParsed safe_char → CalmFragmentsAreParsed safe_char → DocumentsAreParsedOneWay → FragmentsAreParsedOneWay →
    CleanedTextsAreParsed
texts_parsed meaning read stand calm pieces page_once fragment_once policy sound text trees utf8 safe =
    let is : page_around text ≡ text_by safe_char false (page_of trees) = page_is policy sound text trees safe in
    let page : IsCalmPage (text_by safe_char false (page_of trees)) (page_of trees) = subst (λ t. IsCalmPage t (page_of trees)) is safe.page in
    let page_is_utf8 : IsUtf8 (text_by safe_char false (page_of trees)) = subst IsUtf8 is (page_utf8 text utf8) in
    let plain : IsPlainTrees true (page_of trees) = page_plain meaning read stand (text_by safe_char false (page_of trees)) (page_of trees) page_is_utf8 page in
    let readable : AreReadable (page_of trees) =
    document_readable safe_char safe_shows (page_of trees) page.document plain (document_utf8 safe_char safe_piece safe_writes_values (page_of trees) page.document plain page_is_utf8)
    (calm_kept (text_by safe_char false (page_of trees)) page.bytes) in
    let fragment : (context : List ℕ) → is_among context flow_contexts ≡ true → IsFragmentIn context (chars text) (nodes_of trees) =
    λ context among. subst (λ t. IsFragmentIn context (chars t) (nodes_of trees)) (sym (text_is policy sound text trees safe))
    (pieces context trees among (fragment_calm trees page.document.calm context among) plain.4.5.6.5 readable.1.3.4.3) in
    record {
      page = pages_parsed calm page_once policy sound text trees (page_utf8 text utf8) safe;
      fragment = λ context among. fragment_alone fragment_once context (chars text) (nodes_of trees) (fragment context among);
    }

-- ---- what is returned

-- the text of what is left below a node
pub cleaned_text : CleanedTextsAreParsed → (policy : Policy) → is_sound policy ≡ true → (forest : Forest) (n : ℕ) (text : List ℕ) → IsUtf8 text → text ≡ text_of (cleaned_below policy forest n) →
    IsCleanedAs policy text (left_below policy forest n)
cleaned_text parsed policy sound forest n text utf8 is =
    let safe : IsSafe policy text (left_below policy forest n) = safe_text policy sound forest n text is in
    record { safe = safe; parsed = parsed policy sound text (left_below policy forest n) utf8 safe }

-- a page with such a text in its body
pub cleaned_page : (policy : Policy) (page text : List ℕ) → page ≡ page_around text → IsCleanedText policy text → IsCleanedPage policy page
cleaned_page policy page text is cleaned =
    record {
      text = text;
      trees = cleaned.0;
      is = is;
      cleaned = cleaned.1;
      parsed = subst (λ t. IsPageOnlyOf (chars t) (nodes_of (page_of cleaned.0))) (sym is) cleaned.1.parsed.page;
      encoding = subst DeclaresUtf8 (sym is) (page_declares text);
    }
