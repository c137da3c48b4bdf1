-- What is written of calm trees is parsed as these trees.
use Rattle.std.specs.Prelude.{◌≡◌, ℕ, Bool, true, false, not, ◌==◌, List, [], ◌∷◌, refl}
use Rattle.std.specs.List.{list_all}
use Rattle.std.specs.Str.{IsUtf8, chars}
use Rattle.std.specs.Cmp.Derive.{both_true}
use Rattle.std.proofs.lemmas.Bool.{and_parts, eqb-true, true≢false}
use mathlib.Core.Path.{◌∙◌, sym, ap, subst}
use Rattle.dom_nodes.specs.Escaping.{value_char}
use Rattle.dom_links.specs.Forest.{Forest, children_of as ids_below}
use Rattle.dom_links.specs.Sound.{IsForest}
use Rattle.dom_markup.specs.Html.{html_of}
use Rattle.dom_markup.specs.Markup.{Spells}
use Rattle.dom_markup.specs.Numbered.{document_of}
use Rattle.dom_markup.specs.Plain.{HaveNoIdentifiers, IsPlain, IsPlainTrees, Represents}
use Rattle.dom_markup.specs.ReadingBack.{DocumentIsWrittenAsTrees}
use Rattle.dom_markup.specs.ValueTrees.{ValueTrees}
use Rattle.dom_markup.specs.ValueTrees.ValueTrees.{no_trees, text_node, comment_node, doctype_node, element_node}
use Rattle.calm_pages.specs.Calm.{IsCalmDocument, is_calm_text}
use Rattle.standard_rules.specs.PlainTrees.{page_trees}
use Rattle.standard_rules.specs.TreeTokens.{Trees, tokens}
use Rattle.standard_tokens.specs.PlainMarkup.{Piece, is_raw_char}
use Rattle.standard_tokens.specs.Reading.{plain_feedback}
use Rattle.standard_trees.specs.Parsing.{IsDocumentOf, IsFragmentOf}
use Rattle.standard_agreement.specs.PlainPages.{context_named, no_quirks, whole}
use Rattle.standard_agreement.specs.PlainTexts.{IsMarkupOf, PlainFragmentsAreParsed, PlainPagesAreParsed}
use Rattle.standard_agreement.proofs.Telling.{behind_last}
use Rattle.standard_laws.specs.TokenLaws.{FollowsHtml}
use Rattle.standard_laws.specs.ReadableTrees.{AreReadable}
use Rattle.standard_laws.specs.TreeItems.{items_of}
use Rattle.standard_laws.specs.TreeTokens.{tokens_in}
use Rattle.standard_laws.specs.Values.{WritesValues, value_piece}
use Rattle.dom_markup.specs.WrittenTrees.{ValueChar, text_by}
use Rattle.standard_laws.proofs.Answering.{html_answers}
use Rattle.standard_laws.proofs.Encodings.{chars_are}
use Rattle.dom_markup.proofs.plain.PlainText.{text_same}
use Rattle.standard_laws.proofs.Pieces.{html_writes_values}
use Rattle.standard_laws.proofs.TreesPlain.{trees_plain}
use Rattle.standard_laws.proofs.TreesTokens.{trees_tokens}
use Rattle.standard_laws.proofs.TreesWritten.{trees_written}
use Rattle.standard_laws.specs.CalmTrees.{have_no_null, nodes_of, scope_in}
use Rattle.standard_laws.proofs.CalmDocuments.{PlainDocument, calm_document_plain, calm_fragment_plain, inner_context}
use Rattle.standard_laws.proofs.PlainNodes.{plain_nodes, whole_nodes}
use Rattle.standard_laws.specs.ParsingLaws.{CalmDocumentsAreParsed, CalmFragmentsAreParsed, CalmHtmlIsParsed, CalmPagesAreParsed}
use Rattle.standard_laws.specs.Parsing.{IsPageOf}
use Rattle.standard_laws.proofs.CalmReadable.{document_readable}
use Rattle.standard_laws.proofs.Kept.{ShowsBoth, calm_kept, value_shows}
use Rattle.standard_laws.proofs.CalmTokens.{calm_tokens, document_tokens}
use Rattle.standard_laws.proofs.Utf8Pieces.{document_bare, document_utf8}

-- ---- laws of dom_markup

abbrev pub OneMeaning : Type 0
OneMeaning = (f : Forest) (ns : List ℕ) (a b : ValueTrees) → Represents f ns a → Represents f ns b → a ≡ b

abbrev pub ReadIsPlain : Type 0
ReadIsPlain = (text : List ℕ) (trees : ValueTrees) → IsUtf8 text → Spells text trees → HaveNoIdentifiers trees → IsPlain (document_of trees)

abbrev pub StandForTheirTrees : Type 0
StandForTheirTrees = (t : ValueTrees) → Represents (document_of t) (ids_below (document_of t) 0) t

-- ---- readable trees have no U+0000

raw_some : (c : ℕ) → is_raw_char c ≡ true → not (c == 0) ≡ true
raw_some c h = by_test (c == 0) refl
  where
    by_test : (x : Bool) → (c == 0) ≡ x → not x ≡ true
    by_test true e = absurd (true≢false (sym (subst (λ d. is_raw_char d ≡ true) (eqb-true c 0 e) h)))
    by_test false e = refl

raw_all : (cs : List ℕ) → list_all is_raw_char cs ≡ true → list_all (λ c. not (c == 0)) cs ≡ true
raw_all [] h = refl
raw_all (c ∷ cs) h =
    let parts : (is_raw_char c ≡ true) × (list_all is_raw_char cs ≡ true) = and_parts (is_raw_char c) (list_all is_raw_char cs) h in
    both_true (raw_some c parts.0) (raw_all cs parts.1)

no_null : (t : ValueTrees) → AreReadable t → have_no_null t ≡ true
no_null no_trees r = refl
no_null (text_node contents later) r = both_true (raw_all (chars contents) r.0) (no_null later r.1)
no_null (comment_node contents later) r = no_null later r.2
no_null (doctype_node name public system later) r = no_null later r.1
no_null (element_node name attributes children later) r = both_true (no_null children r.3) (no_null later r.4)

-- ---- what is written of trees

follows : FollowsHtml (plain_feedback false)
follows seen token = behind_last seen token

-- it is plain markup
markup_of : (by : ValueChar) (piece : ℕ → Piece) → WritesValues by piece → (top : Bool) (t : ValueTrees) → IsPlainTrees top t → AreReadable t → (n : Trees) → tokens_in t ≡ tokens n →
    IsMarkupOf (chars (text_by by false t)) (tokens n)
markup_of by piece writes top t plain readable n same = record {
  items = items_of piece t;
  plain = trees_plain by piece writes top t plain readable;
  answered = (html_answers (plain_feedback false) follows piece t readable []).1;
  is = chars_are (trees_written by piece writes top t plain readable);
  tokens = sym (trees_tokens by piece writes top t plain readable ∙ same);
}

-- as a page
pub documents_parsed : PlainPagesAreParsed → (by : ValueChar) (piece : ℕ → Piece) → WritesValues by piece → CalmDocumentsAreParsed by
documents_parsed law by piece writes t d plain readable scripting =
    let c : PlainDocument t = calm_document_plain t d plain (no_null t readable) in
    subst (λ n. IsDocumentOf scripting (chars (text_by by false t)) (no_quirks n)) (ap whole (sym c.same) ∙ whole_nodes t)
    (law scripting (chars (text_by by false t)) c.page c.plain (markup_of by piece writes true t plain readable (page_trees c.page) (document_tokens t d plain ∙ ap tokens c.same)))

-- as a fragment
pub fragments_parsed : PlainFragmentsAreParsed → (by : ValueChar) (piece : ℕ → Piece) → WritesValues by piece → CalmFragmentsAreParsed by
fragments_parsed law by piece writes context t among calm plain readable scripting attrs =
    subst (IsFragmentOf scripting (context_named context attrs) (chars (text_by by false t))) (whole_nodes t)
    (law scripting context attrs (chars (text_by by false t)) (plain_nodes t) among (calm_fragment_plain context t among calm plain (no_null t readable))
    (markup_of by piece writes false t plain readable (plain_nodes t) (calm_tokens (scope_in context) t (inner_context context among) plain calm)))

-- ---- calm pages

-- below the root of a plain document stand no other trees
plain_trees : OneMeaning → (forest : Forest) → (plain : IsPlain forest) → (t : ValueTrees) → Represents forest (ids_below forest 0) t → IsPlainTrees true t
plain_trees meaning forest plain t below = subst (IsPlainTrees true) (meaning forest (ids_below forest 0) plain.trees t plain.below below) plain.plain

calm_parsed : PlainPagesAreParsed → (by : ValueChar) (piece : ℕ → Piece) → WritesValues by piece → ShowsBoth by → (t : ValueTrees) → IsCalmDocument t → IsPlainTrees true t → is_calm_text (text_by by false t) ≡ true →
    IsUtf8 (text_by by false t) → IsPageOf (chars (text_by by false t)) (nodes_of t)
calm_parsed law by piece writes shows t d plain bytes utf8 =
    documents_parsed law by piece writes t d plain (document_readable by shows t d plain (document_utf8 by piece writes t d plain utf8) (calm_kept (text_by by false t) bytes))

pub pages_parsed : PlainPagesAreParsed → OneMeaning → ReadIsPlain → StandForTheirTrees → (by : ValueChar) (piece : ℕ → Piece) → WritesValues by piece → ShowsBoth by → CalmPagesAreParsed by
pages_parsed law meaning read stand by piece writes shows t utf8 page =
    let plain : IsPlainTrees true t = plain_trees meaning (document_of t) (read (text_by by false t) t utf8 page.spelled (document_bare t page.document)) t (stand t) in
    calm_parsed law by piece writes shows t page.document plain page.bytes utf8

-- the HTML of a document
pub html_parsed : PlainPagesAreParsed → OneMeaning → ((forest : Forest) → IsForest forest → DocumentIsWrittenAsTrees forest) → CalmHtmlIsParsed
html_parsed parsed meaning law forest sound plain calm utf8 =
    let same : html_of forest 0 ≡ text_by value_char false calm.trees = law forest sound plain.root calm.trees calm.below ∙ text_same false calm.trees in
    subst (λ text. IsPageOf (chars text) (nodes_of calm.trees)) (sym same)
    (calm_parsed parsed value_char value_piece html_writes_values value_shows calm.trees calm.document (plain_trees meaning forest plain calm.trees calm.below) (ap is_calm_text (sym same) ∙ calm.bytes)
    (subst IsUtf8 same utf8))
