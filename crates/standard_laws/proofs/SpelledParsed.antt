-- A page that is spelled in any way as a calm document is parsed as that document.
use Rattle.std.specs.Prelude.{◌≡◌, ℕ, true, false, List, [], ◌∷◌, ◌++◌, flat_map, map}
use mathlib.Core.Path.{◌∙◌, sym, ap, subst}
use Rattle.dom_markup.specs.Plain.{IsPlainTrees}
use Rattle.dom_markup.specs.ValueTrees.{ValueTrees}
use Rattle.calm_pages.specs.Calm.{IsCalmDocument}
use Rattle.standard_tokens.specs.Reading.{ReadsText, plain_feedback}
use Rattle.standard_tokens.specs.States.{Data}
use Rattle.standard_tokens.specs.Tokens.{AnEof}
use Rattle.standard_rules.specs.PlainTrees.{page_trees}
use Rattle.standard_rules.specs.TreeTokens.{tokens as tree_tokens}
use Rattle.standard_trees.specs.Laws.{DocumentsAreParsedOneWay}
use Rattle.standard_trees.specs.Parsing.{IsDocumentOf}
use Rattle.standard_agreement.specs.PlainPages.{no_quirks, whole}
use Rattle.standard_agreement.proofs.Telling.{honest}
use Rattle.standard_laws.specs.CalmTrees.{have_no_null, nodes_of}
use Rattle.standard_laws.specs.Parsing.{IsPageOf}
use Rattle.standard_laws.specs.SpelledPages.{has_no_return, tokens}
use Rattle.standard_laws.specs.SpelledParsing.{IsSpelledOf, SpelledDocumentsAreParsed, unslashed}
use Rattle.standard_laws.proofs.CalmDocuments.{PlainDocument, calm_document_plain}
use Rattle.standard_laws.proofs.CalmTokens.{document_tokens}
use Rattle.standard_laws.proofs.PlainNodes.{whole_nodes}
use Rattle.standard_laws.proofs.SlashedTags.{tokens_parsed}
use Rattle.standard_laws.proofs.SpelledPages.{pages_read}
use Rattle.standard_laws.proofs.WrittenPages.{page_alone}

-- the text is read as the tokens of the items
spelled_read : (text : List ℕ) (t : ValueTrees) → (s : IsSpelledOf text t) → ReadsText (plain_feedback false) Data text (flat_map tokens s.items ++ AnEof ∷ [])
spelled_read text t s =
    subst (λ (cs : List ℕ). ReadsText (plain_feedback false) Data cs (flat_map tokens s.items ++ AnEof ∷ [])) (sym s.is)
    (pages_read (plain_feedback false) honest s.items s.spelled s.answered (subst (λ (cs : List ℕ). has_no_return cs ≡ true) s.is s.kept))

spelled_parsed : (text : List ℕ) (t : ValueTrees) → IsCalmDocument t → IsPlainTrees true t → have_no_null t ≡ true → IsSpelledOf text t → IsPageOf text (nodes_of t)
spelled_parsed text t d plain null s scripting =
    let c : PlainDocument t = calm_document_plain t d plain null in
    let same : map unslashed (flat_map tokens s.items) ≡ tree_tokens (page_trees c.page) = s.same ∙ document_tokens t d plain ∙ ap tree_tokens c.same in
    subst (λ n. IsDocumentOf scripting text (no_quirks n)) (ap whole (sym c.same) ∙ whole_nodes t) (tokens_parsed scripting text c.page c.plain (flat_map tokens s.items) same (spelled_read text t s))

pub documents_parsed : DocumentsAreParsedOneWay → SpelledDocumentsAreParsed
documents_parsed once text t d plain null s = page_alone once text (nodes_of t) (spelled_parsed text t d plain null s)
