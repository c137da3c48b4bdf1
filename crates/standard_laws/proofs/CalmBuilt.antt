-- The tokens of calm documents give these documents.
use Rattle.std.specs.Prelude.{◌≡◌, List, [], ◌∷◌, ◌++◌, Some, option_map}
use mathlib.Core.Path.{◌∙◌, sym, ap}
use Rattle.standard_rules.specs.PlainTrees.{page_trees}
use Rattle.standard_rules.specs.TreeTokens.{tokens}
use Rattle.standard_tokens.specs.Tokens.{Token, AnEof}
use Rattle.standard_trees.specs.Building.{fragment_start, start, tree_steps}
use Rattle.standard_trees.specs.Parsing.{document_of, nodes_of as fragment_of}
use Rattle.standard_trees.specs.TreeStore.{Trees as WholeTrees}
use Rattle.standard_agreement.specs.PlainPages.{PlainFragmentsAreBuilt, PlainPagesAreBuilt, context_named, no_quirks, whole}
use Rattle.standard_laws.specs.CalmTrees.{nodes_of, scope_in}
use Rattle.standard_laws.specs.ParsingLaws.{CalmDocumentsAreBuilt, CalmFragmentsAreBuilt}
use Rattle.standard_laws.specs.TreeTokens.{tokens_in}
use Rattle.standard_laws.proofs.CalmDocuments.{PlainDocument, calm_document_plain, calm_fragment_plain, inner_context}
use Rattle.standard_laws.proofs.CalmTokens.{calm_tokens, document_tokens}
use Rattle.standard_laws.proofs.PlainNodes.{plain_nodes, whole_nodes}

pub calm_documents_built : PlainPagesAreBuilt → CalmDocumentsAreBuilt
calm_documents_built law scripting t d plain null =
    let c : PlainDocument t = calm_document_plain t d plain null in
    let k = law scripting c.page c.plain in
    let seen : tokens_in t ≡ tokens (page_trees c.page) = document_tokens t d plain ∙ ap tokens c.same in
    let nodes : whole (page_trees c.page) ≡ nodes_of t = ap whole (sym c.same) ∙ whole_nodes t in
    (k.0, ap (λ (ts : List Token). option_map document_of (tree_steps k.0 (start scripting) (ts ++ AnEof ∷ []))) seen ∙ k.1 ∙ ap (λ n. Some (no_quirks n)) nodes)

pub calm_fragments_built : PlainFragmentsAreBuilt → CalmFragmentsAreBuilt
calm_fragments_built law scripting context attrs t among calm plain null =
    let k = law scripting context attrs (plain_nodes t) among (calm_fragment_plain context t among calm plain null) in
    let seen : tokens_in t ≡ tokens (plain_nodes t) = calm_tokens (scope_in context) t (inner_context context among) plain calm in (
      k.0,
      ap (λ (ts : List Token). option_map fragment_of (tree_steps k.0 (fragment_start scripting (context_named context attrs)) (ts ++ AnEof ∷ []))) seen ∙ k.1
          ∙ ap (λ (n : WholeTrees). Some n) (whole_nodes t),
    )
