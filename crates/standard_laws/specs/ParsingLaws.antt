-- What the laws say.
use Rattle.std.specs.Prelude.{◌≡◌, ℕ, Bool, true, false, List, [], ◌∷◌, ◌++◌, Some, option_map}
use Rattle.std.specs.Str.{IsUtf8, chars}
use Rattle.dom_links.specs.Forest.{Forest}
use Rattle.dom_links.specs.Sound.{IsForest}
use Rattle.dom_markup.specs.Html.{html_of}
use Rattle.dom_markup.specs.Plain.{IsPlain, IsPlainTrees}
use Rattle.dom_markup.specs.ValueTrees.{ValueTrees}
use Rattle.calm_pages.specs.Calm.{IsCalmDocument, IsCalmForest, IsCalmPage, are_calm}
use Rattle.standard_rules.specs.PlainTrees.{flow_contexts}
use Rattle.standard_rules.specs.TreeTokens.{is_among}
use Rattle.standard_tokens.specs.Tokens.{AnEof}
use Rattle.standard_trees.specs.Building.{fragment_start, start, tree_steps}
use Rattle.standard_trees.specs.Parsing.{document_of, nodes_of as fragment_of}
use Rattle.standard_trees.specs.TreeStore.{NodeAttr}
use Rattle.standard_agreement.specs.PlainPages.{context_named, no_quirks}
use Rattle.standard_laws.specs.CalmTrees.{have_no_null, nodes_of, scope_in}
use Rattle.standard_laws.specs.ReadableTrees.{AreReadable}
use Rattle.standard_laws.specs.TreeTokens.{tokens_in}
use Rattle.dom_markup.specs.WrittenTrees.{ValueChar, text_by}
use Rattle.standard_laws.specs.Parsing.{IsFragmentIn, IsPageOf}

-- ---- tree construction

-- from the tokens of a calm document that document is built
abbrev pub CalmDocumentsAreBuilt : Type 0
CalmDocumentsAreBuilt = (scripting : Bool) (trees : ValueTrees) → IsCalmDocument trees → IsPlainTrees true trees →
    have_no_null trees ≡ true →
    (depth : ℕ) × (option_map document_of (tree_steps depth (start scripting) (tokens_in trees ++ AnEof ∷ [])) ≡
    Some (no_quirks (nodes_of trees)))

-- from the tokens of calm trees these trees are built, as a fragment in `body`, `div`, `li`, `td` or `blockquote`
abbrev pub CalmFragmentsAreBuilt : Type 0
CalmFragmentsAreBuilt = (scripting : Bool) (context : List ℕ) (attrs : List NodeAttr) (trees : ValueTrees) →
    is_among context flow_contexts ≡ true → are_calm (scope_in context) trees ≡ true → IsPlainTrees false trees →
    have_no_null trees ≡ true →
    (depth : ℕ) × (option_map fragment_of
    (tree_steps depth (fragment_start scripting (context_named context attrs)) (tokens_in trees ++ AnEof ∷ [])) ≡ Some (nodes_of trees))

-- ---- parsing

-- what is written of a calm document is parsed as that document
abbrev pub CalmDocumentsAreParsed : ValueChar → Type 0
CalmDocumentsAreParsed by = (trees : ValueTrees) → IsCalmDocument trees → IsPlainTrees true trees → AreReadable trees →
    IsPageOf (chars (text_by by false trees)) (nodes_of trees)

-- a calm page that is written so is parsed as its document
abbrev pub CalmPagesAreParsed : ValueChar → Type 0
CalmPagesAreParsed by = (trees : ValueTrees) → IsUtf8 (text_by by false trees) → IsCalmPage (text_by by false trees) trees →
    IsPageOf (chars (text_by by false trees)) (nodes_of trees)

-- what is written of calm trees is parsed as these trees, as a fragment in `body`, `div`, `li`, `td` or `blockquote`
abbrev pub CalmFragmentsAreParsed : ValueChar → Type 0
CalmFragmentsAreParsed by = (context : List ℕ) (trees : ValueTrees) → is_among context flow_contexts ≡ true →
    are_calm (scope_in context) trees ≡ true → IsPlainTrees false trees →
    AreReadable trees → IsFragmentIn context (chars (text_by by false trees)) (nodes_of trees)

-- the HTML of a calm document is parsed as the trees below the document's root
abbrev pub CalmHtmlIsParsed : Type 0
CalmHtmlIsParsed = (forest : Forest) → IsForest forest → IsPlain forest → (calm : IsCalmForest forest) → IsUtf8 (html_of forest 0) →
    IsPageOf (chars (html_of forest 0)) (nodes_of calm.trees)
