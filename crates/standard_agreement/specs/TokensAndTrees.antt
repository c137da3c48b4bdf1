-- The tokenizer and tree construction take turns: what comes of that is what tree construction builds of the tokens that are read where it
-- gives the answers.
use Rattle.std.specs.Prelude.{◌≡◌, ℕ, Bool, List, Some, false, option_map}
use Rattle.std.specs.Option.{option_and_then, option_map_or}
use Rattle.standard_tokens.specs.Reading.{Feedback, ReadsPage, ReadsText}
use Rattle.standard_tokens.specs.Tokens.{Token}
use Rattle.standard_trees.specs.Building.{Building, Surroundings, fragment_start, start, tree_steps}
use Rattle.standard_trees.specs.Parsing.{IsDocumentOf, IsFragmentOf, document_of, first_state, is_foreign_now, nodes_of, state_of}

-- the answers of tree construction that begins so
abbrev pub feedback_of : ℕ → Building → Feedback
feedback_of depth b = record {
  switch = λ seen. option_and_then (λ (now : Building). option_map state_of now.tokenizer) (tree_steps depth b seen);
  in_foreign = λ seen. option_map_or is_foreign_now (tree_steps depth b seen) false;
}

-- a text is parsed as the Document that is built of its tokens
abbrev pub DocumentsAreBuiltOfTokens : Type 0
DocumentsAreBuiltOfTokens = (depth : ℕ) (scripting : Bool) (text : List ℕ) (all : List Token) (end : Building) →
    ReadsPage (feedback_of depth (start scripting)) text all → tree_steps depth (start scripting) all ≡ Some end →
    IsDocumentOf scripting text (document_of end)

-- and as a fragment as the nodes that are built of them
abbrev pub FragmentsAreBuiltOfTokens : Type 0
FragmentsAreBuiltOfTokens = (depth : ℕ) (scripting : Bool) (around : Surroundings) (text : List ℕ) (all : List Token) (end : Building) →
    ReadsText (feedback_of depth (fragment_start scripting around)) (first_state scripting around) text all →
    tree_steps depth (fragment_start scripting around) all ≡ Some end → IsFragmentOf scripting around text (nodes_of end)

-- Every text of a page is read as tokens, of which a Document is built: some depth suffices.
abbrev pub EveryTextIsBuiltOfTokens : Type 0
EveryTextIsBuiltOfTokens = (scripting : Bool) (text : List ℕ) → (depth : ℕ) × (all : List Token) × (end : Building) ×
    ReadsPage (feedback_of depth (start scripting)) text all × (tree_steps depth (start scripting) all ≡ Some end)

-- and that of a fragment, in every context, as tokens of which its nodes are built
abbrev pub EveryFragmentIsBuiltOfTokens : Type 0
EveryFragmentIsBuiltOfTokens =
    (scripting : Bool) (around : Surroundings) (text : List ℕ) → (depth : ℕ) × (all : List Token) × (end : Building) ×
    ReadsText (feedback_of depth (fragment_start scripting around)) (first_state scripting around) text all ×
    (tree_steps depth (fragment_start scripting around) all ≡ Some end)
