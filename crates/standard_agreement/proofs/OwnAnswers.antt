-- The parser with the answers of tree construction itself.
use Rattle.std.specs.Prelude.{◌≡◌, refl, ℕ, false, List, [], ◌∷◌, ◌++◌, Option, None, Some, option_map}
use Rattle.std.specs.Option.{option_and_then, option_map_or}
use mathlib.Core.Path.{◌∙◌, sym, ap}
use Rattle.standard_tokens.specs.Machine.{normalized, start_in}
use Rattle.standard_tokens.specs.States.{Data, State}
use Rattle.standard_tokens.specs.Tokens.{Token}
use Rattle.standard_trees.specs.Building.{Building, fragment_start, start, tree_step, tree_steps}
use Rattle.standard_trees.specs.Parsing.{document_of, first_state, is_foreign_now, nodes_of, parser, state_of}
use Rattle.standard_agreement.specs.TokensAndTrees.{DocumentsAreBuiltOfTokens, FragmentsAreBuiltOfTokens, feedback_of}
use Rattle.standard_agreement.proofs.Joined.{Answers, end_of, text_joined}

-- a front of tokens that are taken is taken
front : (depth : ℕ) (b c : Building) (xs ys : List Token) → tree_steps depth b (xs ++ ys) ≡ Some c → (now : Building) × (tree_steps depth b xs ≡ Some now)
front depth b c [] ys h = (b, refl)
front depth b c (t ∷ xs) ys h = by_step (tree_step depth b t) h (λ d k. front depth d c xs ys k)
  where
    by_step : (o : Option Building) → option_and_then (λ d. tree_steps depth d (xs ++ ys)) o ≡ Some c →
        ((d : Building) → tree_steps depth d (xs ++ ys) ≡ Some c → (now : Building) × (tree_steps depth d xs ≡ Some now)) → (now : Building) × (option_and_then (λ d. tree_steps depth d xs) o ≡ Some now)
    by_step None k each = cc
    by_step (Some d) k each = each d k

own_answers : (depth : ℕ) (b c : Building) (all : List Token) → tree_steps depth b all ≡ Some c → Answers depth b (feedback_of depth b) [] all
own_answers depth b c all h seen more e =
    let k = front depth b c seen more (ap (tree_steps depth b) (sym e) ∙ h) in (
      k.0,
      k.1,
      record {
        foreign = ap (λ (o : Option Building). option_map_or is_foreign_now o false) (sym k.1);
        switch = ap (λ (o : Option Building). option_and_then (λ (now : Building). option_map state_of now.tokenizer) o) (sym k.1);
      },
    )

pub documents_built : DocumentsAreBuiltOfTokens
documents_built depth scripting text all end reads h =
    let b : Building = start scripting in
    let p = end_of document_of (λ c. refl) depth b all (document_of end) (parser (start_in Data) (normalized text) b)
    (text_joined (feedback_of depth b) depth b Data text all reads (own_answers depth b end all h)) (ap (option_map document_of) h) in
    (depth, p.0, p.1)

pub fragments_built : FragmentsAreBuiltOfTokens
fragments_built depth scripting around text all end reads h =
    let b : Building = fragment_start scripting around in
    let first : State = first_state scripting around in
    let p = end_of nodes_of (λ c. refl) depth b all (nodes_of end) (parser (start_in first) (normalized text) b)
    (text_joined (feedback_of depth b) depth b first text all reads (own_answers depth b end all h)) (ap (option_map nodes_of) h) in
    (depth, p.0, p.1)
