use Rattle.std.proofs.Common.{◌≡◌, ◌++◌, [], ◌∷◌, ℕ, List, Bor, sym, ap, ◌∙◌, map, append-nil, append_assoc}
use Rattle.std.proofs.lemmas.List.{map-append}
use Rattle.std.specs.Str.Iter.{split_ascii_whitespace_text}
use Rattle.dom_nodes.specs.Words.{words_of}
use Rattle.dom_nodes.proofs.WordLemmas.{words-white}
use Rattle.dom_nodes.proofs.ClassLemmas.{first_word}
use Rattle.c_state.proofs.bytes.names_in.Goals as goal

pub loop-name-preserved : goal.loop-name-preserved
loop-name-preserved c =
    let cut = first_word _ c.in-Some.name.now _ c.in-Some.ensures.steps in
    let left = words_of (split_ascii_whitespace_text c.next.new.self) in
    let before = map (λ (name : Bor (List ℕ)). name.now) c.loop-name.names.items in (
      tt,
      tt,
      ap (λ (items : List (Bor (List ℕ))). map (λ name. name.now) items ++ left) c.in_ok-push.ensures.items
          ∙ ap (λ (names : List (List ℕ)). names ++ left) (map-append (λ (name : Bor (List ℕ)). name.now) c.loop-name.names.items (c.in-Some.name ∷ []))
          ∙ append_assoc before (c.in-Some.name.now ∷ []) left
          ∙ ap (λ (words : List (List ℕ)). before ++ words) (sym cut.words)
          ∙ c.loop-name.invariant.2,
    )

pub returns : goal.returns
returns c =
    let before = map (λ (name : Bor (List ℕ)). name.now) c.loop-name.names.items in
    sym (append-nil before) ∙ sym (ap (λ (words : List (List ℕ)). before ++ words) (words-white _ c.in-None.ensures.steps.0)) ∙ c.loop-name.invariant.2
