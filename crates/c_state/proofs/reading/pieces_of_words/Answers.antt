use Rattle.std.proofs.Common.{◌≡◌, ◌++◌, [], ◌∷◌, ℕ, List, Some, sym, ap, ◌∙◌, append-nil, append_assoc, length, string_bytes}
use Rattle.std.specs.Str.Iter.{split_ascii_whitespace_text}
use Rattle.dom_nodes.specs.Words.{words_of}
use Rattle.dom_nodes.proofs.WordLemmas.{words-white}
use Rattle.dom_nodes.proofs.ClassLemmas.{first_word}
use Rattle.c_state.specs.Pieces.{joined_pieces, piece_lengths}
use Rattle.c_state.proofs.reading.pieces_of_words.Goals as goal

pub loop-word-preserved : goal.loop-word-preserved
loop-word-preserved c =
    let word = c.in-Some.word.now in
    let cut = first_word _ word _ c.in-Some.ensures.steps in
    let left = words_of (split_ascii_whitespace_text c.next.new.self) in
    let text = string_bytes c.loop-word.pieces.text in
    let lengths = c.loop-word.pieces.lengths.items in (
      tt,
      tt,
      ap (λ (bytes : List ℕ). bytes ++ joined_pieces Some left) c.in_ok-push.ensures.text
          ∙ append_assoc text word (joined_pieces Some left)
          ∙ ap (λ (words : List (List ℕ)). text ++ joined_pieces Some words) (sym cut.words)
          ∙ c.loop-word.invariant.2,
      ap (λ (numbers : List ℕ). numbers ++ piece_lengths Some left) c.in_ok-push.ensures.lengths
          ∙ append_assoc lengths (length word ∷ []) (piece_lengths Some left)
          ∙ ap (λ (words : List (List ℕ)). lengths ++ piece_lengths Some words) (sym cut.words)
          ∙ c.loop-word.invariant.3,
    )

pub returns : goal.returns
returns c =
    let text = string_bytes c.loop-word.pieces.text in
    let lengths = c.loop-word.pieces.lengths.items in
    let none = words-white _ c.in-None.ensures.steps.0 in
    record {
      joined = sym (append-nil text) ∙ sym (ap (λ (words : List (List ℕ)). text ++ joined_pieces Some words) none) ∙ c.loop-word.invariant.2;
      each = sym (append-nil lengths) ∙ sym (ap (λ (words : List (List ℕ)). lengths ++ piece_lengths Some words) none) ∙ c.loop-word.invariant.3;
    }
