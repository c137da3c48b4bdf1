-- What is written of trees is read as their tokens.
use Rattle.std.specs.Prelude.{◌≡◌, ℕ, false, [], ◌∷◌, ◌++◌}
use Rattle.std.specs.List.{flat_map}
use Rattle.std.specs.Str.{chars}
use mathlib.Core.Path.{◌∙◌, sym, ap, subst}
use Rattle.standard_tokens.specs.Laws.{IsReadAnywhere, PlainMarkupIsRead, PlainPagesAreRead, PlainPagesAreReadOneWay}
use Rattle.standard_tokens.specs.PlainMarkup.{Piece, tokens, written}
use Rattle.standard_tokens.specs.Reading.{ReadsPage}
use Rattle.standard_tokens.specs.Tokens.{AnEof}
use Rattle.standard_laws.proofs.Encodings.{chars_are}
use Rattle.standard_laws.proofs.TreesPlain.{trees_plain}
use Rattle.standard_laws.proofs.TreesTokens.{trees_tokens}
use Rattle.standard_laws.proofs.TreesWritten.{trees_written}
use Rattle.standard_laws.specs.TokenLaws.{TreesAreReadAnywhere, TreesAreReadAsPages, TreesAreReadOneWay, page_in}
use Rattle.standard_laws.specs.TreeItems.{items_of}
use Rattle.standard_laws.specs.TreeTokens.{tokens_in}
use Rattle.standard_laws.specs.Values.{WritesValues}
use Rattle.dom_markup.specs.WrittenTrees.{ValueChar, text_by}

pub read_anywhere : PlainMarkupIsRead → (by : ValueChar) (piece : ℕ → Piece) → WritesValues by piece → TreesAreReadAnywhere by piece
read_anywhere law by piece writes f honest top trees plain readable seen answers =
    let text : chars (text_by by false trees) ≡ flat_map written (items_of piece trees) = chars_are (trees_written by piece writes top trees plain readable) in
    let found : flat_map tokens (items_of piece trees) ≡ tokens_in trees = trees_tokens by piece writes top trees plain readable in
    subst (λ cs. IsReadAnywhere f seen cs (tokens_in trees)) (sym text)
    (subst (λ ts. IsReadAnywhere f seen (flat_map written (items_of piece trees)) ts) found
    (law f honest seen (items_of piece trees) (trees_plain by piece writes top trees plain readable) answers))

pub read_as_pages : PlainPagesAreRead → (by : ValueChar) (piece : ℕ → Piece) → WritesValues by piece → TreesAreReadAsPages by piece
read_as_pages law by piece writes f honest top trees plain readable answers =
    let text : chars (text_by by false trees) ≡ flat_map written (items_of piece trees) = chars_are (trees_written by piece writes top trees plain readable) in
    let found : flat_map tokens (items_of piece trees) ++ AnEof ∷ [] ≡ page_in trees = ap (λ ts. ts ++ AnEof ∷ []) (trees_tokens by piece writes top trees plain readable) in
    subst (λ cs. ReadsPage f cs (page_in trees)) (sym text)
    (subst (λ ts. ReadsPage f (flat_map written (items_of piece trees)) ts) found (law f honest (items_of piece trees) (trees_plain by piece writes top trees plain readable) answers))

pub read_one_way : PlainPagesAreReadOneWay → (by : ValueChar) (piece : ℕ → Piece) → WritesValues by piece → TreesAreReadOneWay by piece
read_one_way law by piece writes f honest top trees plain readable answers all reads =
    let text : chars (text_by by false trees) ≡ flat_map written (items_of piece trees) = chars_are (trees_written by piece writes top trees plain readable) in
    law f honest (items_of piece trees) (trees_plain by piece writes top trees plain readable) answers all (subst (λ cs. ReadsPage f cs all) text reads)
    ∙ ap (λ ts. ts ++ AnEof ∷ []) (trees_tokens by piece writes top trees plain readable)
