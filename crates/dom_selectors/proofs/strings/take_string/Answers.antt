use Rattle.std.proofs.Common.{◌∷◌, [], ◌++◌, sym, ◌∙◌, arith}
use Rattle.std.proofs.lemmas.Grind.{common_steps}
use Rattle.dom_selectors.specs.Strings.{SpellsPiece}
use Rattle.dom_selectors.proofs.Runs.{many_last}
use Rattle.dom_selectors.proofs.StringLemmas.{string_none, piece_shortens, push_present}
use Rattle.dom_selectors.proofs.strings.take_string.Goals as goal

pub returns-in_default-take_piece : goal.returns-in_default-take_piece
returns-in_default-take_piece c =
    let read = c.loop-quote.invariant in
    string_none c.args.text.now _ c.in-Some.quote.now read.1 c.loop-quote.rest.now read.0 read.3 (sym c.goes_on_in.ensures ∙ c.loop-quote-test.true) c.in_default-take_piece.ensures

pub loop-quote-smaller : goal.loop-quote-smaller
loop-quote-smaller c = piece_shortens _ _ _ _ c.in-Some-take_piece.ensures

pub loop-quote-preserved : goal.loop-quote-preserved
loop-quote-preserved c =
    let read = c.loop-quote.invariant in
    let piece = c.in-Some-take_piece.piece in (
      read.0,
      read.1 ++ piece ∷ [],
      push_present _ _ read.1 piece c.in_ok-push_piece.ensures read.2,
      many_last (SpellsPiece c.in-Some.quote.now) read.1 piece _ c.loop-quote.rest.now c.in-Some-take_piece.after.now read.3 c.in-Some-take_piece.ensures,
    )

pub returns : goal.returns
returns c = grind (arith, common_steps)
