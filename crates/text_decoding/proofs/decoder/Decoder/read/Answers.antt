use Rattle.std.proofs.Common.{◌++◌, ap, sym}
use Rattle.text_decoding.specs.Decoding.{characters_from}
use Rattle.text_decoding.proofs.Pieces.{begins, begins_to, counted_new}
use Rattle.text_decoding.proofs.decoder.Decoder.read.Goals as goal

pub returns-clause-begins : goal.returns-clause-begins
returns-clause-begins c =
    λ more. begins_to _ _ _ _ (ap (λ waiting. characters_from c.args.self.now.encoding c.in_ok-state.state (waiting ++ more)) (sym c.in_ok-waiting.ensures.items))
    (begins _ _ _ _ c.in_ok-out.ensures (c.in_ok-state.ensures.continues more (λ t. cc)))

pub decode_into-requires : goal.decode_into-requires
decode_into-requires c = counted_new _ c.in_ok-out.ensures
