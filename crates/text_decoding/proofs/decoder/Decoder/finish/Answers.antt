use Rattle.std.proofs.Common.{[], ◌++◌, ap, refl, subst, ◌∙◌, List, ℕ}
use Rattle.decoded_text.specs.Characters.{IsDecoded}
use Rattle.text_decoding.specs.Decoding.{characters_from}
use Rattle.text_decoding.proofs.Pieces.{counted_new, whole}
use Rattle.text_decoding.proofs.decoder.Decoder.finish.Goals as goal

pub decode_into-requires : goal.decode_into-requires
decode_into-requires c = counted_new _ c.in_ok-out.ensures

pub returns-clause-decoded : goal.returns-clause-decoded
returns-clause-decoded c =
    let P : List ℕ → Type 0 = λ waiting. IsDecoded c.decode_into.new.out (characters_from c.args.self.encoding c.args.self.state (waiting ++ [])) in
    subst P c.as_slice-waiting.ensures.value
    (whole _ _ _ _ c.in_ok-out.ensures (c.in_ok-decode_into.ensures.continues [] (λ t. refl))
    (ap (λ rest. characters_from c.args.self.encoding c.in_ok-decode_into.field-0.0 (rest ++ [])) (c.in_ok-decode_into.ensures.all refl) ∙ c.in_ok-decode_into.ensures.ended refl))
