use Rattle.std.proofs.Common.{[], ◌++◌, ap, append-nil, refl, subst, sym, ◌∙◌, List, ℕ}
use Rattle.decoded_text.specs.Characters.{IsDecoded}
use Rattle.text_decoding.specs.Decoding.{characters, characters_from}
use Rattle.text_decoding.proofs.Pieces.{counted_new, whole}
use Rattle.text_decoding.proofs.whole.decode_whole.Goals as goal

pub returns : goal.returns
returns c =
    let P : List ℕ → Type 0 = λ bytes. IsDecoded c.decode_into.new.out (characters c.args.encoding bytes) in
    subst P (append-nil c.args.bytes.now)
    (whole _ _ _ _ c.in_ok-out.ensures (c.in_ok-decode_into.ensures.continues [] (λ t. refl))
    (ap (λ rest. characters_from c.args.encoding c.in_ok-decode_into.field-0.0 (rest ++ [])) (c.in_ok-decode_into.ensures.all refl) ∙ c.in_ok-decode_into.ensures.ended refl))

pub decode_into-requires : goal.decode_into-requires
decode_into-requires c = counted_new _ c.in_ok-out.ensures
