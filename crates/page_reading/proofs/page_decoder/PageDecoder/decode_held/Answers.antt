use Rattle.std.proofs.Common.{◌≡◌, ◌∙◌, ◌++◌, ap, refl, rules, string_bytes, sym}
use Rattle.decoded_text.specs.Characters.{text_of}
use Rattle.encodings.specs.declared.encoding.Encoding.TheVariants.{Utf8}
use Rattle.text_decoding.specs.Decoding.{characters, characters_behind}
use Rattle.page_reading.specs.Utf8Pages.{with_replacements}
use Rattle.page_reading.specs.declared.page_decoder.PageDecoder.{PageDecoder}
use Rattle.page_reading.proofs.HeldLemmas.{decodes_held, part_text, waits_still}
use Rattle.page_reading.proofs.page_decoder.PageDecoder.decode_held.Goals as goal

pub returns : goal.returns
returns c =
    let old = c.args.self.now in
    let held = c.as_slice-bytes.result.now in
    let items : old.held.items ≡ held = search rules in
    let mid = c.decodable.new.self in
    let after = c.decode.new.self in
    decodes_held c.args.is_end held (string_bytes c.in_ok-text.text.text) old mid after
    (record after { held = c.extend_from_slice.new.self }) c.in_ok-part.part
    items
    (λ before waits. c.in_ok-part.ensures.finds before
    (waits_still old.stage before held old (record old { held = c.replace-held.new.dest }) refl waits))
    (λ known. let kept = (c.in_ok-part.ensures.known known).0 in
    kept ∙ ap (λ h. record old { held = h }) (sym (ap (λ (d : PageDecoder). d.held) kept)))
    c.decode.ensures.only
    (λ known cs spelt more. ap (λ p. with_replacements (characters_behind mid.decoder (p ++ more))) (sym c.between.ensures)
    ∙ part_text c.in_ok-text.text _ _ cs (c.in_ok-text.ensures.known known more) spelt)
    (λ unknown. let plain = c.in_ok-text.ensures.ascii unknown in
    (plain.0, plain.1 ∙ ap (λ p. text_of (characters Utf8 p)) c.between.ensures))
    refl
    (c.in_ok-extend_from_slice.ensures.items ∙ ap (λ xs. xs ++ c.behind.result.now)
    (ap (λ (d : PageDecoder). d.held.items) c.decode.ensures.only ∙ ap (λ h. h.items) c.decodable.ensures.held
    ∙ ap (λ h. h.items) c.replace-held.ensures.after ∙ c.new.ensures.items)
    ∙ c.behind.ensures)
