-- Texts of pages.
use Rattle.std.proofs.Common.{◌≡◌, ℕ, List, drop, sym, ap, ◌∙◌, Option, None}
use Rattle.std.specs.Option.{option_map_or}
use Rattle.std.specs.Str.{IsUtf8}
use Rattle.decoded_text.specs.Characters.{errors_in, text_of}
use Rattle.encodings.specs.Labels.{for_bom}
use Rattle.encodings.specs.declared.encoding.Encoding.TheVariants.{Utf8}
use Rattle.text_decoding.specs.Decoding.{IsTextOf, characters, replaced_in, text_bytes}
use Rattle.text_decoding.specs.Pages.{page_text}
use Rattle.text_decoding.specs.declared.whole.DecodedText.{DecodedText}
use Rattle.text_decoding.specs.declared.whole.DecodedText.TheVariants.{Lent, Owned}
use Rattle.text_decoding.proofs.Lending.{utf8_itself}

pub text_is : (text : DecodedText) (characters : List (Option ℕ)) → IsTextOf text characters → text_bytes text ≡ text_of characters
text_is (Lent text) characters h = h.0
text_is (Owned decoded) characters h = h.text

pub replaced_is : (text : DecodedText) (characters : List (Option ℕ)) → IsTextOf text characters → replaced_in text ≡ errors_in characters
replaced_is (Lent text) characters h = sym h.1
replaced_is (Owned decoded) characters h = h.replaced

pub utf8_page : (bytes : List ℕ) → IsUtf8 bytes → for_bom bytes ≡ None → page_text Utf8 bytes ≡ bytes
utf8_page bytes h none =
    ap (λ mark. text_of (characters Utf8 (drop (option_map_or (λ m. m.1) mark 0) bytes))) none ∙ (utf8_itself bytes h).0
