-- What decoders give: characters, and errors.
use Rattle.std.specs.Prelude.{◌≡◌, ℕ, suc, ◌+◌, ◌≤◌, nat_lt, if◌then◌else◌, List, [], ◌∷◌, ◌++◌, map, Option, Some, None, unwrap_or, string_bytes, string_len, encode_utf8_all}
use Rattle.decoded_text.specs.declared.decoded.Decoded.{Decoded}

-- A decoder gives a list: each character of the text, and None for each error, which is to say
-- where bytes stand for no character.

-- the text of the list in UTF-8, with U+FFFD in place of each error
unfoldable pub text_of : List (Option ℕ) → List ℕ
text_of characters = encode_utf8_all (map (λ character. unwrap_or character 0xFFFD) characters)

-- how many errors are in the list
unfoldable pub errors_in : List (Option ℕ) → ℕ
errors_in [] = 0
errors_in (Some character ∷ characters) = errors_in characters
errors_in (None ∷ characters) = suc (errors_in characters)

-- the text and the number of replacements are those of the list
pub record IsDecoded (decoded : Decoded) (characters : List (Option ℕ)) : Type 0 where
  pub text : string_bytes decoded.text ≡ text_of characters
  pub replaced : decoded.replaced ≡ errors_in characters

-- `new` is `old` with the characters of the list behind
pub record Appends (old : Decoded) (new : Decoded) (characters : List (Option ℕ)) : Type 0 where
  pub text : string_bytes new.text ≡ string_bytes old.text ++ text_of characters
  pub replaced : new.replaced ≡ old.replaced + errors_in characters

-- there are no more replacements than bytes of text
abbrev pub IsCounted : Decoded → Type 0
IsCounted decoded = decoded.replaced ≤ string_len decoded.text

-- `old`, with `before` still to come, is `new`, with `after` still to come
pub record Continues (old : Decoded) (before : List (Option ℕ)) (new : Decoded) (after : List (Option ℕ)) : Type 0 where
  pub text : string_bytes new.text ++ text_of after ≡ string_bytes old.text ++ text_of before
  pub replaced : new.replaced + errors_in after ≡ old.replaced + errors_in before

-- Bytes give their character. Where they have none, an error takes them all, but leaves a last byte that is ASCII: what
-- follows is decoded from the last byte on, or else after it.
abbrev pub character_or_error : Option ℕ → ℕ → List (Option ℕ) → List (Option ℕ) → List (Option ℕ)
character_or_error (Some character) last from_last after_last = Some character ∷ after_last
character_or_error None last from_last after_last = if nat_lt last 128 then None ∷ from_last else None ∷ after_last
