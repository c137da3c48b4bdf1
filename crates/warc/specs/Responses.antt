-- Responses of HTTP.
use Rattle.std.specs.Prelude.{◌≡◌, ℕ, List, Bool, true, Option, Some, None, ◌||◌, codes, drop}
use Rattle.warc.specs.Fields.{begins_with_word}
use Rattle.warc.specs.declared.responses.Body.{Body}
use Rattle.warc.specs.declared.responses.Body.TheVariants.{Joined, Lent}

-- a body is HTML if its content type says so, or if it has none
abbrev pub is_html : Option (List ℕ) → Bool
is_html None = true
is_html (Some kind) = begins_with_word kind (codes "text/html") || begins_with_word kind (codes "application/xhtml+xml")

-- the bytes of a body
abbrev pub body_bytes : Body → List ℕ
body_bytes (Lent bytes) = bytes.now
body_bytes (Joined bytes) = bytes.items

-- a body that isn't joined is the end of the response
abbrev pub IsEndOf : List ℕ → Body → Type 0
IsEndOf response (Lent bytes) = (start : ℕ) × (bytes.now ≡ drop start response)
IsEndOf response (Joined bytes) = true ≡ true
