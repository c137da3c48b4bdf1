-- A text that is split at its first `&`.
use Rattle.std.specs.Prelude.{◌≡◌, ℕ, ◌<◌, List, ◌++◌, length, encode_utf8}
use Rattle.dom_markup.specs.declared.references.Referred.{Referred}
use Rattle.dom_markup.specs.References.{decoded}

-- the text with references resolved is what comes before the `&`, the character, and the resolved rest
pub record IsCutReference (text : List ℕ) (cut : Referred) : Type 0 where
  pub whole : decoded text ≡ cut.before.now ++ (encode_utf8 cut.character ++ decoded cut.after.now)
  pub shorter : length cut.after.now < length text
