-- What the values of the code stand for in the definitions.
use Rattle.std.specs.Prelude.{◌≡◌, ℕ, List, Bool, Option, Some, None, codes}
use Rattle.encodings.specs.declared.attributes.Attribute.{Attribute}
use Rattle.encodings.specs.declared.attributes.Declared.{Declared}
use Rattle.encodings.specs.declared.encoding.Encoding.{Encoding}
use Rattle.encodings.specs.Attributes.{Meta, is_in}

-- an attribute's name and value
abbrev pub attribute_of : Attribute → List ℕ × List ℕ
attribute_of attribute = (attribute.name.now, attribute.value.now)

abbrev pub charset_of : Option Bool → Option Encoding → Option (Option Encoding)
charset_of None encoding = None
charset_of (Some need) encoding = Some encoding

-- these are the attributes that were read of a `meta`; of their names only three matter
pub record IsRead (declared : Declared) (meta : Meta) : Type 0 where
  pub http_equiv : declared.has_http_equiv ≡ is_in (codes "http-equiv") meta.names
  pub content : declared.has_content ≡ is_in (codes "content") meta.names
  pub charset : declared.has_charset ≡ is_in (codes "charset") meta.names
  pub pragma : declared.has_pragma ≡ meta.got_pragma
  pub need : declared.needs_pragma ≡ meta.need_pragma
  pub found : charset_of declared.needs_pragma declared.encoding ≡ meta.charset
