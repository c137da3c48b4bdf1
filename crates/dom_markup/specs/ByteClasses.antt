-- The byte classes of markup, and how a run of one class, an attribute and a doctype are recognized.
use Rattle.std.specs.Prelude.{◌≡◌, ◌≢◌, ℕ, List, [], ◌∷◌, ◌++◌, Bool, true, false, ◌⊎◌}
use Rattle.std.specs.List.{list_all}
use Rattle.dom_markup.specs.Bytes.{is_whitespace, is_name_byte, folded}
use Rattle.dom_markup.specs.References.{decoded}
use Rattle.dom_markup.specs.ValueTrees.{Attribute}
use Rattle.dom_nodes.specs.declared.fault.MarkupFaultKind.{MarkupFaultKind}
use Rattle.dom_nodes.specs.declared.fault.MarkupFaultKind.TheVariants.{BadTag, SlashOnOpen}
use Rattle.dom_markup.specs.Markup.{BeginsAttribute, BeginsNoAttribute, HasValue, BeginsIdentifiers, BeginsQuoted, Closes, EndsTag, Fails, is_bare_byte}
use Rattle.dom_markup.specs.declared.document.scan.Written.{Written}
use Rattle.dom_markup.specs.declared.document.scan.ByteClass.{ByteClass}
use Rattle.dom_markup.specs.declared.document.scan.ByteClass.TheVariants.{Whitespace, Name, Bare}

abbrev pub passes : ByteClass → ℕ → Bool
passes Whitespace = is_whitespace
passes Name = is_name_byte
passes Bare = is_bare_byte

-- whether the text starts with whitespace
abbrev pub begins_space : List ℕ → Bool
begins_space [] = false
begins_space (b ∷ bs) = is_whitespace b

-- the attribute that this name and value in the source represent: the name in lower case, the character references of the value
-- resolved
abbrev pub attribute_of : List ℕ → List ℕ → Attribute
attribute_of name value = record { name = folded name; value = decoded value }

-- the attribute that a `Written` represents, which holds both
abbrev pub attribute_in : Written → Attribute
attribute_in written = attribute_of written.name.now written.value.now

-- A value that is marked as plain contains no character reference: it is the same before and after they are resolved.
abbrev pub MarksPlain : Written → Type 0
MarksPlain written = written.is_plain ≡ true → decoded written.value.now ≡ written.value.now

-- `front` is the longest beginning of the text whose bytes all pass, and `behind` is the rest.
pub record Splits (p : ℕ → Bool) (text front behind : List ℕ) : Type 0 where
  pub is : text ≡ front ++ behind
  pub passes : list_all p front ≡ true
  pub fails : Fails p behind

-- `rest` is what is left of `text` after some of its attributes, so that both end a tag with the same text after it.
pub record SameEnd (text rest : List ℕ) : Type 0 where
  pub back : (slash : Bool) (all : List Attribute) (r : List ℕ) → EndsTag slash rest all r → (more : List Attribute) × EndsTag slash text more r
  pub forth : (slash : Bool) (all : List Attribute) (r : List ℕ) → EndsTag slash text all r → (more : List Attribute) × EndsTag slash rest more r

-- Why no tag ends here: an element that isn't void has a slash before its `>` (`SlashOnOpen`), or there is no end (`BadTag`).
abbrev pub ClosesNothing : Bool → List ℕ → MarkupFaultKind → Type 0
ClosesNothing void text BadTag = ((rest : List ℕ) → Closes void text rest → ⊥) × ((rest : List ℕ) → Closes true text rest → ⊥)
ClosesNothing void text SlashOnOpen = ((rest : List ℕ) → Closes void text rest → ⊥) × (rest : List ℕ) × Closes true text rest
ClosesNothing void text _ = ⊥

-- Any attribute at the start of the text has this name, and its value is read from `behind`, the text after the name.
pub record NamesAttribute (text name behind : List ℕ) : Type 0 where
  pub begins : (value rest : List ℕ) → HasValue behind value rest → BeginsAttribute text (record { name = folded name; value = value }) rest
  pub valued : (attribute : Attribute) (rest : List ℕ) → BeginsAttribute text attribute rest → HasValue behind attribute.value rest

-- `rest` is what follows all the attributes at the start of the text
pub record PastAttributes (text rest : List ℕ) : Type 0 where
  pub same : SameEnd text rest
  pub none : BeginsNoAttribute rest

-- the text is the identifiers of a doctype, the end of the doctype, and then `rest`
abbrev pub EndsDoctype : List ℕ → List ℕ → List ℕ → List ℕ → Type 0
EndsDoctype text public system rest = (close : List ℕ) × BeginsIdentifiers text public system close × Closes false close rest

-- What follows the word `public` is a public identifier, perhaps a system identifier, the end of the doctype, and then `rest`.
abbrev pub AfterPublic : List ℕ → List ℕ → List ℕ → List ℕ → Type 0
AfterPublic after public system rest = (later : List ℕ) × BeginsQuoted after public later
    × (((system ≡ []) × Closes false later rest) ⊎ ((close : List ℕ) × BeginsQuoted later system close × Closes false close rest))

-- A keyword of the grammar: a nonempty name in lower case.
pub record IsWord (word : List ℕ) : Type 0 where
  pub folds : folded word ≡ word
  pub name : list_all is_name_byte word ≡ true
  pub some : word ≢ []
