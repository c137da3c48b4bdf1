-- What a token is: its kind, and its place in the source.
use Rattle.std.specs.Prelude.{◌≡◌, ◌+◌, ℕ, List, ◌++◌, length}
use Rattle.dom_markup.specs.Bytes.{folded}
use Rattle.dom_markup.specs.Names.{Mode, markup, text_of, raw_text_of}
use Rattle.dom_markup.specs.References.{decoded}
use Rattle.dom_markup.specs.Markup.{Item, Begins, mode_after}
use Rattle.dom_markup.specs.Markup.Item.{start_tag, end_tag, characters, comment, doctype}
use Rattle.dom_markup.specs.declared.document.doctypes.Doctype.{Doctype}
use Rattle.dom_markup.specs.declared.document.within.ContentModel.{ContentModel}
use Rattle.dom_markup.specs.declared.document.within.ContentModel.TheVariants.{Markup, Text, RawText}
use Rattle.dom_markup.specs.declared.document.tokens.TokenKind.{TokenKind}
use Rattle.dom_markup.specs.declared.document.tokens.TokenKind.TheVariants as kinds

-- the text that is not read yet, the byte offset at which it starts, and the mode in which it is read
pub record Unread : Type 0 where
  pub text : List ℕ
  pub at : ℕ
  pub mode : Mode

-- the mode of an element whose name is as in the source
abbrev pub mode_of : ContentModel → Mode
mode_of Markup = markup
mode_of (Text name) = text_of (folded name.now)
mode_of (RawText name) = raw_text_of (folded name.now)

abbrev pub kind_of_text : Mode → TokenKind
kind_of_text markup = kinds.Text
kind_of_text (text_of name) = kinds.RawText
kind_of_text (raw_text_of name) = kinds.RawText

-- the kind of a token that is read in this mode
abbrev pub kind_of : Mode → Item → TokenKind
kind_of mode (start_tag name attributes) = kinds.StartTag
kind_of mode (end_tag name) = kinds.EndTag
kind_of mode (characters contents) = kind_of_text mode
kind_of mode (comment contents) = kinds.Comment
kind_of mode (doctype name public system) = kinds.Doctype

-- the mode is the one for the text of an element with this name
abbrev pub IsTextIn : Mode → List ℕ → Type 0
IsTextIn markup name = ⊥
IsTextIn (text_of other) name = other ≡ name
IsTextIn (raw_text_of other) name = other ≡ name

-- the text content that this source text has in the mode: raw text is unchanged, otherwise references are resolved
abbrev pub contents_in : Mode → List ℕ → List ℕ
contents_in markup text = decoded text
contents_in (text_of name) text = decoded text
contents_in (raw_text_of name) text = text

-- the token for a doctype of the source
abbrev pub doctype_item : Doctype → Item
doctype_item written = doctype (folded written.name.now) written.public.now written.system.now

-- the text starts with a token of this kind, and then comes `rest`, which is read in the mode `next`
pub record BeginsKind (mode : Mode) (text : List ℕ) (kind : TokenKind) (rest : List ℕ) (next : Mode) : Type 0 where
  pub item : Item
  pub begins : Begins mode text item rest
  pub is_kind : kind ≡ kind_of mode item
  pub goes_on : next ≡ mode_after mode item

-- The token is the first one of the unread text and covers it from its first byte to its last; the unread text then starts after
-- it.
pub record IsNext (left : Unread) (kind : TokenKind) (text : List ℕ) (start end : ℕ) (later : Unread) : Type 0 where
  pub item : BeginsKind left.mode left.text kind later.text later.mode
  pub covers : left.text ≡ text ++ later.text
  pub starts : start ≡ left.at
  pub ends : end ≡ start + length text
  pub follows : later.at ≡ end
