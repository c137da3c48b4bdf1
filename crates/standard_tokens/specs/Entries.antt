-- The words of the table of states: when an entry is taken, what is done, and where it goes on.
use Rattle.std.specs.Prelude.{ℕ, List, [], ◌∷◌, codes}
use Prim.Native.String.{String}
use Rattle.standard_tokens.specs.States.{State}

-- what the next character is
pub data Mark : Type 0 where
  OneOf : List ℕ → Mark
  Range : ℕ → ℕ → Mark
  End : Mark  -- there is none: the end of the file

abbrev pub chars : String → Mark
chars text = OneOf (codes text)

-- tab, line feed, form feed and space
abbrev pub space : Mark
space = OneOf (0x9 ∷ 0xa ∷ 0xc ∷ 0x20 ∷ [])

abbrev pub null : Mark
null = OneOf (0 ∷ [])

abbrev pub upper : Mark
upper = Range 0x41 0x5a

abbrev pub lower : Mark
lower = Range 0x61 0x7a

abbrev pub digit : Mark
digit = Range 0x30 0x39

abbrev pub upper_hex : Mark
upper_hex = Range 0x41 0x46

abbrev pub lower_hex : Mark
lower_hex = Range 0x61 0x66

-- when an entry is taken
pub data On : Type 0 where
  Next : List Mark → On  -- the next character is one of these
  Word : List ℕ → On  -- the next characters are these
  AnyCase : List ℕ → On  -- the next characters are these, in upper or lower case
  Name : On  -- the longest name that the text begins with, of a named character reference
  Else : On  -- anything else

-- and only if
pub data Guard : Type 0 where
  Always : Guard
  Appropriate : Guard  -- the current tag has the name of the last start tag
  IsScript : Guard  -- the temporary buffer is "script"
  InForeign : Guard  -- the adjusted current node is an element outside the HTML namespace
  InAttribute : Guard  -- the return state is one of an attribute's value
  Historical : Guard  -- the same, the name does not end with `;`, and `=` or an alphanumeric follows it

-- characters
pub data What : Type 0 where
  Current : What  -- those that were consumed
  Lower : What  -- the same in lower case
  TheBuffer : What  -- the temporary buffer
  These : List ℕ → What

abbrev pub replacement : What
replacement = These (0xfffd ∷ [])

pub data Place : Type 0 where
  TheTagName AttrName AttrValue Comment DoctypeName PublicId SystemId Buffer : Place

pub data TagKind : Type 0 where
  Starting Ending : TagKind

-- what is done
pub data Act : Type 0 where
  Emit : What → Act
  EmitTag EmitComment EmitDoctype EmitEndOfFile : Act
  NewTag : TagKind → Act
  NewAttr NewComment NewDoctype : Act
  SelfClosing ForceQuirks : Act
  Add : Place → What → Act
  SetEmpty : Place → Act  -- the buffer is empty; an identifier is not missing
  ReturnTo : State → Act  -- sets the return state
  CodeZero : Act
  CodeDigit : ℕ → ℕ → Act  -- the code times the first, and the character less the second is added
  BufferNumber : Act  -- the buffer is the character of the code
  BufferName : Act  -- the buffer is the characters of the name that was consumed
  Flush : Act  -- flush code points consumed as a character reference

-- where it goes on
pub data Then : Type 0 where
  Stay : Then
  Switch : State → Then
  Reconsume : State → Then  -- nothing is consumed
  SwitchBack ReconsumeBack : Then  -- to the return state
  Stop : Then

pub data Entry : Type 0 where
  entry : On → Guard → List Act → Then → Entry
