-- What the tokenizer hands to tree construction (13.2.5), one character at a time. None is what the standard calls missing.
use Rattle.std.specs.Prelude.{ℕ, Bool, List, Option}

pub record Attr : Type 0 where
  pub name : List ℕ
  pub value : List ℕ

pub record Doctype : Type 0 where
  pub name : Option (List ℕ)
  pub public_id : Option (List ℕ)
  pub system_id : Option (List ℕ)
  pub force_quirks : Bool

pub data Token : Type 0 where
  AChar : ℕ → Token
  AComment : List ℕ → Token
  ADoctype : Doctype → Token
  AStart : List ℕ → List Attr → Bool → Token  -- the name, the attributes, and the self-closing flag
  AnEnd : List ℕ → Token  -- that an end tag has attributes or a slash is a parse error alone, so they are left out
  AnEof : Token
