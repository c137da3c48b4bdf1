-- The token at the start of a text, as slices of the source.
use Rattle.std.specs.Prelude.{◌≡◌, ℕ, List, ◌∷◌, ◌++◌, codes, true, Result, MatchResult}
use Rattle.std.specs.Borrow.{Bor}
use Rattle.dom_nodes.specs.Ascii.{less_than}
use Rattle.dom_nodes.specs.declared.fault.MarkupFaultKind.{MarkupFaultKind}
use Rattle.dom_markup.specs.Bytes.{folded, is_letter}
use Rattle.dom_markup.specs.Markup.{Begins, BeginsNothing, BeginsStart}
use Rattle.dom_markup.specs.Markup.Item.{end_tag, characters, comment}
use Rattle.dom_markup.specs.Names.{Mode, markup}
use Rattle.dom_markup.specs.Refusals.{Cause, StartCause}
use Rattle.dom_markup.specs.Token.{contents_in, doctype_item}
use Rattle.dom_markup.specs.ValueTrees.{Attribute}
use Rattle.dom_markup.specs.declared.document.doctypes.Doctype.{Doctype}
use Rattle.dom_markup.specs.declared.document.front.Lexeme.{Lexeme}
use Rattle.dom_markup.specs.declared.document.front.Lexeme.TheVariants.{StartTag, Text, Plain, EndTag, Comment, Declaration}

abbrev pub BeginsLetter : List ℕ → Type 0
BeginsLetter tag = (b : ℕ) × (more : List ℕ) × (tag ≡ b ∷ more) × (is_letter b ≡ true)

-- The text is `<` and then `rest`, which starts with a letter, so a start tag may begin here.
abbrev pub OpensTag : List ℕ → List ℕ → Type 0
OpensTag text rest = (text ≡ less_than ∷ rest) × BeginsLetter rest

-- what follows a `<!` does not start a comment
abbrev pub IsNoComment : List ℕ → Type 0
IsNoComment tag = (more : List ℕ) → tag ≡ codes "--" ++ more → ⊥

-- The text is `<!` and then `rest`, and does not start a comment, so a doctype may begin here.
abbrev pub OpensDeclaration : List ℕ → List ℕ → Type 0
OpensDeclaration text rest = (text ≡ codes "<!" ++ rest) × IsNoComment rest

-- This token is at the start of the text, and `rest` follows it. For a start tag and a declaration only their first characters
-- are read.
abbrev pub IsLexeme : Mode → List ℕ → Lexeme → List ℕ → Type 0
IsLexeme mode text StartTag rest = (mode ≡ markup) × OpensTag text rest
IsLexeme mode text (Text written) rest = Begins mode text (characters (contents_in mode written.now)) rest
IsLexeme mode text (Plain written) rest = Begins mode text (characters written.now) rest
IsLexeme mode text (EndTag name) rest = Begins mode text (end_tag (folded name.now)) rest
IsLexeme mode text (Comment contents) rest = Begins mode text (comment contents.now) rest
IsLexeme mode text Declaration rest = (mode ≡ markup) × OpensDeclaration text rest

-- the token at the start of the text and what follows it, or the reason that no token starts there
abbrev pub TakesLexeme : Mode → List ℕ → Result (Lexeme × Bor (List ℕ)) MarkupFaultKind → Type 0
TakesLexeme mode text result = MatchResult result (λ found. IsLexeme mode text found.0 found.1.now) (λ kind. BeginsNothing mode text × Cause mode text kind)

-- the doctype at the start of the text and what follows it, or the reason that no token starts there
abbrev pub TakesDoctype : List ℕ → Result (Doctype × Bor (List ℕ)) MarkupFaultKind → Type 0
TakesDoctype text result = MatchResult result (λ found. Begins markup text (doctype_item found.0) found.1.now) (λ kind. BeginsNothing markup text × Cause markup text kind)

-- the name of the start tag at the start of the text, as in the source, and what follows the tag; or the reason that there is
-- none
abbrev pub TakesStart : List ℕ → Result (Bor (List ℕ) × Bor (List ℕ)) MarkupFaultKind → Type 0
TakesStart text result = MatchResult result (λ found. (all : List Attribute) × BeginsStart text (folded found.0.now) all found.1.now) (StartCause text)
