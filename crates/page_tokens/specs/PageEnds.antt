-- What the end of the page does.
use Rattle.std.specs.Prelude.{◌≡◌, ℕ, true, false, List, [], ◌++◌, codes, Option, Result, IfOk}
use Rattle.standard_tokens.specs.Machine.{Machine}
use Rattle.page_tokens.specs.References.{InFront}
use Rattle.page_tokens.specs.Standard.{Holds, Leaves, StandsInReference, Stops, StopsAsStandard}
use Rattle.page_tokens.specs.TextStates.{brackets_of}
use Rattle.page_tokens.specs.declared.token.Doctype.{Doctype}
use Rattle.page_tokens.specs.declared.token.TokenKind.{TokenKind}
use Rattle.page_tokens.specs.declared.tokenizer.Tokenizer.{Tokenizer}
use Rattle.page_tokens.specs.declared.tokenizer.state.DoctypeState.{DoctypeState}
use Rattle.page_tokens.specs.declared.tokenizer.state.DoctypeState.TheVariants as doctype
use Rattle.page_tokens.specs.declared.tokenizer.state.EndTagState.{EndTagState}
use Rattle.page_tokens.specs.declared.tokenizer.state.EndTagState.TheVariants as end_tag
use Rattle.page_tokens.specs.declared.tokenizer.state.State.{State}
use Rattle.page_tokens.specs.declared.tokenizer.state.State.TheVariants as state
use Rattle.page_tokens.specs.declared.tokenizer.state.TagState.TheVariants as tag

-- no comment and no doctype is being read, and nothing that may become one
abbrev pub IsNoMark : State → Type 0
IsNoMark (state.Declaration seen) = ⊥
IsNoMark (state.Comment inner) = ⊥
IsNoMark (state.Doctype inner) = ⊥
IsNoMark _ = Unit {0}

-- the beginning of what may be an end tag with this name
abbrev pub end_tag_left_of : EndTagState → List ℕ → List ℕ
end_tag_left_of end_tag.LessThan name = codes "<"
end_tag_left_of end_tag.Open name = codes "</"
end_tag_left_of end_tag.Name name = codes "</" ++ name

-- the beginning of markup that becomes text; the name is that of a tag that is being read
abbrev pub left_of : State → List ℕ → List ℕ
left_of (state.Cdata inner) name = brackets_of inner
left_of (state.Tag tag.Open) name = codes "<"
left_of (state.Tag tag.EndOpen) name = codes "</"
left_of (state.EndTag kind inner) name = end_tag_left_of inner name
left_of _ name = []

-- an unfinished doctype, unless it is malformed, is one of quirks mode
abbrev pub ended_doctype_of : DoctypeState → Doctype → Doctype
ended_doctype_of doctype.Bogus one = one
ended_doctype_of _ one = record one { force_quirks = true }

-- ---- the standard's end

-- the page ends in a character reference, and with it the reference
pub record EndsInReference (old new : Tokenizer) : Type 0 where
  pub memory : old.refused ≡ false
  pub leaves : Leaves old new
  pub ends : (m : Machine) (ahead : List ℕ) → StandsInReference old ahead m → InFront old new m ahead []

-- the page ends outside of references
pub record EndsMark (old new : Tokenizer) (told : Option TokenKind) : Type 0 where
  pub memory : old.refused ≡ false
  pub stops : StopsAsStandard old new told

-- the page ends as the standard says
pub record EndsPage (old new : Tokenizer) (told : Option TokenKind) : Type 0 where
  pub memory : old.refused ≡ false
  pub stops : (m : Machine) (ahead : List ℕ) → Holds old ahead m → Stops old new told m ahead

-- the same, unless memory runs out
abbrev pub EndsAsStandard : {E : Type 0} → Tokenizer → Tokenizer → Result (Option TokenKind) E → Type 0
EndsAsStandard old new result = IfOk result (λ told. EndsPage old new told)
