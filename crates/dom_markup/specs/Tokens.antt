-- What a call of `Tokens::next` returns.
use Rattle.std.specs.Prelude.{◌≡◌, ◌≢◌, [], ℕ, List, Option, MatchOption, Result, MatchResult}
use Rattle.dom_nodes.specs.declared.fault.MarkupFault.{MarkupFault}
use Rattle.dom_nodes.specs.declared.fault.MarkupFaultKind.{MarkupFaultKind}
use Rattle.dom_markup.specs.Markup.{BeginsNothing}
use Rattle.dom_markup.specs.Names.{Mode}
use Rattle.dom_markup.specs.FaultKinds.{IsTokenFault}
use Rattle.dom_markup.specs.Refusals.{Cause}
use Rattle.dom_markup.specs.Token.{BeginsKind, IsNext, Unread, mode_of}
use Rattle.dom_markup.specs.declared.document.tokens.Found.{Found}
use Rattle.dom_markup.specs.declared.document.tokens.Token.{Token}

-- the token at the start of the text, what follows it, and the mode in which that is read
abbrev pub IsFound : Mode → List ℕ → Found → Type 0
IsFound mode text found = BeginsKind mode text found.kind found.rest.now (mode_of found.within)

-- the token at the start of the text, or the reason that no token starts there
abbrev pub TakesItem : Mode → List ℕ → Result Found MarkupFaultKind → Type 0
TakesItem mode text result = MatchResult result (IsFound mode text) (λ kind. BeginsNothing mode text × Cause mode text kind)

-- no token starts here: the iterator returns the fault and is at its end
pub record IsStopped (old new : Unread) (fault : MarkupFault) : Type 0 where
  pub some : old.text ≢ []
  pub nothing : BeginsNothing old.mode old.text
  pub cause : Cause old.mode old.text fault.kind
  pub kind : IsTokenFault fault.kind
  pub place : fault.at ≡ old.at
  pub ended : new.text ≡ []

-- no text is left, and the iterator stays at its end
pub record IsOver (old new : Unread) : Type 0 where
  pub none : old.text ≡ []
  pub same : new ≡ old

-- the next token, a fault if no token starts here, or the end if no text is left
abbrev pub next_token : Unread → Option (Result Token MarkupFault) → Unread → Type 0
next_token old result new = MatchOption result (IsOver old new) (λ found.
    MatchResult found
    (λ token. IsNext old token.kind token.text.now token.start token.end new)
    (λ fault. IsStopped old new fault))
