use Rattle.std.proofs.Common.{subst, sym}
use Rattle.std.specs.Prelude.{◌≢◌, Some}
use Rattle.page_tokens.specs.declared.token.TokenKind.{TokenKind}
use Rattle.page_trees.specs.PagesRead.{TellsLast}
use Rattle.page_trees.proofs.PageTurns.{none_last, token_last}
use Rattle.page_trees.proofs.reading.PageReader.tell_last.Goals as goal

pub returns-in-Some-clause-builds : goal.returns-in-Some-clause-builds
returns-in-Some-clause-builds c =
    subst (λ k. k ≢ Some TokenKind.Tag → TellsLast k c.args.self.now c.tell_token.new.self) (sym c.in-Some.is)
    (λ other. token_last c.in-Some.kind c.args.self.now c.tell_token.new.self other c.tell_token.ensures.builds)

pub returns-in-None-clause-builds : goal.returns-in-None-clause-builds
returns-in-None-clause-builds c other =
    subst (λ k. TellsLast k c.args.self.now c.tell_characters.new.self) (sym c.in-None.is) (none_last c.args.self.now c.tell_characters.new.self c.tell_characters.ensures.builds)
