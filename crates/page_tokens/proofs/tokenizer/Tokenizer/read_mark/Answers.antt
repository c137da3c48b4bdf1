use Rattle.std.proofs.Common.{refl}
use Rattle.page_tokens.proofs.PageCalls.{new_kind, no_kind, then_arm}
use Rattle.page_tokens.proofs.tokenizer.Tokenizer.read_mark.Goals as goal

pub returns-then-is_some-clause-follows : goal.returns-then-is_some-clause-follows
returns-then-is_some-clause-follows c free = new_kind c.args.text.now _ _ c.args.kind.now _ c.is_some.ensures c.if-is_some.true (c.in_ok-rest.ensures.follows refl free)

pub returns-clause-follows : goal.returns-clause-follows
returns-clause-follows c =
    then_arm c.args.self.now c.read_front.new.self _ c.args.text.now _ _ _ _ c.read_to_token.result (no_kind _ _ c.is_some.ensures c.if-is_some.false) (c.in_ok-rest.ensures.follows refl) c.read_to_token.ensures.follows
