use Rattle.std.proofs.Common.{refl}
use Rattle.page_tokens.proofs.PageCalls.{any_up_to, of_any_up_to, unread_arm}
use Rattle.page_tokens.proofs.tokenizer.Tokenizer.read_front.Goals as goal

pub returns-then-rest-text-clause-follows : goal.returns-then-rest-text-clause-follows
returns-then-rest-text-clause-follows c none free =
    of_any_up_to c.args.self.now _ c.args.text.now _ _ _ (any_up_to c.args.self.now c.read_plain.new.self _ c.args.text.now _ _ _ _ refl none refl (c.in_ok-rest.ensures.follows none) free)

pub returns-clause-follows : goal.returns-clause-follows
returns-clause-follows c none =
    unread_arm c.args.self.now c.read_plain.new.self _ c.args.text.now _ _ _ _ _ c.read_char.result c.if-rest-text.false (c.in_ok-rest.ensures.follows none) none refl c.read_char.ensures.follows
