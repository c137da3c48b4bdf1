use Rattle.std.proofs.Common.{inl, inr}
use Rattle.page_tokens.proofs.NumberFollows.{hex_arm}
use Rattle.page_tokens.proofs.tokenizer.Tokenizer.number_begins.Goals.{then-c-eq120-via-then-c-eq120, then-c-eq120-via-else-c-eq120+then-c-eq88}
use Rattle.page_tokens.proofs.tokenizer.Tokenizer.number_begins.Goals as goal

pub returns-then-c-eq120 : goal.returns-then-c-eq120
returns-then-c-eq120 c is =
    hex_arm c.args.self.now _ c.args.c _ is
    (elim c.then-c-eq120.branch [ then-c-eq120-via-then-c-eq120 w ↦ inl w.if-c-eq120.true | then-c-eq120-via-else-c-eq120+then-c-eq88 w ↦ inr w.if-c-eq88.true ])
    c.go_on.ensures.is c.go_on.ensures.on
