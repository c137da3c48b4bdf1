use Rattle.std.proofs.Common.{rules}
use Rattle.page_tokens.proofs.Fronts.{any_on, none_left, none_read}
use Rattle.page_tokens.proofs.PageCalls.{no_kind}
use Rattle.page_tokens.proofs.tokenizer.Tokenizer.read_plain_attrs.Goals as goal

pub loop-init : goal.loop-init
loop-init c = record { read = λ none. (none, none_read c.args.self.now c.args.text.now); utf8 = search rules }

pub returns-then-is_some : goal.returns-then-is_some
returns-then-is_some c none = any_on c.args.self.now c.loop.self _ c.args.text.now c.loop.rest.now _ _ (c.loop.invariant.read none).1 (c.in_ok-left.ensures (c.loop.invariant.read none).0)

pub returns-then-left-rest : goal.returns-then-left-rest
returns-then-left-rest c none = any_on c.args.self.now c.loop.self _ c.args.text.now c.loop.rest.now _ _ (c.loop.invariant.read none).1 (c.in_ok-left.ensures (c.loop.invariant.read none).0)

pub loop-preserved : goal.loop-preserved
loop-preserved c = record {
  read = λ none. (
    no_kind _ _ c.is_some.ensures c.if-is_some.false,
    any_on c.args.self.now c.loop.self _ c.args.text.now c.loop.rest.now _ _ (c.loop.invariant.read none).1
        (none_left c.loop.self _ c.loop.rest.now _ _ (no_kind _ _ c.is_some.ensures c.if-is_some.false) (c.in_ok-left.ensures (c.loop.invariant.read none).0)),
  );
  utf8 = search rules;
}
