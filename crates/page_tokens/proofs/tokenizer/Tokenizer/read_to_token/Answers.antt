use Rattle.std.proofs.Common.{refl, rules, sym, ◌∙◌}
use Rattle.page_tokens.proofs.PageCalls.{front_up_to, new_kind, no_kind, none_made, nothing_up_to, kept_kind, on_up_to, run_up_to}
use Rattle.page_tokens.proofs.tokenizer.Tokenizer.read_to_token.Goals as goal

pub loop-init : goal.loop-init
loop-init c = record { none = refl; kind = refl; read = nothing_up_to c.args.self.now c.args.text.now; within = search rules; utf8 = search rules }

pub returns-then-is_empty-clause-follows : goal.returns-then-is_empty-clause-follows
returns-then-is_empty-clause-follows c free =
    kept_kind c.args.text.now _ c.args.kind.now _ c.loop.invariant.kind
    (on_up_to c.args.self.now c.loop.self c.read_run.new.self c.args.text.now c.loop.rest.now _ _ _ c.loop.invariant.read (run_up_to c.loop.self c.read_run.new.self c.loop.rest.now _ c.in_ok-left.ensures.follows) free)

pub returns-then-wants_characters-clause-follows : goal.returns-then-wants_characters-clause-follows
returns-then-wants_characters-clause-follows c free =
    kept_kind c.args.text.now _ c.args.kind.now _ c.loop.invariant.kind
    (on_up_to c.args.self.now c.loop.self c.read_run.new.self c.args.text.now c.loop.rest.now _ _ _ c.loop.invariant.read (run_up_to c.loop.self c.read_run.new.self c.loop.rest.now _ c.in_ok-left.ensures.follows) free)

pub returns-then-is_some-clause-follows : goal.returns-then-is_some-clause-follows
returns-then-is_some-clause-follows c free =
    new_kind c.args.text.now _ _ c.args.kind.now _ c.is_some.ensures c.if-is_some.true
    (front_up_to c.args.self.now c.read_run.new.self _ c.args.text.now _ _ _ _ c.loop.invariant.none (sym c.wants_characters.ensures.is ∙ c.if-wants_characters.false)
    (on_up_to c.args.self.now c.loop.self c.read_run.new.self c.args.text.now c.loop.rest.now _ _ _ c.loop.invariant.read (run_up_to c.loop.self c.read_run.new.self c.loop.rest.now _ c.in_ok-left.ensures.follows))
    (c.in_ok-rest.ensures.follows c.loop.invariant.none) free)

pub returns-clause-follows : goal.returns-clause-follows
returns-clause-follows c free = kept_kind c.args.text.now c.loop.rest.now c.args.kind.now _ c.loop.invariant.kind (c.loop.invariant.read free)

pub loop-preserved : goal.loop-preserved
loop-preserved c = record {
  none = no_kind _ _ c.is_some.ensures c.if-is_some.false;
  kind = c.loop.invariant.kind;
  read = λ free.
      none_made c.args.text.now _ _ (no_kind _ _ c.is_some.ensures c.if-is_some.false)
      (front_up_to c.args.self.now c.read_run.new.self _ c.args.text.now _ _ _ _ c.loop.invariant.none (sym c.wants_characters.ensures.is ∙ c.if-wants_characters.false)
      (on_up_to c.args.self.now c.loop.self c.read_run.new.self c.args.text.now c.loop.rest.now _ _ _ c.loop.invariant.read (run_up_to c.loop.self c.read_run.new.self c.loop.rest.now _ c.in_ok-left.ensures.follows))
      (c.in_ok-rest.ensures.follows c.loop.invariant.none) free);
  within = search rules;
  utf8 = search rules;
}
