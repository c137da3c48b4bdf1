use Rattle.page_tokens.proofs.PageCalls.{of_any_up_to, run_arm, run_up_to, same_kind}
use Rattle.page_tokens.proofs.tokenizer.Tokenizer.read_next.Goals as goal

pub returns-then-is_empty-clause-follows : goal.returns-then-is_empty-clause-follows
returns-then-is_empty-clause-follows c free =
    of_any_up_to c.args.self.now c.read_run.new.self c.args.text.now _ _ _ (same_kind c.args.text.now _ c.args.kind.now (run_up_to c.args.self.now c.read_run.new.self c.args.text.now _ c.in_ok-rest.ensures.follows free))

pub returns-clause-follows : goal.returns-clause-follows
returns-clause-follows c =
    run_arm c.args.self.now c.read_run.new.self _ c.args.text.now _ _ _ c.read_mark-2.result c.in_ok-rest.ensures.apart (run_up_to c.args.self.now c.read_run.new.self c.args.text.now _ c.in_ok-rest.ensures.follows) c.read_mark-2.ensures.follows
