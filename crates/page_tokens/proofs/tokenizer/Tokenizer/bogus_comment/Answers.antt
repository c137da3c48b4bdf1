use Rattle.std.proofs.Common.{refl}
use Rattle.page_tokens.specs.declared.tokenizer.state.CommentState.TheVariants as comment
use Rattle.page_tokens.specs.declared.tokenizer.state.State.TheVariants as state
use Rattle.page_tokens.proofs.tokenizer.Tokenizer.bogus_comment.Goals as goal

pub returns : goal.returns
returns c = (record c.args.self.now { comment = c.clear.new.self; state = state.Comment comment.Bogus }, refl, c.clear.ensures.bytes, c.in_comment.ensures refl)
