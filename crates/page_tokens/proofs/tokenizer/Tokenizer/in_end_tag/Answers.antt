use Rattle.std.proofs.Common.{ap, ◌∙◌}
use Rattle.page_tokens.specs.declared.tokenizer.state.State.TheVariants as state
use Rattle.page_tokens.proofs.tokenizer.Tokenizer.in_end_tag.Goals as goal

pub returns-in-LessThan : goal.returns-in-LessThan
returns-in-LessThan c is = c.raw_less_than.ensures (is ∙ ap (state.EndTag c.args.raw) c.in-LessThan.is)

pub returns-in-Open : goal.returns-in-Open
returns-in-Open c is = c.raw_end_tag_open.ensures (is ∙ ap (state.EndTag c.args.raw) c.in-Open.is)

pub returns-in-Name : goal.returns-in-Name
returns-in-Name c is = c.raw_end_tag_name.ensures (is ∙ ap (state.EndTag c.args.raw) c.in-Name.is)
