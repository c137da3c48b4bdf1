use Rattle.std.proofs.Common.{refl, true}
use Rattle.page_tokens.proofs.TagFollows.{emits}
use Rattle.page_tokens.proofs.tokenizer.Tokenizer.emit_tag.Goals as goal

pub returns-clause-emits : goal.returns-clause-emits
returns-clause-emits c named free =
    emits c.args.self.now c.finish_attr.new.self c.check_end_tag.new.self _ c.finish.new.self c.finish.new.ended _ c.finish_attr.ensures.only_tag c.finish_attr.ensures.none c.in_ok-finish_attr.ensures.some
    c.check_end_tag.ensures.only c.check_end_tag.ensures.memory named (λ long. (true, (c.finish.ensures long).1)) c.note_start.ensures.only c.in_ok-note_start.ensures.noted refl free
