use Rattle.std.proofs.Common.{refl, rules, subst, sym, ◌∙◌}
use Rattle.std.specs.Str.{IsUtf8}
use Rattle.std.proofs.lemmas.Str.{IsUtf8-take}
use Rattle.page_tokens.proofs.RunRead.{front_read}
use Rattle.page_tokens.proofs.tokenizer.Tokenizer.read_run.Goals as goal

pub returns-clause-follows : goal.returns-clause-follows
returns-clause-follows c =
    front_read c.args.self.now c.push_run.new.self _ c.in-Some.run' c.args.text.now c.split_at.result.0.now c.split_at.result.1.now c.run_len.result (c.is_in_reference.ensures.outside c.if-is_in_reference.false) c.if-self.false
    (sym c.run_of.ensures.is ∙ c.in-Some.is) (subst IsUtf8 (sym c.split_at.ensures.front) (IsUtf8-take c.args.text.now c.run_len.result c.utf8.text c.run_len.ensures.boundary)) c.split_at.ensures.front c.split_at.ensures.back c.run_len.ensures.len (search rules)
    c.in_ok-push_run.ensures.copies refl
