use Rattle.std.proofs.Common.{refl, rules, subst, sym}
use Rattle.std.specs.Str.{IsUtf8}
use Rattle.std.proofs.lemmas.Str.{IsUtf8-take}
use Rattle.page_tokens.proofs.PlainAttrs.{unquoted_read}
use Rattle.page_tokens.proofs.tokenizer.Tokenizer.read_plain_unquoted.Goals as goal

pub returns : goal.returns
returns c outside is =
    unquoted_read c.args.self.now _ c.args.text.now c.split_at.result.0.now c.split_at.result.1.now c.run_len.result outside is
    (subst IsUtf8 (sym c.split_at.ensures.front) (IsUtf8-take c.args.text.now c.run_len.result c.utf8.text c.run_len.ensures.boundary)) c.split_at.ensures.front c.split_at.ensures.back c.run_len.ensures.len (search rules) refl c.in_ok-append.ensures
