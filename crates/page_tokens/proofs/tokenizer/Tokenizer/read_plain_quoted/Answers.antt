use Rattle.std.proofs.Common.{refl, rules, subst, sym}
use Rattle.std.specs.Str.{IsUtf8}
use Rattle.std.proofs.lemmas.Str.{IsUtf8-take}
use Rattle.page_tokens.proofs.Fronts.{any_on}
use Rattle.page_tokens.proofs.PlainAttrs.{value_read}
use Rattle.page_tokens.proofs.tokenizer.Tokenizer.read_plain_quoted.Goals as goal

pub returns-then-is_empty : goal.returns-then-is_empty
returns-then-is_empty c outside is = c.end_plain_quoted.ensures outside is

pub returns : goal.returns
returns c outside is =
    any_on c.args.self.now _ _ c.args.text.now c.split_at.result.1.now _ _
    (value_read c.args.self.now _ c.args.quote c.args.text.now c.split_at.result.0.now c.split_at.result.1.now c.run_len.result outside is
    (subst IsUtf8 (sym c.split_at.ensures.front) (IsUtf8-take c.args.text.now c.run_len.result c.utf8.text c.run_len.ensures.boundary)) c.split_at.ensures.front c.split_at.ensures.back c.run_len.ensures.len (search rules) refl c.in_ok-append.ensures)
    (c.end_plain_quoted-2.ensures (record { reference = outside.reference; after_return = outside.after_return }) is)
