use Rattle.std.proofs.Common.{◌≡◌, ◌≤◌, false, length, None}
use Rattle.std.specs.Str.{IsUtf8}
use Rattle.page_tokens.specs.StandardPages.{ReadsOn, UpTo}
use Rattle.page_tokens.proofs.tokenizer.Tokenizer.read_to_token.Given as goal

-- what is read so far; no token ended
abbrev pub invariant-loop : goal.invariant-loop
invariant-loop l = record {
  none : l.made ≡ None;
  kind : l.kind ≡ l.fn.kind;
  read : l.self.refused ≡ false → UpTo (ReadsOn l.fn.self l.self) l.fn.text l.rest None None;
  within : length l.rest ≤ length l.fn.text;
  utf8 : IsUtf8 l.rest;
}
