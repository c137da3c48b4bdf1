use Rattle.std.proofs.Common.{◌≡◌, None}
use Rattle.std.specs.Str.{IsUtf8}
use Rattle.page_tokens.specs.FastPaths.{ReadsAny}
use Rattle.page_tokens.proofs.tokenizer.Tokenizer.read_plain_attrs.Given as goal

-- what is read so far
abbrev pub invariant-loop : goal.invariant-loop
invariant-loop l = record {
  read : l.fn.read ≡ None → (l.read ≡ None) × ReadsAny l.fn.self l.self l.fn.text l.rest None;
  utf8 : IsUtf8 l.rest;
}
