use Rattle.std.proofs.Common.{Option, arith, subst, sym, ◌∙◌}
use Rattle.page_tokens.specs.FastPaths.{ReadsAny}
use Rattle.page_tokens.specs.declared.token.TokenKind.{TokenKind}
use Rattle.page_tokens.proofs.Fronts.{none_told}
use Rattle.page_tokens.proofs.PlainSpaces.{closed_read, slash_read, slashed}
use Rattle.page_tokens.proofs.tokenizer.Tokenizer.read_slash.Goals as goal

pub returns-in_default : goal.returns-in_default
returns-in_default c outside none cut = none_told c.args.self.now c.args.text.now _ none

pub returns-then-is_unquoted : goal.returns-then-is_unquoted
returns-then-is_unquoted c outside none cut = none_told c.args.self.now c.args.text.now _ none

pub returns-in_default-behind : goal.returns-in_default-behind
returns-in_default-behind c outside none cut =
    subst (λ (k : Option TokenKind). ReadsAny c.args.self.now (slashed c.args.self.now) c.args.text.now c.args.after.now k) (sym none)
    (slash_read c.args.self.now c.args.text.now c.args.after.now _ outside (sym c.after_spaces.ensures ∙ c.in-Some.is) (sym c.is_unquoted.ensures ∙ c.if-is_unquoted.false) cut)

pub returns : goal.returns
returns c outside none cut =
    closed_read c.args.self.now _ c.args.text.now c.args.after.now _ _ _ outside (sym c.after_spaces.ensures ∙ c.in-Some.is) (sym c.is_unquoted.ensures ∙ c.if-is_unquoted.false) cut (c.in-Some-behind.ensures.cut (omega arith)) c.in_ok-read.ensures.keeps c.in_ok-read.ensures.emits
