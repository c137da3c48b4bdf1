use Rattle.std.proofs.Common.{ℕ, ◌<◌, subst, sym}
use Rattle.page_tokens.proofs.NumberFollows.{digit_arm, none_arm, number_arm}
use Rattle.page_tokens.proofs.tokenizer.Tokenizer.digit.Goals as goal

pub returns-in-Some : goal.returns-in-Some
returns-in-Some c =
    digit_arm c.args.self.now _ c.args.c c.in-Some.digit _ _ _ c.base.ensures.is (subst (λ (n : ℕ). n < c.base.result) (sym c.in-Some.ensures.value.1) c.in-Some.ensures.value.0) c.in-Some.ensures.cases c.number_with.ensures
    c.go_on.ensures.is c.go_on.ensures.on

pub returns-in-Some-number : goal.returns-in-Some-number
returns-in-Some-number c = number_arm c.args.self.now _ c.args.c _ _ _ c.base.ensures.is c.in_default.ensures.value c.in-Some-number.ensures c.numbered.ensures.is c.numbered.ensures.put

pub returns-in-None : goal.returns-in-None
returns-in-None c = none_arm c.args.self.now _ c.args.c _ _ c.base.ensures.is c.in_default.ensures.value c.in-None.ensures c.without_digits.ensures.is c.without_digits.ensures.put
