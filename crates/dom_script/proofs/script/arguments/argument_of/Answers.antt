use Rattle.std.proofs.Common.{◌≢◌, [], rules, lit<}
use Rattle.std.proofs.lemmas.Str.Pattern.{strip_prefix_char}
use Rattle.dom_script.proofs.Lines.{argument-none, argument-behind, stripped-is}
use Rattle.dom_script.proofs.script.arguments.argument_of.Goals as goal

pub returns-in_err-behind : goal.returns-in_err-behind
returns-in_err-behind c = rw c.from_residual.ensures (argument-none c.args.line.now c.args.word.now c.in_err-behind.ensures.cases)

pub returns : goal.returns
returns c =
    let behind = c.in_ok-behind.behind.now in
    let some : behind ≢ [] = λ e. search rules in
    argument-behind c.args.line.now c.args.word.now behind c.strip_prefix-2.result
    (stripped-is c.args.line.now c.args.word.now behind c.in_ok-behind.ensures.cases) some
    (strip_prefix_char 32 behind c.strip_prefix-2.result c.strip_prefix-2.ensures.cases (lit< tt))
