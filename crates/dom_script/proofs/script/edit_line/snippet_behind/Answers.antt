use Rattle.std.proofs.lemmas.Result.{IfErr-weaker}
use Rattle.dom_script.proofs.EditLines.{line-limit, markup-read}
use Rattle.dom_script.proofs.script.edit_line.snippet_behind.Goals as goal

pub returns-in-Some-clause-ok : goal.returns-in-Some-clause-ok
returns-in-Some-clause-ok c = markup-read c.args.line.now c.args.word.now c.in-Some.argument.now c.snippet_of.result c.in-Some.ensures c.snippet_of.ensures.ok

pub returns-in-Some-clause-refused : goal.returns-in-Some-clause-refused
returns-in-Some-clause-refused c =
    IfErr-weaker c.snippet_of.result _ _ (λ fault evidence. line-limit c.args.line.now c.args.word.now c.in-Some.argument.now fault c.in-Some.ensures evidence) c.snippet_of.ensures.refused

pub returns-in-None-clause-ok : goal.returns-in-None-clause-ok
returns-in-None-clause-ok c = λ read h. c.in-None.ensures h.0 h.1
