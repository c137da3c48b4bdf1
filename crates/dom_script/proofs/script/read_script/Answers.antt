use Rattle.std.proofs.Common.{ap, subst, lit<, arith, sym, ◌∙◌}
use Rattle.std.proofs.lemmas.Result.{err_from_is_err_and}
use Rattle.std.proofs.lemmas.Iterator.Consumers.{YieldsList-at, YieldsList-so_far, YieldsList-turn, YieldsList-end}
use Rattle.std.proofs.lemmas.Iterator.Splits.{YieldsList-from_str_split}
use Rattle.std.proofs.lemmas.List.{length_push}
use Rattle.dom_script.specs.Faults.{ScriptRefused}
use Rattle.dom_script.specs.Script.{AreCommands, lines_of}
use Rattle.dom_script.proofs.Reading.{first-bad, line-refused, no-script, read-more}
use Rattle.dom_script.proofs.script.read_script.Goals as goal

pub returns-in_default-2-clause-refused : goal.returns-in_default-2-clause-refused
returns-in_default-2-clause-refused c =
    let s = c.split-line-items.ensures in
    let road = YieldsList-at c.into_iter-line-iterator.ensures.into_iter_gives (YieldsList-from_str_split 10 c.in-Ok.text.now (lit< tt) s.text s.has_more s.pattern) in
    let far = YieldsList-so_far road c.loop-line.yielded _ c.loop-line.yielded_by in
    let turn = YieldsList-turn road c.loop-line.yielded _ c.loop-line.yielded_by _ _ c.in-Some.line c.in-Some.is c.next.ensures.steps in
    let bad = first-bad (lines_of c.in-Ok.text.now) _ c.loop-line.commands.items c.in-Some.line.now turn.0 turn.1
    (subst (λ ls. AreCommands ls c.loop-line.commands.items) far c.loop-line.invariant.read) (rw c.in_default-2.is at c.in_ok-command.ensures.ok) in
    no-script c.args.script.now c.in-Ok.text.now _ c.loop-line.number c.in-Ok.ensures.cases.0 c.in-Ok.ensures.cases.1 c.loop-line.invariant.counted bad

pub returns-in_err-command-clause-refused : goal.returns-in_err-command-clause-refused
returns-in_err-command-clause-refused c =
    let s = c.split-line-items.ensures in
    let road = YieldsList-at c.into_iter-line-iterator.ensures.into_iter_gives (YieldsList-from_str_split 10 c.in-Ok.text.now (lit< tt) s.text s.has_more s.pattern) in
    let turn = YieldsList-turn road c.loop-line.yielded _ c.loop-line.yielded_by _ _ c.in-Some.line c.in-Some.is c.next.ensures.steps in
    let p = err_from_is_err_and c.from_residual.result c.from_residual.ensures.1 in
    rw p.1 (subst (ScriptRefused c.args.script.now) (sym p.2) (line-refused c.args.script.now c.in-Ok.text.now _ c.in-Some.line.now _ c.in-Ok.ensures.cases.0 turn.0 turn.1 c.in_err-command.ensures.refused))

pub loop-line-preserved : goal.loop-line-preserved
loop-line-preserved c = record {
  can = tt;
  finite = tt;
  counted = omega (arith, length_push c.loop-line.yielded c.in-Some.line);
  read = read-more c.loop-line.yielded c.in-Some.line c.loop-line.commands.items c.push_command.new.commands.items c.in-Some-2.command
      c.loop-line.invariant.read (rw c.in-Some-2.is at c.in_ok-command.ensures.ok) c.in_ok-push_command.ensures;
}

pub returns-clause-ok : goal.returns-clause-ok
returns-clause-ok c =
    let s = c.split-line-items.ensures in
    let road = YieldsList-at c.into_iter-line-iterator.ensures.into_iter_gives (YieldsList-from_str_split 10 c.in-Ok.text.now (lit< tt) s.text s.has_more s.pattern) in
    let all = YieldsList-end road c.loop-line.yielded _ c.loop-line.yielded_by _ _ c.in-None.is c.next.ensures.steps in
    record {
      utf8 = c.in-Ok.ensures.cases.1;
      are_commands = subst (λ ls. AreCommands ls c.loop-line.commands.items) (all.0 ∙ ap lines_of c.in-Ok.ensures.cases.0) c.loop-line.invariant.read;
    }
