use Rattle.std.proofs.Common.{◌++◌, ◌+◌, [], ◌∷◌, ap, refl, subst, sym}
use Rattle.std.proofs.lemmas.Result.{err_from_is_err_and}
use Rattle.dom_query.specs.Runs.{CommandsCause}
use Rattle.dom_query.proofs.Doing.{Reaches, commands-cause, reaches-all, reaches-fault, reaches-more, reaches-next, reaches-none}
use Rattle.dom_markup.proofs.html.WritingLemmas.{nothing-written, written-then}
use Rattle.dom_query.proofs.runner.run_commands.Goals as goal

pub loop-command-init : goal.loop-command-init
loop-command-init g c =
    let at_first = c.in_ok-selection.ensures in
    record {
      counted = refl;
      front = [];
      reaches = subst (λ ns. Reaches c.args.tree.now (0 ∷ []) c.args.commands.now c.args.commands.now c.args.tree.now ns 1 []) (sym at_first) (reaches-none _ _ _);
      written = nothing-written _;
    }

pub returns-in_err-selection-2-clause-begun : goal.returns-in_err-selection-2-clause-begun
returns-in_err-selection-2-clause-begun g c =
    let at = c.loop-command.invariant in
    let next = reaches-next _ _ _ _ c.command-item.result _ _ _ _ c.loop-command-test.true c.command-item.is at.reaches in
    let p = err_from_is_err_and c.from_residual-in_err-selection-2.result c.from_residual-in_err-selection-2.ensures.1 in
    rw p.1 (reaches-fault _ _ _ _ _ _ _ _ _ _ _ _ next at.written c.in_err-selection-2.ensures.begun)

pub returns-in_err-selection-2-clause-cause : goal.returns-in_err-selection-2-clause-cause
returns-in_err-selection-2-clause-cause g c =
    let at = c.loop-command.invariant in
    let next = reaches-next _ _ _ _ c.command-item.result _ _ _ _ c.loop-command-test.true c.command-item.is at.reaches in
    let p = err_from_is_err_and c.from_residual-in_err-selection-2.result c.from_residual-in_err-selection-2.ensures.1 in
    rw p.1 (subst (CommandsCause c.args.tree.now (0 ∷ []) c.args.commands.now (g.W.Write.contents c.args.out.now) (g.W.Write.contents c.do_command.new.out)) (sym p.2)
    (commands-cause _ _ _ _ _ _ _ _ _ _ _ _ _ next at.written c.in_err-selection-2.ensures.cause))

pub loop-command-preserved : goal.loop-command-preserved
loop-command-preserved g c =
    let at = c.loop-command.invariant in
    let did = c.in_ok-selection-2.ensures.ok in
    let next = reaches-next _ _ _ _ c.command-item.result _ _ _ _ c.loop-command-test.true c.command-item.is at.reaches in
    record {
      counted = ap (λ n. n + 1) at.counted;
      front = at.front ++ did.0;
      reaches = reaches-more c.one_selection.ensures c.one_clean.ensures _ _ _ _ _ _ _ _ _ _ _ _ next did.1;
      written = written-then _ _ _ at.front did.0 at.written did.2;
    }

pub returns-clause-ok : goal.returns-clause-ok
returns-clause-ok g c =
    let at = c.loop-command.invariant in
    (at.front, reaches-all _ _ _ _ _ _ _ _ c.loop-command-test.false at.reaches, at.written)
