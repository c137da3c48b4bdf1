use Rattle.std.proofs.Common.{◌≡◌, ◌<◌, ◌+◌, ◌*◌, ◌∙◌, ℕ, List, Bool, ap, arith, false, length, refl, set, subst, sym, true}
use Rattle.std.proofs.lemmas.List.{get_or_read}
use Rattle.std.proofs.lemmas.Grind.{common_steps}
use Rattle.dom_index.specs.NodeSets.{in_set}
use Rattle.dom_index.proofs.RowLemmas.{IsRowTo, row_more, rows_filled, rows_written}
use Rattle.dom_index.proofs.streaming.fill.Goals as goal

pub loop-i-preserved : goal.loop-i-preserved
loop-i-preserved c =
    let chain = c.args.chain.now in
    let forest = c.args.visited.now.tree.now in
    let n = c.args.visited.now.id in
    let i = c.loop-i.i in
    let w = length chain.steps.now in
    let rows = c.loop-i.rows in
    let flag = c.step_flag-flag.result in
    let at = c.value-n.ensures.number in
    let known : n < length forest.content = c.args.visited.now.known in
    let old = c.args.rows.now.filled.items in
    let inside : c.value-n.result < length old = let count = c.requires.following.tracked.count in omega (arith, at, known, count) in
    let off : in_set rows.filled.items n ≡ false =
    ap (λ (bs : List Bool). in_set bs n) c.loop-i.invariant.filled ∙ (ap (in_set old) (sym at) ∙ (sym (get_or_read old c.value-n.result _ inside c.index.ensures false) ∙ c.if-index.false)) in
    record {
      kept = c.step_flag-flag.ensures.kept ∙ c.loop-i.invariant.kept;
      tracked = rows_written chain forest rows _ n i flag c.loop-i.invariant.tracked off c.loop-i-test.true refl refl (ap (λ (k : ℕ). set rows.flags.items (k * w + i) flag) at);
      filled = c.loop-i.invariant.filled;
      row = subst (λ (k : ℕ). IsRowTo chain forest n (set rows.flags.items (k * w + i) flag) (i + 1)) (sym at)
          (row_more chain forest n i rows.flags.items flag known c.loop-i.invariant.tracked.long c.loop-i-test.true c.loop-i.invariant.row c.step_flag-flag.ensures.is);
    }

pub returns-clause-following : goal.returns-clause-following
returns-clause-following c =
    let forest = c.args.visited.now.tree.now in
    let n = c.args.visited.now.id in
    let rows = c.loop-i.rows in
    let all = c.loop-i-test.false in
    record {
      prepared = c.requires.following.prepared;
      tracked = rows_filled c.args.chain.now forest rows _ n c.loop-i.invariant.tracked (λ j below. c.loop-i.invariant.row j (omega (arith, below, all))) refl refl (ap (λ (k : ℕ). set rows.filled.items k true) c.value-n.ensures.number);
      caches_are = c.loop-i.invariant.kept ∙ c.requires.following.caches_are;
    }

pub returns-then-index-clause-filled : goal.returns-then-index-clause-filled
returns-then-index-clause-filled c = grind (arith, common_steps)
