use Rattle.std.proofs.Common.{◌<◌, ◌≤◌, arith, length, subst, sym}
use Rattle.std.proofs.lemmas.List.{drop_all}
use Rattle.dom_links.specs.Copying.{AreNodesOf}
use Rattle.dom_edits.proofs.SourceLemmas.{refused_at, taken}
use Rattle.dom_edits.proofs.sources.detach_sources.Goals as goal

pub returns-then-value-len : goal.returns-then-value-len
returns-then-value-len c =
    let here : c.loop-id.id-index < length c.args.sources.now = omega arith in
    record {
      known = tt;
      ok = tt;
      err = refused_at c.args.tree.now c.args.sources.now c.loop-id.id-index c.id-item.result here c.id-item.is (omega (arith, c.if-value-len.true, c.value.ensures.number, c.len.ensures));
    }

pub returns : goal.returns
returns c =
    let sources = c.args.sources.now in
    let past : length sources ≤ c.loop-id.id-index = omega arith in
    let known = c.loop-id.invariant (subst (AreNodesOf c.args.tree.now) (sym (drop_all c.loop-id.id-index sources past)) tt) in
    taken c.edit_each.result c.args.tree.now c.edit_each.new.tree sources known c.edit_each.ensures
