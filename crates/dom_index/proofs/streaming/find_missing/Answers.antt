use Rattle.std.proofs.Common.{◌∙◌, sym}
use Rattle.dom_index.proofs.RowLemmas.{search_ends, search_found, search_more, search_shorter}
use Rattle.dom_index.proofs.streaming.find_missing.Goals as goal

pub loop-left-smaller : goal.loop-left-smaller
loop-left-smaller c =
    let laws = c.forest_laws.ensures in
    search_shorter c.args.chain.now c.args.visited.now.tree.now laws.forest laws.lines c.loop-left.at c.in-Some.left (sym c.in-Some.ensures)

pub loop-left-preserved : goal.loop-left-preserved
loop-left-preserved c =
    let laws = c.forest_laws.ensures in
    search_more c.args.chain.now c.args.visited.now.tree.now laws.forest laws.lines c.args.visited.now.id c.loop-left.at c.args.filled.now c.loop-left.missing.items c.loop-left.invariant c.in-Some.left c.push.new.self.items (sym c.in-Some.ensures) c.in_ok-push.ensures.items

pub returns-then-is_filled : goal.returns-then-is_filled
returns-then-is_filled c =
    let laws = c.forest_laws.ensures in
    search_found c.args.chain.now c.args.visited.now.tree.now laws.forest laws.lines c.args.visited.now.id c.loop-left.at c.args.filled.now c.loop-left.missing.items c.loop-left.invariant c.in-Some.left (sym c.in-Some.ensures) (sym c.is_filled.ensures ∙ c.if-is_filled.true)

pub returns : goal.returns
returns c =
    let laws = c.forest_laws.ensures in
    search_ends c.args.chain.now c.args.visited.now.tree.now laws.forest laws.lines c.args.visited.now.id c.loop-left.at c.args.filled.now c.loop-left.missing.items c.loop-left.invariant (sym c.next_left.ensures ∙ c.in_default.is)
