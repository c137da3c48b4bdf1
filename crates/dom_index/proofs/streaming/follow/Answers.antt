use Rattle.std.proofs.Common.{◌∙◌, ap, arith, subst, sym}
use Rattle.std.proofs.lemmas.List.{nil_from_length}
use Rattle.std.proofs.lemmas.Grind.{common_steps}
use Rattle.dom_links.specs.Forest.{Forest}
use Rattle.dom_index.specs.Tracks.{IsFilledAt, left_in}
use Rattle.dom_index.proofs.RowLemmas.{way_known, way_left, way_whole}
use Rattle.dom_index.proofs.streaming.follow.Goals as goal

pub new-left-requires : goal.new-left-requires
new-left-requires c =
    let k = c.forest_laws.ensures in
    way_known c.args.chain.now c.args.visited.now.tree.now k.forest k.lines c.args.visited.now.id c.in-Some.id c.loop-id.rows.filled.items c.loop-id.shared.missing.items c.pop.new.self.items c.loop-id.invariant.way c.in-Some.ensures.items

pub fill-requires-clause-left : goal.fill-requires-clause-left
fill-requires-clause-left c =
    let chain = c.args.chain.now in
    let forest = c.args.visited.now.tree.now in
    let k = c.forest_laws.ensures in
    let same = ap (λ (f : Forest). left_in chain f c.in-Some.id) (sym (ap (λ b. b.now) c.new-left.ensures.tree)) ∙ ap (left_in chain c.new-left.result.tree.now) (sym c.new-left.ensures.id) in
    subst (IsFilledAt c.loop-id.rows.filled.items) same
    (way_left chain forest k.forest k.lines c.args.visited.now.id c.in-Some.id c.loop-id.rows.filled.items c.loop-id.shared.missing.items c.pop.new.self.items c.loop-id.invariant.way c.in-Some.ensures.items)

pub returns-clause-filled : goal.returns-clause-filled
returns-clause-filled c =
    let k = c.forest_laws.ensures in
    let missing = c.loop-id.shared.missing.items in
    let none = nil_from_length missing (let empty = c.in_default.ensures.cases.0 in omega (arith, empty)) in
    way_whole c.args.chain.now c.args.visited.now.tree.now k.forest k.lines c.args.visited.now.id c.loop-id.rows.filled.items missing c.loop-id.invariant.way none

pub loop-id-preserved : goal.loop-id-preserved
loop-id-preserved c = grind (arith, common_steps)
