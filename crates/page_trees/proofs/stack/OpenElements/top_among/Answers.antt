use Rattle.std.proofs.Common.{◌≡◌, ◌∷◌, [], arith, length, rules, ◌∙◌}
use Rattle.std.proofs.lemmas.List.{nil_from_length}
use Rattle.page_trees.proofs.StackSearches.{among_next, among_none}
use Rattle.page_trees.proofs.stack.OpenElements.top_among.Goals as goal

pub loop-name-preserved : goal.loop-name-preserved
loop-name-preserved c is =
    let e : c.loop-name.rest.now ≡ c.in-Some.name.now ∷ c.in-Some.others.now = search rules in
    among_next c.loop-name.rest.now c.in-Some.others.now c.in-Some.name.now c.args.self.now.elements.items c.loop-name.top c.top.result c.max-top.result e (c.top.ensures is) (omega (arith, c.max-top.ensures))
    ∙ c.loop-name.invariant is

pub returns : goal.returns
returns c is =
    let none : length c.loop-name.rest.now ≡ 0 = search rules in
    let e : c.loop-name.rest.now ≡ [] = nil_from_length c.loop-name.rest.now none in
    omega (arith, among_none c.loop-name.rest.now c.args.self.now.elements.items e, c.loop-name.invariant is)
