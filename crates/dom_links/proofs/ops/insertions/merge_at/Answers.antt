use Rattle.std.proofs.Common.{◌∙◌, ◌∷◌, [], ap, arith}
use Rattle.std.proofs.lemmas.Grind.{common_steps}
use Rattle.dom_links.specs.Forest.{forest_of}
use Rattle.dom_links.proofs.copies.Fresh.{fresh_here}
use Rattle.dom_links.proofs.ops.insertions.merge_at.Goals as goal

pub put_copies-requires-clause-new : goal.put_copies-requires-clause-new
put_copies-requires-clause-new c =
    (fresh_here (forest_of c.args.other.now) c.args.ids.now c.args.nodes.now.items c.deref_mut.result.now c.args.place c.args.x (c.in_ok-one.one ∷ []) c.requires.other.forest c.requires.sound c.in_ok-one.ensures.allowed c.requires.known c.requires.open
    (ap forest_of c.deref_mut.ensures.value ∙ c.in_ok-one.ensures.made) c.in_ok-one.ensures.numbers).0

pub put_copies-requires-clause-allowed : goal.put_copies-requires-clause-allowed
put_copies-requires-clause-allowed c =
    (fresh_here (forest_of c.args.other.now) c.args.ids.now c.args.nodes.now.items c.deref_mut.result.now c.args.place c.args.x (c.in_ok-one.one ∷ []) c.requires.other.forest c.requires.sound c.in_ok-one.ensures.allowed c.requires.known c.requires.open
    (ap forest_of c.deref_mut.ensures.value ∙ c.in_ok-one.ensures.made) c.in_ok-one.ensures.numbers).1

pub put_copies-requires-2-clause-new : goal.put_copies-requires-2-clause-new
put_copies-requires-2-clause-new c =
    (fresh_here (forest_of c.args.other.now) c.args.ids.now c.args.nodes.now.items c.deref_mut-2.result.now c.args.place c.args.x c.deref.result.now c.requires.other.forest c.requires.sound c.in_ok-made.ensures.allowed c.requires.known c.requires.open
    (ap forest_of c.deref_mut-2.ensures.value ∙ c.in_ok-made.ensures.made) (c.deref.ensures.value ∙ c.in_ok-made.ensures.numbers)).0

pub put_copies-requires-2-clause-allowed : goal.put_copies-requires-2-clause-allowed
put_copies-requires-2-clause-allowed c =
    (fresh_here (forest_of c.args.other.now) c.args.ids.now c.args.nodes.now.items c.deref_mut-2.result.now c.args.place c.args.x c.deref.result.now c.requires.other.forest c.requires.sound c.in_ok-made.ensures.allowed c.requires.known c.requires.open
    (ap forest_of c.deref_mut-2.ensures.value ∙ c.in_ok-made.ensures.made) (c.deref.ensures.value ∙ c.in_ok-made.ensures.numbers)).1

pub merge_one-requires-clause-one : goal.merge_one-requires-clause-one
merge_one-requires-clause-one c = grind (arith, common_steps)

pub returns-in-len1 : goal.returns-in-len1
returns-in-len1 c = grind (arith, common_steps)

pub returns : goal.returns
returns c = grind (arith, common_steps)
