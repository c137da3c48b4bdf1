use Rattle.std.proofs.Common.{◌≡◌, ◌∙◌, ap, arith, length}
use Rattle.std.proofs.lemmas.Grind.{common_steps}
use Rattle.dom_links.specs.Forest.{forest_of}
use Rattle.dom_links.proofs.moves.Cuts.{length-contents}
use Rattle.dom_links.proofs.texts.SettingTexts.{allowed_in}
use Rattle.dom_links.proofs.ops.set_text.replace_children.Goals as goal

pub set_only_child-requires-clause-allowed : goal.set_only_child-requires-clause-allowed
set_only_child-requires-clause-allowed c =
    let forest = forest_of c.args.nodes.now.items in
    let long = length-contents forest c.args.nodes.now.items c.requires.sound.arena.links in
    let number : c.in_ok-child.child ≡ length forest.content = omega (arith, long, c.in_ok-child.ensures.makes.number) in
    allowed_in forest _ c.args.x c.in_ok-child.child _ c.requires.sound.forest c.requires.element (ap forest_of c.deref_mut.ensures.value ∙ c.in_ok-child.ensures.makes.made) number

pub returns : goal.returns
returns c = grind (arith, common_steps)
