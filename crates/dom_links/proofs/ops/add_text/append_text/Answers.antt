use Rattle.std.proofs.Common.{◌∙◌, arith, rules}
use Rattle.dom_links.specs.Forest.{forest_of}
use Rattle.dom_links.specs.Sound.{Edited}
use Rattle.dom_links.proofs.texts.AddingTexts.{last_child_text, text_may_append}
use Rattle.dom_links.proofs.ops.add_text.append_text.Goals as goal

pub returns : goal.returns
returns c =
    let forest = forest_of c.args.nodes.now.items in
    let done = c.in_ok-add_child.ensures.ok in
    record {
      made = Edited.made done ∙ last_child_text c.args.t c.args.contents forest c.requires.sound.arena.once c.requires.alone;
      err = search rules;
      cause = search rules;
      sound = record {
        arena = Edited.linked done;
        forest = Edited.kept done (text_may_append c.args.t c.args.contents forest c.requires.open) c.requires.sound.forest;
        numbered = omega (arith, c.in_ok-add_child.ensures.adds.number, c.in_ok-add_child.ensures.adds.grown);
      };
    }
