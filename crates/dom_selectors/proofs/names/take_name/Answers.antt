use Rattle.std.proofs.Common.{◌∷◌, [], ◌++◌, sym, ◌∙◌}
use Rattle.dom_selectors.specs.Names.{SpellsNameChar}
use Rattle.dom_selectors.proofs.Runs.{many_last}
use Rattle.dom_selectors.proofs.NameLemmas.{push_encodes, name_none, name_char_shortens}
use Rattle.dom_selectors.proofs.names.take_name.Goals as goal

pub returns-in_default : goal.returns-in_default
returns-in_default c =
    let read = c.loop-rest.invariant in
    name_none read.0 c.args.text.now c.loop-rest.rest.now read.2 (sym c.goes_on.ensures ∙ c.loop-rest-test.true) c.in_default.ensures

pub loop-rest-smaller : goal.loop-rest-smaller
loop-rest-smaller c = name_char_shortens _ _ _ c.in-Some.ensures

pub loop-rest-preserved : goal.loop-rest-preserved
loop-rest-preserved c =
    let read = c.loop-rest.invariant in
    (read.0 ++ c.in-Some.c ∷ [], push_encodes _ _ read.0 c.in-Some.c c.in_ok-push.ensures.bytes read.1, many_last SpellsNameChar read.0 c.in-Some.c c.args.text.now c.loop-rest.rest.now c.in-Some.after.now read.2 c.in-Some.ensures)
