use Rattle.std.proofs.Common.{rules}
use Rattle.dom_selectors.specs.MiniGrammar.{SpellsClass}
use Rattle.dom_selectors.proofs.MiniFaultLemmas.{read_more}
use Rattle.dom_selectors.proofs.MiniLengthLemmas.{class_shortens}
use Rattle.dom_selectors.proofs.mini_selector.parser.take_classes.Goals as goal

pub loop-class-smaller : goal.loop-class-smaller
loop-class-smaller c = class_shortens _ _ _ c.in-Some.ensures

pub loop-class-preserved : goal.loop-class-preserved
loop-class-preserved c = record {
  utf8 = search rules;
  read = read_more SpellsClass (λ slice. slice.now) _ _ _ _ _ _ c.in_ok-push.ensures.items c.loop-class.invariant.read c.in-Some.ensures;
}
