use Rattle.std.proofs.Common.{rules}
use Rattle.dom_selectors.specs.MiniGrammar.{SpellsAttr}
use Rattle.dom_selectors.specs.MiniSyntax.{asked_of}
use Rattle.dom_selectors.proofs.MiniFaultLemmas.{read_more}
use Rattle.dom_selectors.proofs.MiniLengthLemmas.{attr_shortens}
use Rattle.dom_selectors.proofs.mini_selector.attributes.take_attrs.Goals as goal

pub loop-attrs-smaller : goal.loop-attrs-smaller
loop-attrs-smaller c = attr_shortens _ _ _ (rw c.in-Some.is at c.in_ok-attr.ensures)

pub loop-attrs-preserved : goal.loop-attrs-preserved
loop-attrs-preserved c = record {
  utf8 = search rules;
  read = read_more SpellsAttr asked_of _ _ _ _ _ _ c.in_ok-push.ensures.items c.loop-attrs.invariant.read (rw c.in-Some.is at c.in_ok-attr.ensures);
}
