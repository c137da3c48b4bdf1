use Rattle.std.proofs.Common.{ap, length, List, ◌∙◌, arith}
use Rattle.std.proofs.lemmas.List.{length-set}
use Rattle.page_trees.specs.declared.stack.Open.{Open}
use Rattle.page_trees.proofs.Carrying.{set_in_place}
use Rattle.page_trees.proofs.stack.OpenElements.carry.Goals as goal

pub loop-index-init : goal.loop-index-init
loop-index-init c =
    let same = ap (λ v. v.items) c.mark.ensures.items ∙ c.replace.ensures.items in
    record {
      value = same ∙ set_in_place _ _ _ (omega (arith, c.requires.order, c.requires.within));
      long = ap (λ (os : List Open). length os) same ∙ length-set _ _ _;
      low = c.requires.order;
      index = λ is. c.mark.ensures.index (c.replace.ensures.index is);
    }
