use Rattle.std.proofs.Common.{refl, sym, ◌∙◌}
use Rattle.page_trees.proofs.AbsentAttrs.{adds_new}
use Rattle.page_trees.proofs.growing.late.LateAttrs.add_one.Goals as goal

pub returns : goal.returns
returns c = λ own known.
    adds_new c.push.result own c.args.attr.now c.args.self.now _ c.in_ok-attr.attr c.as_str.result.now c.as_str-2.result.now known c.as_str.ensures.value
    (sym c.contains.ensures ∙ c.if-contains.false) c.in_ok-attr.ensures c.as_str-2.ensures.value c.in_ok-add_name.ensures refl c.push.ensures
