use Rattle.std.proofs.Common.{refl}
use Rattle.page_trees.proofs.EndedForms.{form_ended_at, no_form_ended}
use Rattle.page_trees.proofs.growing.GrowingTree.end_form.Goals as goal

pub returns-in-Element : goal.returns-in-Element
returns-in-Element c t b = form_ended_at _ _ _ _ t _ c.self.view_is refl c.in-Element.is c.close_form.ensures b

pub returns-in_default : goal.returns-in_default
returns-in_default c t b = no_form_ended _ _ _ t c.self.view_is refl c.in_default.not-Element b
