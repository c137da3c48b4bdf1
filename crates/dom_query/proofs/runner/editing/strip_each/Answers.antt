use Rattle.std.proofs.Common.{◌∙◌, ap, map, subst, Bor, List, ℕ}
use Rattle.dom_edits.specs.Edits.{stripping}
use Rattle.dom_query.specs.Editing.{EditsOrFails}
use Rattle.dom_query.proofs.runner.editing.strip_each.Goals as goal

pub returns : goal.returns
returns c =
    subst (λ names. EditsOrFails c.do_each.result c.args.tree.now c.do_each.new.tree c.args.nodes.now (stripping names))
    (ap (map (λ (name : Bor (List ℕ)). name.now)) c.deref.ensures.value ∙ c.in_ok-names.ensures) c.do_each.ensures
