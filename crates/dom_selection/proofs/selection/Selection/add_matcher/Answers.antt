use Rattle.std.proofs.Common.{◌∙◌, ◌≡◌, ◌∷◌, [], ap, sym, subst, List}
use Rattle.std.proofs.lemmas.Result.{IfOk-weaker}
use Rattle.dom_trees.specs.declared.node_ref.NodeRef.{NodeRef}
use Rattle.dom_selection.specs.Selecting.{Adds, Selects}
use Rattle.std.specs.Prelude.{Option, IfSome}
use Rattle.std.specs.Borrow.{Bor}
use Rattle.dom_links.specs.Forest.{Forest}
use Rattle.dom_trees.specs.Views.{refs_to}
use Rattle.dom_selection.specs.Selections.{HasOneTree, added, ids_of}
use Rattle.dom_selection.proofs.SelectLemmas.{adds}
use Rattle.dom_selection.proofs.selection.Selection.add_matcher.Goals as goal

pub returns : goal.returns
returns c =
    let one : HasOneTree c.args.self.now = subst (λ (o : Option (Bor Forest)). IfSome o (λ tree. c.args.self.now ≡ refs_to tree (ids_of c.args.self.now))) c.in-Some.ensures.tree c.in-Some.ensures.all in
    let root = c.from.ensures ∙ ap (λ (node : NodeRef). node ∷ []) c.root.ensures in
    IfOk-weaker c.add_selection.result (λ all. all ≡ added c.args.self.now c.in_ok-more.more) (Adds c.args.matcher.now c.args.self.now)
    (λ all is. adds c.args.matcher.now c.args.self.now c.in_ok-more.more all c.in-Some.tree (sym c.in-Some.ensures.tree)
    (subst (λ (ns : List NodeRef). Selects c.args.matcher.now ns c.in_ok-more.more) root c.in_ok-more.ensures) is one) c.add_selection.ensures
