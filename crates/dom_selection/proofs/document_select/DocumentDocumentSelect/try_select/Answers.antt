use Rattle.std.proofs.lemmas.Result.{IfOk-weaker}
use Rattle.dom_selection.proofs.TextLemmas.{some_in}
use Rattle.dom_selection.proofs.document_select.DocumentDocumentSelect.try_select.Goals as goal

pub returns : goal.returns
returns c =
    IfOk-weaker c.try_select-2.result _ _ (some_in c.args.selectors.now c.args.self.now.tree c.root.result c.from.result c.root.ensures.number c.root.ensures.tree c.from.ensures) c.try_select-2.ensures
