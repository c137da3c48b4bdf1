-- The end tag `form` outside templates (13.2.6.4.7).
use Rattle.standard_trees.specs.Formatting.{form_ended}
use Rattle.standard_trees.specs.GrowingTree.{GrowingTree, NoForm}

-- "Set the form element pointer to null", and remove the form that it pointed to from the stack, if that form is in scope.
abbrev pub without_form : GrowingTree → GrowingTree
without_form t = form_ended t.form (record t { form = NoForm })
