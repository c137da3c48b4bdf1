-- How deep the elements of a Document of the HTML Standard nest.
use Rattle.std.specs.Prelude.{◌≡◌, ◌-◌, ◌&&◌, Bool, IfSome, Option, max, nat_lt, true, ℕ}
use Rattle.standard_trees.specs.Parsing.{Document}
use Rattle.standard_trees.specs.TreeStore.{Trees, comment_tree, doctype_tree, element_tree, no_trees, text_tree}

-- No more than so many elements of these trees are nested in one another. The contents of a template are inside it.
abbrev pub nest_within : ℕ → Trees → Bool
nest_within most no_trees = true
nest_within most (doctype_tree d later) = nest_within most later
nest_within most (text_tree text later) = nest_within most later
nest_within most (comment_tree text later) = nest_within most later
nest_within most (element_tree space name attrs contents children later) =
    nat_lt 0 most && (nest_within (most - 1) contents && (nest_within (most - 1) children && nest_within most later))

-- the elements of the Document nest no deeper than the limit, if there is one; a limit below 3 is taken as 3
abbrev pub IsWithinDepth : Option ℕ → Document → Type 0
IsWithinDepth max_depth d = IfSome max_depth (λ most. nest_within (max most 3) d.children ≡ true)
