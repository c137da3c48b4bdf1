-- The scope of each node of a document, computed in the order of the node ids.
use Rattle.std.specs.Prelude.{ℕ, ◌==◌, ◌+◌, Bool, List, Option, None, Some, length, slice_get, if◌then◌else◌}
use Rattle.std.specs.Option.{option_and_then}
use Rattle.dom_nodes.specs.declared.node_data.NodeData.{NodeData}
use Rattle.dom_nodes.specs.declared.node_data.NodeData.TheVariants.{Comment, Doctype, Element as AnElement, Text}
use Rattle.calm_pages.specs.Calm.{admits, behind, inside, may_hold_comment, may_hold_text}
use Rattle.page_trees.specs.ElementKinds.{holds_doctype, kind_of}
use Rattle.calm_pages.specs.declared.nesting.Scope.{Scope}

-- the scope of a node's children, if the node may be in this scope
abbrev pub scope_below : Scope → NodeData → Option Scope
scope_below scope (Text contents) = if may_hold_text scope.parent contents then Some scope else None
scope_below scope (Comment contents) = if may_hold_comment scope.parent contents then Some scope else None
scope_below scope (Doctype _ _ _) = if holds_doctype scope.parent then Some scope else None
scope_below scope (AnElement element) = if admits scope (kind_of element.name.local) then Some (inside scope (kind_of element.name.local))
    else None
scope_below scope _ = None

-- the scope of a child: the first child is in the scope itself, a later one in what is after it
abbrev pub scope_at : Bool → Scope → Scope
scope_at is_first scope = if is_first then scope else behind scope

-- the scope of a node's children, from the node's parent and the scopes of the nodes before it; the first child has the next id
abbrev pub next_scope : List Scope → Option ℕ → NodeData → Option Scope
next_scope scopes parent content =
    option_and_then (λ p. option_and_then (λ scope. scope_below (scope_at (p + 1 == length scopes) scope) content) (slice_get scopes p))
    parent
