-- The changes that joining adjacent texts makes, node by node. These definitions appear in no
-- contract of a public function.
use Rattle.std.specs.Prelude.{ℕ, ◌||◌, ◌&&◌, not, Bool, false, List, [], ◌∷◌, Option, Some, None, filter, map, if◌then◌else◌}
use Rattle.std.specs.Option.{option_map_or}
use Rattle.dom_links.specs.Contents.{with_content}
use Rattle.dom_links.specs.Forest.{Forest, siblings}
use Rattle.dom_links.specs.Lists.{after}
use Rattle.dom_links.specs.Moves.{detach}
use Rattle.dom_links.specs.Normalized.{joined, starts_text_run}
use Rattle.dom_links.specs.SetTexts.{is_text_at, with_text_data}
use Rattle.dom_links.specs.declared.ops.normalize.Rewrite.{Rewrite}

-- Whether the next sibling is a text.
abbrev pub is_text_after : Forest → ℕ → Bool
is_text_after forest n = option_map_or (is_text_at forest) (after (siblings forest n) n) false

-- Whether a text changes: it isn't the first of its sequence, or it is and others follow.
abbrev pub is_rewritten : Forest → ℕ → Bool
is_rewritten forest n = is_text_at forest n && (not (starts_text_run forest n) || is_text_after forest n)

-- The change of a text.
abbrev pub rewrite : Forest → ℕ → Rewrite
rewrite forest n = record { id = n; text = joined forest n; stays = starts_text_run forest n }

-- The change of a node, if it changes.
abbrev pub rewrite_at : Forest → ℕ → Option Rewrite
rewrite_at forest n = if is_rewritten forest n then Some (rewrite forest n) else None

-- An optional change as a list.
abbrev pub listed : Option Rewrite → List Rewrite
listed None = []
listed (Some w) = w ∷ []

-- The changes of the nodes, in order.
abbrev pub rewrites : Forest → List ℕ → List Rewrite
rewrites forest ns = map (rewrite forest) (filter (is_rewritten forest) ns)

-- The forest with a change applied: the text gets its new contents, and is detached unless it
-- stays.
abbrev pub rewritten : Rewrite → Forest → Forest
rewritten w forest =
    if w.stays then with_content w.id (with_text_data w.text) forest
    else detach (w.id ∷ []) (with_content w.id (with_text_data w.text) forest)
