-- The emphasis that surrounds a place in the text.
use Rattle.std.specs.Prelude.{ℕ, ◌&&◌, ◌||◌, not, Bool, true, false, List, codes, if◌then◌else◌}
use Rattle.std.specs.Str.{bytes_eq}
use Rattle.dom_md.specs.declared.context.EmphasisScope.{EmphasisScope}

-- each kind of emphasis in `other` is in `scope`, too
abbrev pub has_scope : EmphasisScope → EmphasisScope → Bool
has_scope scope other = (scope.bold || not other.bold) && (scope.italic || not other.italic)

abbrev pub merged : EmphasisScope → EmphasisScope → EmphasisScope
merged scope other = record { bold = scope.bold || other.bold; italic = scope.italic || other.italic }

-- the emphasis of a marker: `*` is italic, and any other marker is bold
abbrev pub scope_of : List ℕ → EmphasisScope
scope_of marker = if bytes_eq marker (codes "*") then record { bold = false; italic = true } else record { bold = true; italic = false }
