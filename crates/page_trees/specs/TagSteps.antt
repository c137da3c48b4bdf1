-- The tree construction dispatcher (13.2.6): which rules process a tag, and what is stated of them.
use Rattle.std.specs.Prelude.{◌≡◌, Bool, [], ◌∷◌, false, true, if◌then◌else◌}
use Rattle.standard_trees.specs.Building.{Building, taken}
use Rattle.standard_trees.specs.RuleWords.{Dispatcher, ForeignContent, Use, UseCurrentMode, Way, goes}
use Rattle.standard_trees.specs.TreeRules.{rules}
use Rattle.page_tokens.specs.declared.token.Tag.{Tag}
use Rattle.page_tokens.specs.declared.token.TagKind.{TagKind}
use Rattle.page_trees.specs.Constructs.{IsCurrentTag}
use Rattle.page_trees.specs.Stands.{Builds}
use Rattle.page_trees.specs.TreeState.{TreeState}
use Rattle.page_trees.specs.declared.builder.Mode.{Mode}
use Rattle.page_trees.specs.declared.name.Name.{Name}

abbrev pub way_for : Bool → Way
way_for foreign = if foreign then Use ForeignContent else UseCurrentMode

-- the dispatcher has the rules for foreign content process such a tag, or those for the current mode
abbrev pub DispatchesTag : TagKind → Name → TreeState → Bool → Type 0
DispatchesTag kind name state foreign =
    (tag : Tag) → tag.kind ≡ kind → (b : Building) → IsCurrentTag name tag b → Builds state b.tree →
    taken b (rules Dispatcher) ≡ goes (way_for foreign) ∷ []

-- the modes before the body and after it
abbrev pub is_outer : Mode → Bool
is_outer Mode.Initial = true
is_outer Mode.BeforeHtml = true
is_outer Mode.BeforeHead = true
is_outer Mode.InHead = true
is_outer Mode.InHeadNoscript = true
is_outer Mode.AfterHead = true
is_outer Mode.AfterBody = true
is_outer Mode.InFrameset = true
is_outer Mode.AfterFrameset = true
is_outer Mode.AfterAfterBody = true
is_outer Mode.AfterAfterFrameset = true
is_outer _ = false
