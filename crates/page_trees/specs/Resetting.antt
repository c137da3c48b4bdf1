-- What "reset the insertion mode appropriately" (13.2.4.1) looks at in the state of the code.
use Rattle.std.specs.Prelude.{◌==◌, ◌-◌, List, length, slice_get, ℕ}
use Rattle.std.specs.Option.{is_some, unwrap_or}
use Rattle.page_trees.specs.declared.builder.Mode.{Mode}
use Rattle.page_trees.specs.declared.builder.TreeBuilder.{TreeBuilder}
use Rattle.page_trees.specs.declared.modes.resetting.Setting.{Setting}

-- the current template insertion mode; where there is none, it is never asked for
abbrev pub last_mode : List Mode → Mode
last_mode modes = unwrap_or (slice_get modes (length modes - 1)) Mode.InBody

-- what the mode depends on, besides the element at an index of the stack
abbrev pub setting_at : TreeBuilder → ℕ → Setting
setting_at s place = record { is_last = place == 0; has_head = is_some s.tree.head; template_mode = last_mode s.template_modes.items }
