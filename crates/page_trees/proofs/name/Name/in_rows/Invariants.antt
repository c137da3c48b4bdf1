use Rattle.std.proofs.Common.{◌≡◌, drop}
use Rattle.page_trees.specs.Names.{row_for, rows_of}
use Rattle.page_trees.specs.declared.name.Name.{Name}
use Rattle.page_trees.proofs.name.Name.in_rows.Given as goal

-- what is left decides
abbrev pub invariant-loop-known : goal.invariant-loop-known
invariant-loop-known l = row_for (rows_of (drop l.known-index l.rows)) Name.Other l.written ≡ row_for (rows_of l.rows) Name.Other l.written
