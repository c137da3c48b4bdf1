use Rattle.std.proofs.Common.{◌≡◌, false, sym, ◌∙◌, subst, ap, string_bytes, List, ℕ}
use Rattle.dom_md.specs.Cells.{AddsBackslashes, BarsAreEscaped, in_cell}
use Rattle.dom_md.proofs.CellLemmas.{adds, bars}
use Rattle.dom_md.proofs.cells.escape_table_cell_inplace.Goals as goal

pub returns-clause-bars : goal.returns-clause-bars
returns-clause-bars c =
    let is : string_bytes c.in_ok-escaped.escaped ≡ in_cell (string_bytes c.args.text.now) = c.in_ok-escaped.ensures ∙ ap in_cell c.as_str.ensures.value in
    subst (λ (t : List ℕ). BarsAreEscaped t) (sym is) (bars (string_bytes c.args.text.now))

pub returns-clause-added : goal.returns-clause-added
returns-clause-added c =
    let is : string_bytes c.in_ok-escaped.escaped ≡ in_cell (string_bytes c.args.text.now) = c.in_ok-escaped.ensures ∙ ap in_cell c.as_str.ensures.value in
    subst (λ (t : List ℕ). AddsBackslashes (string_bytes c.args.text.now) t) (sym is) (adds false (string_bytes c.args.text.now))
