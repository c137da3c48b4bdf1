use Rattle.std.proofs.Common.{◌≡◌, ◌+◌, ◌*◌, ◌∙◌, ℕ, List, Bool, Option, Some, length, subst, sym, true, arith}
use Rattle.std.specs.Prelude.{slice_range}
use Rattle.std.proofs.lemmas.Grind.{common_steps}
use Rattle.dom_index.specs.NodeSets.{in_set}
use Rattle.dom_index.specs.Tracks.{FlagsRight, IsFilledAt, left_in}
use Rattle.dom_index.proofs.RowLemmas.{left_inside, row_read}
use Rattle.dom_index.proofs.streaming.row_left.Goals as goal

pub returns : goal.returns
returns c =
    let chain = c.args.chain.now in
    let rows = c.args.rows.now in
    let forest = c.args.visited.now.tree.now in
    let n = c.args.visited.now.id in
    let left = c.in-Some.left in
    let w = length chain.steps.now in
    let up : left_in chain forest n ≡ Some left = sym c.next_left.ensures ∙ c.in-Some.is in
    let known = left_inside forest c.forest_laws.ensures.forest c.forest_laws.ensures.lines chain.way n left up in
    let on : in_set rows.filled.items left ≡ true = subst (IsFilledAt rows.filled.items) up c.requires.filled in
    let row = row_read chain forest left rows.flags.items known c.requires.tracked.long (c.requires.tracked.rows_are left on) in
    let read = subst (λ (bs : List Bool). FlagsRight chain forest (Some left) (slice_range bs (left * w) (left * w + w))) (sym c.deref-2.ensures.value) row in
    let placed = subst (λ (k : ℕ). FlagsRight chain forest (Some left) (slice_range c.deref-2.result.now (k * w) (k * w + w))) (sym c.value.ensures.number) read in
    subst (λ (o : Option ℕ). FlagsRight chain forest o (slice_range c.deref-2.result.now (c.value.result * w) (c.value.result * w + w))) (sym up) placed

pub overflow_mul-start : goal.overflow_mul-start
overflow_mul-start c = grind (arith, common_steps)

pub overflow_add-result : goal.overflow_add-result
overflow_add-result c = grind (arith, common_steps)
