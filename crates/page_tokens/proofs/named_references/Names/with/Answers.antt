use Rattle.std.proofs.Common.{arith}
use Rattle.page_tokens.proofs.SortedNames.{length-name_at}
use Rattle.page_tokens.proofs.NameLemmas.{names_more, names_none, read_more}
use Rattle.page_tokens.proofs.named_references.Names.with.Goals as goal

pub returns-then-low-high : goal.returns-then-low-high
returns-then-low-high c =
    names_none _ _ _ c.args.letter _ _ c.args.self.exactly (rw c.from.ensures at c.first_from-low.ensures)
    (rw c.from-2.ensures at c.first_from-high.ensures) c.if-low-high.true

pub overflow_add-result : goal.overflow_add-result
overflow_add-result c =
    let read = c.args.self.exactly.read in
    let most = length-name_at c.args.self.low in
    omega arith

pub invariant_of-result : goal.invariant_of-result
invariant_of-result c = record {
  exactly =
      names_more _ _ _ c.args.letter _ _ c.args.self.exactly (rw c.from.ensures at c.first_from-low.ensures)
      (rw c.from-2.ensures at c.first_from-high.ensures) c.if-low-high.false;
}

pub returns : goal.returns
returns c =
    read_more _ _ _ c.args.letter _ _ c.args.self.exactly (rw c.from.ensures at c.first_from-low.ensures)
    (rw c.from-2.ensures at c.first_from-high.ensures) c.if-low-high.false
