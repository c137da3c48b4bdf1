use Rattle.std.proofs.Common.{sym, ◌∙◌}
use Rattle.page_trees.proofs.KeyLemmas.{found_last, none_found}
use Rattle.page_trees.proofs.formatting.places.last_in.Goals as goal

pub returns-in_err-rank : goal.returns-in_err-rank
returns-in_err-rank c =
    c.from_residual-in_err-rank.ensures ∙ sym (none_found c.args.rows.now c.in_ok-top.field-0-1.now c.in_ok-top.top.now c.args.ranks.now c.args.key
    c.in_ok-top.ensures.cases.0 c.requires c.in_err-rank.ensures)

pub returns : goal.returns
returns c =
    found_last c.args.rows.now c.in_ok-top.field-0-1.now c.in_ok-top.top.now c.args.ranks.now c.args.key c.in_ok-rank.rank c.in-Some.place
    c.in_ok-top.ensures.cases.0 c.requires c.in_ok-rank.ensures c.in-Some.ensures
