use Rattle.std.proofs.Common.{◌≡◌, [], length, ap, sym, arith}
use Rattle.std.proofs.lemmas.Bool.{eq-eqb}
use Rattle.std.proofs.lemmas.Grind.{common_steps}
use Rattle.dom_select.specs.Selected.{walks_below}
use Rattle.dom_select.proofs.FollowLemmas.{is_nil}
use Rattle.dom_select.proofs.SeveralLemmas.{selected_all}
use Rattle.dom_select.proofs.matcher.matcher_iter.MatcherIter.new.Goals as goal

pub returns-in-empty-clause-selected : goal.returns-in-empty-clause-selected
returns-in-empty-clause-selected c ids none =
    let no_root : c.args.roots.now ≡ [] = is_nil c.args.roots.now (eq-eqb (length c.args.roots.now) 0 (omega (arith, c.in-empty.len_below))) in
    selected_all c.args.tree.now c.args.roots.now c.args.matcher.now [] ids (sym (ap (walks_below c.args.tree.now) no_root)) none

pub returns-in-empty-clause-all : goal.returns-in-empty-clause-all
returns-in-empty-clause-all c =
    let no_root : c.args.roots.now ≡ [] = is_nil c.args.roots.now (eq-eqb (length c.args.roots.now) 0 (omega (arith, c.in-empty.len_below))) in
    sym (ap (walks_below c.args.tree.now) no_root)

pub returns-in-len1-clause-all : goal.returns-in-len1-clause-all
returns-in-len1-clause-all c = grind (arith, common_steps)

pub returns-in-len1-clause-selected : goal.returns-in-len1-clause-selected
returns-in-len1-clause-selected c = grind (arith, common_steps)
