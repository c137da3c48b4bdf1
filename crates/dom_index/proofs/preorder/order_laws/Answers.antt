use Rattle.std.proofs.Common.{◌≤◌, length, arith}
use Rattle.dom_index.proofs.OrderLemmas.{is_order, preorder_all, preorder_inside, preorder_once}
use Rattle.dom_index.proofs.PlaceLemmas.{all_counted}
use Rattle.dom_index.specs.Preorder.{preorder}
use Rattle.dom_index.proofs.preorder.order_laws.Goals as goal

pub returns-clause-long : goal.returns-clause-long
returns-clause-long c =
    let f = c.args.tree.now in let k = c.forest_laws.ensures in let whole : length f.content ≤ length f.content = omega arith in
    all_counted (preorder f) (length f.content) (preorder_once f k.forest k.lines k.trees (length f.content) whole) (λ n s. preorder_inside f k.forest k.lines k.trees (length f.content) n whole s) (λ n known. preorder_all f k.forest k.lines k.trees n known)

pub returns-clause-once : goal.returns-clause-once
returns-clause-once c = let f = c.args.tree.now in let k = c.forest_laws.ensures in let whole : length f.content ≤ length f.content = omega arith in preorder_once f k.forest k.lines k.trees (length f.content) whole

pub returns-clause-inside : goal.returns-clause-inside
returns-clause-inside c = λ n s. let f = c.args.tree.now in let k = c.forest_laws.ensures in let whole : length f.content ≤ length f.content = omega arith in preorder_inside f k.forest k.lines k.trees (length f.content) n whole s

pub returns-clause-order : goal.returns-clause-order
returns-clause-order c = λ places h. let k = c.forest_laws.ensures in is_order c.args.tree.now k.forest k.lines k.trees places h.1 h.0

pub returns-clause-all : goal.returns-clause-all
returns-clause-all c = λ n known. let k = c.forest_laws.ensures in preorder_all c.args.tree.now k.forest k.lines k.trees n known
