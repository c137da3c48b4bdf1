use Rattle.std.proofs.Common.{◌∙◌, sym, rules}
use Rattle.dom_markup.proofs.rows.LateLemmas.{contents_set}
use Rattle.dom_markup.proofs.document.late_texts.set_contents.Goals as goal

pub returns : goal.returns
returns c = contents_set c.update_node.result c.args.number.now c.args.contents _ c.args.tree.now c.update_node.new.self (λ a b left. sym left.leaves ∙ search rules) c.update_node.ensures.ok c.update_node.ensures.err c.update_node.ensures.cause
