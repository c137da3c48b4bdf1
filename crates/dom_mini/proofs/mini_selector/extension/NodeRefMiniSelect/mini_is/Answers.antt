use Rattle.dom_mini.proofs.MiniMatchLemmas.{met_or_not, none_met}
use Rattle.dom_mini.proofs.mini_selector.extension.NodeRefMiniSelect.mini_is.Goals as goal

pub returns-in-Ok : goal.returns-in-Ok
returns-in-Ok c = met_or_not c.match_node.result c.args.selector.now c.in-Ok.ensures.0 c.args.self.now.tree.now c.args.self.now.id c.in-Ok.mini c.in-Ok.ensures.1 c.match_node.ensures

pub returns-in-Err-NoSelector : goal.returns-in-Err-NoSelector
returns-in-Err-NoSelector c = let refused = rw c.in-Err-NoSelector.field-0-is at c.in-Err-NoSelector.ensures in none_met c.args.selector.now c.args.self.now.tree.now c.args.self.now.id refused.0

pub returns-in-Err-BadQuotedValue : goal.returns-in-Err-BadQuotedValue
returns-in-Err-BadQuotedValue c = let refused = rw c.in-Err-BadQuotedValue.field-0-is at c.in-Err-BadQuotedValue.ensures in none_met c.args.selector.now c.args.self.now.tree.now c.args.self.now.id refused.0
