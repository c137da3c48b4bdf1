use Rattle.std.proofs.Common.{rules}
use Rattle.dom_links.specs.SetTexts.{with_text_data}
use Rattle.dom_links.proofs.forest.Changing.{written, unknown}
use Rattle.dom_links.proofs.texts.SettingTexts.{keeps_text}
use Rattle.dom_links.proofs.ops.set_text.put_text.Goals as goal

pub returns-then-at-nodes : goal.returns-then-at-nodes
returns-then-at-nodes c = written c.args.nodes.now c.value-at.result c.args.x c.set_text_data.new.node c.index-nodes-at.result (with_text_data c.args.text) (keeps_text c.args.text) c.requires (search rules) c.value-at.ensures.number c.set_text_data.ensures

pub returns-else-at-nodes : goal.returns-else-at-nodes
returns-else-at-nodes c = unknown c.args.nodes.now c.value-at.result c.args.x (with_text_data c.args.text) (keeps_text c.args.text) c.requires (search rules) c.value-at.ensures.number
