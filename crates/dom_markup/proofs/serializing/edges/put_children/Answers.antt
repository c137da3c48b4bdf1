use Rattle.std.proofs.Common.{◌∙◌, sym}
use Rattle.dom_links.specs.Forest.{forest_of}
use Rattle.dom_markup.proofs.html.EdgeTextLemmas.{bare-text, children-text}
use Rattle.dom_markup.proofs.html.WritingLemmas.{nothing-written}
use Rattle.dom_markup.proofs.serializing.edges.put_children.Goals as goal

pub returns-then-is_bare : goal.returns-then-is_bare
returns-then-is_bare g c = rw (bare-text (forest_of c.nodes-nodes.result.now) c.args.tree.now c.nodes-nodes.ensures.value c.args.id (sym c.is_bare.ensures ∙ c.if-is_bare.true)) (nothing-written _)

pub returns : goal.returns
returns g c = rw (children-text (forest_of c.nodes-nodes.result.now) c.args.tree.now c.nodes-nodes.ensures.value c.args.id c.in_ok-edges.edges (sym c.is_bare.ensures ∙ c.if-is_bare.false) c.in_ok-edges.ensures) c.put_edges.ensures
