use Rattle.std.proofs.Common.{arith, sym}
use Rattle.dom_links.proofs.texts.Rewriting.{rewriting_ends, rewriting_known, rewriting_on, rewriting_starts}
use Rattle.dom_links.proofs.ops.TreeNodeOps.normalize.Goals as goal

pub loop-rewrite-init : goal.loop-rewrite-init
loop-rewrite-init c = rewriting_starts c.args.nodes.now c.args.id c.in_ok-found.found.items c.requires c.in_ok-found.ensures

pub apply-requires-clause-known : goal.apply-requires-clause-known
apply-requires-clause-known c = rewriting_known c.args.nodes.now c.loop-rewrite.nodes c.args.id c.loop-rewrite.found.items c.pop.new.self.items c.in-Some.rewrite (sym c.in-Some.ensures.items) c.loop-rewrite.invariant

pub loop-rewrite-preserved : goal.loop-rewrite-preserved
loop-rewrite-preserved c = rewriting_on c.args.nodes.now c.loop-rewrite.nodes c.apply.new.nodes c.args.id c.loop-rewrite.found.items c.pop.new.self.items c.in-Some.rewrite (sym c.in-Some.ensures.items) c.loop-rewrite.invariant c.apply.ensures.made c.apply.ensures.sound

pub returns-clause-made : goal.returns-clause-made
returns-clause-made c = rewriting_ends c.args.nodes.now c.loop-rewrite.nodes c.args.id c.loop-rewrite.found.items c.requires (omega (arith, c.in_default.ensures.cases.0)) c.loop-rewrite.invariant
