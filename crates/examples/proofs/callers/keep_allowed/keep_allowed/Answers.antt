use Rattle.dom_sanitize.specs.Clean.{lists_of}
use Rattle.examples.proofs.callers.keep_allowed.keep_allowed.Goals as goal

-- the law, applied to the lists, the tree before and the tree after
pub returns-clause-ok : goal.returns-clause-ok
returns-clause-ok c =
    c.what_is_left_is_allowed.ensures (lists_of c.args.allow.now) c.args.document.now.tree
    c.sanitize.new.document.tree c.is_forest.ensures c.in_ok-sanitize.ensures.ok
