use Rattle.std.proofs.Common.{refl}
use Rattle.std.proofs.lemmas.Result.{on_ok_weaker}
use Rattle.dom_links.proofs.forest.Grown.{created}
use Rattle.dom_links.proofs.ops.create.push_alone.Goals as goal

pub returns-clause-ok : goal.returns-clause-ok
returns-clause-ok c = on_ok_weaker c.push_new.result (λ pushed.
    created c.args.nodes.now.items c.push_new.new.nodes.items _ c.args.content c.requires.linked
    (record { id_is = refl; no_parent = refl; no_prev = refl; no_next = refl; no_first = refl; no_last = refl; content_is = refl })
    pushed) c.push_new.ensures.ok
