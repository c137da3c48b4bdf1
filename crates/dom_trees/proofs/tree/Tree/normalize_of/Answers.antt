use Rattle.std.proofs.Common.{◌≡◌, arith, ap, length, rules, ◌∙◌, sym, subst}
use Rattle.std.proofs.lemmas.List.{with_items_is}
use Rattle.std.proofs.lemmas.Result.{IfErr-weaker, on_ok_weaker, on_err_weaker}
use Rattle.dom_links.specs.Forest.{forest_of}
use Rattle.dom_links.specs.Normalized.{normalized}
use Rattle.dom_trees.specs.Refusals.{JoinCause}
use Rattle.dom_trees.proofs.tree.Tree.normalize_of.Goals as goal

pub returns : goal.returns
returns c =
    let same : length c.normalize.new.nodes ≡ length c.deref_mut.result.now = omega arith in
    let long : length c.normalize.new.nodes ≡ c.self.inside.nodes.len = same ∙ c.deref_mut.ensures.len in
    let back = with_items_is c.self.inside.nodes c.normalize.new.nodes long in
    record {
      ok = on_ok_weaker c.normalize.result (λ made. ap forest_of back ∙ made ∙ ap (λ nodes. normalized c.args.id.now (forest_of nodes)) c.deref_mut.ensures.value ∙ ap (normalized c.args.id.now) c.self.view_is) c.normalize.ensures.made;
      allowed = search rules;
      err = on_err_weaker c.normalize.result (λ same_nodes. ap forest_of (back ∙ same_nodes ∙ c.deref_mut.ensures.value) ∙ c.self.view_is) c.normalize.ensures.err;
      cause = IfErr-weaker c.normalize.result _ _ (λ fault is. subst (JoinCause c.args.id.now c.args.self.now) (sym is) tt) c.normalize.ensures.cause;
    }
