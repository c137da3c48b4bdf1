use Rattle.std.proofs.Common.{◌∙◌, subst}
use Rattle.dom_links.specs.Forest.{Forest}
use Rattle.dom_select.specs.Descendants.{IsMatch}
use Rattle.dom_select.proofs.MatchLemmas.{passes_none, passes_one, gives_one, gives_none, gives_from}
use Rattle.dom_select.proofs.matcher.descendants.DescendantMatchesIterator.next.Goals as goal

pub loop-id-init : goal.loop-id-init
loop-id-init c = record { passes = passes_none _; caches = c.self.invariant.0; among = c.self.invariant.1 }

pub returns-in_err-id-clause-steps : goal.returns-in_err-id-clause-steps
returns-in_err-id-clause-steps c =
    let given = gives_none _ c.loop-id.self-inside.ids.left c.next.new.self.left c.loop-id.self-inside.tree c.loop-id.self-inside.matcher.now c.from_residual.result c.loop-id.invariant.passes c.in_err-id.ensures.steps.first.0 c.in_err-id.ensures.steps.first.1 c.from_residual.ensures in
    gives_from _ _ _ _ c.self.view_is given

pub returns-then-is_match_of_types-clause-steps : goal.returns-then-is_match_of_types-clause-steps
returns-then-is_match_of_types-clause-steps c =
    let given = gives_one _ c.loop-id.self-inside.ids.left c.next.new.self.left c.loop-id.self-inside.tree c.loop-id.self-inside.matcher.now c.in_ok-id.id c.new.result c.loop-id.invariant.passes c.in_ok-id.ensures.steps.first (subst (λ (forest : Forest). IsMatch c.loop-id.self-inside.matcher.now forest c.in_ok-id.id) c.loop-id.invariant.caches c.if-is_match_of_types.ensures.is) c.new.ensures in
    gives_from _ _ _ _ c.self.view_is given

pub loop-id-preserved : goal.loop-id-preserved
loop-id-preserved c =
    let out = subst (λ (forest : Forest). IsMatch c.loop-id.self-inside.matcher.now forest c.in_ok-id.id → ⊥) c.loop-id.invariant.caches c.if-is_match_of_types.ensures.is in
    record {
      passes = passes_one _ c.loop-id.self-inside.ids.left c.next.new.self.left c.loop-id.self-inside.tree c.loop-id.self-inside.matcher.now c.in_ok-id.id c.loop-id.invariant.passes c.in_ok-id.ensures.steps.first out;
      caches = c.is_match_of_types.ensures.same ∙ c.loop-id.invariant.caches;
      among = c.loop-id.invariant.among;
    }
