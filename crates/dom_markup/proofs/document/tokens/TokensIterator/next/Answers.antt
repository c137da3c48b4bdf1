use Rattle.std.proofs.Common.{◌<◌, length, refl, sym, ◌∙◌, rules, arith}
use Rattle.std.proofs.Math.Seq.{drop-length}
use Rattle.std.proofs.lemmas.Grind.{common_steps}
use Rattle.dom_markup.proofs.grammar.FaultLemmas.{token_fault}
use Rattle.dom_markup.proofs.grammar.Items.{Begins-suffix, Begins-shorter}
use Rattle.dom_markup.proofs.grammar.Spans.{length_from_nil}
use Rattle.dom_markup.proofs.document.tokens.TokensIterator.next.Goals as goal

pub item_at-requires : goal.item_at-requires
item_at-requires c = λ e. length_from_nil _ e (sym c.is_empty.ensures ∙ c.if-is_empty.false)

pub returns-in-Err-clause-steps : goal.returns-in-Err-clause-steps
returns-in-Err-clause-steps c = rw (← c.self.view_is) record {
  some = λ e. length_from_nil _ e (sym c.is_empty.ensures ∙ c.if-is_empty.false);
  nothing = c.in-Err.ensures.0;
  cause = c.in-Err.ensures.1;
  kind = token_fault _ _ _ c.in-Err.ensures.1;
  place = refl;
  ended = c.split_at.ensures.back ∙ drop-length c.self.inside.rest.now;
}

pub front_of-text-requires : goal.front_of-text-requires
front_of-text-requires c =
    let front = Begins-suffix _ _ _ _ c.in-Ok.ensures.begins in
    (front.0, front.1)

pub returns-clause-goes : goal.returns-clause-goes
returns-clause-goes c =
    let shorter : length c.in-Ok.found.rest.now < length c.self.inside.rest.now = Begins-shorter _ _ _ _ c.in-Ok.ensures.begins in
    rw (← c.self.view_is) (search rules)

pub is_empty-requires-text-self : goal.is_empty-requires-text-self
is_empty-requires-text-self c = grind (arith, common_steps)

pub returns-then-is_empty-clause-steps : goal.returns-then-is_empty-clause-steps
returns-then-is_empty-clause-steps c = grind (arith, common_steps)

pub returns-then-is_empty-clause-goes : goal.returns-then-is_empty-clause-goes
returns-then-is_empty-clause-goes c = grind (arith, common_steps)

pub split_at-requires : goal.split_at-requires
split_at-requires c = grind (arith, common_steps)

pub invariant_of-self : goal.invariant_of-self
invariant_of-self c = grind (arith, common_steps)

pub returns-in-Err-clause-goes : goal.returns-in-Err-clause-goes
returns-in-Err-clause-goes c = grind (arith, common_steps)

pub front_of-text-requires-text-rest : goal.front_of-text-requires-text-rest
front_of-text-requires-text-rest c = grind (arith, common_steps)

pub overflow_add-end : goal.overflow_add-end
overflow_add-end c = grind (arith, common_steps)

pub invariant_of-self-2 : goal.invariant_of-self-2
invariant_of-self-2 c = grind (arith, common_steps)

pub returns-clause-steps : goal.returns-clause-steps
returns-clause-steps c = grind (arith, common_steps)
