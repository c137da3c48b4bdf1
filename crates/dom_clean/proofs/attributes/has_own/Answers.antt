use Rattle.std.proofs.Common.{◌≡◌, true, false, arith, sym, ◌∙◌}
use Rattle.dom_nodes.proofs.AttrLemmas.{list_any-map}
use Rattle.dom_clean.specs.Fates.{is_own}
use Rattle.dom_clean.specs.Policies.{own_of}
use Rattle.dom_clean.proofs.Searches.{none_more, none_passes, one_passes}
use Rattle.dom_clean.proofs.attributes.has_own.Goals as goal

pub loop-one-preserved : goal.loop-one-preserved
loop-one-preserved c =
    let failed : is_own c.args.element.now c.args.name.now c.args.value.now (own_of c.one-item.result) ≡ false = cc in
    none_more (λ one. is_own c.args.element.now c.args.name.now c.args.value.now (own_of one)) c.args.own.now c.loop-one.one-index c.one-item.result (omega arith) c.one-item.is c.loop-one.invariant failed

pub returns-then-is_own : goal.returns-then-is_own
returns-then-is_own c =
    let passed : is_own c.args.element.now c.args.name.now c.args.value.now (own_of c.one-item.result) ≡ true = cc in
    sym (list_any-map own_of (is_own c.args.element.now c.args.name.now c.args.value.now) c.args.own.now ∙ one_passes (λ one. is_own c.args.element.now c.args.name.now c.args.value.now (own_of one)) c.args.own.now c.loop-one.one-index c.one-item.result (omega arith) c.one-item.is passed)

pub returns : goal.returns
returns c = sym (list_any-map own_of (is_own c.args.element.now c.args.name.now c.args.value.now) c.args.own.now ∙ none_passes (λ one. is_own c.args.element.now c.args.name.now c.args.value.now (own_of one)) c.args.own.now c.loop-one.one-index (omega arith) c.loop-one.invariant)
