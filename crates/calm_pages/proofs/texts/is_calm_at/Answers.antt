use Rattle.std.proofs.Common.{◌∙◌, false, sym, true}
use Rattle.calm_pages.proofs.TextLemmas.{calm-absent, calm-found}
use Rattle.calm_pages.proofs.texts.is_calm_at.Goals as goal

pub returns-then-not-is_calm_byte : goal.returns-then-not-is_calm_byte
returns-then-not-is_calm_byte c =
    let found = c.in-Some.ensures in
    let behind = c.in-Some-split_first in
    calm-found c.args.byte c.loop-at.rest.now c.in-Some.at _ behind.after.now found.0.before found.1 (sym c.split_at.ensures.back ∙ behind.ensures.cases.0) false c.if-not-is_calm_byte.ensures ∙ c.loop-at.invariant

pub loop-at-preserved : goal.loop-at-preserved
loop-at-preserved c =
    let found = c.in-Some.ensures in
    let behind = c.in-Some-split_first in
    calm-found c.args.byte c.loop-at.rest.now c.in-Some.at _ behind.after.now found.0.before found.1 (sym c.split_at.ensures.back ∙ behind.ensures.cases.0) true c.if-not-is_calm_byte.ensures ∙ c.loop-at.invariant

pub returns-in_default : goal.returns-in_default
returns-in_default c = sym (calm-absent c.args.byte c.loop-at.rest.now c.in_default.ensures) ∙ c.loop-at.invariant
