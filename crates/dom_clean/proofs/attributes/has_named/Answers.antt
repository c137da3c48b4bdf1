use Rattle.std.proofs.Common.{◌≡◌, true, false, arith, sym}
use Rattle.dom_clean.specs.Fates.{is_named}
use Rattle.dom_clean.proofs.Searches.{none_more, none_passes, one_passes}
use Rattle.dom_clean.proofs.attributes.has_named.Goals as goal

pub loop-attr-preserved : goal.loop-attr-preserved
loop-attr-preserved c =
    let failed : is_named c.args.name.now c.attr-item.result ≡ false = cc in
    none_more (λ attr. is_named c.args.name.now attr) c.args.attrs.now c.loop-attr.attr-index c.attr-item.result (omega arith) c.attr-item.is c.loop-attr.invariant failed

pub returns-then-is_named : goal.returns-then-is_named
returns-then-is_named c =
    let passed : is_named c.args.name.now c.attr-item.result ≡ true = cc in
    sym (one_passes (λ attr. is_named c.args.name.now attr) c.args.attrs.now c.loop-attr.attr-index c.attr-item.result (omega arith) c.attr-item.is passed)

pub returns : goal.returns
returns c = sym (none_passes (λ attr. is_named c.args.name.now attr) c.args.attrs.now c.loop-attr.attr-index (omega arith) c.loop-attr.invariant)
