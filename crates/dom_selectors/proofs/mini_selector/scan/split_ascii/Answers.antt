use Rattle.std.proofs.Common.{◌≡◌, ◌∷◌}
use Rattle.dom_selectors.proofs.MiniScanLemmas.{first_boundary}
use Rattle.dom_selectors.proofs.mini_selector.scan.split_ascii.Goals as goal

pub range_from-requires : goal.range_from-requires
range_from-requires c =
    let first : c.as_bytes.result.now ≡ c.in_ok-first.first.now ∷ c.in_ok-first.field-0-1.now = c.in_ok-first.ensures.cases.0 in
    let whole : c.args.text.now ≡ c.in_ok-first.first.now ∷ c.in_ok-first.field-0-1.now = cc (c.as_bytes.ensures.value, first) in
    λ _. first_boundary c.args.text.now c.in_ok-first.field-0-1.now c.in_ok-first.first.now c.utf8.text whole c.if-first-ge128.false
