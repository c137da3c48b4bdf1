use Rattle.std.proofs.Common.{◌∷◌, ◌++◌, ◌∙◌, [], ap, map, sym, take}
use Rattle.std.proofs.lemmas.List.{map-append, take_more}
use Rattle.std.specs.Prelude.{string_bytes}
use Rattle.dom_markup.proofs.document.cloned.Goals as goal

pub loop-text-preserved : goal.loop-text-preserved
loop-text-preserved c =
    let i = c.loop-text.text-index in
    let texts = c.as_slice-text-items.result.now in
    ap (map string_bytes) c.in_ok-push.ensures.items ∙ map-append string_bytes c.loop-text.made.items (c.in_ok-clone.field-0 ∷ [])
    ∙ ap (λ ns. ns ++ string_bytes c.in_ok-clone.field-0 ∷ []) c.loop-text.invariant
    ∙ ap (λ n. map string_bytes (take i texts) ++ n ∷ []) c.in_ok-clone.ensures.cases
    ∙ sym (ap (map string_bytes) (take_more texts i c.text-item.result c.loop-text-test.true ∙ ap (λ t. take i texts ++ t ∷ []) (sym c.text-item.is)) ∙ map-append string_bytes (take i texts) (c.text-item.result ∷ []))
