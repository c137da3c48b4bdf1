-- What is known of the limit on depth once it has been noted how many elements are open.
use Rattle.std.proofs.Common.{◌≡◌, Bool, true, false, ◌||◌, refl, sym, ap, ◌∙◌, length}
use Rattle.std.specs.Prelude.{nat_lt}
use Rattle.std.proofs.lemmas.Bool.{ltb-false}
use Rattle.page_trees.specs.declared.builder.TreeBuilder.{TreeBuilder}
use Rattle.page_trees.proofs.ElementSteps.{Noted}

neither : (b c : Bool) → (b || c) ≡ false → (b ≡ false) × (c ≡ false)
neither true c h = absurd (cc)
neither false c h = (refl, h)

pub noted : (kept new : TreeBuilder) → new ≡ record kept { too_deep = kept.too_deep || nat_lt kept.placing.max_depth (length kept.tree.stack) } → Noted kept new
noted kept new e =
    let deep : new.too_deep ≡ (kept.too_deep || nat_lt kept.placing.max_depth (length kept.tree.stack)) = ap (λ (s : TreeBuilder). s.too_deep) e in (
      e ∙ ap (λ b. record kept { too_deep = b }) (sym deep),
      λ h. (neither kept.too_deep (nat_lt kept.placing.max_depth (length kept.tree.stack)) (sym deep ∙ h)).0,
      λ h. ltb-false kept.placing.max_depth (length kept.tree.stack) (neither kept.too_deep (nat_lt kept.placing.max_depth (length kept.tree.stack)) (sym deep ∙ h)).1,
    )
