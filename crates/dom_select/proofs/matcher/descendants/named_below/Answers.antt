use Rattle.std.proofs.Common.{List, ◌∷◌, [], ℕ, ◌++◌, append_assoc, append-nil, ap, sym, ◌∙◌, subst, refl, inl}
use Rattle.dom_links.specs.Lists.{IsDistinct}
use Rattle.dom_links.specs.Walk.{Walk}
use Rattle.dom_select.specs.Descendants.{IsMatch}
use Rattle.dom_select.specs.Selected.{FiltersTo, Selected}
use Rattle.dom_select.proofs.SelectionLemmas.{selected_below}
use Rattle.dom_select.proofs.types.TypeLemmas.{bears_wanted}
use Rattle.dom_select.proofs.matcher.descendants.named_below.Goals as goal

pub loop-id-init : goal.loop-id-init
loop-id-init c = λ ids h.
    subst (λ (ns : List ℕ). Selected c.args.tree.now (c.args.root.now ∷ []) c.args.matcher.now (ns ++ ids)) (sym c.new-named.ensures.items)
    (let walk = c.descendant_ids_of_it-id-items.ensures in
    let all = ap (λ (it : Walk). it.left) c.into_iter-id-iterator.ensures.into_iter_gives ∙ walk.all in
    selected_below c.args.tree.now c.args.root.now c.args.matcher.now ids (subst IsDistinct walk.all walk.once)
    (subst (λ (ns : List ℕ). FiltersTo (IsMatch c.args.matcher.now c.args.tree.now) ns ids) all h))

pub loop-id-preserved : goal.loop-id-preserved
loop-id-preserved c = λ ids h.
    let n = c.in-Some.id in
    let P = IsMatch c.args.matcher.now c.args.tree.now in
    let meant : P n = bears_wanted c.args.name.now c.args.matcher.now c.args.tree.now n c.requires c.if-not-has_type.ensures in
    let added = ap (λ (ns : List ℕ). ns ++ ids) c.in_ok-push.ensures.items ∙ append_assoc c.loop-id.named.items (n ∷ []) ids in
    subst (λ (ns : List ℕ). Selected c.args.tree.now (c.args.root.now ∷ []) c.args.matcher.now ns) (sym added)
    (c.loop-id.invariant (n ∷ ids) (subst (λ (ns : List ℕ). FiltersTo P ns (n ∷ ids)) (sym c.in-Some.ensures.steps.first) (inl (meant, ids, refl, h))))

pub returns : goal.returns
returns c =
    let P = IsMatch c.args.matcher.now c.args.tree.now in
    subst (λ (ns : List ℕ). Selected c.args.tree.now (c.args.root.now ∷ []) c.args.matcher.now ns) (append-nil c.loop-id.named.items)
    (c.loop-id.invariant [] (subst (λ (ns : List ℕ). FiltersTo P ns []) (sym c.in-None.ensures.steps.first.0) refl))
