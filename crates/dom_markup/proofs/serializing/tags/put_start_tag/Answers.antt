use Rattle.std.proofs.Common.{◌≡◌, ◌++◌, ◌+◌, ◌∙◌, ap, sym, refl, take, drop, take_all, arith}
use Rattle.std.specs.Prelude.{codes}
use Rattle.std.specs.List.{flat_map}
use Rattle.std.proofs.lemmas.Result.{err_from_is_err_and}
use Rattle.std.proofs.lemmas.Grind.{common_steps}
use Rattle.dom_markup.specs.Html.{attr_text}
use Rattle.dom_markup.proofs.grammar.TagLemmas.{tag-first, tag-attr, tag-last}
use Rattle.dom_markup.proofs.html.WritingLemmas.{fault-first, fault-inside, then-writes, flat_map-split}
use Rattle.dom_markup.proofs.serializing.tags.put_start_tag.Goals as goal

pub returns-in_err-put_parts : goal.returns-in_err-put_parts
returns-in_err-put_parts g c =
    let e = err_from_is_err_and c.from_residual.result c.from_residual.ensures.1 in
    rw e.1 (fault-first _ _ _ (flat_map attr_text c.args.element.now.attrs ++ codes ">") _ c.in_err-put_parts.ensures
    (tag-first c.args.element.now.name.local c.node_name.result.now _ c.node_name.ensures))

pub returns-in_err-put_attr : goal.returns-in_err-put_attr
returns-in_err-put_attr g c =
    let e = err_from_is_err_and c.from_residual-in_err-put_attr.result c.from_residual-in_err-put_attr.ensures.1 in
    let items = c.as_slice-attr-items.result.now in
    let split = flat_map-split attr_text items c.loop-attr.attr-index c.attr-item.result c.loop-attr-test.true in
    let one : flat_map attr_text items ≡ (flat_map attr_text (take c.loop-attr.attr-index items) ++ attr_text c.attr-item.result) ++ flat_map attr_text (drop (c.loop-attr.attr-index + 1) items) =
    split ∙ ap (λ x. (flat_map attr_text (take c.loop-attr.attr-index items) ++ attr_text x) ++ flat_map attr_text (drop (c.loop-attr.attr-index + 1) items)) (sym c.attr-item.is) in
    let all : flat_map attr_text c.args.element.now.attrs ≡ flat_map attr_text items = ap (flat_map attr_text) (sym (c.as_slice-attr-items.ensures ∙ c.attrs.ensures)) in
    rw e.1 (fault-first _ _ _ _ _ (fault-inside _ _ _ _ _ _ c.loop-attr.invariant c.in_err-put_attr.ensures refl)
    (tag-attr c.args.element.now.name.local (flat_map attr_text c.args.element.now.attrs) _ _ (flat_map attr_text (drop (c.loop-attr.attr-index + 1) items)) (codes ">") (all ∙ one)))

pub returns : goal.returns
returns g c =
    let items = c.as_slice-attr-items.result.now in
    let done : take c.loop-attr.attr-index items ≡ items = take_all c.loop-attr.attr-index items (omega (arith, c.loop-attr-test.false)) in
    then-writes _ _ _ c.put.result _ _ _ c.loop-attr.invariant c.put.ensures
    (tag-last c.args.element.now.name.local (flat_map attr_text c.args.element.now.attrs) _ (codes ">") (ap (flat_map attr_text) (done ∙ (c.as_slice-attr-items.ensures ∙ c.attrs.ensures))))

pub slice_bounds-put_parts-end-2 : goal.slice_bounds-put_parts-end-2
slice_bounds-put_parts-end-2 g c = grind (arith, common_steps)

pub loop-attr-init : goal.loop-attr-init
loop-attr-init g c = grind (arith, common_steps)

pub offset_bounds-attr-items-attr-index : goal.offset_bounds-attr-items-attr-index
offset_bounds-attr-items-attr-index g c = grind (arith, common_steps)

pub loop-attr-preserved : goal.loop-attr-preserved
loop-attr-preserved g c = grind (arith, common_steps)
