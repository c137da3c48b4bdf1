use Rattle.std.proofs.Common.{◌++◌, ◌∙◌, ap, refl}
use Rattle.std.specs.Prelude.{codes}
use Rattle.std.proofs.lemmas.Result.{err_from_is_err_and}
use Rattle.dom_nodes.specs.Escaping.{escaped_value}
use Rattle.dom_markup.specs.Html.{prefix_text}
use Rattle.dom_markup.proofs.grammar.TagLemmas.{attr-first, attr-value}
use Rattle.dom_markup.proofs.html.WritingLemmas.{fault-first, fault-inside, then-writes, written-then}
use Rattle.dom_markup.proofs.serializing.tags.put_attr.Goals as goal

pub returns-in_err-put_parts : goal.returns-in_err-put_parts
returns-in_err-put_parts g c =
    let e = err_from_is_err_and c.from_residual.result c.from_residual.ensures.1 in
    rw e.1 (fault-first _ _ _ (escaped_value c.args.attr.now.value ++ codes "\"") _ c.in_err-put_parts.ensures
    (attr-first (prefix_text c.args.attr.now.name) c.args.attr.now.name.local c.before_local.result.now c.as_str-local.result.now _ c.before_local.ensures (c.as_str-local.ensures ∙ c.local.ensures)))

pub returns-in_err-put_value : goal.returns-in_err-put_value
returns-in_err-put_value g c =
    let e = err_from_is_err_and c.from_residual-in_err-put_value.result c.from_residual-in_err-put_value.ensures.1 in
    rw e.1 (fault-first _ _ _ (codes "\"") _ (fault-inside _ _ _ _ _ _ c.in_ok-put_parts.ensures c.in_err-put_value.ensures refl)
    (attr-value (prefix_text c.args.attr.now.name) c.args.attr.now.name.local (escaped_value c.args.attr.now.value) c.before_local.result.now c.as_str-local.result.now _ _ c.before_local.ensures (c.as_str-local.ensures ∙ c.local.ensures) (ap escaped_value c.as_str.ensures)))

pub returns : goal.returns
returns g c =
    then-writes _ _ _ c.put.result _ _ _ (written-then _ _ _ _ _ c.in_ok-put_parts.ensures c.in_ok-put_value.ensures) c.put.ensures
    (attr-value (prefix_text c.args.attr.now.name) c.args.attr.now.name.local (escaped_value c.args.attr.now.value) c.before_local.result.now c.as_str-local.result.now _ _ c.before_local.ensures (c.as_str-local.ensures ∙ c.local.ensures) (ap escaped_value c.as_str.ensures))
