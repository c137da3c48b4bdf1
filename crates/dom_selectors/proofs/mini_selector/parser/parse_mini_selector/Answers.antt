use Rattle.std.proofs.Common.{map}
use Rattle.std.specs.Option.{option_copied}
use Rattle.std.proofs.lemmas.Result.{err_from_is_err_and}
use Rattle.dom_selectors.specs.MiniGrammar.{SpellsFront}
use Rattle.dom_selectors.specs.MiniSyntax.{Mini, asked_of, texts_of}
use Rattle.dom_selectors.proofs.MiniFaultLemmas.{passed_on, refuses_bad}
use Rattle.dom_selectors.proofs.MiniLemmas.{SpellsParts, no_part, parts_not_bad, spelled_front}
use Rattle.dom_selectors.proofs.mini_selector.parser.parse_mini_selector.Goals as goal

pub returns-in_err-attrs : goal.returns-in_err-attrs
returns-in_err-attrs c =
    let front : SpellsFront c.maybe_lead-lead.result.0 (option_copied c.maybe_name.result.0) (option_copied c.maybe_id.result.0) (texts_of c.in_ok-classes.classes.items) c.args.text.now c.in_ok-classes.after_classes.now =
    spelled_front c.maybe_lead-lead.result.1.now c.maybe_name.result.1.now c.maybe_id.result.1.now c.maybe_lead-lead.ensures c.maybe_name.ensures c.maybe_id.ensures c.in_ok-classes.ensures in
    passed_on c.from_residual-in_err-attrs.result _ _ _ (err_from_is_err_and c.from_residual-in_err-attrs.result c.from_residual-in_err-attrs.ensures.1)
    (refuses_bad _ c.args.text.now _ _ _ _ _ front c.in_err-attrs.ensures)

pub returns-then-not-has_part : goal.returns-then-not-has_part
returns-then-not-has_part c =
    let mini : Mini = record {
      lead = c.maybe_lead-lead.result.0;
      name = option_copied c.maybe_name.result.0;
      id = option_copied c.maybe_id.result.0;
      classes = texts_of c.in_ok-classes.classes.items;
      attrs = map asked_of c.in_ok-attrs.attrs.items;
    } in
    let parts : SpellsParts mini c.args.text.now c.in_ok-attrs.rest.now = record {
      after_front = c.in_ok-classes.after_classes.now;
      front = spelled_front c.maybe_lead-lead.result.1.now c.maybe_name.result.1.now c.maybe_id.result.1.now c.maybe_lead-lead.ensures c.maybe_name.ensures c.maybe_id.ensures c.in_ok-classes.ensures;
      attrs = c.in_ok-attrs.ensures;
    } in
    (no_part mini c.args.text.now _ parts (cc (c.has_part.ensures, c.if-not-has_part.true)), parts_not_bad mini c.args.text.now _ parts)
