use Rattle.std.proofs.Common.{rules, sym, ◌∙◌}
use Rattle.dom_markup.specs.Bytes.{is_name_byte}
use Rattle.dom_markup.proofs.grammar.Reading.{attribute_made, attribute_shape}
use Rattle.dom_markup.proofs.grammar.Spans.{nil_from_length, splits_front}
use Rattle.dom_markup.proofs.document.scan.spaced_name.Goals as goal

pub returns-then-is_empty-clause-none : goal.returns-then-is_empty-clause-none
returns-then-is_empty-clause-none c = λ a rest h.
    let shape = attribute_shape _ _ _ _ _ a rest c.split_front.ensures (splits_front is_name_byte c.split_front.result.1.now) h in
    shape.some_space (nil_from_length _ (sym c.is_empty.ensures ∙ c.if-is_empty.true))

pub returns-then-is_empty-2-clause-none : goal.returns-then-is_empty-2-clause-none
returns-then-is_empty-2-clause-none c = λ a rest h.
    let shape = attribute_shape _ _ _ _ _ a rest c.split_front.ensures c.split_front-2.ensures h in
    shape.some_name (nil_from_length _ (sym c.is_empty-2.ensures ∙ c.if-is_empty-2.true))

pub returns-clause-some : goal.returns-clause-some
returns-clause-some c = record {
  begins = λ value rest valued. attribute_made _ _ _ _ _ value rest c.split_front.ensures c.split_front-2.ensures (search rules) (search rules) valued;
  valued = λ a rest h. (attribute_shape _ _ _ _ _ a rest c.split_front.ensures c.split_front-2.ensures h).valued;
}
