use Rattle.std.proofs.Common.{ap, arith, refl, rules, subst, sym, ◌∙◌}
use Rattle.std.specs.Str.{IsUtf8}
use Rattle.std.proofs.lemmas.Str.{IsUtf8-take}
use Rattle.page_tokens.proofs.Fronts.{none_read, plain_on, outside_attr}
use Rattle.page_tokens.proofs.PlainAttrs.{equals_read, name_read}
use Rattle.page_tokens.proofs.tokenizer.Tokenizer.read_plain_attr.Goals as goal

pub returns-then-is_empty : goal.returns-then-is_empty
returns-then-is_empty c outside = none_read c.args.self.now c.args.text.now

pub returns-then-not-begins_attr : goal.returns-then-not-begins_attr
returns-then-not-begins_attr c outside = none_read c.args.self.now c.args.text.now

pub returns-in_default : goal.returns-in_default
returns-in_default c outside =
    name_read c.args.self.now c.begin_plain_attr.new.self c.args.text.now c.split_at.result.0.now c.split_at.result.1.now c.attr_name_len.result outside (sym c.begins_attr.ensures ∙ c.if-not-begins_attr.false)
    (subst IsUtf8 (sym c.split_at.ensures.front) (IsUtf8-take c.args.text.now c.attr_name_len.result c.utf8.text c.attr_name_len.ensures.boundary)) c.split_at.ensures.front c.split_at.ensures.back c.attr_name_len.ensures.len (search rules)
    c.in_ok-begin_plain_attr.ensures.begins

pub returns : goal.returns
returns c outside =
    let named = c.begin_plain_attr.new.self in
    let out = outside_attr c.args.self.now named (ap (λ t. t.reference) c.begin_plain_attr.ensures.place) (ap (λ t. t.after_return) c.begin_plain_attr.ensures.place) outside in
    plain_on c.args.self.now named _ c.args.text.now c.split_at.result.1.now _ c.read_plain_value.result
    (name_read c.args.self.now named c.args.text.now c.split_at.result.0.now c.split_at.result.1.now c.attr_name_len.result outside (sym c.begins_attr.ensures ∙ c.if-not-begins_attr.false)
    (subst IsUtf8 (sym c.split_at.ensures.front) (IsUtf8-take c.args.text.now c.attr_name_len.result c.utf8.text c.attr_name_len.ensures.boundary)) c.split_at.ensures.front c.split_at.ensures.back c.attr_name_len.ensures.len (search rules)
    c.in_ok-begin_plain_attr.ensures.begins)
    (plain_on named _ _ c.split_at.result.1.now c.in-Some.written.now _ c.read_plain_value.result (equals_read named c.split_at.result.1.now c.in-Some.written.now out c.in_ok-begin_plain_attr.ensures.state (c.in-Some.ensures.cut (omega arith)))
    (c.read_plain_value.ensures (record { reference = out.reference; after_return = out.after_return }) refl))
