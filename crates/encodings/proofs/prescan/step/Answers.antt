use Rattle.std.proofs.Common.{◌∙◌, sym}
use Rattle.encodings.proofs.Steps.{at_byte, at_comment, at_meta, at_other, at_tag}
use Rattle.encodings.proofs.prescan.step.Goals as goal

pub returns-then-starts_with : goal.returns-then-starts_with
returns-then-starts_with c = at_comment c.args.bytes.now _ (sym c.starts_with.ensures.value ∙ c.if-starts_with.true) c.comment.ensures

pub returns-then-begins_meta : goal.returns-then-begins_meta
returns-then-begins_meta c =
    at_meta c.args.bytes.now _ _ (sym c.starts_with.ensures.value ∙ c.if-starts_with.false) (sym c.begins_meta.ensures ∙ c.if-begins_meta.true) c.behind.ensures c.meta.ensures

pub returns-then-begins_tag : goal.returns-then-begins_tag
returns-then-begins_tag c =
    at_tag c.args.bytes.now _ (sym c.starts_with.ensures.value ∙ c.if-starts_with.false) (sym c.begins_meta.ensures ∙ c.if-begins_meta.false) (sym c.begins_tag.ensures ∙ c.if-begins_tag.true) c.tag.ensures

pub returns-then-begins_other : goal.returns-then-begins_other
returns-then-begins_other c =
    at_other c.args.bytes.now _ (sym c.starts_with.ensures.value ∙ c.if-starts_with.false) (sym c.begins_meta.ensures ∙ c.if-begins_meta.false) (sym c.begins_tag.ensures ∙ c.if-begins_tag.false)
    (sym c.begins_other.ensures ∙ c.if-begins_other.true) c.other.ensures

pub returns : goal.returns
returns c =
    at_byte c.args.bytes.now _ (sym c.starts_with.ensures.value ∙ c.if-starts_with.false) (sym c.begins_meta.ensures ∙ c.if-begins_meta.false) (sym c.begins_tag.ensures ∙ c.if-begins_tag.false)
    (sym c.begins_other.ensures ∙ c.if-begins_other.false) c.behind_byte.ensures
