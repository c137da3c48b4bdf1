use Rattle.std.proofs.Common.{sym, ◌∙◌}
use Rattle.encodings.proofs.Parts.{name_end, name_found, name_is, name_nothing}
use Rattle.encodings.proofs.attributes.next_attribute.Goals as goal

pub returns-in_err-first : goal.returns-in_err-first
returns-in_err-first c = rw c.from_residual.ensures (name_nothing c.args.bytes.now _ c.skip-rest.ensures c.in_err-first.ensures.cases)

pub returns-then-is_tag_end : goal.returns-then-is_tag_end
returns-then-is_tag_end c = name_end c.args.bytes.now _ _ _ c.skip-rest.ensures c.in_ok-first.ensures.cases.0 (sym c.is_tag_end.ensures ∙ c.if-is_tag_end.true)

pub returns-in-Some : goal.returns-in-Some
returns-in-Some c =
    name_found c.args.bytes.now _ _ _ _ _ _ _ c.skip-rest.ensures c.in_ok-first.ensures.cases.0 (sym c.is_tag_end.ensures ∙ c.if-is_tag_end.false)
    (name_is _ _ _ _ _ c.in_ok-first.ensures.cases.0 c.split.ensures.front c.front-name.ensures) c.split.ensures.rest c.skip.ensures c.in-Some.ensures

pub returns-in-None : goal.returns-in-None
returns-in-None c =
    name_found c.args.bytes.now _ _ _ _ _ _ _ c.skip-rest.ensures c.in_ok-first.ensures.cases.0 (sym c.is_tag_end.ensures ∙ c.if-is_tag_end.false)
    (name_is _ _ _ _ _ c.in_ok-first.ensures.cases.0 c.split.ensures.front c.front-name.ensures) c.split.ensures.rest c.skip.ensures c.in-None.ensures
