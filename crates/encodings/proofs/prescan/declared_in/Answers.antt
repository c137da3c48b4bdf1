use Rattle.std.proofs.Common.{sym, ◌∙◌}
use Rattle.encodings.proofs.Fronts.{in_big, in_declaration, in_little, in_steps}
use Rattle.encodings.proofs.prescan.declared_in.Goals as goal

pub returns-then-starts_with : goal.returns-then-starts_with
returns-then-starts_with c = in_little c.args.bytes.now (sym c.starts_with.ensures.value ∙ c.if-starts_with.true)

pub returns-then-starts_with-2 : goal.returns-then-starts_with-2
returns-then-starts_with-2 c = in_big c.args.bytes.now (sym c.starts_with.ensures.value ∙ c.if-starts_with.false) (sym c.starts_with-2.ensures.value ∙ c.if-starts_with-2.true)

pub returns-in-Some : goal.returns-in-Some
returns-in-Some c =
    in_steps c.args.bytes.now _ (sym c.starts_with.ensures.value ∙ c.if-starts_with.false) (sym c.starts_with-2.ensures.value ∙ c.if-starts_with-2.false) c.in-Some.ensures

pub returns-in-None : goal.returns-in-None
returns-in-None c =
    in_declaration c.args.bytes.now _ (sym c.starts_with.ensures.value ∙ c.if-starts_with.false) (sym c.starts_with-2.ensures.value ∙ c.if-starts_with-2.false) c.in-None.ensures
    c.xml_encoding.ensures
