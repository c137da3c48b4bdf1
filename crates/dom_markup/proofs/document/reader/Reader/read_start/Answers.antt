use Rattle.std.proofs.Common.{refl, sym, ◌∙◌, ap, inr}
use Rattle.std.proofs.lemmas.Result.{err_from_is_err_and}
use Rattle.dom_markup.specs.Bytes.{folded}
use Rattle.dom_markup.specs.Names.{mode_in}
use Rattle.dom_markup.specs.Markup.Item.{start_tag}
use Rattle.dom_markup.specs.Reader.{parent_number}
use Rattle.dom_markup.specs.declared.document.reader.Open.{Open}
use Rattle.dom_markup.specs.declared.document.reader.Reader.{Reader}
use Rattle.dom_markup.proofs.rows.Steps.{start_declined, start_read, started_is, tag_stops, void_read}
use Rattle.dom_markup.proofs.document.reader.Reader.read_start.Goals as goal

pub returns-in_err-started : goal.returns-in_err-started
returns-in_err-started c =
    let p = err_from_is_err_and c.from_residual.result c.from_residual.ensures.1 in
    rw (p.1, p.2) (λ items h. tag_stops c.args.tag.now items _ c.requires.letter c.in_err-started.ensures)

pub append_element-requires : goal.append_element-requires
append_element-requires c = c.requires.reading

pub returns-in_err-number : goal.returns-in_err-number
returns-in_err-number c =
    let p = err_from_is_err_and c.from_residual-in_err-number.result c.from_residual-in_err-number.ensures.1 in
    let name = folded c.in_ok-started.started.written.now in
    let tag = c.in_ok-started.ensures in
    rw (p.1, p.2) (λ items h. inr (inr (start_tag name tag.0, _, tag.1, start_declined items name tag.0 _ _ _ h c.in_err-number.ensures.grown)))

pub returns-then-void : goal.returns-then-void
returns-then-void c =
    let attrs = c.start_tag_of.new.attrs in
    let old : Reader = record c.args.self.now { spare = attrs } in
    let tag = c.in_ok-started.ensures in
    let grows = c.in_ok-number.ensures in
    let made = grows.grown.1 ∙ started_is (parent_number old) c.in_ok-started.started attrs.items tag.0 old.tree tag.2 in
    let name = folded c.in_ok-started.started.written.now in
    λ items h.
    (start_tag name tag.0, tag.1, c.within_named-within.ensures ∙ ap mode_in (c.by_ref.ensures ∙ tag.2.local), void_read items old c.append_element.new.self name tag.0 h made grows.stack (sym tag.2.void ∙ c.if-void.true))

pub returns-in-Ok : goal.returns-in-Ok
returns-in-Ok c =
    let attrs = c.start_tag_of.new.attrs in
    let old : Reader = record c.args.self.now { spare = attrs } in
    let started = c.in_ok-started.started in
    let name = folded started.written.now in
    let tag = c.in_ok-started.ensures in
    let grows = c.in_ok-number.ensures in
    let made = grows.grown.1 ∙ started_is (parent_number old) started attrs.items tag.0 old.tree tag.2 in
    let one : Open = record { number = c.in_ok-number.number; name = started.written } in
    λ items h. (
      start_tag name tag.0,
      tag.1,
      c.within_named-within.ensures ∙ ap mode_in (c.by_ref.ensures ∙ tag.2.local),
      start_read items old _ _ _ one name tag.0 h made grows.stack c.in-Ok.ensures.items grows.grown.0 refl (sym tag.2.void ∙ c.if-void.false),
    )
