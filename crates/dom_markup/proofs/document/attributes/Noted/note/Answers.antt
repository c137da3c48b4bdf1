use Rattle.std.proofs.Common.{◌<◌, ap, sym, ◌∙◌, arith, length}
use Rattle.dom_markup.proofs.rows.NoteLemmas.{one_more}
use Rattle.dom_markup.proofs.document.attributes.Noted.note.Goals as goal

pub overflow_add-self : goal.overflow_add-self
overflow_add-self c = omega (arith, c.in_ok-insert.ensures.count, c.if-attrs-self-lt-RECENT.false)

pub returns : goal.returns
returns c =
    let within : c.args.self.now.count < length c.args.attrs.now = omega (arith, c.if-attrs-self-lt-RECENT.false) in
    rw c.in_ok-insert.ensures.count (record {
      within = omega (arith, within);
      names = λ name. one_more c.args.attrs.now c.args.self.now.count c.index-attrs-self.result _ name _ _ within c.index-attrs-self.is
          (c.in_ok-name.ensures.ok ∙ c.as_str.ensures ∙ c.local.ensures ∙ ap (λ attr. attr.name.local) (sym c.index-attrs-self.is)) (c.requires.names name) (c.in_ok-insert.ensures.names name);
    })
