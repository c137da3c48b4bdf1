use Rattle.std.proofs.Common.{◌∷◌, ℕ, List, inr, subst, sym}
use Rattle.std.proofs.lemmas.Result.{err_from_is_err_and}
use Rattle.dom_markup.specs.Markup.{Begins}
use Rattle.dom_markup.specs.Names.{markup}
use Rattle.dom_markup.specs.Token.{doctype_item}
use Rattle.dom_markup.proofs.document.reader.Reader.read_declaration.Goals as goal

pub returns-in_err-read_doctype : goal.returns-in_err-read_doctype
returns-in_err-read_doctype c =
    let p = err_from_is_err_and c.from_residual-in_err-read_doctype.result c.from_residual-in_err-read_doctype.ensures.1 in
    rw (p.1, p.2) (λ items h. inr (inr (doctype_item c.in_ok-written.written, _, c.in_ok-written.ensures, c.in_err-read_doctype.ensures items h)))

pub returns : goal.returns
returns c = λ items h.
    let item = doctype_item c.in_ok-written.written in
    let begins = subst (λ (rest : List ℕ). Begins markup (60 ∷ 33 ∷ c.args.tag.now) item rest) (sym c.markup_behind.ensures.rest) c.in_ok-written.ensures in
    (item, begins, c.markup_behind.ensures.mode, c.in_ok-read_doctype.ensures items h)
