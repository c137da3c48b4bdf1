use Rattle.std.proofs.Common.{refl}
use Rattle.std.proofs.lemmas.Result.{err_from_is_err_and}
use Rattle.dom_markup.specs.Bytes.{folded}
use Rattle.dom_markup.specs.declared.document.tokens.TokenKind.TheVariants as kinds
use Rattle.dom_markup.proofs.grammar.Items.{found_start}
use Rattle.dom_markup.proofs.document.tokens.start_at.Goals as goal

pub returns-in_err-name : goal.returns-in_err-name
returns-in_err-name c =
    let p = err_from_is_err_and c.from_residual.result c.from_residual.ensures.1 in
    rw (p.1, p.2) c.in_err-name.ensures

pub returns : goal.returns
returns c =
    let tag = c.in_ok-name.ensures in
    found_start _ (folded c.in_ok-name.name.now) tag.0 c.in_ok-name.rest.now kinds.StartTag _ tag.1 refl c.within_element.ensures
