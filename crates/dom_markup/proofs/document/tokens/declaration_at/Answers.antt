use Rattle.std.proofs.Common.{◌∷◌, ℕ, List, subst, sym}
use Rattle.dom_markup.specs.Markup.{Begins}
use Rattle.dom_markup.specs.Names.{markup}
use Rattle.dom_markup.specs.Token.{doctype_item}
use Rattle.dom_markup.proofs.document.tokens.declaration_at.Goals as goal

pub returns : goal.returns
returns c =
    let item = doctype_item c.in_ok-rest.field-0-0 in
    record {
      item = item;
      begins = subst (λ (rest : List ℕ). Begins markup (60 ∷ 33 ∷ c.args.tag.now) item rest) (sym c.then_markup.ensures.rest) c.in_ok-rest.ensures;
      is_kind = c.then_markup.ensures.kind;
      goes_on = c.then_markup.ensures.mode;
    }
