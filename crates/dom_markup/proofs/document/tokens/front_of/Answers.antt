use Rattle.std.proofs.Common.{◌≡◌, ℕ, List, sym, ap, ◌∙◌, subst, length, length-append, arith}
use Rattle.std.specs.Str.{IsCharBoundary}
use Rattle.dom_markup.proofs.grammar.Fronts.{cut_boundary, before_rest}
use Rattle.dom_markup.proofs.document.tokens.front_of.Goals as goal

pub overflow_sub-text : goal.overflow_sub-text
overflow_sub-text c = omega (arith, ap length c.requires.1 ∙ length-append c.requires.0 c.args.rest.now)

pub split_at-requires : goal.split_at-requires
split_at-requires c =
    let cut = before_rest c.args.text.now c.requires.0 c.args.rest.now c.requires.1 in
    rw cut.0 (subst (λ (t : List ℕ). IsCharBoundary t (length c.requires.0)) (sym c.requires.1) (cut_boundary c.requires.0 c.args.rest.now c.utf8.rest))

pub returns : goal.returns
returns c =
    let cut = before_rest c.args.text.now c.requires.0 c.args.rest.now c.requires.1 in
    let is : c.split_at.result.0.now ≡ c.requires.0 = c.split_at.ensures.front ∙ cut.1 in
    rw is c.requires.1
