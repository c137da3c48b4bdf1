use Rattle.std.proofs.Common.{[], rules, subst, sym, ◌≡◌, ◌∙◌, ◌∷◌}
use denote.Enum.Bare.{same_false, same_true}
use Rattle.page_trees.specs.Names.{text_of}
use Rattle.page_trees.specs.Stands.{IsOtherName}
use Rattle.page_trees.specs.contracts.name.Name.{the_type}
use Rattle.page_trees.specs.declared.name.Name.{Name}
use Rattle.page_trees.proofs.BodyEnds.{br_ended, other_ended, other_step}
use Rattle.page_trees.proofs.builder.TreeBuilder.end_other.Goals as goal

pub returns-then-eq-clause-rule : goal.returns-then-eq-clause-rule
returns-then-eq-clause-rule c otherwise =
    let e : c.args.name ≡ Name.Br = same_true the_type (search rules) c.args.name Name.Br (sym c.eq.ensures ∙ c.if-eq.true) in
    br_ended c.args.name c.args.tag.now c.args.self.now c.end_br.new.self c.end_br.result e c.end_br.ensures.next c.end_br.ensures.rule

pub returns-clause-rule : goal.returns-clause-rule
returns-clause-rule c otherwise =
    other_ended c.args.name c.args.tag.now c.args.self.now (record c.args.self.now { tree = c.close_named.new.self }) otherwise
    (same_false the_type c.args.name Name.Br (sym c.eq.ensures ∙ c.if-eq.false))
    (λ known. other_step c.args.self.now c.close_named.new.self (text_of c.args.name ∷ []) (c.close_named.ensures.rule known))
    (λ text is. other_step c.args.self.now c.close_named.new.self (text ∷ [])
    (c.close_named.ensures.other text (subst (λ bytes. IsOtherName c.args.name bytes text) (sym c.as_str.ensures.value) is)))
