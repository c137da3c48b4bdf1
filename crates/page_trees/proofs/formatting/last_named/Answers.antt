use Rattle.std.proofs.Common.{rules, ◌≡◌, [], ◌∷◌, ◌++◌, sym, ap, ◌∙◌}
use denote.Enum.Bare.{same_false, same_true}
use Rattle.page_trees.specs.Formatting.{IsNamed}
use Rattle.page_trees.specs.contracts.name.Name.{the_type}
use Rattle.page_trees.specs.declared.formatting.Entry.{Entry}
use Rattle.page_trees.specs.declared.formatting.Entry.TheVariants.{Element as AnEntry}
use Rattle.page_trees.proofs.FormattingLemmas.{first_before, first_here, none_before}
use Rattle.page_trees.proofs.formatting.last_named.Goals as goal

pub returns-then-eq : goal.returns-then-eq
returns-then-eq c =
    let at : c.loop-entry.rest.now ≡ c.in-Some.before.now ++ AnEntry c.in-Element.open ∷ [] = c.in-Some.ensures.cases.0 ∙ ap (λ (e : Entry). c.in-Some.before.now ++ e ∷ []) c.in-Element.is in
    c.loop-entry.invariant.first c.in-Element.open (first_here (IsNamed c.args.name) c.loop-entry.rest.now c.in-Some.before.now c.in-Element.open at (same_true the_type (search rules) c.in-Element.open.name c.args.name (sym c.eq.ensures ∙ c.if-eq.true)))

pub loop-entry-preserved : goal.loop-entry-preserved
loop-entry-preserved c =
    let at : c.loop-entry.rest.now ≡ c.in-Some.before.now ++ AnEntry c.in-Element.open ∷ [] = c.in-Some.ensures.cases.0 ∙ ap (λ (e : Entry). c.in-Some.before.now ++ e ∷ []) c.in-Element.is in
    let lacks = same_false the_type c.in-Element.open.name c.args.name (sym c.eq.ensures ∙ c.if-eq.false) in
    record {
      none = λ none. c.loop-entry.invariant.none (none_before (IsNamed c.args.name) c.loop-entry.rest.now c.in-Some.before.now c.in-Element.open at lacks none);
      first = λ p first. c.loop-entry.invariant.first p (first_before (IsNamed c.args.name) c.loop-entry.rest.now c.in-Some.before.now c.in-Element.open p at lacks first);
    }
