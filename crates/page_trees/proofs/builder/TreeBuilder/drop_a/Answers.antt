use Rattle.std.proofs.Common.{refl, subst}
use Rattle.std.specs.Prelude.{Option}
use Rattle.page_trees.specs.Listing.{FindsEntry, FindsListed}
use Rattle.page_trees.specs.declared.name.Name.{Name}
use Rattle.page_trees.specs.declared.stack.Open.{Open}
use Rattle.page_trees.proofs.DroppedElements.{a_dropped, none_dropped}
use Rattle.page_trees.proofs.FormattingRules.{none_to_drop}
use Rattle.page_trees.proofs.builder.TreeBuilder.drop_a.Goals as goal

pub returns-in-Some-clause-limits : goal.returns-in-Some-clause-limits
returns-in-Some-clause-limits c within = c.adopt.ensures.limits (record { fault = within.fault; depth = within.depth })

pub returns-in-Some-clause-none : goal.returns-in-Some-clause-none
returns-in-Some-clause-none c b test stands =
    absurd (none_to_drop c.args.self.now c.in-Some.open b (subst (λ (r : Option Open). FindsListed Name.A c.args.self.now.tree r) c.in-Some.is (c.formatting_named.ensures.rule refl)) test stands)

pub returns-in-Some-clause-rule : goal.returns-in-Some-clause-rule
returns-in-Some-clause-rule c =
    a_dropped c.args.tag.now c.args.self.now c.adopt.new.self _ c.remove_formatting.new.self c.remove.new.self c.in-Some.open refl
    (subst (λ (r : Option Open). FindsListed Name.A c.args.self.now.tree r) c.in-Some.is (c.formatting_named.ensures.rule refl))
    (subst (λ (r : Option Open). FindsEntry c.args.self.now.tree r) c.in-Some.is c.formatting_named.ensures.entry)
    (c.adopt.ensures.rule refl) c.remove_formatting.ensures.rule c.remove.ensures.rule

pub returns-in_default-clause-rule : goal.returns-in_default-clause-rule
returns-in_default-clause-rule c =
    none_dropped c.args.tag.now c.args.self.now (subst (λ (r : Option Open). FindsListed Name.A c.args.self.now.tree r) c.in_default.is (c.formatting_named.ensures.rule refl))
