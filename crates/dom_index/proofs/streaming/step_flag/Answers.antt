use Rattle.std.proofs.Common.{◌≡◌, ◌<◌, ◌∙◌, Some, sym, ap, length, map, arith}
use Rattle.std.specs.Prelude.{◌&&◌, not, slice_get, slice_index_or, false}
use Rattle.std.proofs.Common.{inl, inr}
use Rattle.std.proofs.lemmas.Option.{slice_get_cases}
use Rattle.std.proofs.lemmas.Grind.{common_steps}
use Rattle.dom_selectors.specs.declared.syntax.Combinator.{Combinator}
use Rattle.dom_selectors.specs.Syntax.{CompoundSelector}
use Rattle.dom_selectors.specs.ValuesAsTrees.{read_compound, read_step}
use Rattle.dom_select.specs.Leftward.{ends_at}
use Rattle.dom_index.specs.NodeSets.{may_be_operand}
use Rattle.dom_index.specs.Tracks.{first_in, steps_in}
use Rattle.dom_index.proofs.FlagLemmas.{asked_of_step, step_kept, step_tested, step_unfit, step_unreached}
use Rattle.dom_index.proofs.PlainLemmas.{test_at}
use Rattle.dom_index.proofs.streaming.step_flag.Goals as goal
use Rattle.dom_index.proofs.streaming.step_flag.Goals.{After-goes_on, After-may_be_operand}

-- whether the flag goes on past the node
went_on : (c : After-goes_on) (s : Combinator × CompoundSelector) → slice_get (map read_step c.args.chain.now.steps.now) c.args.i ≡ Some s →
    (slice_index_or c.args.flags.now c.args.i false && not (ends_at c.args.visited.now.tree.now s.0 c.args.visited.now.id)) ≡ (slice_index_or c.args.flags.now c.args.i false && c.goes_on.result)
went_on c s at =
    let visited = c.args.visited.now in
    ap (λ b. slice_index_or c.args.flags.now c.args.i false && b)
    (asked_of_step c.args.chain.now.steps.now c.args.i c.index-chain-i.result (λ q. not (ends_at visited.tree.now q visited.id)) c.goes_on.result c.requires.step c.index-chain-i.is c.goes_on.ensures s at)

-- whether the node may be an operand of the step's combinator
fit : (c : After-may_be_operand) (s : Combinator × CompoundSelector) → slice_get (map read_step c.args.chain.now.steps.now) c.args.i ≡ Some s → may_be_operand c.args.visited.now.tree.now s.0 c.args.visited.now.id ≡ c.may_be_operand.result
fit c s at =
    let visited = c.args.visited.now in
    asked_of_step c.args.chain.now.steps.now c.args.i c.index-chain-i.result (λ q. may_be_operand visited.tree.now q visited.id) c.may_be_operand.result c.requires.step c.index-chain-i.is c.may_be_operand.ensures s at

pub returns-then-on-goes_on-clause-is : goal.returns-then-on-goes_on-clause-is
returns-then-on-goes_on-clause-is c = λ s at.
    let chain = c.args.chain.now in
    let forest = c.args.visited.now.tree.now in
    step_kept forest c.forest_laws.ensures.forest c.forest_laws.ensures.lines (first_in chain) (steps_in chain) chain.way c.requires.at.prepared.along c.args.visited.now.id c.args.flags.now c.requires.at.flags_are c.args.i s at
    (went_on (goal.at.returns-then-on-goes_on-clause-is c).After-goes_on s at ∙ c.if-on-goes_on.true)

pub returns-then-not-may_be_operand-clause-is : goal.returns-then-not-may_be_operand-clause-is
returns-then-not-may_be_operand-clause-is c = λ s at.
    let chain = c.args.chain.now in
    let forest = c.args.visited.now.tree.now in
    step_unfit forest c.forest_laws.ensures.forest c.forest_laws.ensures.lines (first_in chain) (steps_in chain) chain.way c.requires.at.prepared.along c.args.visited.now.id c.args.flags.now c.requires.at.flags_are c.args.i s at
    (went_on (goal.at.returns-then-not-may_be_operand-clause-is c).After-goes_on s at ∙ c.if-on-goes_on.false) (fit (goal.at.returns-then-not-may_be_operand-clause-is c).After-may_be_operand s at ∙ c.if-not-may_be_operand.true)

pub returns-then-not-reached_at-clause-is : goal.returns-then-not-reached_at-clause-is
returns-then-not-reached_at-clause-is c = λ s at.
    let chain = c.args.chain.now in
    let forest = c.args.visited.now.tree.now in
    let known : c.args.i < length chain.tests.items = let step = c.requires.step in let count = c.requires.at.prepared.count in omega (arith, step, count) in
    elim (slice_get_cases chain.tests.items c.args.i).1 [
      | inl some ↦ step_unreached forest c.forest_laws.ensures.forest c.forest_laws.ensures.lines (first_in chain) (steps_in chain) chain.way c.requires.at.prepared.along c.args.visited.now.id c.args.flags.now c.requires.at.flags_are c.args.i s at
          (went_on (goal.at.returns-then-not-reached_at-clause-is c).After-goes_on s at ∙ c.if-on-goes_on.false) (sym c.reached_at.ensures ∙ c.if-not-reached_at.true) (read_compound some.0.compound.now) (c.requires.at.prepared.tests c.args.i some.0 some.2).1
      | inr past ↦ absurd (let far = past.0 in omega (arith, known, far))
    ]

pub matches-requires-clause-ready : goal.matches-requires-clause-ready
matches-requires-clause-ready c = (test_at c.args.chain.now c.requires.at.prepared c.args.i c.index.result.now (omega (arith, c.requires.step)) c.index.ensures).0

pub returns-clause-is : goal.returns-clause-is
returns-clause-is c = λ s at.
    let chain = c.args.chain.now in
    let forest = c.args.visited.now.tree.now in
    let test = test_at chain c.requires.at.prepared c.args.i c.index.result.now (omega (arith, c.requires.step)) c.index.ensures in
    step_tested forest c.forest_laws.ensures.forest c.forest_laws.ensures.lines (first_in chain) (steps_in chain) chain.way c.requires.at.prepared.along c.args.visited.now.id c.args.flags.now c.requires.at.flags_are c.args.i s at
    (went_on (goal.at.returns-clause-is c).After-goes_on s at ∙ c.if-on-goes_on.false) (fit (goal.at.returns-clause-is c).After-may_be_operand s at ∙ c.if-not-may_be_operand.false) (sym c.reached_at.ensures ∙ c.if-not-reached_at.false) (read_compound c.index.result.now.compound.now) test.1 c.matches.result c.matches.ensures.is

pub bounds-flags-i : goal.bounds-flags-i
bounds-flags-i c = grind (arith, common_steps)

pub reached_at-requires : goal.reached_at-requires
reached_at-requires c = grind (arith, common_steps)
