use Rattle.std.proofs.Common.{◌≡◌, ◌∙◌, length, sym, true≢false, arith}
use Rattle.std.proofs.lemmas.List.{length-map}
use Rattle.dom_selectors.specs.ValuesAsTrees.{read_compound, read_step}
use Rattle.dom_select.specs.Meaning.{Holds}
use Rattle.dom_index.specs.Tracks.{Reaches, first_in, steps_in}
use Rattle.dom_index.proofs.FlagLemmas.{alone_reaches, both_ways, decided_from, subject_needed, subject_reached}
use Rattle.dom_index.proofs.PlainLemmas.{test_at}
use Rattle.dom_index.proofs.streaming.visit.Goals as goal

pub matches-requires-clause-ready : goal.matches-requires-clause-ready
matches-requires-clause-ready c = (test_at c.args.chain.now c.requires.prepared (length c.args.chain.now.steps.now) c.index.result.now (omega arith) c.index.ensures).0

pub returns-then-last-eq0-clause-is : goal.returns-then-last-eq0-clause-is
returns-then-last-eq0-clause-is c =
    let chain = c.args.chain.now in
    let visited = c.args.visited.now in
    let last = length chain.steps.now in
    let test = test_at chain c.requires.prepared last c.index.result.now (omega arith) c.index.ensures in
    let held = (both_ways c.matches.result (Holds (read_compound c.index.result.now.compound.now) visited.tree.now visited.id) c.matches.ensures.is).0 c.if-not-matches.false in
    alone_reaches visited.tree.now (first_in chain) (steps_in chain) visited.id last (length-map chain.steps.now read_step ∙ c.if-last-eq0.true) c.if-last-eq0.true (read_compound c.index.result.now.compound.now) test.1 held

pub returns-then-not-matches-clause-is : goal.returns-then-not-matches-clause-is
returns-then-not-matches-clause-is c = λ r.
    let chain = c.args.chain.now in
    let visited = c.args.visited.now in
    let laws = c.forest_laws.ensures in
    let test = test_at chain c.requires.prepared (length chain.steps.now) c.index.result.now (omega arith) c.index.ensures in
    let held = subject_needed visited.tree.now laws.forest laws.lines (first_in chain) (steps_in chain) visited.id (length chain.steps.now) (sym (length-map chain.steps.now read_step)) (read_compound c.index.result.now.compound.now) test.1 r in
    true≢false (sym ((both_ways c.matches.result (Holds (read_compound c.index.result.now.compound.now) visited.tree.now visited.id) c.matches.ensures.is).1 held) ∙ c.if-not-matches.true)

pub reached_at-requires : goal.reached_at-requires
reached_at-requires c =
    let chain = c.args.chain.now in
    let all : length chain.steps.now ≡ length (steps_in chain) = sym (length-map chain.steps.now read_step) in
    let long = c.row_left-flags.ensures.long in
    omega (arith, long, all)

pub returns-clause-is : goal.returns-clause-is
returns-clause-is c =
    let chain = c.args.chain.now in
    let visited = c.args.visited.now in
    let last = length chain.steps.now in
    let laws = c.forest_laws.ensures in
    let test = test_at chain c.requires.prepared last c.index.result.now (omega arith) c.index.ensures in
    let held = (both_ways c.matches.result (Holds (read_compound c.index.result.now.compound.now) visited.tree.now visited.id) c.matches.ensures.is).0 c.if-not-matches.false in
    let same = subject_reached visited.tree.now laws.forest laws.lines (first_in chain) (steps_in chain) chain.way c.requires.prepared.along visited.id c.row_left-flags.result.now c.row_left-flags.ensures last (sym (length-map chain.steps.now read_step)) (read_compound c.index.result.now.compound.now) test.1 in
    decided_from c.reached_at.result (Reaches chain visited.tree.now visited.id) (λ e. same.0 (sym c.reached_at.ensures ∙ e, held)) (λ r. c.reached_at.ensures ∙ (same.1 r).0)
