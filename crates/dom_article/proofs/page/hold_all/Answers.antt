use Rattle.std.proofs.Common.{◌≡◌, List, ℕ, subst, sym}
use Rattle.dom_article.specs.Facts.{AreHeld}
use Rattle.dom_article.specs.Known.{AreAlike, with_held}
use Rattle.dom_article.specs.Texts.{page_nodes}
use Rattle.dom_article.specs.declared.page.Facts.{Facts}
use Rattle.dom_article.proofs.HeldLemmas.{Held, HeldBehind, held_all, held_on}
use Rattle.dom_article.proofs.page.hold_all.Goals as goal

pub loop-id-preserved : goal.loop-id-preserved
loop-id-preserved c =
    let forest = c.args.tree.now in
    let own = c.args.facts.now.items in
    let rest = c.next.new.self.iter.rest.now in
    subst (λ (fs : List Facts). HeldBehind forest c.args.order.now own fs rest) (sym c.hold.ensures)
    (held_on forest c.args.order.now own c.loop-id.facts.items c.loop-id.id-iterator.iter.rest.now rest c.in-Some.id.now
    c.forest_laws.ensures.forest c.forest_laws.ensures.lines c.requires.order c.in-Some.ensures.steps c.loop-id.invariant)

pub returns-clause-held : goal.returns-clause-held
returns-clause-held c =
    let forest = c.args.tree.now in
    let facts = c.loop-id.facts.items in
    let new : c.hold-2.new.facts.items ≡ with_held forest 0 facts = subst (λ (n : ℕ). c.hold-2.new.facts.items ≡ with_held forest n facts) c.root_id.ensures c.hold-2.ensures in
    let all : Held forest c.args.facts.now.items (with_held forest 0 facts) (page_nodes forest) =
    held_all forest c.args.order.now c.args.facts.now.items facts c.loop-id.id-iterator.iter.rest.now c.forest_laws.ensures.forest c.forest_laws.ensures.lines c.requires.order c.in-None.ensures.steps.0 c.loop-id.invariant in
    subst (λ (fs : List Facts). AreHeld forest fs (page_nodes forest)) (sym new) all.held

pub returns-clause-kept : goal.returns-clause-kept
returns-clause-kept c =
    let forest = c.args.tree.now in
    let facts = c.loop-id.facts.items in
    let new : c.hold-2.new.facts.items ≡ with_held forest 0 facts = subst (λ (n : ℕ). c.hold-2.new.facts.items ≡ with_held forest n facts) c.root_id.ensures c.hold-2.ensures in
    let all : Held forest c.args.facts.now.items (with_held forest 0 facts) (page_nodes forest) =
    held_all forest c.args.order.now c.args.facts.now.items facts c.loop-id.id-iterator.iter.rest.now c.forest_laws.ensures.forest c.forest_laws.ensures.lines c.requires.order c.in-None.ensures.steps.0 c.loop-id.invariant in
    subst (λ (fs : List Facts). AreAlike c.args.facts.now.items fs) (sym new) all.alike
