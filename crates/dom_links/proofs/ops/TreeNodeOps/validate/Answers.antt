use Rattle.std.proofs.Common.{List, Option, ℕ, rules, subst, sym}
use Rattle.std.proofs.lemmas.Result.{MatchResult-weaker}
use Rattle.dom_links.specs.Validation.{AreHosts, ContentsHold, Ends, parent_or_host}
use Rattle.dom_links.proofs.checks.Accepted.{accepted}
use Rattle.dom_links.proofs.checks.Sounds.{a_cycle, sound_linked, sound_no_cycle, sound_no_ring}
use Rattle.dom_links.proofs.ops.TreeNodeOps.validate.Goals as goal

pub returns-then-branch-clause-sound : goal.returns-then-branch-clause-sound
returns-then-branch-clause-sound c = λ sound.
    sound_no_cycle c.args.nodes.now sound (a_cycle c.args.nodes.now c.deref.result.now (subst (AreHosts c.args.nodes.now) (sym c.deref.ensures.value) c.in_ok-hosts.ensures)
    (rw c.if-branch.true at c.in_ok-has_ancestor_cycle.ensures))

pub returns-then-branch-clause-cause : goal.returns-then-branch-clause-cause
returns-then-branch-clause-cause c = (
  a_cycle c.args.nodes.now c.deref.result.now (subst (AreHosts c.args.nodes.now) (sym c.deref.ensures.value) c.in_ok-hosts.ensures)
      (rw c.if-branch.true at c.in_ok-has_ancestor_cycle.ensures),
  search rules,
)

pub returns-then-not-all_pass-clause-sound : goal.returns-then-not-all_pass-clause-sound
returns-then-not-all_pass-clause-sound c = λ sound.
    let bad = c.if-not-all_pass.ensures in
    bad.2 (sound_linked c.args.nodes.now bad.0 sound bad.1)

pub returns-then-branch-2-clause-sound : goal.returns-then-branch-2-clause-sound
returns-then-branch-2-clause-sound c = λ sound. sound_no_ring c.args.nodes.now sound (rw c.if-branch-2.true at c.in_ok-has_sibling_cycle.ensures)

pub returns-clause-sound : goal.returns-clause-sound
returns-clause-sound c =
    let steps : (n : ℕ) → Ends (parent_or_host c.args.nodes.now c.in_ok-hosts.hosts.items) n =
    subst (λ (hosts : List (Option ℕ)). (n : ℕ) → Ends (parent_or_host c.args.nodes.now hosts) n) c.deref.ensures.value (rw c.if-branch.false at c.in_ok-has_ancestor_cycle.ensures) in
    MatchResult-weaker c.check_contents.result c.check_contents.ensures.sound
    (λ _ hold. accepted c.args.nodes.now c.in_ok-hosts.hosts.items c.in_ok-check_links.ensures.sound c.if-not-all_pass.ensures
    (rw c.if-branch-2.false at c.in_ok-has_sibling_cycle.ensures) steps (subst (ContentsHold c.args.nodes.now) c.deref-2.ensures.value hold))
    (λ _ refused. refused)
