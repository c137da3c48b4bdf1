use Rattle.std.proofs.Common.{ap, rules, sym, ◌∙◌}
use Rattle.std.specs.Prelude.{option_and_then}
use Rattle.dom_links.proofs.checks.Checked.{has_link}
use Rattle.dom_links.proofs.checks.Sounds.{sound_agrees, sound_not_astray}
use Rattle.dom_links.proofs.validation.links.check_links.Goals as goal

pub returns-then-is_some-clause-cause : goal.returns-then-is_some-clause-cause
returns-then-is_some-clause-cause c =
    let up = has_link c.get.result (sym c.if-is_some.ensures) in
    ((up.0, ap (option_and_then (λ node. node.parent)) (sym c.in-Some.ensures.value) ∙ sym c.get.ensures ∙ up.1), search rules)

pub returns-then-not-are_known-clause-sound : goal.returns-then-not-are_known-clause-sound
returns-then-not-are_known-clause-sound c = λ sound.
    let away = c.if-not-are_known.ensures in
    sound_not_astray c.args.nodes.now away.0 sound away.1 away.2

pub returns-then-not-all_pass-clause-sound : goal.returns-then-not-all_pass-clause-sound
returns-then-not-all_pass-clause-sound c = λ sound.
    let bad = c.if-not-all_pass.ensures in
    bad.2 (sound_agrees c.args.nodes.now bad.0 sound bad.1)
