use Rattle.std.proofs.Common.{rules, arith}
use Rattle.std.proofs.lemmas.Grind.{common_steps, elements}
use Rattle.dom_links.proofs.checks.Sounds.{held_alone, sound_held}
use Rattle.dom_links.proofs.validation.contents.check_contents.Goals as goal

pub returns-then-not-host_contents-clause-sound : goal.returns-then-not-host_contents-clause-sound
returns-then-not-host_contents-clause-sound c = λ sound.
    let bad = c.if-not-host_contents.ensures in
    bad.2 (held_alone c.args.nodes.now c.args.hosts.now bad.0 c.requires.hosts (sound_held c.args.nodes.now bad.0 sound))

pub returns-then-not-host_contents-clause-cause : goal.returns-then-not-host_contents-clause-cause
returns-then-not-host_contents-clause-cause c =
    let bad = c.if-not-host_contents.ensures in (
      (bad.0, bad.1, λ alone. bad.2 (held_alone c.args.nodes.now c.args.hosts.now bad.0 c.requires.hosts alone)),
      search rules,
    )

pub returns-then-not-all_pass-2-clause-sound : goal.returns-then-not-all_pass-2-clause-sound
returns-then-not-all_pass-2-clause-sound c = grind (arith, common_steps)

pub returns-then-nodes-gt4294967295-clause-cause : goal.returns-then-nodes-gt4294967295-clause-cause
returns-then-nodes-gt4294967295-clause-cause c = grind (arith, elements)
