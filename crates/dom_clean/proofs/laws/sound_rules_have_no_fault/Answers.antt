use Rattle.dom_clean.proofs.FaultTests.{none-sound}
use Rattle.dom_clean.proofs.laws.sound_rules_have_no_fault.Goals as goal

pub returns : goal.returns
returns c = none-sound
