use Rattle.std.proofs.lemmas.Bool.{eq-eqb, ne_eqb}
use Rattle.byte_lanes.proofs.LaneLemmas.{first_marked, none_marked}
use Rattle.byte_lanes.proofs.unmarked_len.Goals as goal

pub returns-then-marks-eq0-clause-unmarked : goal.returns-then-marks-eq0-clause-unmarked
returns-then-marks-eq0-clause-unmarked c = (none_marked c.args.v c.fits-v.0 (eq-eqb _ 0 c.if-marks-eq0.true)).unmarked

pub returns-clause-within : goal.returns-clause-within
returns-clause-within c = (first_marked c.args.v c.fits-v.0 (ne_eqb _ 0 c.if-marks-eq0.false)).within

pub returns-clause-unmarked : goal.returns-clause-unmarked
returns-clause-unmarked c = (first_marked c.args.v c.fits-v.0 (ne_eqb _ 0 c.if-marks-eq0.false)).unmarked
