use Rattle.std.proofs.Common.{cond, eqb, get_or, replicate, subst, sym, w8}
use Rattle.std.specs.Simd.Lanes.{sel_l}
use Rattle.std.proofs.lemmas.Simd.{tops_compared}
use Rattle.byte_lanes.specs.Lanes.{HasLanes}
use Rattle.byte_lanes.proofs.LaneLemmas.{HasLanes-select}
use Rattle.dom_md.proofs.lanes.past_spaces.Goals as goal

pub returns : goal.returns
returns c =
    let a = c.args.here in
    let b = c.args.next in
    subst (λ ms. HasLanes (sel_l ms b a) (λ k. cond (eqb (get_or a k 0) 32) (get_or b k 0) (get_or a k 0)))
    (sym (tops_compared w8 eqb a (replicate 16 32))) (HasLanes-select eqb a 32 b a c.fits-here.0 c.fits-next.0 c.fits-here.0)
