use Rattle.std.proofs.Common.{◌≡◌, ◌+◌, ◌<◌, ◌≤◌, ◌⊎◌, inl, inr, arith, true, false, get_or}
use Rattle.std.specs.Prelude.{◌==◌}
use Rattle.std.proofs.lemmas.Bool.{eq-eqb, ne_eqb}
use Rattle.dom_nodes.specs.Ascii.{backtick}
use Rattle.dom_md.proofs.FenceLemmas.{counted, counted-none, counted-all}
use Rattle.dom_md.proofs.fences.longest_run.Goals as goal
use Rattle.dom_md.proofs.fences.longest_run.Goals.{then-byte-eq96, else-byte-eq96, then-longest-current, else-longest-current}

pub loop-byte-init : goal.loop-byte-init
loop-byte-init c = counted-none c.args.content.now

pub loop-byte-preserved : goal.loop-byte-preserved
loop-byte-preserved c =
    let byte = get_or c.args.content.now c.loop-byte.byte-index 0 in
    let now = c.if-byte-eq96.current in
    let first : (((byte == backtick) ≡ true) × (now ≡ c.loop-byte.current + 1)) ⊎ (((byte == backtick) ≡ false) × (now ≡ 0)) = elim c.if-byte-eq96.branch [
      | then-byte-eq96 w ↦ inl (eq-eqb byte backtick w.if-byte-eq96.true, w.current-is)
      | else-byte-eq96 w ↦ inr (ne_eqb byte backtick w.if-byte-eq96.false, w.current-is)
    ] in
    let second : ((c.loop-byte.longest < now) × (c.if-longest-current.longest ≡ now)) ⊎ ((now ≤ c.loop-byte.longest) × (c.if-longest-current.longest ≡ c.loop-byte.longest)) = elim c.if-longest-current.branch [
      | then-longest-current w ↦ inl (w.if-longest-current.true, w.longest-is)
      | else-longest-current w ↦ inr (w.if-longest-current.false, w.longest-is)
    ] in
    counted c.args.content.now c.loop-byte.longest c.loop-byte.current c.loop-byte.byte-index now c.if-longest-current.longest c.loop-byte-test.true first second c.loop-byte.invariant

pub returns : goal.returns
returns c = record {
  value = counted-all c.args.content.now c.loop-byte.longest c.loop-byte.current c.loop-byte.byte-index c.loop-byte-test.false c.loop-byte.invariant;
  within = omega arith;
}
