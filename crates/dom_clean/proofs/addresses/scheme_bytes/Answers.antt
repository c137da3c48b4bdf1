use Rattle.std.proofs.Common.{◌≡◌, ◌∙◌, arith, false, get_or, sym, true}
use Rattle.std.proofs.lemmas.List.Sums.{prefix_len-drop_all, prefix_len-drop_no, prefix_len-drop_yes}
use Rattle.url.specs.Scheme.{is_scheme_byte}
use Rattle.dom_clean.proofs.addresses.scheme_bytes.Goals as goal

pub loop-at-preserved : goal.loop-at-preserved
loop-at-preserved c =
    let passes : is_scheme_byte (get_or c.args.bytes.now c.loop-at.at 0) ≡ true = sym c.is_scheme_byte.ensures ∙ c.if-not-is_scheme_byte.false in
    let more = prefix_len-drop_yes is_scheme_byte c.args.bytes.now c.loop-at.at 0 c.loop-at-test.true passes in
    omega (arith, more, c.loop-at.invariant)

pub returns-then-not-is_scheme_byte-clause-value : goal.returns-then-not-is_scheme_byte-clause-value
returns-then-not-is_scheme_byte-clause-value c =
    let fails : is_scheme_byte (get_or c.args.bytes.now c.loop-at.at 0) ≡ false = sym c.is_scheme_byte.ensures ∙ c.if-not-is_scheme_byte.true in
    let none = prefix_len-drop_no is_scheme_byte c.args.bytes.now c.loop-at.at 0 c.loop-at-test.true fails in
    omega (arith, none, c.loop-at.invariant)

pub returns-clause-value : goal.returns-clause-value
returns-clause-value c =
    let none = prefix_len-drop_all is_scheme_byte c.args.bytes.now c.loop-at.at c.loop-at-test.false in
    omega (arith, none, c.loop-at.invariant)
