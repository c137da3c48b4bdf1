use Rattle.std.proofs.Common.{◌≡◌, ◌≢◌, ◌∙◌, ◌<◌, Some, ap, arith, get_or, sym, take, ℕ}
use Rattle.url.specs.Scheme.{scheme_len}
use Rattle.dom_clean.proofs.SchemeBytes.{with_colon, without_colon, without_end, without_length}
use Rattle.dom_clean.proofs.addresses.scheme_in.Goals as goal

pub returns-then-count-eq0 : goal.returns-then-count-eq0
returns-then-count-eq0 c =
    let none : scheme_len c.args.bytes.now ≡ 0 = omega (arith, c.scheme_len-count.ensures.value) in
    sym (without_length c.args.bytes.now none)

pub returns-then-count-bytes : goal.returns-then-count-bytes
returns-then-count-bytes c = sym (without_end c.args.bytes.now (omega (arith, c.scheme_len-count.ensures.value)))

pub returns-then-bytes-count-ne58 : goal.returns-then-bytes-count-ne58
returns-then-bytes-count-ne58 c =
    let isnt : get_or c.args.bytes.now (scheme_len c.args.bytes.now) 0 ≢ 58 =
    λ is. c.if-bytes-count-ne58.true (ap (λ (n : ℕ). get_or c.args.bytes.now n 0) c.scheme_len-count.ensures.value ∙ is) in
    sym (without_colon c.args.bytes.now isnt)

pub returns : goal.returns
returns c =
    let count = c.scheme_len-count.ensures.value in
    let colon : get_or c.args.bytes.now (scheme_len c.args.bytes.now) 0 ≡ 58 = sym (ap (λ (n : ℕ). get_or c.args.bytes.now n 0) count) ∙ c.if-bytes-count-ne58.false in
    let some : 0 < scheme_len c.args.bytes.now = omega (arith, count) in
    ap (λ (n : ℕ). Some (take n c.args.bytes.now)) count ∙ sym (with_colon c.args.bytes.now some colon)
