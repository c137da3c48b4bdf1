use Rattle.std.proofs.Common.{◌≡◌, ◌-◌, ◌≤◌, ℕ, List, length, map, take, drop, sym, subst, ◌∙◌, ap, arith, length-drop}
use Rattle.std.specs.Prelude.{codes}
use Rattle.std.specs.Char.{to_ascii_lowercase}
use Rattle.std.proofs.lemmas.List.{take_all}
use Rattle.calm_pages.proofs.texts.is_framed.Goals as goal

-- the last fourteen bytes, as a range
last_range : (bytes : List ℕ) → 14 ≤ length bytes → take (length bytes - (length bytes - 14)) (drop (length bytes - 14) bytes) ≡ drop (length bytes - 14) bytes
last_range bytes h = take_all _ (drop (length bytes - 14) bytes) (omega (arith, h, length-drop (length bytes - 14) bytes))

pub returns : goal.returns
returns c =
    let bytes = c.as_bytes-bytes.result.now in
    let same : bytes ≡ c.args.page.now = c.as_bytes-bytes.ensures.value in
    let long : 34 ≤ length bytes = c.if-length-lt-LEAST.false in
    let range = last_range bytes (omega (arith, long)) in (
      λ is. record {
        long = subst (λ (bs : List ℕ). 34 ≤ length bs) same long;
        front = subst (λ (bs : List ℕ). map to_ascii_lowercase (take 20 bs) ≡ codes "<!doctype html><html") same (c.eq_ignore_ascii_case.ensures.test.0 c.if-not-eq_ignore_ascii_case.false);
        back = subst (λ (bs : List ℕ). map to_ascii_lowercase (drop (length bs - 14) bs) ≡ codes "</body></html>") same (ap (map to_ascii_lowercase) (sym range) ∙ c.eq_ignore_ascii_case-2.ensures.test.0 is);
      },
      λ framed. c.eq_ignore_ascii_case-2.ensures.test.1
          (ap (map to_ascii_lowercase) range ∙ subst (λ (bs : List ℕ). map to_ascii_lowercase (drop (length bs - 14) bs) ≡ codes "</body></html>") (sym same) framed.back),
    )
