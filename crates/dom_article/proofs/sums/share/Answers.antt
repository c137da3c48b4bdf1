use Rattle.std.proofs.Common.{ℕ, ◌≡◌, ◌<◌, ◌≤◌, ◌+◌, ◌*◌, ◌/◌, ◌%◌, zero, sym, ap, subst, ◌∙◌, arith}
use Rattle.std.proofs.Math.Nat.{add-mul, div-add-mod, div-le_of_le-mul, mul-add-div, mul-le-mul_left, mul_assoc, mul_comm}
use Rattle.dom_article.proofs.sums.share.Goals as goal

-- the parts of a share add up to it
parts : (whole part all : ℕ) → zero < all → whole / all * part + whole % all * part / all ≡ whole * part / all
parts whole part all some =
    let q = whole / all in
    let r = whole % all in
    let is : whole * part ≡ all * (q * part) + r * part = ap (λ n. n * part) (sym (div-add-mod whole all)) ∙ (add-mul (all * q) r part ∙ ap (λ n. n + r * part) (mul_assoc all q part)) in
    sym (ap (λ n. n / all) is ∙ mul-add-div some (q * part) (r * part))

-- a share is no more than the whole
at_most : (whole part all : ℕ) → part ≤ all → whole * part / all ≤ whole
at_most whole part all less = div-le_of_le-mul all (subst (λ (n : ℕ). whole * part ≤ n) (mul_comm whole all) (mul-le-mul_left whole less))

pub returns-clause-is : goal.returns-clause-is
returns-clause-is c = parts c.args.whole c.args.part c.args.all (omega arith)

pub returns-clause-small : goal.returns-clause-small
returns-clause-small c =
    let same = parts c.args.whole c.args.part c.args.all (omega arith) in
    let less = at_most c.args.whole c.args.part c.args.all c.requires in
    subst (λ (n : ℕ). n ≤ c.args.whole) (sym same) less
