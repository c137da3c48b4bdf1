use Rattle.std.proofs.Common.{ℕ, ◌≡◌, ◌<◌, ◌⊎◌, inl, inr, refl, sym, ap, arith}
use Rattle.dom_article.specs.Hidden.{never_names, of_length}
use Rattle.dom_article.proofs.LengthLemmas.{fits, none_of_length}
use Rattle.dom_article.proofs.hidden.never_of_length.Goals as goal
use Rattle.dom_article.proofs.hidden.never_of_length.Goals.{then-length-lt3-via-then-length-lt3, then-length-lt3-via-else-length-lt3+then-length-gt8}

pub returns-then-length-lt3 : goal.returns-then-length-lt3
unfolding never_names fits
returns-then-length-lt3 c =
    let out : (c.args.length < 3) ⊎ (8 < c.args.length) = elim c.then-length-lt3.branch [
      | then-length-lt3-via-then-length-lt3 w ↦ inl (let t = w.if-length-lt3.true in omega arith)
      | then-length-lt3-via-else-length-lt3+then-length-gt8 w ↦ inr (let t = w.if-length-gt8.true in omega arith)
    ] in
    sym (none_of_length c.args.length never_names out refl)

pub returns-then-length-eq3 : goal.returns-then-length-eq3
unfolding never_names
returns-then-length-eq3 c = ap (λ (n : ℕ). of_length n never_names) (sym (let e : c.args.length ≡ 3 = (let t = c.if-length-eq3.true in omega arith) in e))

pub returns-then-length-eq4 : goal.returns-then-length-eq4
unfolding never_names
returns-then-length-eq4 c = ap (λ (n : ℕ). of_length n never_names) (sym (let e : c.args.length ≡ 4 = (let t = c.if-length-eq4.true in omega arith) in e))

pub returns-then-length-eq5 : goal.returns-then-length-eq5
unfolding never_names
returns-then-length-eq5 c = ap (λ (n : ℕ). of_length n never_names) (sym (let e : c.args.length ≡ 5 = (let t = c.if-length-eq5.true in omega arith) in e))

pub returns-then-length-eq6 : goal.returns-then-length-eq6
unfolding never_names
returns-then-length-eq6 c = ap (λ (n : ℕ). of_length n never_names) (sym (let e : c.args.length ≡ 6 = (let t = c.if-length-eq6.true in omega arith) in e))

pub returns-then-length-eq7 : goal.returns-then-length-eq7
unfolding never_names
returns-then-length-eq7 c = ap (λ (n : ℕ). of_length n never_names) (sym (let e : c.args.length ≡ 7 = (let t = c.if-length-eq7.true in omega arith) in e))

pub returns : goal.returns
unfolding never_names
returns c =
    let least = c.if-length-lt3.false in let most = c.if-length-gt8.false in
    let d3 = c.if-length-eq3.false in let d4 = c.if-length-eq4.false in let d5 = c.if-length-eq5.false in let d6 = c.if-length-eq6.false in let d7 = c.if-length-eq7.false in
    ap (λ (n : ℕ). of_length n never_names) (sym (let e : c.args.length ≡ 8 = omega arith in e))
