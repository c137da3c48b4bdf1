use Rattle.std.proofs.Common.{ℕ, List, subst}
use Rattle.std.proofs.lemmas.Bool.{false≢true}
use Rattle.dom_markup.specs.Bytes.{folded}
use Rattle.dom_markup.specs.Markup.{BeginsEnd}
use Rattle.dom_markup.proofs.grammar.Ends.{other_end}
use Rattle.dom_markup.proofs.document.raw.after_end.Goals as goal

pub returns-in_err-written : goal.returns-in_err-written
returns-in_err-written c = rw c.from_residual-in_err-written.ensures (record { some = tt; none = λ rest h. c.in_err-written.ensures.none (folded c.args.name.now) rest (subst (λ (t : List ℕ). BeginsEnd t (folded c.args.name.now) rest) c.in_ok-tag.ensures.some h) })

pub returns-then-not-eq_ignore_ascii_case : goal.returns-then-not-eq_ignore_ascii_case
returns-then-not-eq_ignore_ascii_case c = record {
  some = tt;
  none = λ rest h.
      false≢true (c.if-not-eq_ignore_ascii_case.ensures.test.1 (other_end c.args.text.now c.in_ok-tag.tag.now _ _ _ rest c.in_ok-tag.ensures.some c.in_ok-written.ensures.some h));
}
