use Rattle.std.proofs.Common.{◌≡◌, ◌∙◌, false, get_or, length, sym, true}
use Rattle.std.proofs.lemmas.Bool.{eqb-true}
use Rattle.std.specs.Char.{is_ascii_alphabetic}
use Rattle.dom_clean.proofs.SchemeBytes.{letter, no_bytes, no_letter}
use Rattle.dom_clean.proofs.addresses.scheme_len.Goals as goal

pub returns-then-is_empty-clause-value : goal.returns-then-is_empty-clause-value
returns-then-is_empty-clause-value c = sym (no_bytes c.args.bytes.now (eqb-true (length c.args.bytes.now) 0 (sym c.is_empty.ensures ∙ c.if-is_empty.true)))

pub returns-then-not-is_ascii_alphabetic-clause-value : goal.returns-then-not-is_ascii_alphabetic-clause-value
returns-then-not-is_ascii_alphabetic-clause-value c =
    let isnt : is_ascii_alphabetic (get_or c.args.bytes.now 0 0) ≡ false = sym c.is_ascii_alphabetic.ensures.value ∙ c.if-not-is_ascii_alphabetic.true in
    sym (no_letter c.args.bytes.now isnt)

pub returns-clause-value : goal.returns-clause-value
returns-clause-value c =
    let is : is_ascii_alphabetic (get_or c.args.bytes.now 0 0) ≡ true = sym c.is_ascii_alphabetic.ensures.value ∙ c.if-not-is_ascii_alphabetic.false in
    c.scheme_bytes.ensures.value ∙ sym (letter c.args.bytes.now is)
