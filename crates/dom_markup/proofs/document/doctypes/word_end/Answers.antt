use Rattle.std.proofs.Common.{refl, sym, ◌∙◌}
use Rattle.std.proofs.lemmas.Bool.{false≢true}
use Rattle.dom_markup.proofs.grammar.Spans.{nil_from_length, length_from_nil}
use Rattle.dom_markup.proofs.grammar.Doctypes.{word_shape, word_made}
use Rattle.dom_markup.proofs.document.doctypes.word_end.Goals as goal

pub returns-then-is_empty-clause-none : goal.returns-then-is_empty-clause-none
returns-then-is_empty-clause-none c = λ rest f h.
    (word_shape _ _ _ _ _ _ rest c.requires c.split_front.ensures c.split_front-2.ensures f h).some_space (nil_from_length _ (sym c.is_empty.ensures ∙ c.if-is_empty.true))

pub returns-then-not-eq_ignore_ascii_case-clause-none : goal.returns-then-not-eq_ignore_ascii_case-clause-none
returns-then-not-eq_ignore_ascii_case-clause-none c = λ rest f h.
    let shape = word_shape _ _ _ _ _ _ rest c.requires c.split_front.ensures c.split_front-2.ensures f h in
    false≢true (c.if-not-eq_ignore_ascii_case.ensures.test.1 (shape.folds ∙ sym c.requires.folds))

pub returns-clause-some : goal.returns-clause-some
returns-clause-some c =
    word_made _ _ _ _ _ _ c.split_front.ensures c.split_front-2.ensures (λ e. length_from_nil _ e (sym c.is_empty.ensures ∙ c.if-is_empty.false))
    (c.if-not-eq_ignore_ascii_case.ensures.test.0 refl ∙ c.requires.folds)
