use Rattle.std.proofs.Common.{ap, refl, sym, ◌∙◌}
use Rattle.page_trees.specs.NameNumbers.{number_in, numbers_of}
use Rattle.page_trees.proofs.NumberedNames.{inserted_number}
use Rattle.page_trees.proofs.formatting.index.FormattingIndex.number_of.Goals as goal

pub returns-in-Some-clause-number : goal.returns-in-Some-clause-number
returns-in-Some-clause-number c =
    ap (number_in (numbers_of c.args.self.now.numbers.entries)) (sym c.as_str.ensures.value) ∙ sym c.known_number.ensures ∙ c.in-Some.is

pub returns-clause-number : goal.returns-clause-number
returns-clause-number c =
    (inserted_number c.args.self.now.numbers c.insert.new.self c.args.written _ _ _ refl (c.in-Ok.ensures.1 ∙ c.len.ensures.len)
    (c.in_default.ensures ∙ ap (number_in (numbers_of c.args.self.now.numbers.entries)) c.as_str.ensures.value) c.in_ok-insert.ensures.old
    c.in_ok-insert.ensures.len c.in_ok-insert.ensures.updates).here refl

pub returns-clause-kept : goal.returns-clause-kept
returns-clause-kept c =
    (inserted_number c.args.self.now.numbers c.insert.new.self c.args.written _ _ _ refl (c.in-Ok.ensures.1 ∙ c.len.ensures.len)
    (c.in_default.ensures ∙ ap (number_in (numbers_of c.args.self.now.numbers.entries)) c.as_str.ensures.value) c.in_ok-insert.ensures.old
    c.in_ok-insert.ensures.len c.in_ok-insert.ensures.updates).kept
