use Rattle.std.proofs.Common.{◌∙◌}
use Rattle.page_trees.proofs.NumberedNames.{inserted_number}
use Rattle.page_trees.proofs.growing.others.OtherNames.number_of.Goals as goal

pub returns : goal.returns
returns c =
    inserted_number c.args.self.now.numbers c.insert.new.self c.in_ok-name.name _ _ _ c.in_ok-name.ensures.ok (c.in-Ok.ensures.1 ∙ c.len.ensures.len) c.in_default.ensures c.in_ok-insert.ensures.old c.in_ok-insert.ensures.len
    c.in_ok-insert.ensures.updates
