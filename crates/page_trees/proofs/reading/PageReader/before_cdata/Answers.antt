use Rattle.std.proofs.Common.{◌∙◌, sym}
use Rattle.page_trees.proofs.PageTurns.{answers_taken, characters_told, none_told, within_before}
use Rattle.page_trees.proofs.reading.PageReader.before_cdata.Goals as goal

pub returns-then-not-wants_characters-clause-builds : goal.returns-then-not-wants_characters-clause-builds
returns-then-not-wants_characters-clause-builds c = none_told c.args.self.now (sym c.wants_characters.ensures.is ∙ c.if-not-wants_characters.true)

pub returns-clause-limits : goal.returns-clause-limits
returns-clause-limits c within =
    let answers = answers_taken c.args.self.now c.tell_characters.new.self c.switch.new.self _ c.tell_characters.ensures.only c.tell_characters.ensures.empty c.switch.ensures c.set_in_foreign.ensures.only c.set_in_foreign.ensures.flag in
    c.tell_characters.ensures.limits (within_before c.tell_characters.new.self.builder _ answers.builder within)

pub returns-clause-builds : goal.returns-clause-builds
returns-clause-builds c =
    characters_told c.args.self.now c.tell_characters.new.self _ c.pages.ensures.characters c.tell_characters.ensures.limits c.tell_characters.ensures.builds
    (answers_taken c.args.self.now c.tell_characters.new.self c.switch.new.self _ c.tell_characters.ensures.only c.tell_characters.ensures.empty c.switch.ensures c.set_in_foreign.ensures.only c.set_in_foreign.ensures.flag)
