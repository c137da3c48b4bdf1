use Rattle.page_trees.proofs.PageTurns.{answers_taken, token_told, within_before}
use Rattle.page_trees.proofs.reading.PageReader.token.Goals as goal

pub returns-clause-limits : goal.returns-clause-limits
returns-clause-limits c within =
    let answers = answers_taken c.args.self.now c.tell_token.new.self c.switch.new.self _ c.tell_token.ensures.only c.tell_token.ensures.empty c.switch.ensures c.set_in_foreign.ensures.only c.set_in_foreign.ensures.flag in
    c.tell_token.ensures.limits (within_before c.tell_token.new.self.builder _ answers.builder within)

pub returns-clause-builds : goal.returns-clause-builds
returns-clause-builds c =
    token_told c.args.kind c.args.self.now c.tell_token.new.self _ c.names.ensures c.tell_token.ensures.limits c.tell_token.ensures.builds
    (answers_taken c.args.self.now c.tell_token.new.self c.switch.new.self _ c.tell_token.ensures.only c.tell_token.ensures.empty c.switch.ensures c.set_in_foreign.ensures.only c.set_in_foreign.ensures.flag)
