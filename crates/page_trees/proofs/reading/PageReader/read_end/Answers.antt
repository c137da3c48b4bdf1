use Rattle.page_trees.proofs.PageTurns.{end_told, ended_noted, on_ok}
use Rattle.page_trees.proofs.reading.PageReader.read_end.Goals as goal

pub returns-clause-ends : goal.returns-clause-ends
returns-clause-ends c = on_ok c.settled_whole.result _
    (ended_noted c.args.self.now (record c.read_last.new.self { builder = c.end.new.self }) c.note_errors.new.self c.note_errors.ensures.same
    (end_told c.args.self.now c.read_last.new.self (record c.read_last.new.self { builder = c.end.new.self }) c.in_ok-read_last.ensures.ends c.end.ensures.limits c.end.ensures.tokens))
