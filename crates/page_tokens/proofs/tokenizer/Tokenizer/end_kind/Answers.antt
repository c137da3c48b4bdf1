use Rattle.page_tokens.proofs.PageStops.{end_arm}
use Rattle.page_tokens.proofs.tokenizer.Tokenizer.end_kind.Goals as goal

pub returns-clause-stops : goal.returns-clause-stops
returns-clause-stops c =
    end_arm c.args.self.now c.end_reference.new.self c.report.new.self _ _ _ c.end_reference.ensures.none c.end_reference.ensures.ends c.report.ensures.only c.report.ensures.memory c.end_of_mark-kind.ensures.stops
    c.settled.ensures.is c.settled.ensures.memory
