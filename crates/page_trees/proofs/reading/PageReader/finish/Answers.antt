use Rattle.page_trees.specs.Constructs.{WithinLimits}
use Rattle.page_trees.specs.PagesRead.{IsAtEnd}
use Rattle.page_trees.proofs.DocumentDepths.{limited_same}
use Rattle.page_trees.proofs.FinishedPages.{page_shaped}
use Rattle.page_trees.proofs.reading.PageReader.finish.Goals as goal

pub returns-clause-text : goal.returns-clause-text
returns-clause-text c =
    let within : WithinLimits c.read_end.new.self.builder = record { fault = c.in_ok-read_end.ensures.fault; depth = c.in_ok-read_end.ensures.depth } in
    limited_same c.within_depth.result c.args.self c.in_ok-built.built c.is_forest.ensures c.within_depth.ensures.same (λ beginning text has depth all end read.
    let at : IsAtEnd all end c.read_end.new.self.builder = c.in_ok-read_end.ensures.ends beginning text has within depth all end read in
    record {
      tree = c.in_ok-built.ensures.rule end at.stands;
      parsed = c.texts_are_parsed.ensures depth beginning text all end read;
      shape = page_shaped depth beginning text all end c.read_end.new.self.builder read at;
    })
