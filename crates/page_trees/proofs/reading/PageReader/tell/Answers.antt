use Rattle.std.proofs.Common.{subst, sym}
use Rattle.page_trees.specs.PagesRead.{TellsRead}
use Rattle.page_trees.proofs.reading.PageReader.tell.Goals as goal

pub returns-in-Some-clause-builds : goal.returns-in-Some-clause-builds
returns-in-Some-clause-builds c = subst (λ k. TellsRead k c.args.self.now c.token.new.self) (sym c.in-Some.is) c.token.ensures.builds

pub returns-in-None-clause-builds : goal.returns-in-None-clause-builds
returns-in-None-clause-builds c = subst (λ k. TellsRead k c.args.self.now c.before_cdata.new.self) (sym c.in-None.is) c.before_cdata.ensures.builds
