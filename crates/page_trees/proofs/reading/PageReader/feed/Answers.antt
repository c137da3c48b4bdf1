use Rattle.page_trees.proofs.PageTurns.{piece_fed}
use Rattle.page_trees.proofs.reading.PageReader.feed.Goals as goal

pub returns-clause-builds : goal.returns-clause-builds
returns-clause-builds c beginning read cs spelt =
    piece_fed c.args.piece.now cs c.args.self.now c.read.new.self beginning read c.read.ensures.reads c.read.ensures.limits spelt
