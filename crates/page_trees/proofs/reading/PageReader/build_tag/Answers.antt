use Rattle.std.proofs.Common.{sym}
use Rattle.page_trees.proofs.ToldTokens.{tag_told}
use Rattle.page_trees.proofs.reading.PageReader.build_tag.Goals as goal

pub returns-in-Some-clause-builds : goal.returns-in-Some-clause-builds
returns-in-Some-clause-builds c token told plain =
    tag_told c.args.self.now.tokens c.in-Some.tag.now token _ _ (sym c.in-Some.ensures) c.tag-in-Some.ensures.rule told plain
