use Rattle.page_trees.proofs.PageTurns.{token_and_text}
use Rattle.page_trees.proofs.reading.PageReader.tell_token.Goals as goal

pub returns-clause-builds : goal.returns-clause-builds
returns-clause-builds c =
    token_and_text c.args.kind c.args.self.now c.tell_characters.new.self c.build.new.self c.tell_characters.ensures.only c.tell_characters.ensures.builds c.build.ensures.limits c.build.ensures.builds
