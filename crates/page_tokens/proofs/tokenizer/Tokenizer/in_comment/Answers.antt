use Rattle.page_tokens.proofs.CommentFollows.{again_arm, ends_arm, letter_arm, then_arm}
use Rattle.page_tokens.proofs.tokenizer.Tokenizer.in_comment.Goals as goal

pub returns-in-Ends : goal.returns-in-Ends
returns-in-Ends c is = ends_arm c.args.self.now c.report.new.self _ c.args.state c.args.c _ is c.report.ensures.only c.report.ensures.memory c.in-Ends.ensures c.emit_comment.ensures.only c.emit_comment.ensures.told

pub returns-in-Letter : goal.returns-in-Letter
returns-in-Letter c is =
    letter_arm c.args.self.now c.report.new.self _ c.args.state c.args.c _ is c.report.ensures.only c.report.ensures.memory c.in-Letter.ensures c.letter.ensures.gains c.letter.ensures.memory c.letter.ensures.told

pub returns-in-Then : goal.returns-in-Then
returns-in-Then c is =
    then_arm c.args.self.now c.report.new.self _ c.args.state c.in-Then.state c.args.c c.in-Then.text.now _ is c.report.ensures.only c.report.ensures.memory c.in-Then.ensures c.comment_then.ensures.goes_on c.comment_then.ensures.told

pub returns-in-Again : goal.returns-in-Again
returns-in-Again c is =
    again_arm c.args.self.now c.report.new.self _ c.args.state c.args.c c.in-Again.text.now _ is c.report.ensures.only c.report.ensures.memory c.in-Again.ensures c.comment_again.ensures.goes_on c.comment_again.ensures.told
