use Rattle.encodings.proofs.Comments.{comment_passed}
use Rattle.encodings.proofs.laws.comments_declare_nothing.Goals as goal

pub returns : goal.returns
returns c = comment_passed
