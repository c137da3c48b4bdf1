use Rattle.page_tokens.proofs.MarkEnds.{comment_arm, declaration_arm, doctype_arm}
use Rattle.page_tokens.proofs.PageEnds.{no_mark, text_arm}
use Rattle.page_tokens.proofs.tokenizer.Tokenizer.end_of_mark.Goals as goal

pub returns-in-Declaration-clause-stops : goal.returns-in-Declaration-clause-stops
returns-in-Declaration-clause-stops c = declaration_arm c.args.self.now _ _ _ c.in-Declaration.is c.end_comment.ensures.is c.end_comment.ensures.only

pub returns-in-Comment-clause-stops : goal.returns-in-Comment-clause-stops
returns-in-Comment-clause-stops c = comment_arm c.args.self.now _ _ _ c.in-Comment.is c.end_comment-in-Comment.ensures.is c.end_comment-in-Comment.ensures.only

pub returns-in-Doctype-clause-stops : goal.returns-in-Doctype-clause-stops
returns-in-Doctype-clause-stops c = doctype_arm c.args.self.now _ _ _ c.in-Doctype.is c.end_doctype.ensures.is c.end_doctype.ensures.only

pub returns-in_default-clause-stops : goal.returns-in_default-clause-stops
returns-in_default-clause-stops c = text_arm c.args.self.now _ (no_mark c.args.self.now.state c.in_default.not-Declaration c.in_default.not-Comment c.in_default.not-Doctype) c.end_text.ensures.puts
