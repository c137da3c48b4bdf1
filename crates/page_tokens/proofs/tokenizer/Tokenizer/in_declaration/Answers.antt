use Rattle.std.proofs.Common.{refl, ap}
use Rattle.page_tokens.proofs.DeclarationFollows.{bogus_arm, cdata_arm, comment_arm, doctype_arm, more_arm}
use Rattle.page_tokens.specs.declared.tokenizer.Tokenizer.{Tokenizer}
use Rattle.page_tokens.specs.declared.tokenizer.state.CommentState.TheVariants as comment
use Rattle.page_tokens.specs.declared.tokenizer.state.State.TheVariants as state
use Rattle.page_tokens.proofs.tokenizer.Tokenizer.in_declaration.Goals as goal

pub returns-in-More : goal.returns-in-More
returns-in-More c is = more_arm c.args.self.now _ c.args.seen c.in-More.more c.args.c _ is c.in-More.ensures refl c.push.ensures.text c.push.ensures.told

pub returns-in-Comment : goal.returns-in-Comment
returns-in-Comment c is =
    comment_arm c.args.self.now (record c.args.self.now { comment = c.clear.new.self }) _ c.args.seen c.args.c _ is c.in-Comment.ensures refl c.clear.ensures.bytes c.then.ensures.only c.then.ensures.told

pub returns-in-Doctype : goal.returns-in-Doctype
returns-in-Doctype c is =
    doctype_arm c.args.self.now _ c.new.result c.args.seen c.args.c _ is c.in-Doctype.ensures c.then-in-Doctype.ensures.only
    (record { name = c.new.ensures.name; public_id = c.new.ensures.public_id; system_id = c.new.ensures.system_id; force_quirks = c.new.ensures.force_quirks }) c.then-in-Doctype.ensures.told

pub returns-in-Cdata : goal.returns-in-Cdata
returns-in-Cdata c is = cdata_arm c.args.self.now _ c.args.seen c.args.c _ is c.in-Cdata.ensures c.cdata_begins.ensures.foreign c.cdata_begins.ensures.html c.cdata_begins.ensures.told

pub returns-in-Bogus : goal.returns-in-Bogus
returns-in-Bogus c is =
    bogus_arm c.args.self.now _ _ c.args.seen c.args.c _ is c.in-Bogus.ensures (ap {A = Tokenizer} (λ t. record t { state = state.Comment comment.Bogus }) c.error.ensures.only) c.error.ensures.memory (c.in_comment.ensures refl)
