use Rattle.page_tokens.proofs.AnyState.{asks_nothing}
use Rattle.page_tokens.proofs.tokenizer.Tokenizer.read.Goals as goal

pub returns-in-Data : goal.returns-in-Data
returns-in-Data c = asks_nothing c.args.self.now _ _ _ (c.in_data.ensures c.in-Data.is)

pub returns-in-Rcdata : goal.returns-in-Rcdata
returns-in-Rcdata c = asks_nothing c.args.self.now _ _ _ (c.in_rcdata.ensures c.in-Rcdata.is)

pub returns-in-Rawtext : goal.returns-in-Rawtext
returns-in-Rawtext c = asks_nothing c.args.self.now _ _ _ (c.in_raw.ensures c.in-Rawtext.is tt)

pub returns-in-Script : goal.returns-in-Script
returns-in-Script c = asks_nothing c.args.self.now _ _ _ (c.in_raw-in-Script.ensures c.in-Script.is tt)

pub returns-in-Plaintext : goal.returns-in-Plaintext
returns-in-Plaintext c = asks_nothing c.args.self.now _ _ _ (c.in_plaintext.ensures c.in-Plaintext.is)

pub returns-in-Cdata : goal.returns-in-Cdata
returns-in-Cdata c = asks_nothing c.args.self.now _ _ _ (c.in_cdata.ensures c.in-Cdata.is)

pub returns-in-Tag : goal.returns-in-Tag
returns-in-Tag c = asks_nothing c.args.self.now _ _ _ (c.in_tag.ensures c.in-Tag.is)

pub returns-in-EndTag : goal.returns-in-EndTag
returns-in-EndTag c = asks_nothing c.args.self.now _ _ _ (c.in_end_tag.ensures c.in-EndTag.is)

pub returns-in-ScriptData : goal.returns-in-ScriptData
returns-in-ScriptData c = asks_nothing c.args.self.now _ _ _ (c.in_script.ensures c.in-ScriptData.is)

pub returns-in-Attribute : goal.returns-in-Attribute
returns-in-Attribute c = asks_nothing c.args.self.now _ _ _ (c.in_attribute.ensures c.in-Attribute.is)

pub returns-in-Comment : goal.returns-in-Comment
returns-in-Comment c = asks_nothing c.args.self.now _ _ _ (c.in_comment.ensures c.in-Comment.is)

pub returns-in-Doctype : goal.returns-in-Doctype
returns-in-Doctype c = asks_nothing c.args.self.now _ _ _ (c.in_doctype.ensures c.in-Doctype.is)
