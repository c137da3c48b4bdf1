use Rattle.page_tokens.proofs.DoctypeFollows.{ends_arm, id_begins_arm, id_letter_arm, letter_arm, malformed_arm, name_begins_arm, name_letter_arm, then_arm}
use Rattle.page_tokens.proofs.tokenizer.Tokenizer.in_doctype.Goals as goal

pub returns-in-Then : goal.returns-in-Then
returns-in-Then c is = then_arm c.args.self.now c.report.new.self _ c.args.state c.in-Then.next c.args.c _ is c.report.ensures.only c.report.ensures.memory c.in-Then.ensures c.then.ensures.only c.then.ensures.told

pub returns-in-NameBegins : goal.returns-in-NameBegins
returns-in-NameBegins c is =
    name_begins_arm c.args.self.now c.report.new.self _ c.args.state c.args.c _ is c.report.ensures.only c.report.ensures.memory c.in-NameBegins.ensures c.begin_doctype_name.ensures.begins c.begin_doctype_name.ensures.memory
    c.begin_doctype_name.ensures.told

pub returns-in-NameLetter : goal.returns-in-NameLetter
returns-in-NameLetter c is =
    name_letter_arm c.args.self.now c.report.new.self _ c.args.state c.args.c _ is c.report.ensures.only c.report.ensures.memory c.in-NameLetter.ensures c.doctype_letter.ensures.adds c.doctype_letter.ensures.memory
    c.doctype_letter.ensures.told

pub returns-in-IdBegins : goal.returns-in-IdBegins
returns-in-IdBegins c is =
    id_begins_arm c.args.self.now c.report.new.self _ c.args.state c.in-IdBegins.id c.in-IdBegins.quote c.args.c _ is c.report.ensures.only c.report.ensures.memory c.in-IdBegins.ensures c.begin_id.ensures.begins
    c.begin_id.ensures.told

pub returns-in-IdLetter : goal.returns-in-IdLetter
returns-in-IdLetter c is =
    id_letter_arm c.args.self.now c.report.new.self _ c.args.state c.in-IdLetter.id c.args.c _ is c.report.ensures.only c.report.ensures.memory c.in-IdLetter.ensures c.id_letter.ensures.adds c.id_letter.ensures.memory
    c.id_letter.ensures.told

pub returns-in-Letter : goal.returns-in-Letter
returns-in-Letter c is =
    letter_arm c.args.self.now c.report.new.self _ c.args.state c.in-Letter.id c.in-Letter.count c.args.c _ is c.report.ensures.only c.report.ensures.memory c.in-Letter.ensures c.then-in-Letter.ensures.only c.then-in-Letter.ensures.told

pub returns-in-Ends : goal.returns-in-Ends
returns-in-Ends c is =
    ends_arm c.args.self.now c.report.new.self _ c.args.state c.in-Ends.breaks c.args.c _ is c.report.ensures.only c.report.ensures.memory c.in-Ends.ensures c.emit_doctype.ensures.only c.emit_doctype.ensures.told

pub returns-in-Malformed : goal.returns-in-Malformed
returns-in-Malformed c is =
    malformed_arm c.args.self.now c.report.new.self _ c.args.state c.in-Malformed.breaks c.args.c _ is c.report.ensures.only c.report.ensures.memory c.in-Malformed.ensures c.bogus_doctype.ensures.only
    c.bogus_doctype.ensures.memory c.bogus_doctype.ensures.told
