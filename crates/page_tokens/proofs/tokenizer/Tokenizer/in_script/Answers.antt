use Rattle.std.proofs.Common.{refl}
use Rattle.page_tokens.proofs.ScriptFollows.{less_than_arm, letter_arm, named_arm, slash_arm, text_arm, unescaped_arm}
use Rattle.page_tokens.proofs.tokenizer.Tokenizer.in_script.Goals as goal

pub returns-in-Text : goal.returns-in-Text
returns-in-Text c is = text_arm c.args.self.now _ c.args.state c.in-Text.next c.args.c _ is c.in-Text.ensures c.letter_then.ensures.goes_on c.letter_then.ensures.told

pub returns-in-LessThan : goal.returns-in-LessThan
returns-in-LessThan c is = less_than_arm c.args.self.now _ c.args.state c.args.c _ is c.in-LessThan.ensures c.then.ensures.only c.then.ensures.told

pub returns-in-Unescaped : goal.returns-in-Unescaped
returns-in-Unescaped c is = unescaped_arm c.args.self.now _ _ c.args.state c.args.c _ is c.in-Unescaped.ensures refl (c.in_raw.ensures refl tt)

pub returns-in-Slash : goal.returns-in-Slash
returns-in-Slash c is =
    slash_arm c.args.self.now (record c.args.self.now { letters = c.clear.new.self }) _ c.args.state c.args.c _ is c.in-Slash.ensures refl c.clear.ensures.bytes c.text_then.ensures.goes_on c.text_then.ensures.told

pub returns-in-Letter : goal.returns-in-Letter
returns-in-Letter c is = letter_arm c.args.self.now _ c.args.state c.args.c _ is c.in-Letter.ensures c.double_letter.ensures.adds c.double_letter.ensures.told

pub returns-in-Named : goal.returns-in-Named
returns-in-Named c is = named_arm c.args.self.now _ c.args.state c.in-Named.is_end c.args.c _ is c.in-Named.ensures c.script_name_ends.ensures.goes_on c.script_name_ends.ensures.told
