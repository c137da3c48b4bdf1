use Rattle.std.proofs.Common.{refl}
use Rattle.page_trees.proofs.BodyStarts.{ordinary_left, ordinary_started, plaintext_started}
use Rattle.standard_trees.specs.RuleWords.{RawText}
use Rattle.page_trees.proofs.BodyElements.{noscript_started, raw_started, textarea_started}
use Rattle.page_trees.proofs.builder.TreeBuilder.start_text.Goals as goal

pub returns-in-Plaintext : goal.returns-in-Plaintext
returns-in-Plaintext c = record { rule = λ texty. plaintext_started c.args.group c.args.name c.args.tag.now c.args.self.now c.start_plaintext.new.self c.start_plaintext.result c.in-Plaintext.is c.start_plaintext.ensures.next c.start_plaintext.ensures.limits c.start_plaintext.ensures.rule }

pub returns-in-Textarea : goal.returns-in-Textarea
returns-in-Textarea c = record { rule = λ texty. textarea_started c.args.group c.args.name c.args.tag.now c.args.self.now c.start_textarea.new.self c.start_textarea.result c.in-Textarea.is c.start_textarea.ensures.next c.start_textarea.ensures.limits c.start_textarea.ensures.rule }

pub returns-in-Xmp : goal.returns-in-Xmp
returns-in-Xmp c = record {
  rule = λ texty. raw_started c.args.group c.args.name c.args.tag.now c.args.self.now c.insert_text_element.new.self c.insert_text_element.result c.in-Xmp.is
      c.insert_text_element.ensures.next c.insert_text_element.ensures.limits (c.insert_text_element.ensures.rule RawText refl);
}

pub returns-in-Noscript : goal.returns-in-Noscript
returns-in-Noscript c = record {
  rule = λ texty. noscript_started c.args.group c.args.name c.args.tag.now c.args.self.now c.start_noscript.new.self c.start_noscript.result c.in-Noscript.is c.start_noscript.ensures.rule;
}

pub returns-in_default : goal.returns-in_default
returns-in_default c = record {
  rule = λ texty. ordinary_started c.args.group c.args.name c.args.tag.now c.args.self.now c.insert_inline.new.self c.insert_inline.result
      (ordinary_left c.args.group c.in_default.not-Plaintext c.in_default.not-Textarea c.in_default.not-Xmp c.in_default.not-Iframe c.in_default.not-Noembed c.in_default.not-Noscript texty)
      c.insert_inline.ensures.next c.insert_inline.ensures.limits c.insert_inline.ensures.rule;
}
