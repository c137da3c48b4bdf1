use Rattle.dom_markup.proofs.plain.PlainRead.{read_plain}
use Rattle.dom_markup.proofs.plain.PlainRows.{document-root, document-represents}
use Rattle.dom_markup.proofs.plain.PlainUtf8.{read_utf8}
use Rattle.dom_markup.proofs.laws.plain.what_is_read_is_plain.Goals as goal

pub returns : goal.returns
returns c = λ text trees utf8 spells bare. record {
  trees = trees;
  root = document-root trees;
  below = document-represents trees;
  plain = read_plain text trees spells bare (read_utf8 text trees spells utf8);
}
