use Rattle.std.proofs.Common.{◌∙◌, ap, string_bytes}
use Rattle.dom_links.specs.Texts.{text_of}
use Rattle.dom_md.proofs.ReadLemmas.{reads-whole}
use Rattle.dom_md.proofs.serializer.Writer.begin.Goals as goal

pub returns-clause-text : goal.returns-clause-text
returns-clause-text c = λ below alone. reads-whole (string_bytes c.args.self.now.text) (string_bytes c.push_words.new.text) c.as_str.result.now (text_of c.args.self.now.tree.now c.args.id) c.requires.text
    (c.as_str.ensures.value ∙ c.in_ok-text.ensures ∙ ap (λ node. text_of node.tree.now node.id) c.new-node.ensures) (c.in_ok-push_words.ensures (ap (λ opts. opts.skip_escape) c.new-2.ensures))
