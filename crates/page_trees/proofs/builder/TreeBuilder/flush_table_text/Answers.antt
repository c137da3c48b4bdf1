use Rattle.std.proofs.Common.{◌∙◌, Global, ap, refl}
use Rattle.std.specs.Prelude.{String, string_bytes}
use Rattle.page_trees.proofs.TableTexts.{text_taken}
use Rattle.page_trees.proofs.builder.TreeBuilder.flush_table_text.Goals as goal

pub returns-clause-rule : goal.returns-clause-rule
returns-clause-rule c =
    text_taken c.args.self.now _ c.put_table_text.new.self c.replace-text.new.dest refl
    (λ cs spelt. c.put_table_text.ensures.rule cs (c.as_str.ensures.value ∙ ap (λ (text : String Global). string_bytes text) c.replace-text.ensures.value ∙ spelt))
