use Rattle.std.proofs.Common.{length, ap, ◌∙◌}
use Rattle.page_tokens.proofs.NameLemmas.{read_no_name}
use Rattle.page_tokens.proofs.named_references.Names.value.Goals as goal

pub returns-else-name-self : goal.returns-else-name-self
returns-else-name-self c =
    read_no_name _ _ _ c.args.self.exactly (λ same. c.if-name-self.false (ap length c.name.ensures ∙ same))
