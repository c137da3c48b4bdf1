use Rattle.std.proofs.Common.{refl, sym, ◌∙◌}
use Rattle.page_tokens.proofs.NameFollows.{ambiguous_arm, value_arm}
use Rattle.page_tokens.proofs.tokenizer.Tokenizer.name_ends.Goals as goal

pub returns-then-is_some : goal.returns-then-is_some
returns-then-is_some c settled = value_arm c.args.self.now _ c.args.found c.args.c _ (sym c.is_some.ensures ∙ c.if-is_some.true) refl settled c.put_named.ensures.put

pub returns : goal.returns
returns c settled =
    ambiguous_arm c.args.self.now c.put_named.new.self _ c.args.found c.args.c _ (sym c.is_some.ensures ∙ c.if-is_some.false) settled c.put_named.ensures.put (c.ambiguous.ensures refl)
