use Rattle.std.proofs.Common.{Bool, subst}
use Rattle.std.specs.Prelude.{MatchResult}
use Rattle.dom_markup.specs.Markup.{Closes}
use Rattle.dom_markup.specs.ByteClasses.{ClosesNothing}
use Rattle.dom_markup.proofs.document.tags.close_named.Goals as goal

pub returns : goal.returns
returns c =
    subst (λ (void : Bool). MatchResult c.close_tag.result (λ r. Closes void c.args.close.now r.now) (ClosesNothing void c.args.close.now)) c.is_void.ensures c.close_tag.ensures
