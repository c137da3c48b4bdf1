use Rattle.std.proofs.Common.{ℕ, ◌≡◌, ◌∙◌, true, sym, subst}
use Rattle.dom_article.specs.Hidden.{hidden_at}
use Rattle.dom_article.proofs.ShownLemmas.{no_root}
use Rattle.dom_article.proofs.marking.shown_root.Goals as goal

pub returns-then-is_hidden_at : goal.returns-then-is_hidden_at
returns-then-is_hidden_at c =
    no_root c.args.tree.now c.in_ok-shown.shown.items c.in_ok-shown.ensures.none c.in_ok-shown.ensures.long
    (subst (λ (n : ℕ). hidden_at c.args.tree.now n ≡ true) c.root_id-root.ensures (sym c.is_hidden_at.ensures ∙ c.if-is_hidden_at.true))
