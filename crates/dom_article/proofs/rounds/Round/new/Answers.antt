use Rattle.std.proofs.Common.{Bool, List, sym, subst}
use Rattle.dom_article.specs.Best.{gone_at}
use Rattle.dom_article.specs.Nodes.{AreGone, AreSummed}
use Rattle.dom_article.specs.Texts.{page_nodes}
use Rattle.dom_article.proofs.rounds.Round.new.Goals as goal

pub returns : goal.returns
returns c =
    let page = c.args.page.now in
    let rules = c.args.rules in
    record {
      rules_are = c.add_up_all.ensures.rules;
      gone = subst (λ (gone : List Bool). AreGone page rules gone) (sym c.add_up_all.ensures.gone) c.in_ok-gone.ensures;
      summed = subst (λ (gone : List Bool). AreSummed page rules (gone_at gone) c.add_up_all.new.self.sums.items (page_nodes page.tree.now))
          (sym c.add_up_all.ensures.gone) c.in_ok-add_up_all.ensures.sums;
    }
