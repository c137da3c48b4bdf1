-- What an article is.
use Rattle.std.proofs.Common.{ℕ, ◌≡◌, Bool, true, List, Option, Some, subst}
use Rattle.dom_links.specs.Forest.{Forest}
use Rattle.dom_article.specs.Facts.{AreFacts}
use Rattle.dom_article.specs.Found.{AreRounds, IsArticle, IsTaken, of_page, of_round}
use Rattle.dom_article.specs.Nodes.{IsOrdered}
use Rattle.dom_article.specs.Pruned.{IsExtract}
use Rattle.dom_article.specs.Texts.{keeps_text}
use Rattle.dom_article.specs.declared.finding.Found.{Found}
use Rattle.dom_article.specs.declared.page.Page.{Page}

-- An extract below a root that a round chose.
pub article_of_round : (forest : Forest) (page : Page) (root : ℕ) (marks : List Bool) → page.tree.now ≡ forest → IsOrdered page →
    AreFacts forest page.facts.items → IsTaken page root → IsExtract forest root marks → keeps_text forest marks ≡ true → IsArticle forest root marks
article_of_round forest page root marks same ordered facts chosen extract has_text = record {
  extract = extract;
  has_text = has_text;
  root_is = of_round page root same ordered facts chosen;
}

-- An extract below the root of the page.
pub article_of_page : (forest : Forest) (marks : List Bool) → IsExtract forest 0 marks → keeps_text forest marks ≡ true → IsArticle forest 0 marks
article_of_page forest marks extract has_text = record { extract = extract; has_text = has_text; root_is = of_page }

-- What is taken, of which another part was changed than its root.
pub taken_by : (page : Page) (taken : Option Found) (found : Found) (root : ℕ) → AreRounds page taken → taken ≡ Some found → root ≡ found.root → IsTaken page root
taken_by page taken found root rounds is same = record {
  found = found;
  rounds = subst (AreRounds page) is rounds;
  root_is = same;
}
