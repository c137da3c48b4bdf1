use Rattle.std.proofs.Common.{◌≡◌, ◌∙◌, inl, false, subst}
use Rattle.dom_links.specs.Forest.{children_of}
use Rattle.dom_markup.specs.Html.{html_of}
use Rattle.dom_markup.specs.Markup.{Spells}
use Rattle.dom_markup.proofs.plain.PlainText.{text_same}
use Rattle.standard_laws.proofs.parsing.calm_html_is_written.Goals as goal

pub returns : goal.returns
returns c = λ forest sound plain calm.
    let read = c.plain_reads_back.ensures forest sound plain in
    let same : read.0 ≡ calm.trees = c.one_meaning.ensures forest (children_of forest 0) read.0 calm.trees read.1 calm.below in
    record {
      trees = calm.trees;
      page = record {
        spelled = subst (Spells (html_of forest 0)) same read.2;
        framed = (c.calm_documents_are_pages.ensures forest sound plain calm).page.framed;
        bytes = calm.bytes;
        document = calm.document;
      };
      written = inl (c.html_of_trees.ensures.document forest sound plain.root calm.trees calm.below ∙ text_same false calm.trees);
    }
