use Rattle.std.proofs.Common.{◌≡◌, false, sym, subst, ◌∙◌}
use Rattle.dom_links.specs.Forest.{children_of}
use Rattle.dom_markup.specs.Html.{html_of}
use Rattle.dom_markup.specs.Plain.{text_of_trees}
use Rattle.page_trees.specs.Framed.{IsFramed}
use Rattle.calm_pages.specs.Calm.{IsCalmDocument}
use Rattle.calm_pages.proofs.CalmFrames.{calm_framed}
use Rattle.calm_pages.proofs.laws.calm_documents_are_pages.Goals as goal

pub returns : goal.returns
returns c = λ forest sound plain calm.
    let spelled = c.plain_documents_are_spelled.ensures.root forest sound plain in
    let read = c.plain_reads_back.ensures forest sound plain in
    let again : spelled.trees ≡ read.0 = c.one_reading.ensures (html_of forest 0) spelled.trees read.0 spelled.spelled read.2 in
    let same : read.0 ≡ calm.trees = c.one_meaning.ensures forest (children_of forest 0) read.0 calm.trees read.1 calm.below in
    let html : html_of forest 0 ≡ text_of_trees false calm.trees = c.html_of_trees.ensures.document forest sound plain.root calm.trees calm.below in
    record {
      trees = spelled.trees;
      page = record {
        spelled = spelled.spelled;
        framed = subst IsFramed (sym html) (calm_framed calm.trees calm.document);
        bytes = calm.bytes;
        document = subst IsCalmDocument (sym (again ∙ same)) calm.document;
      };
      same = spelled.same;
    }
