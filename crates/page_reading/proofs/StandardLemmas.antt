-- The document of a text is the one as which the HTML Standard parses it.
use Rattle.std.proofs.Common.{◌≡◌, ◌∙◌, ℕ, List, Result, Ok, Err, OnOk, false, sym, subst, true, true≢false}
use Rattle.std.specs.Prelude.{Bool, IfOk, encode_utf8_all}
use Rattle.std.specs.Str.{IsUtf8, chars}
use Rattle.std.proofs.lemmas.Str.{encodes-chars, encodes_same}
use Rattle.dom_markup.specs.declared.document.Document.{Document}
use Rattle.dom_links.specs.Forest.{Forest, children_of}
use Rattle.dom_trees.specs.declared.quirks.QuirksMode.{QuirksMode}
use Rattle.page_trees.specs.DocumentTrees.{AreTrees, IsDocumentTree, IsParsedAs}
use Rattle.page_trees.specs.Shape.{IsPage}
use Rattle.page_trees.specs.StandardDepth.{IsWithinDepth}
use Rattle.page_trees.specs.StandardDocuments.{FinishesText, IsStandardTree}
use Rattle.page_trees.specs.declared.growing.BuiltTree.{BuiltTree}
use Rattle.page_trees.specs.declared.reading.Options.{Options}
use Rattle.standard_trees.specs.Building.{Building}
use Rattle.standard_trees.specs.Parsing.{document_of, nodes_of}
use Rattle.standard_order.specs.Beginnings.{Beginning, OfFragment, OfPage}
use Rattle.page_trees.proofs.TextsRead.{every_text_is_read}
use Rattle.page_reading.specs.StandardPages.{HasParsed, IsPageInLimit, IsTextInLimit, IsStandardPage, IsStandardText}
use Rattle.page_reading.specs.declared.reading.PageParser.{PageParser}

-- the same tree in the same mode is the same Document
pub parsed_same : (scripting : Bool) (text : List ℕ) (end : Building) (f g : Forest) (m k : QuirksMode) → IsStandardTree (OfPage scripting) text end f m → g ≡ f → k ≡ m → IsParsedAs scripting text g k
parsed_same scripting text end f g m k is tree mode = record {
  document = document_of end;
  parsed = is.parsed;
  is = subst (λ (h : Forest). IsDocumentTree h k (document_of end)) (sym tree)
      (subst (λ (q : QuirksMode). IsDocumentTree f q (document_of end)) (sym mode) is.tree.document);
}

-- what tree construction builds of a text, and the tree of the code is that
record IsFinished (beginning : Beginning) (text : List ℕ) (built : BuiltTree) : Type 0 where
  end : Building
  tree : IsStandardTree beginning text end built.tree built.quirks_mode

-- where a text has ended, the tree is the one as which it is parsed
finished : (ended : PageParser) (built : BuiltTree) → FinishesText ended.reader built → (options : Options) (beginning : Beginning) (text : List ℕ) →
    HasParsed options beginning text ended → IsTextInLimit options beginning text → IsFinished beginning text built
finished ended built finishes options beginning text has limit =
    let r = every_text_is_read beginning text in
    record {
      end = r.2;
      tree = finishes beginning text has.built r.0 r.1 r.2 r.3 (subst (λ (o : Options). IsWithinDepth o.max_depth (document_of r.2)) (sym has.options_are) (limit r.0 r.1 r.2 r.3));
    }

-- that of a page, in the shape of a page
pub page_finished : (ended : PageParser) (built : BuiltTree) (page : Document) → FinishesText ended.reader built →
    (IsPage built.tree → page.tree ≡ built.tree) → page.quirks_mode ≡ built.quirks_mode → ended.is_fragment ≡ false → (options : Options) (beginning : Beginning) (text : List ℕ) →
    HasParsed options beginning text ended → IsTextInLimit options beginning text → IsStandardText beginning text page
page_finished ended built page finishes same mode is_page options (OfPage scripting) text has limit =
    let f : IsFinished (OfPage scripting) text built = finished ended built finishes options (OfPage scripting) text has limit in
    parsed_same scripting text f.end built.tree page.tree built.quirks_mode page.quirks_mode f.tree (same (f.tree.tree.page f.tree.shape)) mode
page_finished ended built page finishes same mode is_page options (OfFragment scripting around) text has limit = absurd (true≢false (sym has.kind ∙ is_page))

-- that of a fragment
pub fragment_finished : (ended : PageParser) (built : BuiltTree) (document : Document) → FinishesText ended.reader built →
    document.tree ≡ built.tree → ended.is_fragment ≡ true → (options : Options) (beginning : Beginning) (text : List ℕ) →
    HasParsed options beginning text ended → IsTextInLimit options beginning text → IsStandardText beginning text document
fragment_finished ended built document finishes same is_fragment options (OfPage scripting) text has limit = absurd (true≢false (sym is_fragment ∙ has.kind))
fragment_finished ended built document finishes same is_fragment options (OfFragment scripting around) text has limit =
    let f : IsFinished (OfFragment scripting around) text built = finished ended built finishes options (OfFragment scripting around) text has limit in
    record {
      nodes = nodes_of f.end;
      parsed = f.tree.parsed;
      are = subst (λ (g : Forest). AreTrees g (children_of g 1) (nodes_of f.end)) (sym same) f.tree.tree.fragment;
    }

-- what holds, holds where a call succeeds
pub on_ok : {T E : Type 0} (r : Result T E) (P : Type 0) → P → OnOk r P
on_ok (Ok x) P p = p
on_ok (Err e) P p = tt

-- what follows from two facts of the result
pub if_ok_both : {T E : Type 0} (r : Result T E) (P Q R : T → Type 0) → ((x : T) → P x → Q x → R x) → IfOk r P → IfOk r Q → IfOk r R
if_ok_both (Ok x) P Q R both p q = both x p q
if_ok_both (Err e) P Q R both p q = tt

-- a text that is given in UTF-8 is parsed by the rules
pub by_rules : {E : Type 0} (r : Result Document E) (options : Options) (text cs : List ℕ) → IsUtf8 text → text ≡ encode_utf8_all cs →
    (IsPageInLimit options (chars text) → IfOk r (IsStandardPage options (chars text))) → IsPageInLimit options cs → IfOk r (IsStandardPage options cs)
by_rules r options text cs utf8 e rules limit =
    let is : chars text ≡ cs = encodes_same (chars text) cs (encodes-chars text utf8 ∙ e) in
    subst (λ characters. IfOk r (IsStandardPage options characters)) is
    (rules (subst (IsPageInLimit options) (sym is) limit))
