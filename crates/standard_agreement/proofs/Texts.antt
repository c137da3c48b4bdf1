-- The text of plain trees, from the first character to the document.
use Rattle.std.specs.Prelude.{◌≡◌, refl, ℕ, Bool, true, false, List, [], ◌∷◌, ◌++◌, Option, None, Some, codes, flat_map, option_map}
use mathlib.Core.Path.{◌∙◌, sym, ap, subst}
use Rattle.standard_tokens.specs.Laws.{PlainPagesAreRead}
use Rattle.standard_tokens.specs.Machine.{normalized, start_in}
use Rattle.standard_tokens.specs.PlainMarkup.{written}
use Rattle.standard_tokens.specs.Reading.{ReadsText, plain_feedback}
use Rattle.standard_tokens.specs.States.{Data, State}
use Rattle.standard_tokens.specs.Tokens.{Token, ADoctype, AStart, AnEof}
use Rattle.standard_rules.specs.Building.{Building, act, run as old_run, start as old_start, taken as old_taken, tree_of, tree_step as old_step}
use Rattle.standard_rules.specs.PlainTrees.{FlowPlace, IsPlainPage, Page, are_plain, flow_contexts, outermost, page_trees}
use Rattle.standard_rules.specs.TreeRules.{rules as old_rules}
use Rattle.standard_rules.specs.TreeTokens.{Trees, doctype_named, is_among, tokens}
use Rattle.standard_rules.proofs.PagesBuilt.{FragmentBuilt, fragment_steps, in_context, page_switched}
use Rattle.standard_rules.proofs.TreeLists.{switched_steps}
use Rattle.standard_trees.specs.Building.{Building as WholeBuilding, empty_tree, perform, run, start, taken, tree_step}
use Rattle.standard_trees.specs.Parsing.{document_of, nodes_of, parsed, parser}
use Rattle.standard_trees.specs.RuleWords as N
use Rattle.standard_trees.specs.TreeRules.{rules}
use Rattle.standard_trees.specs.TreeStore.{DoctypeNode, DocumentNode, Kind, NodeAttr, leaf}
use Rattle.standard_agreement.specs.PlainPages.{no_quirks, node_attrs, whole}
use Rattle.standard_agreement.specs.PlainTexts.{IsMarkupOf, PlainFragmentsAreParsed, PlainPagesAreParsed}
use Rattle.standard_agreement.proofs.Preorder.{element, node_of}
use Rattle.standard_agreement.proofs.Steps.{deep}
use Rattle.standard_agreement.proofs.Pages.{begun, built_deep, head_new, head_old, rest_plain, rest_tokens}
use Rattle.standard_agreement.proofs.Fragments.{begins, begins_in_data, begun_in, built_in_deep, fragment_plain, kind_named, no_page}
use Rattle.standard_agreement.proofs.Joined.{Answers, Ends, Says, answers_more, end_of, text_joined}
use Rattle.standard_agreement.proofs.Telling.{answers_sound, honest, never_foreign}

-- ---- the tokens before the head's contents

doctype : Token
doctype = ADoctype (doctype_named (codes "html"))

html_start : Page → Token
html_start page = AStart (codes "html") page.html false

head_start : Page → Token
head_start page = AStart (codes "head") page.head false

behind_doctype : Bool → WholeBuilding
behind_doctype scripting = record (start scripting) {
  tree = record empty_tree { nodes = node_of DocumentNode (1 ∷ []) ∷ leaf (DoctypeNode (doctype_named (codes "html"))) ∷ [] };
  mode = N.BeforeHtml;
  token = ADoctype (doctype_named (codes "html"));
}

behind_html : Bool → Page → WholeBuilding
behind_html scripting page = record (start scripting) {
  tree = record empty_tree {
    nodes = node_of DocumentNode (1 ∷ 2 ∷ []) ∷ leaf (DoctypeNode (doctype_named (codes "html"))) ∷ leaf (element (codes "html") page.html) ∷ [];
    stack = 2 ∷ [];
  };
  mode = N.BeforeHead;
  token = AStart (codes "html") page.html false;
  attrs = node_attrs page.html;
}

doctype_step : (scripting : Bool) → tree_step deep (start scripting) doctype ≡ Some (behind_doctype scripting)
unfolding doctype behind_doctype tree_step run rules taken perform
doctype_step scripting = refl

html_step : (scripting : Bool) (page : Page) → tree_step deep (behind_doctype scripting) (html_start page) ≡ Some (behind_html scripting page)
unfolding html_start behind_doctype behind_html tree_step run rules taken perform
html_step scripting page = refl

head_step : (scripting : Bool) (page : Page) → tree_step deep (behind_html scripting page) (head_start page) ≡ Some (head_new scripting page)
unfolding head_start behind_html head_new tree_step run rules taken perform
head_step scripting page = refl

says_start : (scripting : Bool) → Says (plain_feedback false) [] (start scripting)
says_start scripting = record { foreign = refl; switch = refl }

says_doctype : (scripting : Bool) → Says (plain_feedback false) (doctype ∷ []) (behind_doctype scripting)
unfolding doctype behind_doctype
says_doctype scripting = record { foreign = refl; switch = refl }

says_html : (scripting : Bool) (page : Page) → Says (plain_feedback false) (doctype ∷ html_start page ∷ []) (behind_html scripting page)
unfolding doctype html_start behind_html
says_html scripting page = record { foreign = refl; switch = refl }

says_head : (scripting : Bool) (page : Page) → Says (plain_feedback false) (doctype ∷ html_start page ∷ head_start page ∷ []) (head_new scripting page)
unfolding doctype html_start head_start head_new
says_head scripting page = record { foreign = refl; switch = refl }

old_front : (page : Page) → switched_steps old_start (tokens (page_trees page) ++ AnEof ∷ []) ≡ switched_steps (head_old page) (rest_tokens page ++ AnEof ∷ [])
unfolding head_old rest_tokens old_step old_run old_rules old_taken act
old_front page = refl

all_tokens : (page : Page) → tokens (page_trees page) ++ AnEof ∷ [] ≡ doctype ∷ html_start page ∷ head_start page ∷ (rest_tokens page ++ AnEof ∷ [])
unfolding doctype html_start head_start rest_tokens
all_tokens page = refl

page_answers : (scripting : Bool) (page : Page) → IsPlainPage page → Answers deep (start scripting) (plain_feedback false) [] (tokens (page_trees page) ++ AnEof ∷ [])
page_answers scripting page h = subst (Answers deep (start scripting) (plain_feedback false) []) (sym (all_tokens page))
    (answers_more deep (start scripting) (behind_doctype scripting) (plain_feedback false) [] doctype (html_start page ∷ head_start page ∷ rest) (doctype_step scripting) (says_start scripting)
    (answers_more deep (behind_doctype scripting) (behind_html scripting page) (plain_feedback false) (doctype ∷ []) (html_start page) (head_start page ∷ rest) (html_step scripting page) (says_doctype scripting)
    (answers_more deep (behind_html scripting page) (head_new scripting page) (plain_feedback false) (doctype ∷ html_start page ∷ []) (head_start page) rest (head_step scripting page) (says_html scripting page)
    (by_end (switched_steps (head_old page) rest) refl (sym (ap tree_of (old_front page)) ∙ page_switched page h)))))
  where
    rest : List Token
    rest = rest_tokens page ++ AnEof ∷ []

    seen : List Token
    seen = doctype ∷ html_start page ∷ head_start page ∷ []

    by_end : (o : Option Building) → switched_steps (head_old page) rest ≡ o → tree_of o ≡ Some (page_trees page) → Answers deep (head_new scripting page) (plain_feedback false) seen rest
    by_end None is k = cc
    by_end (Some e) is k =
        answers_sound true None (λ p. refl) rest (rest_plain page h) (AStart (codes "head") page.head false) seen (head_old page) e (head_new scripting page) (begun scripting page) (says_head scripting page) is

-- ---- texts

-- plain markup is read as the tokens that it represents
markup_read : PlainPagesAreRead → (text : List ℕ) (of : List Token) → IsMarkupOf text of → ReadsText (plain_feedback false) Data text (of ++ AnEof ∷ [])
markup_read law text of m =
    subst (λ (cs : List ℕ). ReadsText (plain_feedback false) Data cs (of ++ AnEof ∷ [])) (sym m.is)
    (subst (λ (ts : List Token). ReadsText (plain_feedback false) Data (flat_map written m.items) (ts ++ AnEof ∷ [])) (sym m.tokens) (law (plain_feedback false) honest m.items m.plain m.answered))

pub pages_parsed : PlainPagesAreRead → PlainPagesAreParsed
pages_parsed law scripting text page h m =
    let all : List Token = tokens (page_trees page) ++ AnEof ∷ [] in
    let e : Ends deep (start scripting) all (parser (start_in Data) (normalized text) (start scripting)) =
    text_joined (plain_feedback false) deep (start scripting) Data text all (markup_read law text (tokens (page_trees page)) m) (page_answers scripting page h) in
    let p = end_of document_of (λ b. refl) deep (start scripting) all (no_quirks (whole (page_trees page))) (parser (start_in Data) (normalized text) (start scripting)) e (built_deep scripting page h) in
    (deep, p.0, p.1)

fragment_answers : (scripting : Bool) (name : List ℕ) (attrs : List NodeAttr) (trees : Trees) → is_among name flow_contexts ≡ true → are_plain (outermost FlowPlace) trees ≡ true →
    Answers deep (begins scripting name attrs) (plain_feedback false) [] (tokens trees ++ AnEof ∷ [])
fragment_answers scripting name attrs trees among h =
    let around : Option Kind = Some (kind_named name attrs) in
    let m : FragmentBuilt name trees = fragment_steps name among trees h in
    answers_sound false around (no_page around) (tokens trees ++ AnEof ∷ []) (fragment_plain trees h) AnEof [] (in_context name) m.after (begins scripting name attrs) (begun_in scripting name attrs among)
    (record { foreign = never_foreign around AnEof (in_context name) (begins scripting name attrs) (begun_in scripting name attrs among); switch = refl }) m.steps

pub fragments_parsed : PlainPagesAreRead → PlainFragmentsAreParsed
fragments_parsed law scripting name attrs text trees among h m =
    let all : List Token = tokens trees ++ AnEof ∷ [] in
    let b : WholeBuilding = begins scripting name attrs in
    let e : Ends deep b all (parser (start_in Data) (normalized text) b) =
    text_joined (plain_feedback false) deep b Data text all (markup_read law text (tokens trees) m) (fragment_answers scripting name attrs trees among h) in
    let p = end_of nodes_of (λ c. refl) deep b all (whole trees) (parser (start_in Data) (normalized text) b) e (built_in_deep scripting name attrs trees among h) in
    (deep, p.0, ap (λ (s : State). option_map nodes_of (parsed deep p.0 (parser (start_in s) (normalized text) b))) (begins_in_data scripting name attrs among) ∙ p.1)
