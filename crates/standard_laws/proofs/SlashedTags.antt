-- A page whose tokens are those of a plain page is parsed as that page, even if start tags of void elements end in `/>`: tree construction
-- takes no notice of it.
use Rattle.std.specs.Prelude.{◌≡◌, refl, ℕ, zero, suc, Bool, true, false, not, ◌&&◌, List, [], ◌∷◌, ◌++◌, Option, None, Some, codes, length, map, option_map}
use Rattle.std.specs.Option.{option_and_then}
use Rattle.std.proofs.Common.{arith}
use Rattle.std.proofs.lemmas.List.{append-nil}
use Rattle.std.proofs.lemmas.Option.{same_Some}
use mathlib.Core.Path.{◌∙◌, sym, ap, subst, fun_ext}
use Rattle.dom_nodes.specs.Words.{is_among}
use Rattle.dom_markup.specs.Names.{void_names}
use Rattle.standard_tokens.specs.Machine.{normalized, start_in}
use Rattle.standard_tokens.specs.Reading.{ReadsText, plain_feedback}
use Rattle.standard_tokens.specs.States.{Data}
use Rattle.standard_tokens.specs.Tokens.{Attr, Doctype, Token, AChar, AComment, ADoctype, AStart, AnEnd, AnEof}
use Rattle.standard_rules.specs.Building.{Building, Open, act, all_acts, done, finished, finished_from, fits as old_fits, goes_on, holding, holds as old_holds, names_for, run as old_run, start as old_start, taken as old_taken, Taken, tree_of, tree_step as old_step}
use Rattle.standard_rules.specs.PlainTrees.{IsPlainPage, Page, page_trees}
use Rattle.standard_rules.specs.RuleWords as O
use Rattle.standard_rules.specs.TreeRules.{rules as old_rules}
use Rattle.standard_rules.specs.TreeTokens.{Trees, doctype_named, element_node, joined, no_trees, tokens as tree_tokens}
use Rattle.standard_rules.proofs.PagesBuilt.{page_switched}
use Rattle.standard_rules.proofs.TreeLists.{if_switched, switched_are_steps, switched_steps}
use Rattle.standard_trees.specs.Building.{Building as WholeBuilding, NoQuirks, QuirksMode, empty_tree, perform, run, start, taken, tree_step, tree_steps}
use Rattle.standard_trees.specs.Parsing.{Document, IsDocumentOf, document_of, parser}
use Rattle.standard_trees.specs.RuleWords as N
use Rattle.standard_trees.specs.TreeRules.{rules}
use Rattle.standard_trees.specs.TreeStore.{DoctypeNode, DocumentNode, Node, Trees as WholeTrees, leaf, node_at, trees_of}
use Rattle.standard_agreement.specs.PlainPages.{no_quirks, node_attrs, whole}
use Rattle.standard_agreement.proofs.Preorder.{after, after_joined, at_joined, element, node_of, roots, roots_joined, trees_are}
use Rattle.standard_agreement.proofs.Following.{Meets, lagging, settled}
use Rattle.standard_agreement.proofs.Pages.{begun, head_new, head_old, last_eof, rest_plain, rest_tokens}
use Rattle.standard_agreement.proofs.Joined.{Answers, Ends, Says, answers_more, end_of, text_joined}
use Rattle.standard_agreement.proofs.Stack.{Fits, fits_popped}
use Rattle.standard_agreement.proofs.Stepping.{IsPlainToken}
use Rattle.standard_agreement.proofs.Steps.{ArePlain, deep, steps_sound}
use Rattle.standard_agreement.proofs.Store.{free}
use Rattle.standard_agreement.proofs.Telling.{answers_sound}
use Rattle.standard_laws.specs.SpelledParsing.{unslashed}

-- ---- the flag of start tags

-- the partial rules take no notice of it
names_same : (names : O.Names) (name : List ℕ) (attrs : List Attr) (c : Bool) → names_for names (AStart name attrs c) ≡ names_for names (AStart name attrs false)
names_same O.Own name attrs c = refl
names_same (O.These names) name attrs c = refl

fits_same : (pattern : O.Pattern) (name : List ℕ) (attrs : List Attr) (c : Bool) → old_fits pattern (AStart name attrs c) ≡ old_fits pattern (AStart name attrs false)
fits_same O.AnyStart name attrs c = refl
fits_same _ name attrs c = refl

holds_same : (condition : O.Condition) (name : List ℕ) (attrs : List Attr) (c : Bool) (b : Building) → old_holds condition (AStart name attrs c) b ≡ old_holds condition (AStart name attrs false) b
holds_same O.Always name attrs c b = refl
holds_same O.NoForm name attrs c b = refl
holds_same O.Hidden name attrs c b = refl
holds_same (O.NoListed O.Own) name attrs c b = refl
holds_same (O.NoListed (O.These names)) name attrs c b = refl
holds_same (O.CurrentNode O.Own) name attrs c b = refl
holds_same (O.CurrentNode (O.These names)) name attrs c b = refl
holds_same (O.InScope kind O.Own) name attrs c b = refl
holds_same (O.InScope kind (O.These names)) name attrs c b = refl

taken_same : (rs : List O.Rule) (name : List ℕ) (attrs : List Attr) (c : Bool) (b : Building) → old_taken (AStart name attrs c) b rs ≡ old_taken (AStart name attrs false) b rs
unfolding old_taken
taken_same [] name attrs c b = refl
taken_same (O.rule pattern condition acts goes ∷ rs) name attrs c b =
    by_parts _ _ (fits_same pattern name attrs c) _ _ (holds_same condition name attrs c b) _ _ (taken_same rs name attrs c b)
  where
    by_parts : (f g : Bool) → f ≡ g → (h i : Bool) → h ≡ i → (t u : Taken) → t ≡ u →
        ◌≡◌ {A = Taken} (elim f [ true ↦ elim h [ true ↦ record { acts = acts; goes = goes } | false ↦ t ] | false ↦ t ])
        (elim g [ true ↦ elim i [ true ↦ record { acts = acts; goes = goes } | false ↦ u ] | false ↦ u ])
    by_parts f g d h i e t u k = cc

act_same : (a : O.Action) (name : List ℕ) (attrs : List Attr) (c : Bool) (b : Building) → act a (AStart name attrs c) b ≡ act a (AStart name attrs false) b
unfolding act
act_same (O.ImpliedEndTagsBut O.Own) name attrs c b = refl
act_same (O.ImpliedEndTagsBut (O.These names)) name attrs c b = refl
act_same (O.PopUntil O.Own) name attrs c b = refl
act_same (O.PopUntil (O.These names)) name attrs c b = refl
act_same _ name attrs c b = refl

acts_same : (acts : List O.Action) (name : List ℕ) (attrs : List Attr) (c : Bool) (b : Building) → all_acts acts (AStart name attrs c) b ≡ all_acts acts (AStart name attrs false) b
acts_same [] name attrs c b = refl
acts_same (a ∷ acts) name attrs c b =
    ap (option_and_then (all_acts acts (AStart name attrs c))) (act_same a name attrs c b)
    ∙ ap (λ (f : Building → Option Building). option_and_then f (act a (AStart name attrs false) b)) (fun_ext (acts_same acts name attrs c))

done_same : (again other : O.Mode → Building → Option Building) → again ≡ other → (t u : Taken) → t ≡ u → (name : List ℕ) (attrs : List Attr) (c : Bool) (b : Building) →
    done again t (AStart name attrs c) b ≡ done other u (AStart name attrs false) b
done_same again other e t u k name attrs c b =
    ap (λ f. done f t (AStart name attrs c) b) e ∙ ap (λ x. done other x (AStart name attrs c) b) k ∙ ap (option_and_then (goes_on other u.goes)) (acts_same u.acts name attrs c b)

run_same : (fuel : ℕ) (name : List ℕ) (attrs : List Attr) (c : Bool) (mode : O.Mode) (b : Building) → old_run fuel (AStart name attrs c) mode b ≡ old_run fuel (AStart name attrs false) mode b
unfolding old_run
run_same zero name attrs c mode b = refl
run_same (suc fuel) name attrs c mode b =
    done_same (old_run fuel (AStart name attrs c)) (old_run fuel (AStart name attrs false)) (fun_ext (λ m. fun_ext (λ d. run_same fuel name attrs c m d))) _ _ (taken_same (old_rules mode) name attrs c b) name attrs c b

start_same : (b : Building) (name : List ℕ) (attrs : List Attr) (c : Bool) → old_step b (AStart name attrs c) ≡ old_step b (AStart name attrs false)
unfolding old_step
start_same b name attrs c = by_skip b.skip
  where
    by_skip : (x : Bool) →
        ◌≡◌ {A = Option Building} (elim (x && false) [ true ↦ Some (record b { skip = false }) | false ↦ old_run 12 (AStart name attrs c) b.mode (record b { skip = false }) ])
        (elim (x && false) [ true ↦ Some (record b { skip = false }) | false ↦ old_run 12 (AStart name attrs false) b.mode (record b { skip = false }) ])
    by_skip true = run_same 12 name attrs c b.mode (record b { skip = false })
    by_skip false = run_same 12 name attrs c b.mode (record b { skip = false })

step_same : (b : Building) (t : Token) → old_step b t ≡ old_step b (unslashed t)
step_same b (AStart name attrs c) = start_same b name attrs c ∙ sym (start_same b name attrs (c && not (is_among name void_names)))
step_same b (AnEnd name) = refl
step_same b (AChar c) = refl
step_same b (AComment text) = refl
step_same b (ADoctype doctype) = refl
step_same b AnEof = refl

if_same : (t : Token) (o : Option Building) → option_and_then (if_switched t) o ≡ option_and_then (if_switched (unslashed t)) o
if_same (AStart name attrs c) None = refl
if_same (AStart name attrs c) (Some b) = refl
if_same (AnEnd name) o = refl
if_same (AChar c) o = refl
if_same (AComment text) o = refl
if_same (ADoctype doctype) o = refl
if_same AnEof o = refl

pub steps_same : (b : Building) (ts : List Token) → switched_steps b ts ≡ switched_steps b (map unslashed ts)
steps_same b [] = refl
steps_same b (t ∷ ts) =
    ap (λ (f : Building → Option Building). option_and_then f (option_and_then (if_switched t) (old_step b t))) (fun_ext (λ x. steps_same x ts))
    ∙ ap (option_and_then (λ x. switched_steps x (map unslashed ts))) (if_same t (old_step b t) ∙ ap (option_and_then (if_switched (unslashed t))) (step_same b t))

plain_same : (page : Bool) (ts : List Token) → ArePlain page (map unslashed ts) → ArePlain page ts
plain_same page [] h = tt
plain_same page (t ∷ ts) h = (one t h.0, plain_same page ts h.1)
  where
    one : (u : Token) → IsPlainToken page (unslashed u) → IsPlainToken page u
    one (AStart name attrs c) k = k
    one (AnEnd name) k = k
    one (AChar c) k = k
    one (AComment text) k = k
    one (ADoctype doctype) k = k
    one AnEof k = k

-- the tokens with which a page begins have no such flag
start_is : (t : Token) (name : List ℕ) (attrs : List Attr) → unslashed t ≡ AStart name attrs false → is_among name void_names ≡ false → t ≡ AStart name attrs false
start_is (AStart n a c) name attrs is unvoid =
    let same : n ≡ name = ap name_of is in
    let attr : a ≡ attrs = ap attrs_of is in
    let flag : (c && not (is_among n void_names)) ≡ false = ap flag_of is in
    let closing : c ≡ false = by_flag c (subst (λ (x : List ℕ). (c && not (is_among x void_names)) ≡ false) same flag) in
    ap (λ x. AStart x a c) same ∙ ap (λ (x : List Attr). AStart name x c) attr ∙ ap (AStart name attrs) closing
  where
    name_of : Token → List ℕ
    name_of (AStart n a c) = n
    name_of _ = []

    attrs_of : Token → List Attr
    attrs_of (AStart n a c) = a
    attrs_of _ = []

    flag_of : Token → Bool
    flag_of (AStart n a c) = c
    flag_of _ = false

    by_flag : (x : Bool) → (x && not (is_among name void_names)) ≡ false → x ≡ false
    by_flag true k = sym (ap not unvoid) ∙ k
    by_flag false k = refl
start_is (AnEnd n) name attrs is unvoid = cc
start_is (AChar c) name attrs is unvoid = cc
start_is (AComment text) name attrs is unvoid = cc
start_is (ADoctype d) name attrs is unvoid = cc
start_is AnEof name attrs is unvoid = cc

doctype_is : (t : Token) (d : Doctype) → unslashed t ≡ ADoctype d → t ≡ ADoctype d
doctype_is (AStart n a c) d is = cc
doctype_is (AnEnd n) d is = is
doctype_is (AChar c) d is = is
doctype_is (AComment text) d is = is
doctype_is (ADoctype e) d is = is
doctype_is AnEof d is = is

-- ---- what tree construction answers: the doctype, `html` and `head` by themselves, then as the plain trees have it

doctype : Token
doctype = ADoctype (doctype_named (codes "html"))

html_start : Page → Token
html_start page = AStart (codes "html") page.html false

head_start : Page → Token
head_start page = AStart (codes "head") page.head false

behind_doctype : Bool → WholeBuilding
behind_doctype scripting = record (start scripting) {
  tree = record empty_tree { nodes = node_of DocumentNode (1 ∷ []) ∷ leaf (DoctypeNode (doctype_named (codes "html"))) ∷ [] };
  mode = N.BeforeHtml;
  token = ADoctype (doctype_named (codes "html"));
}

behind_html : Bool → Page → WholeBuilding
behind_html scripting page = record (start scripting) {
  tree = record empty_tree {
    nodes = node_of DocumentNode (1 ∷ 2 ∷ []) ∷ leaf (DoctypeNode (doctype_named (codes "html"))) ∷ leaf (element (codes "html") page.html) ∷ [];
    stack = 2 ∷ [];
  };
  mode = N.BeforeHead;
  token = AStart (codes "html") page.html false;
  attrs = node_attrs page.html;
}

doctype_step : (scripting : Bool) → tree_step deep (start scripting) doctype ≡ Some (behind_doctype scripting)
unfolding doctype behind_doctype tree_step run rules taken perform
doctype_step scripting = refl

html_step : (scripting : Bool) (page : Page) → tree_step deep (behind_doctype scripting) (html_start page) ≡ Some (behind_html scripting page)
unfolding html_start behind_doctype behind_html tree_step run rules taken perform
html_step scripting page = refl

head_step : (scripting : Bool) (page : Page) → tree_step deep (behind_html scripting page) (head_start page) ≡ Some (head_new scripting page)
unfolding head_start behind_html head_new tree_step run rules taken perform
head_step scripting page = refl

says_start : (scripting : Bool) → Says (plain_feedback false) [] (start scripting)
says_start scripting = record { foreign = refl; switch = refl }

says_doctype : (scripting : Bool) → Says (plain_feedback false) (doctype ∷ []) (behind_doctype scripting)
unfolding doctype behind_doctype
says_doctype scripting = record { foreign = refl; switch = refl }

says_html : (scripting : Bool) (page : Page) → Says (plain_feedback false) (doctype ∷ html_start page ∷ []) (behind_html scripting page)
unfolding doctype html_start behind_html
says_html scripting page = record { foreign = refl; switch = refl }

says_head : (scripting : Bool) (page : Page) → Says (plain_feedback false) (doctype ∷ html_start page ∷ head_start page ∷ []) (head_new scripting page)
unfolding doctype html_start head_start head_new
says_head scripting page = record { foreign = refl; switch = refl }

old_front : (page : Page) → switched_steps old_start (tree_tokens (page_trees page) ++ AnEof ∷ []) ≡ switched_steps (head_old page) (rest_tokens page ++ AnEof ∷ [])
unfolding head_old rest_tokens old_step old_run old_rules old_taken act
old_front page = refl

all_tokens : (page : Page) → tree_tokens (page_trees page) ≡ doctype ∷ html_start page ∷ head_start page ∷ rest_tokens page
unfolding doctype html_start head_start rest_tokens
all_tokens page = refl

-- ---- tokens of a page

-- what stands behind the first three tokens
record Begun (page : Page) (ts : List Token) : Type 0 where
  rest : List Token
  is : ts ≡ doctype ∷ html_start page ∷ head_start page ∷ rest
  same : map unslashed rest ≡ rest_tokens page

head_of : {A : Type 0} {x y : A} {xs ys : List A} → x ∷ xs ≡ y ∷ ys → x ≡ y
head_of e = cc

tail_of : {A : Type 0} {x y : A} {xs ys : List A} → x ∷ xs ≡ y ∷ ys → xs ≡ ys
tail_of e = cc

begins : (page : Page) (ts : List Token) → map unslashed ts ≡ doctype ∷ html_start page ∷ head_start page ∷ rest_tokens page → Begun page ts
unfolding doctype html_start head_start void_names
begins page [] is = cc
begins page (a ∷ []) is = cc
begins page (a ∷ b ∷ []) is = cc
begins page (a ∷ b ∷ c ∷ ts) is =
    let first : a ≡ doctype = doctype_is a (doctype_named (codes "html")) (head_of is) in
    let second : b ≡ html_start page = start_is b (codes "html") page.html (head_of (tail_of is)) refl in
    let third : c ≡ head_start page = start_is c (codes "head") page.head (head_of (tail_of (tail_of is))) refl in
    record {
      rest = ts;
      is = ap (λ x. x ∷ b ∷ c ∷ ts) first ∙ ap (λ x. doctype ∷ x ∷ c ∷ ts) second ∙ ap (λ x. doctype ∷ html_start page ∷ x ∷ ts) third;
      same = tail_of (tail_of (tail_of is));
    }

map_last : (xs : List Token) → map unslashed (xs ++ AnEof ∷ []) ≡ map unslashed xs ++ AnEof ∷ []
map_last [] = refl
map_last (x ∷ xs) = ap (λ (ys : List Token). unslashed x ∷ ys) (map_last xs)

-- the partial rules come to the page
rest_steps : (page : Page) → IsPlainPage page → (rest : List Token) → map unslashed rest ≡ rest_tokens page → tree_of (switched_steps (head_old page) (rest ++ AnEof ∷ [])) ≡ Some (page_trees page)
rest_steps page h rest same =
    ap tree_of (steps_same (head_old page) (rest ++ AnEof ∷ []) ∙ ap (switched_steps (head_old page)) (map_last rest ∙ ap (λ (ts : List Token). ts ++ AnEof ∷ []) same))
    ∙ sym (ap tree_of (old_front page)) ∙ page_switched page h

rest_are_plain : (page : Page) → IsPlainPage page → (rest : List Token) → map unslashed rest ≡ rest_tokens page → ArePlain true (rest ++ AnEof ∷ [])
rest_are_plain page h rest same = plain_same true (rest ++ AnEof ∷ []) (subst (ArePlain true) (sym (map_last rest ∙ ap (λ (ts : List Token). ts ++ AnEof ∷ []) same)) (rest_plain page h))

answers : (scripting : Bool) (page : Page) → IsPlainPage page → (ts : List Token) → (b : Begun page ts) → Answers deep (start scripting) (plain_feedback false) [] (ts ++ AnEof ∷ [])
answers scripting page h ts b = subst (λ (us : List Token). Answers deep (start scripting) (plain_feedback false) [] (us ++ AnEof ∷ [])) (sym b.is)
    (answers_more deep (start scripting) (behind_doctype scripting) (plain_feedback false) [] doctype (html_start page ∷ head_start page ∷ rest) (doctype_step scripting) (says_start scripting)
    (answers_more deep (behind_doctype scripting) (behind_html scripting page) (plain_feedback false) (doctype ∷ []) (html_start page) (head_start page ∷ rest) (html_step scripting page) (says_doctype scripting)
    (answers_more deep (behind_html scripting page) (head_new scripting page) (plain_feedback false) (doctype ∷ html_start page ∷ []) (head_start page) rest (head_step scripting page) (says_html scripting page)
    (by_end (switched_steps (head_old page) rest) refl (rest_steps page h b.rest b.same)))))
  where
    rest : List Token
    rest = b.rest ++ AnEof ∷ []

    seen : List Token
    seen = doctype ∷ html_start page ∷ head_start page ∷ []

    by_end : (o : Option Building) → switched_steps (head_old page) rest ≡ o → tree_of o ≡ Some (page_trees page) → Answers deep (head_new scripting page) (plain_feedback false) seen rest
    by_end None is k = cc
    by_end (Some e) is k =
        answers_sound true None (λ p. refl) rest (rest_are_plain page h b.rest b.same) (AStart (codes "head") page.head false) seen (head_old page) e (head_new scripting page) (begun scripting page) (says_head scripting page) is

-- ---- the tree behind the last token

end_tree : (nodes : List Node) (document : Trees) (o : Open) (os : List Open) → Fits nodes document (o ∷ os) → trees_of (length nodes) nodes (node_at nodes 0).children ≡ whole (finished_from document o os)
end_tree nodes document o [] f =
    let last : Trees = element_node o.name o.attrs o.children no_trees in
    let ends : after 1 (joined document last) ≡ free document (o ∷ []) = after_joined 1 document last in
    let size : length nodes ≡ free document (o ∷ []) = f.1 in
    ap (λ (node : Node). trees_of (length nodes) nodes node.children) f.0.2.0 ∙ ap (trees_of (length nodes) nodes) (sym (roots_joined 1 document last))
    ∙ trees_are (length nodes) nodes 1 (joined document last) (omega arith)
    (at_joined nodes 1 document last f.0.2.1
    (f.0.0 ∙ ap (node_of (element o.name o.attrs)) (append-nil (roots (suc (free document [])) o.children)), f.0.1, tt))
end_tree nodes document o (p ∷ os) f = end_tree nodes document (holding p o) os (fits_popped nodes document o p os f)

with_mode : QuirksMode → WholeTrees → Document
with_mode quirks children = record { quirks = quirks; children = children }

page_end : (e : Building) (c : WholeBuilding) (trees : Trees) → Meets None AnEof e c → finished e ≡ trees → document_of c ≡ no_quirks (whole trees)
unfolding with_mode
page_end e c trees (lagging char l) h = cc
page_end e c trees (settled s) h = by_stack e.stack refl s.stands.parts.fits
  where
    finished_at : List Open → Trees
    finished_at os = elim os [ [] ↦ e.document | p ∷ ps ↦ finished_from e.document p ps ]

    by_stack : (os : List Open) → e.stack ≡ os → Fits c.tree.nodes e.document os → document_of c ≡ no_quirks (whole trees)
    by_stack [] is f = absurd f.3
    by_stack (o ∷ os) is f =
        ap (λ q. with_mode q (trees_of (length c.tree.nodes) c.tree.nodes (node_at c.tree.nodes 0).children)) s.stands.quirks
        ∙ ap (with_mode NoQuirks)
        (end_tree c.tree.nodes e.document o os f ∙ ap whole (sym (ap finished_at is) ∙ h))

-- the first three tokens
front_steps : (scripting : Bool) (page : Page) (rest : List Token) → tree_steps deep (start scripting) (doctype ∷ html_start page ∷ head_start page ∷ rest) ≡ tree_steps deep (head_new scripting page) rest
front_steps scripting page rest =
    ap (option_and_then (λ b. tree_steps deep b (html_start page ∷ head_start page ∷ rest))) (doctype_step scripting)
    ∙ ap (option_and_then (λ b. tree_steps deep b (head_start page ∷ rest))) (html_step scripting page) ∙ ap (option_and_then (λ b. tree_steps deep b rest)) (head_step scripting page)

built_so : (scripting : Bool) (page : Page) → IsPlainPage page → (ts : List Token) → (b : Begun page ts) → option_map document_of (tree_steps deep (start scripting) (ts ++ AnEof ∷ [])) ≡ Some (no_quirks (whole (page_trees page)))
built_so scripting page h ts b = by_end (switched_steps (head_old page) rest) refl (rest_steps page h b.rest b.same)
  where
    rest : List Token
    rest = b.rest ++ AnEof ∷ []

    by_end : (o : Option Building) → switched_steps (head_old page) rest ≡ o → tree_of o ≡ Some (page_trees page) → option_map document_of (tree_steps deep (start scripting) (ts ++ AnEof ∷ [])) ≡ Some (no_quirks (whole (page_trees page)))
    by_end None is k = cc
    by_end (Some e) is k =
        let r = steps_sound true None (λ p. refl) rest (rest_are_plain page h b.rest b.same) (AStart (codes "head") page.head false) (head_old page) e (head_new scripting page) (begun scripting page) (switched_are_steps (head_old page) e rest is) in
        let m : Meets None AnEof e r.0 = subst (λ t. Meets None t e r.0) (last_eof (AStart (codes "head") page.head false) b.rest) r.2 in
        ap (option_map document_of) (ap (λ (us : List Token). tree_steps deep (start scripting) (us ++ AnEof ∷ [])) b.is ∙ front_steps scripting page rest ∙ r.1)
        ∙ ap Some (page_end e r.0 (page_trees page) m (same_Some (finished e) (page_trees page) k))

-- ---- parsing

-- a text that is read as the tokens of a plain page, but for that flag, is parsed as that page
pub tokens_parsed : (scripting : Bool) (text : List ℕ) (page : Page) → IsPlainPage page → (ts : List Token) → map unslashed ts ≡ tree_tokens (page_trees page) → ReadsText (plain_feedback false) Data text (ts ++ AnEof ∷ []) →
    IsDocumentOf scripting text (no_quirks (whole (page_trees page)))
tokens_parsed scripting text page h ts same reads =
    let b : Begun page ts = begins page ts (same ∙ all_tokens page) in
    let all : List Token = ts ++ AnEof ∷ [] in
    let e : Ends deep (start scripting) all (parser (start_in Data) (normalized text) (start scripting)) = text_joined (plain_feedback false) deep (start scripting) Data text all reads (answers scripting page h ts b) in
    let p = end_of document_of (λ b. refl) deep (start scripting) all (no_quirks (whole (page_trees page))) (parser (start_in Data) (normalized text) (start scripting)) e (built_so scripting page h ts b) in
    (deep, p.0, p.1)
