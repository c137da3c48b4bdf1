-- Plain pages, from the first token to the last.
use Rattle.std.specs.Prelude.{◌≡◌, ◌⊎◌, refl, ℕ, suc, Bool, true, false, cond, not, ◌&&◌, ◌||◌, List, [], ◌∷◌, ◌++◌, Option, None, Some, bytes_eq, codes, length, map, option_map}
use Rattle.std.specs.List.{flat_map}
use Rattle.std.proofs.Common.{arith, inl, inr}
use Rattle.std.proofs.lemmas.Bool.{true≢false}
use Rattle.std.proofs.lemmas.List.{append-nil}
use Rattle.std.proofs.lemmas.Option.{same_Some}
use mathlib.Core.Path.{◌∙◌, sym, ap, subst}
use Rattle.standard_tokens.specs.Tokens.{Attr, Token, AChar, AStart, AnEnd, AnEof}
use Rattle.standard_rules.specs.Building.{Building, Open, act, finished, finished_from, holding, run as old_run, start as old_start, taken as old_taken, tree_of, tree_step as old_step, tree_steps as old_steps}
use Rattle.standard_rules.specs.PlainTrees.{Another, Class, FlowPlace, HeadPlace, IsPlainPage, Page, Within, admits, are_plain, class_among, class_of, classes, inside, names_of, outermost, page_trees, space_node}
use Rattle.standard_rules.specs.PlainTrees.{begins_text, may_be_text}
use Rattle.standard_rules.specs.RuleWords as O
use Rattle.standard_rules.specs.TreeRules.{rules as old_rules}
use Rattle.standard_rules.specs.TreeTokens.{Trees, comment_node, doctype_named, doctype_node, element_node, end_of, is_among, joined, no_trees, text_node, tokens, void_names}
use Rattle.standard_rules.proofs.PagesBuilt.{page_built as old_page_built}
use Rattle.standard_trees.specs.Building.{Building as WholeBuilding, NoQuirks, QuirksMode, perform, run, start, taken, tree_step, tree_steps}
use Rattle.standard_trees.specs.GrowingTree.{NoForm}
use Rattle.standard_trees.specs.Parsing.{Document, document_of}
use Rattle.standard_trees.specs.RuleWords as N
use Rattle.standard_trees.specs.TreeRules.{rules}
use Rattle.standard_trees.specs.TreeStore.{DoctypeNode, DocumentNode, Node, Trees as WholeTrees, leaf, node_at, trees_of}
use Rattle.standard_agreement.specs.PlainPages.{PlainPagesAreBuilt, built, no_quirks, node_attrs, whole}
use Rattle.standard_agreement.proofs.Preorder.{after, after_joined, at_joined, element, node_of, roots, roots_joined, trees_are}
use Rattle.standard_agreement.proofs.Store.{free}
use Rattle.standard_agreement.proofs.Stack.{Fits, fits_popped}
use Rattle.standard_agreement.proofs.Deciding.{both}
use Rattle.standard_agreement.proofs.Following.{Meets, lagging, settled}
use Rattle.standard_agreement.proofs.Stepping.{IsPlainToken, inner_known}
use Rattle.standard_agreement.proofs.Steps.{ArePlain, deep, last_token, steps_sound}

-- ---- the tokens of plain trees

pub plain_append : (page : Bool) (xs ys : List Token) → ArePlain page xs → ArePlain page ys → ArePlain page (xs ++ ys)
plain_append page [] ys a b = b
plain_append page (x ∷ xs) ys a b = (a.0, plain_append page xs ys a.1 b)

plain_chars : (page : Bool) (cs : List ℕ) → ArePlain page (map AChar cs)
plain_chars page [] = tt
plain_chars page (c ∷ cs) = (tt, plain_chars page cs)

either_among : (name : List ℕ) (xs ys : List (List ℕ)) → (is_among name xs ≡ true) ⊎ (is_among name ys ≡ true) → is_among name (xs ++ ys) ≡ true
either_among name [] ys (inl h) = cc
either_among name [] ys (inr h) = h
either_among name (x ∷ xs) ys h = by_first (bytes_eq name x) h (either_among name xs ys)
  where
    by_first : (a : Bool) → (a || is_among name xs ≡ true) ⊎ (is_among name ys ≡ true) → ((is_among name xs ≡ true) ⊎ (is_among name ys ≡ true) → is_among name (xs ++ ys) ≡ true) →
        a || is_among name (xs ++ ys) ≡ true
    by_first true k later = refl
    by_first false k later = later k

among_class : (name : List ℕ) (cs : List Class) → (class_among name cs ≡ Another) ⊎ (is_among name (flat_map names_of cs) ≡ true)
among_class name [] = inl refl
among_class name (c ∷ cs) = by_test (is_among name (names_of c)) refl (among_class name cs)
  where
    by_test : (x : Bool) → is_among name (names_of c) ≡ x → (class_among name cs ≡ Another) ⊎ (is_among name (flat_map names_of cs) ≡ true) →
        (cond x c (class_among name cs) ≡ Another) ⊎ (is_among name (names_of c ++ flat_map names_of cs) ≡ true)
    by_test true e later = inr (either_among name (names_of c) (flat_map names_of cs) (inl e))
    by_test false e (inl k) = inl k
    by_test false e (inr k) = inr (either_among name (names_of c) (flat_map names_of cs) (inr k))

admitted : (w : Within) (name : List ℕ) (children : Trees) → admits w (class_of name) children ≡ true → is_among name (flat_map names_of classes) ≡ true
admitted w name children h = by_class (among_class name classes)
  where
    by_class : (class_of name ≡ Another) ⊎ (is_among name (flat_map names_of classes) ≡ true) → is_among name (flat_map names_of classes) ≡ true
    by_class (inl e) = absurd (true≢false (sym (sym (ap (λ c. admits w c children) e) ∙ h)))
    by_class (inr k) = k

end_plain : (page : Bool) (name : List ℕ) → is_among name (flat_map names_of classes) ≡ true → IsPlainToken page (AnEnd name)
end_plain true name h = inner_known name h
end_plain false name h = h

start_plain : (page : Bool) (name : List ℕ) (attrs : List Attr) → is_among name (flat_map names_of classes) ≡ true → IsPlainToken page (AStart name attrs false)
start_plain page name attrs h = by_body (bytes_eq name (codes "body")) h
  where
    by_body : (x : Bool) → is_among name (flat_map names_of classes) ≡ true → x || is_among name (flat_map names_of classes) ≡ true
    by_body true k = refl
    by_body false k = k

plain_end : (page : Bool) (name : List ℕ) → IsPlainToken page (AnEnd name) → ArePlain page (end_of name)
plain_end page name h = by_void (is_among name void_names)
  where
    by_void : (x : Bool) → ArePlain page (cond x [] (AnEnd name ∷ []))
    by_void true = tt
    by_void false = (h, tt)

pub plain_tokens : (page : Bool) (w : Within) (t : Trees) → are_plain w t ≡ true → ArePlain page (tokens t)
plain_tokens page w no_trees h = tt
plain_tokens page w (text_node text later) h =
    plain_append page (map AChar text) (tokens later) (plain_chars page text)
    (plain_tokens page w later (both (may_be_text w.place text && not (begins_text later)) (are_plain w later) h).1)
plain_tokens page w (comment_node text later) h = (tt, plain_tokens page w later h)
plain_tokens page w (doctype_node name later) h = cc
plain_tokens page w (element_node name attrs children later) h =
    let parts = both (admits w (class_of name) children && are_plain (inside w (class_of name)) children) (are_plain w later) h in
    let first = both (admits w (class_of name) children) (are_plain (inside w (class_of name)) children) parts.0 in
    let among = admitted w name children first.0 in (
      start_plain page name attrs among,
      plain_append page (tokens children) (end_of name ++ tokens later) (plain_tokens page (inside w (class_of name)) children first.1)
          (plain_append page (end_of name) (tokens later) (plain_end page name (end_plain page name among)) (plain_tokens page w later parts.1)),
    )

-- ---- behind the last token

end_tree : (nodes : List Node) (document : Trees) (o : Open) (os : List Open) → Fits nodes document (o ∷ os) →
    trees_of (length nodes) nodes (node_at nodes 0).children ≡ whole (finished_from document o os)
end_tree nodes document o [] f =
    let last : Trees = element_node o.name o.attrs o.children no_trees in
    let ends : after 1 (joined document last) ≡ free document (o ∷ []) = after_joined 1 document last in
    let size : length nodes ≡ free document (o ∷ []) = f.1 in
    ap (λ (node : Node). trees_of (length nodes) nodes node.children) f.0.2.0 ∙ ap (trees_of (length nodes) nodes) (sym (roots_joined 1 document last))
    ∙ trees_are (length nodes) nodes 1 (joined document last) (omega arith)
    (at_joined nodes 1 document last f.0.2.1
    (f.0.0 ∙ ap (node_of (element o.name o.attrs)) (append-nil (roots (suc (free document [])) o.children)), f.0.1, tt))
end_tree nodes document o (p ∷ os) f = end_tree nodes document (holding p o) os (fits_popped nodes document o p os f)

-- ---- before the head's contents

unfoldable pub head_old : Page → Building
head_old page = record old_start {
  document = doctype_node (codes "html") no_trees;
  stack = record { number = 1; name = codes "head"; attrs = page.head; children = no_trees } ∷ record { number = 0; name = codes "html"; attrs = page.html; children = no_trees } ∷ [];
  mode = O.InHead;
  next = 2;
}

unfoldable pub head_new : Bool → Page → WholeBuilding
head_new scripting page = record {
  tree = record {
    nodes = node_of DocumentNode (1 ∷ 2 ∷ []) ∷ leaf (DoctypeNode (doctype_named (codes "html"))) ∷ node_of (element (codes "html") page.html) (3 ∷ []) ∷
        leaf (element (codes "head") page.head) ∷ [];
    stack = 3 ∷ 2 ∷ [];
    listed = [];
    head = Some 3;
    form = NoForm;
    found = None;
    fostering = false;
    context = None;
  };
  mode = N.InHead;
  original = N.Initial;
  template_modes = [];
  frameset_ok = true;
  scripting = scripting;
  quirks = NoQuirks;
  pending = [];
  skip = false;
  token = AStart (codes "head") page.head false;
  attrs = node_attrs page.head;
  tokenizer = None;
}

unfoldable pub rest_tokens : Page → List Token
rest_tokens page = ((tokens page.metadata ++ (end_of (codes "head") ++ tokens (space_node page.space (element_node (codes "body") page.body page.contents no_trees)))) ++ (end_of (codes "html") ++ []))

old_front : (page : Page) → old_steps old_start (tokens (page_trees page) ++ AnEof ∷ []) ≡ old_steps (head_old page) (rest_tokens page ++ AnEof ∷ [])
unfolding head_old rest_tokens old_step old_run old_rules old_taken act
old_front page = refl

new_front : (scripting : Bool) (page : Page) → tree_steps deep (start scripting) (tokens (page_trees page) ++ AnEof ∷ []) ≡ tree_steps deep (head_new scripting page) (rest_tokens page ++ AnEof ∷ [])
unfolding head_new rest_tokens tree_step run rules taken perform
new_front scripting page = refl

pub begun : (scripting : Bool) (page : Page) → Meets None (AStart (codes "head") page.head false) (head_old page) (head_new scripting page)
unfolding head_old head_new
begun scripting page = settled (record {
  stands = record {
    parts = record {
      fits = ((refl, tt, (refl, tt, (refl, (refl, tt)))), refl, (refl, (refl, tt)), refl);
      stack = refl;
      listed = tt;
      pointer = tt;
      below = (omega arith, (omega arith, tt));
      fostering = refl;
      around = refl;
    };
    context = tt;
    templates = refl;
    quirks = refl;
    skip = refl;
  };
  mode = refl;
  original = tt;
  later = refl;
  answer = refl;
})

pub rest_plain : (page : Page) → IsPlainPage page → ArePlain true (rest_tokens page ++ AnEof ∷ [])
unfolding rest_tokens
rest_plain page h =
    plain_append true (rest_tokens page) (AnEof ∷ [])
    (plain_append true (tokens page.metadata ++ (end_of (codes "head") ++ tokens (space_node page.space body))) (end_of (codes "html") ++ [])
    (plain_append true (tokens page.metadata) (end_of (codes "head") ++ tokens (space_node page.space body)) (plain_tokens true (outermost HeadPlace) page.metadata h.metadata)
    (refl, space_plain page.space)) (refl, tt)) (tt, tt)
  where
    body : Trees
    body = element_node (codes "body") page.body page.contents no_trees

    body_plain : ArePlain true (tokens body)
    body_plain = (refl, plain_append true (tokens page.contents) (end_of (codes "body") ++ []) (plain_tokens true (outermost FlowPlace) page.contents h.contents) (refl, tt))

    space_plain : (space : List ℕ) → ArePlain true (tokens (space_node space body))
    space_plain [] = body_plain
    space_plain (c ∷ space) = plain_append true (map AChar (c ∷ space)) (tokens body) (plain_chars true (c ∷ space)) body_plain

pub last_eof : (t : Token) (ts : List Token) → last_token t (ts ++ AnEof ∷ []) ≡ AnEof
last_eof t [] = refl
last_eof t (u ∷ us) = last_eof u us

with_mode : QuirksMode → WholeTrees → Document
with_mode quirks children = record { quirks = quirks; children = children }

page_end : (e : Building) (c : WholeBuilding) (trees : Trees) → Meets None AnEof e c → finished e ≡ trees → document_of c ≡ no_quirks (whole trees)
unfolding with_mode
page_end e c trees (lagging char l) h = cc
page_end e c trees (settled s) h = by_stack e.stack refl s.stands.parts.fits
  where
    finished_at : List Open → Trees
    finished_at os = elim os [ [] ↦ e.document | p ∷ ps ↦ finished_from e.document p ps ]

    by_stack : (os : List Open) → e.stack ≡ os → Fits c.tree.nodes e.document os → document_of c ≡ no_quirks (whole trees)
    by_stack [] is f = absurd f.3
    by_stack (o ∷ os) is f =
        ap (λ q. with_mode q (trees_of (length c.tree.nodes) c.tree.nodes (node_at c.tree.nodes 0).children)) s.stands.quirks
        ∙ ap (with_mode NoQuirks)
        (end_tree c.tree.nodes e.document o os f ∙ ap whole (sym (ap finished_at is) ∙ h))

-- at the depth that every step needs
pub built_deep : (scripting : Bool) (page : Page) → IsPlainPage page → built deep scripting page ≡ Some (no_quirks (whole (page_trees page)))
built_deep scripting page h = by_end (old_steps (head_old page) (rest_tokens page ++ AnEof ∷ [])) refl (sym (ap tree_of (old_front page)) ∙ old_page_built page h)
  where
    by_end : (o : Option Building) → old_steps (head_old page) (rest_tokens page ++ AnEof ∷ []) ≡ o → tree_of o ≡ Some (page_trees page) →
        built deep scripting page ≡ Some (no_quirks (whole (page_trees page)))
    by_end None is k = cc
    by_end (Some e) is k =
        let r = steps_sound true None (λ p. refl) (rest_tokens page ++ AnEof ∷ []) (rest_plain page h) (AStart (codes "head") page.head false) (head_old page) e (head_new scripting page) (begun scripting page) is in
        let m : Meets None AnEof e r.0 = subst (λ t. Meets None t e r.0) (last_eof (AStart (codes "head") page.head false) (rest_tokens page)) r.2 in
        ap (option_map document_of) (new_front scripting page ∙ r.1) ∙ ap Some (page_end e r.0 (page_trees page) m (same_Some (finished e) (page_trees page) k))

pub page_built : PlainPagesAreBuilt
page_built scripting page h = (deep, built_deep scripting page h)
