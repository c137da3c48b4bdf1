-- Whole pages, and fragments.
use Rattle.std.specs.Prelude.{◌≡◌, ℕ, suc, true, false, List, [], ◌∷◌, ◌++◌, map, Option, None, Some, codes, refl}
use Rattle.std.specs.List.{list_all}
use Rattle.std.specs.Option.{option_and_then}
use Rattle.std.proofs.lemmas.List.{append_assoc}
use mathlib.Core.Path.{◌∙◌, sym, ap, subst}
use Rattle.standard_rules.specs.Building.{Building, Open, act, built, built_fragment, children_from, children_of, fragment_start, in_found_mode, in_scope, is_space, mode_of, run, start, taken, tree_of, tree_step, with_stack}
use Rattle.standard_rules.specs.PlainTrees.{FlowPlace, HeadPlace, IsPlainPage, Page, are_plain, begins_text, flow_contexts, outermost, page_trees, space_node}
use Rattle.standard_rules.specs.RuleWords.{AfterAfterBody, AfterHead, InBody, InHead, Mode}
use Rattle.standard_rules.specs.TreeRules.{rules}
use Rattle.standard_tokens.specs.Tokens.{Token, AChar, ADoctype, AStart, AnEnd, AnEof}
use Rattle.standard_rules.specs.TreeTokens.{doctype_named, Trees, no_trees, doctype_node, element_node, is_among, joined, tokens, with_char}
use Rattle.standard_rules.proofs.ElementSteps.{less_numbers, more_numbers, no_and}
use Rattle.standard_rules.proofs.PlainBuilt.{plain_built}
use Rattle.standard_rules.proofs.RuleShapes.{RunsIn, with_one}
use Rattle.standard_rules.proofs.StackKeys.{InFlow, Outer, Ready, body, fits_below, key, keys, none, outer, pass}
use Rattle.standard_rules.proofs.TextSteps.{Built, fixed_text, step_in}
use Rattle.standard_rules.proofs.TreeLists.{Steps, each_space, switched_children, switched_steps, switched_tree, of_each, steps_on}

-- ---- pages

-- the element `html` with these children
root : Page → Trees → Open
root page children = record { number = 0; name = codes "html"; attrs = page.html; children = children }

head_open : Page → Trees → Open
head_open page children = record { number = 1; name = codes "head"; attrs = page.head; children = children }

body_open : Page → ℕ → Trees → Open
body_open page n children = record { number = n; name = codes "body"; attrs = page.body; children = children }

-- what stands before the body
before : Page → List ℕ → Trees
before page space = element_node (codes "head") page.head page.metadata (space_node space no_trees)

at_head : Building
at_head = record start { document = doctype_node (codes "html") no_trees; mode = InHead; next = 2 }

front : Page → List Token
front page = ADoctype (doctype_named (codes "html")) ∷ AStart (codes "html") page.html false ∷ AStart (codes "head") page.head false ∷ []

front_built : (page : Page) → Steps start (front page) (with_stack at_head (head_open page no_trees ∷ root page no_trees ∷ []))
unfolding tree_step run taken act in_scope rules front at_head root head_open
front_built page = refl

head_ends : (b : Building) (page : Page) (t : Trees) →
    Steps (with_stack (record b { mode = InHead; skip = false }) (head_open page t ∷ root page no_trees ∷ [])) (AnEnd (codes "head") ∷ [])
    (with_stack (record b { mode = AfterHead; skip = false }) (root page (element_node (codes "head") page.head t no_trees) ∷ []))
unfolding tree_step run taken act in_scope rules root head_open
head_ends b page t = refl

space_runs : (b : Building) (o : Open) (c : ℕ) → is_space c ≡ true → RunsIn AfterHead (AChar c) (with_stack b (o ∷ [])) (with_stack b (with_one o c ∷ []))
unfolding run rules taken act
space_runs b o c h = each_space (λ c. RunsIn AfterHead (AChar c) (with_stack b (o ∷ [])) (with_stack b (with_one o c ∷ []))) refl refl refl refl refl c h

space_built : (b : Building) (page : Page) (space : List ℕ) → list_all is_space space ≡ true →
    Steps (with_stack (record b { mode = AfterHead; skip = false }) (root page (before page []) ∷ [])) (map AChar space) (with_stack (record b { mode = AfterHead; skip = false }) (root page (before page space) ∷ []))
unfolding root before
space_built b page [] h = refl
space_built b page (c ∷ more) h =
    let d : Building = record b { mode = AfterHead; skip = false } in
    let o : Open = root page (before page []) in
    fixed_text d o [] is_space c more h refl
    (λ children e k. step_in (with_stack d (record o { children = children } ∷ [])) (with_stack d (record o { children = with_char children e } ∷ [])) (AChar e) AfterHead refl refl (space_runs d (record o { children = children }) e k))

in_body : Building → Building
in_body b = record b { mode = InBody; skip = false; frameset_ok = false; next = suc b.next }

body_begins : (b : Building) (page : Page) (t : Trees) →
    Steps (with_stack (record b { mode = AfterHead; skip = false }) (root page t ∷ [])) (AStart (codes "body") page.body false ∷ []) (with_stack (in_body b) (body_open page b.next no_trees ∷ root page t ∷ []))
unfolding tree_step run taken act in_scope rules root body_open in_body
body_begins b page t = refl

back : List Token
back = AnEnd (codes "body") ∷ AnEnd (codes "html") ∷ AnEof ∷ []

back_built : (b : Building) (page : Page) (n : ℕ) (t u : Trees) →
    Steps (with_stack (record b { mode = InBody; skip = false }) (body_open page n t ∷ root page u ∷ [])) back (with_stack (record b { mode = AfterAfterBody; skip = false }) (body_open page n t ∷ root page u ∷ []))
unfolding tree_step run taken act in_scope rules back body_open root
back_built b page n t u = refl

-- a state in that mode that drops no line feed
plain_state : (b : Building) (mode : Mode) → b.mode ≡ mode → b.skip ≡ false → record b { mode = mode; skip = false } ≡ b
plain_state b mode is skip = ap (λ m. record b { mode = m; skip = false }) (sym is) ∙ ap (λ s. record b { skip = s }) (sym skip)

-- the head's contents and its end tag
metadata_built : (page : Page) → are_plain (outermost HeadPlace) page.metadata ≡ true →
    (d : Building) × Steps (with_stack at_head (head_open page no_trees ∷ root page no_trees ∷ [])) (tokens page.metadata ++ AnEnd (codes "head") ∷ [])
    (with_stack (record d { mode = AfterHead; skip = false }) (root page (before page []) ∷ [])) × Ready d (key (root page no_trees) ∷ []) × (outer d ≡ outer at_head)
unfolding at_head root head_open before
metadata_built page h =
    let o : Open = head_open page no_trees in
    let os : List Open = root page no_trees ∷ [] in
    let m : Built at_head o os (tokens page.metadata) page.metadata = plain_built (outermost HeadPlace) page.metadata h at_head o os (no_and (begins_text page.metadata))
    (record { place = refl; bars = record { no_p = λ e. refl; no_a = λ e. refl; no_button = λ e. refl; no_form = λ e. refl } }) (record { skip = refl; fits = none; numbers = refl }) in
    let d : Building = m.after in
    let full : List Open = head_open page page.metadata ∷ os in
    let last : Building = with_stack (record d { mode = AfterHead; skip = false }) (root page (before page []) ∷ []) in
    let ends : Steps (with_stack d full) (AnEnd (codes "head") ∷ []) last =
    subst (λ (x : Building). Steps (with_stack x full) (AnEnd (codes "head") ∷ []) last) (plain_state d InHead (ap (λ (x : Outer). x.mode) m.kept) m.ready.skip) (head_ends d page page.metadata) in (
      d,
      steps_on (with_stack at_head (o ∷ os)) (with_stack d full) last (tokens page.metadata) (AnEnd (codes "head") ∷ []) m.steps ends,
      record { skip = m.ready.skip; fits = fits_below (refl, refl) m.ready.fits; numbers = less_numbers 1 d.next (codes "head") (key (root page no_trees) ∷ []) m.ready.numbers },
      m.kept,
    )

-- the body's contents and what follows
contents_built : (page : Page) (d : Building) (u : Trees) → are_plain (outermost FlowPlace) page.contents ≡ true → Ready d (key (root page no_trees) ∷ []) → outer d ≡ outer at_head →
    (e : Building) × Steps (with_stack (in_body d) (body_open page d.next no_trees ∷ root page u ∷ [])) (tokens page.contents ++ back)
    (with_stack (record e { mode = AfterAfterBody; skip = false }) (body_open page d.next page.contents ∷ root page u ∷ [])) × (e.document ≡ doctype_node (codes "html") no_trees)
unfolding at_head root body_open in_body
contents_built page d u h ready kept =
    let b : Building = in_body d in
    let o : Open = body_open page d.next no_trees in
    let p : Open = body_open page d.next page.contents in
    let os : List Open = root page u ∷ [] in
    let f : InFlow (outer b) (key o ∷ keys os) = record { flow = body; mode = refl; found = refl } in
    let m : Built b o os (tokens page.contents) page.contents = plain_built (outermost FlowPlace) page.contents h b o os (no_and (begins_text page.contents))
    (record { place = (f, refl); bars = record { no_p = λ e. refl; no_a = λ e. refl; no_button = λ e. refl; no_form = λ e. ap (λ (x : Outer). x.form) kept } })
    (record { skip = refl; fits = pass ready.fits; numbers = more_numbers d.next (codes "body") (key (root page no_trees) ∷ []) ready.numbers }) in
    let e : Building = m.after in
    let last : Building = with_stack (record e { mode = AfterAfterBody; skip = false }) (p ∷ os) in
    let ends : Steps (with_stack e (p ∷ os)) back last =
    subst (λ (x : Building). Steps (with_stack x (p ∷ os)) back last) (plain_state e InBody (ap (λ (x : Outer). x.mode) m.kept) m.ready.skip) (back_built e page d.next page.contents u) in
    (e, steps_on (with_stack b (o ∷ os)) (with_stack e (p ∷ os)) last (tokens page.contents) back m.steps ends, ap (λ (x : Outer). x.document) m.kept ∙ ap (λ (x : Outer). x.document) kept)

space_tokens : (space : List ℕ) (t : Trees) → tokens (space_node space t) ≡ map AChar space ++ tokens t
space_tokens [] t = refl
space_tokens (c ∷ space) t = refl

space_joined : (space : List ℕ) (t : Trees) → joined (space_node space no_trees) t ≡ space_node space t
space_joined [] t = refl
space_joined (c ∷ space) t = refl

regrouped : (m s c : List Token) (x y z u v : Token) → ((m ++ (x ∷ (s ++ (y ∷ (c ++ z ∷ []))))) ++ u ∷ []) ++ v ∷ [] ≡ (m ++ x ∷ []) ++ (s ++ (y ∷ (c ++ (z ∷ u ∷ v ∷ []))))
regrouped m s c x y z u v =
    let rest : List Token = s ++ (y ∷ (c ++ z ∷ [])) in
    append_assoc (m ++ (x ∷ rest)) (u ∷ []) (v ∷ []) ∙ append_assoc m (x ∷ rest) (u ∷ v ∷ [])
    ∙ ap (λ t. m ++ (x ∷ t)) (append_assoc s (y ∷ (c ++ z ∷ [])) (u ∷ v ∷ []) ∙ ap (λ t. s ++ (y ∷ t)) (append_assoc c (z ∷ []) (u ∷ v ∷ [])))
    ∙ sym (append_assoc m (x ∷ []) (s ++ (y ∷ (c ++ (z ∷ u ∷ v ∷ [])))))

-- the tokens of a page and the end of the file, in the order in which they are built
page_tokens : (page : Page) → tokens (page_trees page) ++ AnEof ∷ [] ≡
    front page ++ ((tokens page.metadata ++ AnEnd (codes "head") ∷ []) ++ (map AChar page.space ++ (AStart (codes "body") page.body false ∷ (tokens page.contents ++ back))))
unfolding front back
page_tokens page =
    ap (λ t. ADoctype (doctype_named (codes "html")) ∷ AStart (codes "html") page.html false ∷ AStart (codes "head") page.head false ∷ (((tokens page.metadata ++ (AnEnd (codes "head") ∷ t)) ++ AnEnd (codes "html") ∷ []) ++ AnEof ∷ []))
    (space_tokens page.space (element_node (codes "body") page.body page.contents no_trees))
    ∙ ap (λ t. ADoctype (doctype_named (codes "html")) ∷ AStart (codes "html") page.html false ∷ AStart (codes "head") page.head false ∷ t)
    (regrouped (tokens page.metadata) (map AChar page.space) (tokens page.contents) (AnEnd (codes "head")) (AStart (codes "body") page.body false) (AnEnd (codes "body")) (AnEnd (codes "html")) AnEof)

-- the document of a page of these tokens, in which each token whose name has a state switches the tokenizer
abbrev pub switched_page : List Token → Option Trees
switched_page page = tree_of (switched_steps start (page ++ AnEof ∷ []))

-- a plain page is built as it is written
pub page_switched : (page : Page) → IsPlainPage page → switched_page (tokens (page_trees page)) ≡ Some (page_trees page)
unfolding root before body_open
page_switched page h =
    let m : (d : Building) × Steps (with_stack at_head (head_open page no_trees ∷ root page no_trees ∷ [])) (tokens page.metadata ++ AnEnd (codes "head") ∷ [])
    (with_stack (record d { mode = AfterHead; skip = false }) (root page (before page []) ∷ [])) × Ready d (key (root page no_trees) ∷ []) × (outer d ≡ outer at_head) = metadata_built page h.metadata in
    let d : Building = m.0 in
    let u : Trees = before page page.space in
    let c : (e : Building) × Steps (with_stack (in_body d) (body_open page d.next no_trees ∷ root page u ∷ [])) (tokens page.contents ++ back)
    (with_stack (record e { mode = AfterAfterBody; skip = false }) (body_open page d.next page.contents ∷ root page u ∷ [])) × (e.document ≡ doctype_node (codes "html") no_trees) =
    contents_built page d u h.contents m.2 m.3 in
    let last : Building = with_stack (record c.0 { mode = AfterAfterBody; skip = false }) (body_open page d.next page.contents ∷ root page u ∷ []) in
    let s0 : Building = with_stack at_head (head_open page no_trees ∷ root page no_trees ∷ []) in
    let s1 : Building = with_stack (record d { mode = AfterHead; skip = false }) (root page (before page []) ∷ []) in
    let s2 : Building = with_stack (record d { mode = AfterHead; skip = false }) (root page u ∷ []) in
    let s3 : Building = with_stack (in_body d) (body_open page d.next no_trees ∷ root page u ∷ []) in
    let ys : List Token = AStart (codes "body") page.body false ∷ (tokens page.contents ++ back) in
    let zs : List Token = map AChar page.space ++ ys in
    let whole : Steps start (front page ++ ((tokens page.metadata ++ AnEnd (codes "head") ∷ []) ++ zs)) last =
    steps_on start s0 last (front page) ((tokens page.metadata ++ AnEnd (codes "head") ∷ []) ++ zs) (front_built page)
    (steps_on s0 s1 last (tokens page.metadata ++ AnEnd (codes "head") ∷ []) zs m.1
    (steps_on s1 s2 last (map AChar page.space) ys (space_built d page page.space h.space)
    (steps_on s2 s3 last (AStart (codes "body") page.body false ∷ []) (tokens page.contents ++ back) (body_begins d page u) c.1))) in
    ap (λ xs. tree_of (switched_steps start xs)) (page_tokens page) ∙ ap tree_of whole
    ∙ ap (λ t. Some (joined t (element_node (codes "html") page.html (joined u (element_node (codes "body") page.body page.contents no_trees)) no_trees))) c.2
    ∙ ap (λ t. Some (doctype_node (codes "html") (element_node (codes "html") page.html (element_node (codes "head") page.head page.metadata t) no_trees)))
    (space_joined page.space (element_node (codes "body") page.body page.contents no_trees))

pub page_built : (page : Page) → IsPlainPage page → built (tokens (page_trees page)) ≡ Some (page_trees page)
page_built page h = switched_tree start (tokens (page_trees page) ++ AnEof ∷ []) (page_trees page) (page_switched page h)

-- ---- fragments

abbrev pub html_only : Open
html_only = record { number = 0; name = codes "html"; attrs = []; children = no_trees }

abbrev pub in_context : List ℕ → Building
in_context context = record start { stack = html_only ∷ []; mode = InBody; next = 1; context = Some context }

eof_built : (b : Building) (os : List Open) → Steps (with_stack (record b { mode = InBody; skip = false }) os) (AnEof ∷ []) (with_stack (record b { mode = InBody; skip = false }) os)
unfolding tree_step run taken act rules
eof_built b os = refl

-- behind the end of the file the lowest element has the trees as its children
pub record FragmentBuilt (context : List ℕ) (t : Trees) : Type 0 where
  pub after : Building
  pub steps : Steps (in_context context) (tokens t ++ AnEof ∷ []) after
  pub stack : after.stack ≡ record html_only { children = t } ∷ []
  pub document : after.document ≡ no_trees

body_context : (context : List ℕ) → is_among context flow_contexts ≡ true → mode_of (Some context) (codes "html" ∷ []) ≡ Some InBody
body_context = of_each (λ c. mode_of (Some c) (codes "html" ∷ []) ≡ Some InBody) flow_contexts (refl, (refl, (refl, (refl, (refl, tt)))))

-- plain trees are built as a fragment where the mode is reset to "in body"
pub fragment_steps : (context : List ℕ) → is_among context flow_contexts ≡ true → (t : Trees) → are_plain (outermost FlowPlace) t ≡ true → FragmentBuilt context t
fragment_steps context among t h =
    let b : Building = in_context context in
    let p : Open = record html_only { children = t } in
    let f : InFlow (outer b) (key html_only ∷ []) = record { flow = body; mode = refl; found = body_context context among } in
    let m : Built b html_only [] (tokens t) t = plain_built (outermost FlowPlace) t h b html_only [] (no_and (begins_text t))
    (record { place = (f, refl); bars = record { no_p = λ e. refl; no_a = λ e. refl; no_button = λ e. refl; no_form = λ e. refl } }) (record { skip = refl; fits = none; numbers = refl }) in
    let d : Building = m.after in
    let e : Building = with_stack (record d { mode = InBody; skip = false }) (p ∷ []) in
    let ends : Steps (with_stack d (p ∷ [])) (AnEof ∷ []) e =
    subst (λ (x : Building). Steps (with_stack x (p ∷ [])) (AnEof ∷ []) e) (plain_state d InBody (ap (λ (x : Outer). x.mode) m.kept) m.ready.skip) (eof_built d (p ∷ [])) in
    record { after = e; steps = steps_on b (with_stack d (p ∷ [])) e (tokens t) (AnEof ∷ []) m.steps ends; stack = refl; document = ap (λ (x : Outer). x.document) m.kept }

pub fragment_begins : (context : List ℕ) → is_among context flow_contexts ≡ true → fragment_start context ≡ Some (in_context context)
fragment_begins context among =
    ap (in_found_mode (record start { stack = html_only ∷ []; next = 1; context = Some context })) (body_context context among)

-- the nodes of a fragment of these tokens, in which each token whose name has a state switches the tokenizer
abbrev pub switched_fragment : List ℕ → List Token → Option Trees
switched_fragment context fragment = children_of (option_and_then (λ b. switched_steps b (fragment ++ AnEof ∷ [])) (fragment_start context))

nodes_built : (e : Building) (t : Trees) → e.stack ≡ record html_only { children = t } ∷ [] → children_of (Some e) ≡ Some t
nodes_built e t is = ap (λ os. elim os [ [] ↦ None | o ∷ os ↦ Some (children_from o os) ]) is

pub fragment_switched : (context : List ℕ) (t : Trees) → is_among context flow_contexts ≡ true → are_plain (outermost FlowPlace) t ≡ true → switched_fragment context (tokens t) ≡ Some t
fragment_switched context t among h =
    let m : FragmentBuilt context t = fragment_steps context among t h in
    ap (λ o. children_of (option_and_then (λ b. switched_steps b (tokens t ++ AnEof ∷ [])) o)) (fragment_begins context among) ∙ ap children_of m.steps ∙ nodes_built m.after t m.stack

pub fragment_built : (context : List ℕ) (t : Trees) → is_among context flow_contexts ≡ true → are_plain (outermost FlowPlace) t ≡ true → built_fragment context (tokens t) ≡ Some t
fragment_built context t h plain = switched_children (fragment_start context) (tokens t ++ AnEof ∷ []) t (fragment_switched context t h plain)
