-- A calm page is spelled as its document, and so it is parsed as that document.
use Rattle.std.specs.Prelude.{◌≡◌, ◌≢◌, ◌<◌, ◌≤◌, ◌⊎◌, ℕ, Bool, true, false, not, ◌==◌, ◌&&◌, ◌||◌, List, [], ◌∷◌, ◌++◌, None, Some, bytes_eq, codes, flat_map, refl, if◌then◌else◌}
use Rattle.std.specs.List.{list_all}
use Rattle.std.specs.Str.{IsUtf8, chars}
use Rattle.std.specs.Cmp.Derive.{both_true}
use Rattle.std.proofs.Common.{arith, inl, inr}
use Rattle.std.proofs.lemmas.Bool.{and_parts, or_cases, true≢false}
use Rattle.std.proofs.lemmas.List.{append-nil, append_assoc}
use Rattle.std.proofs.lemmas.Slice.Eq.{bytes_eq-Decides}
use Rattle.std.proofs.lemmas.Str.{chars-nil}
use mathlib.Core.Path.{◌∙◌, sym, ap, subst}
use Rattle.dom_nodes.specs.Words.{is_among}
use Rattle.dom_markup.specs.Bytes.{is_letter}
use Rattle.dom_markup.specs.Markup.{Item, SpellsItemsUpTo, end_tag, items_of}
use Rattle.dom_markup.specs.Names.{markup, raw_names, text_names, void_names}
use Rattle.dom_markup.specs.Plain.{IsPlainTrees}
use Rattle.dom_markup.specs.ValueTrees.{Attribute, ValueTrees}
use Rattle.dom_markup.specs.ValueTrees.ValueTrees.{no_trees, text_node, comment_node, doctype_node, element_node}
use Rattle.dom_markup.proofs.grammar.Doctypes.{doctype_same}
use Rattle.dom_markup.proofs.plain.PlainRead.{read_plain}
use Rattle.dom_markup.proofs.plain.PlainUtf8.{read_utf8}
use Rattle.calm_pages.proofs.FramedPages.{Opens, all_by_letters, all_letters, doctype_begins, letter_name, opens, some_name}
use Rattle.calm_pages.specs.Calm.{IsCalmDocument, IsCalmPage, admits, are_calm, bars, behind, behind_text, has_close, inside, may_hold_comment, may_hold_text, top}
use Rattle.calm_pages.specs.declared.nesting.Scope.{Scope}
use Rattle.page_trees.specs.ElementKinds.{holds_comments, kind_among, kind_of, may_hold, named_kinds, names_of}
use Rattle.page_trees.specs.Framed.{IsFramed}
use Rattle.page_trees.specs.declared.element_kinds.ElementCategory.{ElementCategory}
use Rattle.page_trees.specs.declared.element_kinds.ElementCategory.TheVariants.{Body, Head, Html, Other, Verbatim}
use Rattle.standard_tokens.specs.PlainMarkup.{Rawtext, Rcdata, Script}
use Rattle.standard_tokens.specs.Reading.{is_switching}
use Rattle.standard_tokens.specs.Tokens.{Token, ADoctype}
use Rattle.standard_trees.specs.Laws.{DocumentsAreParsedOneWay}
use Rattle.standard_laws.specs.CalmTrees.{have_no_null}
use Rattle.standard_laws.specs.SpelledMarkup.{SpelledDoctype, is_spelled_char, is_spelled_name, lowered}
use Rattle.standard_laws.specs.SpelledPages.{DoctypeOf, are_spelled, has_no_return, written}
use Rattle.standard_laws.specs.SpelledParsing.{CalmPagesAreSpelled, EachCalmPageIsParsed, IsSpelledOf}
use Rattle.standard_laws.specs.TreeTokens.{doctype_of, tokens_in}
use Rattle.standard_laws.proofs.ByteChars.{Past, PastAll, all_chars_by, past, past_all}
use Rattle.standard_laws.proofs.CalmChars.{calm_behind}
use Rattle.standard_laws.proofs.CalmDocuments.{body_kind, calm_parts, head_kind, html_kind}
use Rattle.standard_laws.proofs.CalmItems.{IsFine, IsReadAs, IsShut, OwnName, Spelt, spelt_both, spelt_none, spelt_one}
use Rattle.standard_laws.proofs.CalmPlain.{inner_behind}
use Rattle.standard_laws.proofs.CalmReadable.{AreUtf8, whole}
use Rattle.standard_laws.proofs.CalmSpelled.{AreFine, Gone, Outer, element_gone, text_gone_on, trees_gone}
use Rattle.standard_laws.proofs.CalmTags.{IsCalm, calm_is, calm_past, letter_low, small_name}
use Rattle.standard_laws.proofs.CalmTokens.{body_name, head_name, held, html_name, inner_inside, known_name}
use Rattle.standard_laws.proofs.CategoryPlaces.{is_inner}
use Rattle.standard_laws.proofs.Kept.{calm_kept, is_kept}
use Rattle.standard_laws.proofs.NameChars.{of_each}
use Rattle.standard_laws.proofs.SpelledParsed.{documents_parsed}
use Rattle.standard_laws.proofs.Utf8Pieces.{document_bare}

-- ---- names

abbrev own_names : List (List ℕ)
own_names = codes "script" ∷ codes "style" ∷ codes "title" ∷ []

-- one of three names, or one without a state of its own
abbrev is_fine_name : List ℕ → Bool
is_fine_name name = is_among name own_names || (not (is_among name raw_names) && (not (is_among name text_names) && not (is_switching name)))

fine_names : list_all is_fine_name (flat_map names_of named_kinds) ≡ true
unfolding names_of raw_names text_names
fine_names = refl

among_both : (name : List ℕ) (xs ys : List (List ℕ)) → (is_among name xs ≡ true) ⊎ (is_among name ys ≡ true) → is_among name (xs ++ ys) ≡ true
among_both name [] ys (inl h) = absurd (true≢false (sym h))
among_both name [] ys (inr h) = h
among_both name (x ∷ xs) ys h = by_first (bytes_eq x name) h (among_both name xs ys)
  where
    by_first : (a : Bool) → (a || is_among name xs ≡ true) ⊎ (is_among name ys ≡ true) → ((is_among name xs ≡ true) ⊎ (is_among name ys ≡ true) → is_among name (xs ++ ys) ≡ true) →
        a || is_among name (xs ++ ys) ≡ true
    by_first true k later = refl
    by_first false k later = later k

pub among_kinds : (name : List ℕ) (kinds : List ElementCategory) → kind_among name kinds ≢ Other → is_among name (flat_map names_of kinds) ≡ true
among_kinds name [] h = absurd (h refl)
among_kinds name (kind ∷ kinds) h = by_test (is_among name (names_of kind)) refl h (among_kinds name kinds)
  where
    by_test : (x : Bool) → is_among name (names_of kind) ≡ x → (if x then kind else kind_among name kinds) ≢ Other → (kind_among name kinds ≢ Other → is_among name (flat_map names_of kinds) ≡ true) →
        is_among name (names_of kind ++ flat_map names_of kinds) ≡ true
    by_test true e k later = among_both name (names_of kind) (flat_map names_of kinds) (inl e)
    by_test false e k later = among_both name (names_of kind) (flat_map names_of kinds) (inr (later k))

name_fine : (name : List ℕ) → kind_of name ≢ Other → is_fine_name name ≡ true
unfolding kind_of
name_fine name h = of_each is_fine_name name (flat_map names_of named_kinds) fine_names (among_kinds name named_kinds h)

-- the three names
script_own : OwnName (codes "script")
unfolding raw_names text_names void_names
script_own = record { kind = Script; mode = refl; switch = refl; letters = refl; some = λ e. cc; unvoid = refl }

style_own : OwnName (codes "style")
unfolding raw_names text_names void_names
style_own = record { kind = Rawtext; mode = refl; switch = refl; letters = refl; some = λ e. cc; unvoid = refl }

title_own : OwnName (codes "title")
unfolding raw_names text_names void_names
title_own = record { kind = Rcdata; mode = refl; switch = refl; letters = refl; some = λ e. cc; unvoid = refl }

verbatim_kinds : (kind_of (codes "script") ≡ Verbatim) × (kind_of (codes "style") ≡ Verbatim) × (kind_of (codes "title") ≡ Verbatim)
unfolding kind_of names_of
verbatim_kinds = (refl, refl, refl)

shut_in : (scope : Scope) (children : ValueTrees) → scope.parent ≡ Verbatim → are_calm scope children ≡ true → IsShut children
shut_in scope no_trees is c = tt
shut_in scope (text_node contents later) is c =
    from_not (has_close contents) (subst (λ (k : ElementCategory). may_hold_text k contents ≡ true) is (and_parts (may_hold_text scope.parent contents) (are_calm (behind scope) later) c).0)
  where
    from_not : (x : Bool) → not x ≡ true → x ≡ false
    from_not true k = absurd (true≢false (sym k))
    from_not false k = refl
shut_in scope (comment_node contents later) is c = tt
shut_in scope (doctype_node name public system later) is c = tt
shut_in scope (element_node name attributes children later) is c = tt

own_read : (scope : Scope) (name other : List ℕ) (children : ValueTrees) → other ≡ name → OwnName other → kind_of other ≡ Verbatim → are_calm (inside scope (kind_of name)) children ≡ true → IsReadAs name children
own_read scope name other children same own kind c =
    let is : kind_of name ≡ Verbatim = ap kind_of (sym same) ∙ kind in
    inr (subst OwnName same own, shut_in (inside scope Verbatim) children refl (subst (λ (k : ElementCategory). are_calm (inside scope k) children ≡ true) is c))

not_true : (x : Bool) → not x ≡ true → x ≡ false
not_true true k = absurd (true≢false (sym k))
not_true false k = refl

fine_read : (scope : Scope) (name : List ℕ) (children : ValueTrees) → is_fine_name name ≡ true → are_calm (inside scope (kind_of name)) children ≡ true → IsReadAs name children
fine_read scope name children fine c = elim (or_cases (is_among name own_names) _ fine) [
  | inr other ↦
      (let a = and_parts (not (is_among name raw_names)) (not (is_among name text_names) && not (is_switching name)) other in
      let b = and_parts (not (is_among name text_names)) (not (is_switching name)) a.1 in
      inl (rw (not_true _ a.0, not_true _ b.0) refl, not_true _ b.1))
  | inl own ↦
      elim (or_cases (bytes_eq (codes "script") name) _ own) [
        | inl script ↦ own_read scope name (codes "script") children ((bytes_eq-Decides (codes "script") name).0 script) script_own verbatim_kinds.0 c
        | inr more ↦
            elim (or_cases (bytes_eq (codes "style") name) _ more) [
              | inl style ↦ own_read scope name (codes "style") children ((bytes_eq-Decides (codes "style") name).0 style) style_own verbatim_kinds.1 c
              | inr last ↦
                  elim (or_cases (bytes_eq (codes "title") name) false last) [
                    | inl title ↦ own_read scope name (codes "title") children ((bytes_eq-Decides (codes "title") name).0 title) title_own verbatim_kinds.2 c
                    | inr none ↦ absurd (true≢false (sym none))
                  ]
            ]
      ]
]

-- ---- trees

fine_trees : (scope : Scope) (t : ValueTrees) → is_inner scope.parent ≡ true → IsPlainTrees false t → are_calm scope t ≡ true → AreFine t
fine_trees scope no_trees i p c = tt
fine_trees scope (text_node contents later) i p c =
    fine_trees (behind scope) later (inner_behind scope.parent i) p.3 (and_parts (may_hold_text scope.parent contents) (are_calm (behind scope) later) c).1
fine_trees scope (comment_node contents later) i p c =
    let calm : (may_hold_comment scope.parent contents ≡ true) × (are_calm (behind scope) later ≡ true) = and_parts (may_hold_comment scope.parent contents) (are_calm (behind scope) later) c in
    ((and_parts (holds_comments scope.parent) (list_all (λ b. not (b == 62)) contents) calm.0).1, fine_trees (behind scope) later (inner_behind scope.parent i) p.1 calm.1)
fine_trees scope (doctype_node name public system later) i p c = true≢false (sym p.0)
fine_trees scope (element_node name attributes children later) i p c =
    let kind : ElementCategory = kind_of name in
    let g : ((admits scope kind && are_calm (inside scope kind) children) ≡ true) × (are_calm (behind scope) later ≡ true) = and_parts (admits scope kind && are_calm (inside scope kind) children) (are_calm (behind scope) later) c in
    let k : (admits scope kind ≡ true) × (are_calm (inside scope kind) children ≡ true) = and_parts (admits scope kind) (are_calm (inside scope kind) children) g.0 in
    let may : may_hold scope.parent kind ≡ true = (and_parts (may_hold scope.parent kind) (not (bars scope kind)) k.0).0 in
    let other : kind_of name ≢ Other = held scope.parent kind i may in (
      record { ascii = (known_name name other).ascii; read = fine_read scope name children (name_fine name other) k.1 },
      fine_trees (inside scope kind) children (inner_inside scope kind i may) p.5 k.1,
      fine_trees (behind scope) later (inner_behind scope.parent i) p.6 g.1,
    )

-- ---- the root

html_fine : (children : ValueTrees) → IsFine (codes "html") children
unfolding raw_names text_names
html_fine children = record { ascii = html_name.ascii; read = inl (refl, refl) }

head_fine : (children : ValueTrees) → IsFine (codes "head") children
unfolding raw_names text_names
head_fine children = record { ascii = head_name.ascii; read = inl (refl, refl) }

body_fine : (children : ValueTrees) → IsFine (codes "body") children
unfolding raw_names text_names
body_fine children = record { ascii = body_name.ascii; read = inl (refl, refl) }

nothing_later : (left : List Item) (last : List ℕ) → Outer no_trees left last
nothing_later left last text calm spelled = record { rest = text; items = spelled; spelt = spelt_none text calm; clean = refl; utf8 = tt }

body_gone : (attributes : List Attribute) (body : ValueTrees) → are_calm (inside top Html) (element_node (codes "body") attributes body no_trees) ≡ true →
    IsPlainTrees false (element_node (codes "body") attributes body no_trees) → (left : List Item) (last : List ℕ) → Outer (element_node (codes "body") attributes body no_trees) left last
body_gone attributes body c p left last text calm spelled =
    let inner : are_calm (inside (inside top Html) Body) body ≡ true = (calm_parts (inside top Html) (codes "body") Body attributes body no_trees body_kind c).0 in
    let fine : AreFine body = fine_trees (inside (inside top Html) Body) body refl p.5 inner in
    element_gone (codes "body") attributes body no_trees text left last (body_fine body) p.3 p.4 p.5 (λ rest more k s. trees_gone body fine p.5 rest (end_tag (codes "body")) more last k s) (nothing_later left last) calm spelled

rest_gone : (space : List ℕ) (attributes : List Attribute) (body : ValueTrees) → are_calm (inside top Html) (behind_text space (element_node (codes "body") attributes body no_trees)) ≡ true →
    IsPlainTrees false (behind_text space (element_node (codes "body") attributes body no_trees)) → (item : Item) (left : List Item) (last : List ℕ) →
    Outer (behind_text space (element_node (codes "body") attributes body no_trees)) (item ∷ left) last
rest_gone [] attributes body c p item left last text calm spelled = body_gone attributes body c p (item ∷ left) last text calm spelled
rest_gone (b ∷ space) attributes body c p item left last text calm spelled =
    let e : ValueTrees = element_node (codes "body") attributes body no_trees in
    let inner : are_calm (inside top Html) e ≡ true = (and_parts (may_hold_text Html (b ∷ space)) (are_calm (inside top Html) e) c).1 in
    text_gone_on (b ∷ space) e text item left last (body_gone attributes body inner p.3 (item ∷ left) last) calm spelled

abbrev root : (html head_attributes body_attributes : List Attribute) (head : ValueTrees) (space : List ℕ) (body : ValueTrees) → ValueTrees
root html head_attributes body_attributes head space body = element_node (codes "html") html
    (element_node (codes "head") head_attributes head (behind_text space (element_node (codes "body") body_attributes body no_trees))) no_trees

root_gone : (html head_attributes body_attributes : List Attribute) (head : ValueTrees) (space : List ℕ) (body : ValueTrees) → are_calm top (root html head_attributes body_attributes head space body) ≡ true →
    IsPlainTrees true (root html head_attributes body_attributes head space body) → (last : List ℕ) → Outer (root html head_attributes body_attributes head space body) [] last
root_gone html head_attributes body_attributes head space body c p last text calm spelled =
    let rest : ValueTrees = behind_text space (element_node (codes "body") body_attributes body no_trees) in
    let inner : ValueTrees = element_node (codes "head") head_attributes head rest in
    let outer : (are_calm (inside top Html) inner ≡ true) × (are_calm top no_trees ≡ true) = calm_parts top (codes "html") Html html inner no_trees html_kind c in
    let parts : (are_calm (inside (inside top Html) Head) head ≡ true) × (are_calm (inside top Html) rest ≡ true) = calm_parts (inside top Html) (codes "head") Head head_attributes head rest head_kind outer.0 in
    let fine : AreFine head = fine_trees (inside (inside top Html) Head) head refl p.5.5 parts.0 in
    element_gone (codes "html") html inner no_trees text [] last (html_fine inner) p.3 p.4 p.5
    (λ after left k s.
    element_gone (codes "head") head_attributes head rest after (end_tag (codes "html") ∷ left) last (head_fine head) p.5.3 p.5.4 p.5.5
    (λ t more d z. trees_gone head fine p.5.5 t (end_tag (codes "head")) more last d z)
    (rest_gone space body_attributes body parts.1 p.5.6 (end_tag (codes "html")) left last) k s)
    (nothing_later [] last) calm spelled

-- ---- the doctype

letter_spelled : (b : ℕ) → is_letter b ≡ true → is_spelled_char b ≡ true
letter_spelled b h = small_name b (letter_low b h) (letter_name b h)

name_of_letters : (xs : List ℕ) → xs ≢ [] → list_all is_letter xs ≡ true → is_spelled_name xs ≡ true
name_of_letters [] some h = absurd (some refl)
name_of_letters (x ∷ xs) some h = all_by_letters is_spelled_char letter_spelled (x ∷ xs) h

doctype_spelt : (page : List ℕ) (o : Opens page) → IsCalm page → Spelt page o.rest (doctype_of (codes "html") ∷ [])
doctype_spelt page o calm =
    let named : List ℕ = o.name ++ (62 ∷ o.rest) in
    let worded : List ℕ = o.word ++ (32 ∷ named) in
    let a : IsCalm (60 ∷ 33 ∷ worded) = calm_is page (60 ∷ 33 ∷ worded) o.is calm in
    let p : Past 60 (33 ∷ worded) = past 60 (33 ∷ worded) (omega arith) a.utf8 in
    let b : IsCalm (33 ∷ worded) = calm_past 60 (33 ∷ worded) (omega arith) a in
    let q : Past 33 worded = past 33 worded (omega arith) b.utf8 in
    let c : IsCalm worded = calm_past 33 worded (omega arith) b in
    let word_letters : list_all is_letter o.word ≡ true = all_letters o.word (ap (list_all is_letter) o.is_word) in
    let name_letters : list_all is_letter o.name ≡ true = all_letters o.name (ap (list_all is_letter) o.is_name) in
    let w : PastAll o.word (32 ∷ named) = past_all is_letter letter_low o.word (32 ∷ named) word_letters c.utf8 in
    let d : IsCalm (32 ∷ named) = record { utf8 = w.utf8; calm = calm_behind o.word (32 ∷ named) c.calm } in
    let r : Past 32 named = past 32 named (omega arith) d.utf8 in
    let e : IsCalm named = calm_past 32 named (omega arith) d in
    let n : PastAll o.name (62 ∷ o.rest) = past_all is_letter letter_low o.name (62 ∷ o.rest) name_letters e.utf8 in
    let f : IsCalm (62 ∷ o.rest) = record { utf8 = n.utf8; calm = calm_behind o.name (62 ∷ o.rest) e.calm } in
    let s : Past 62 o.rest = past 62 o.rest (omega arith) f.utf8 in
    let doctype : SpelledDoctype = record { word = o.word; gap = 32; space = []; name = o.name; close = [] } in
    spelt_one page o.rest (DoctypeOf doctype) (doctype_of (codes "html") ∷ [])
    (ap chars o.is ∙ p.chars ∙ ap (λ (cs : List ℕ). 60 ∷ cs) (q.chars
    ∙ ap (λ (cs : List ℕ). 33 ∷ cs) (w.chars ∙ ap (λ (cs : List ℕ). o.word ++ cs) (r.chars ∙ ap (λ (cs : List ℕ). 32 ∷ cs) (n.chars ∙ ap (λ (cs : List ℕ). o.name ++ cs) s.chars ∙ sym (append_assoc o.name (62 ∷ []) (chars o.rest))))
    ∙ sym (append_assoc o.word (32 ∷ (o.name ++ 62 ∷ [])) (chars o.rest)))))
    (both_true ((bytes_eq-Decides (lowered o.word) (codes "doctype")).1 o.is_word) (both_true refl (both_true (name_of_letters o.name (some_name o.name 104 (codes "tml") o.is_name) name_letters) refl)))
    (λ seen. tt) (ap (λ (m : List ℕ). doctype_of_chars m ∷ []) (o.is_name ∙ sym html_name.ascii)) (calm_past 62 o.rest (omega arith) f)
  where
    doctype_of_chars : List ℕ → Token
    doctype_of_chars m = ADoctype (record { name = Some m; public_id = None; system_id = None; force_quirks = false })

-- ---- pages

-- a calm document that is plain is spelled by its page, and no text in it holds U+0000
pub record CalmSpelled (text : List ℕ) (trees : ValueTrees) : Type 0 where
  pub spelled : IsSpelledOf (chars text) trees
  pub clean : have_no_null trees ≡ true
  pub utf8 : AreUtf8 trees

kept_return : (c : ℕ) → c < 128 → is_kept c ≡ true → not (c == 13) ≡ true
kept_return c low h = grind arith

high_return : (c : ℕ) → 128 ≤ c → not (c == 13) ≡ true
high_return c high = grind arith

no_return : (text : List ℕ) → IsCalm text → has_no_return (chars text) ≡ true
no_return text calm = all_chars_by is_kept (λ c. not (c == 13)) kept_return high_return text calm.utf8 (calm_kept text calm.calm)

whole_spelled : (html head_attributes body_attributes : List Attribute) (head : ValueTrees) (space : List ℕ) (body : ValueTrees) → are_calm top (whole html head_attributes body_attributes head space body) ≡ true →
    IsPlainTrees true (whole html head_attributes body_attributes head space body) → (text : List ℕ) → IsCalm text → IsFramed text →
    SpellsItemsUpTo markup text (items_of (whole html head_attributes body_attributes head space body)) [] → CalmSpelled text (whole html head_attributes body_attributes head space body)
whole_spelled html head_attributes body_attributes head space body c p text calm framed spelled =
    let t : ValueTrees = root html head_attributes body_attributes head space body in
    let o : Opens text = opens text framed in
    let same : spelled.0 ≡ o.rest = (doctype_same text (codes "html") (codes "html") [] [] [] [] spelled.0 o.rest spelled.1 (doctype_begins text o)).3 in
    let first : Spelt text o.rest (doctype_of (codes "html") ∷ []) = doctype_spelt text o calm in
    let below : SpellsItemsUpTo markup o.rest (items_of t ++ []) [] =
    subst (λ (is : List Item). SpellsItemsUpTo markup o.rest is []) (sym (append-nil (items_of t))) (subst (λ (r : List ℕ). SpellsItemsUpTo markup r (items_of t) []) same spelled.2) in
    let g : Gone t o.rest [] [] = root_gone html head_attributes body_attributes head space body c p.4 [] o.rest first.calm below in
    let all : Spelt text g.rest (tokens_in (whole html head_attributes body_attributes head space body)) = spelt_both text o.rest g.rest (doctype_of (codes "html") ∷ []) (tokens_in t) first g.spelt in
    let end : chars g.rest ≡ [] = ap chars g.items ∙ chars-nil in
    record {
      spelled = record {
        items = all.items;
        is = all.is ∙ ap (λ (cs : List ℕ). flat_map written all.items ++ cs) end ∙ append-nil (flat_map written all.items);
        spelled = subst (λ (cs : List ℕ). are_spelled all.items cs ≡ true) end all.passes;
        answered = all.answered [];
        kept = no_return text calm;
        same = all.means;
      };
      clean = g.clean;
      utf8 = g.utf8;
    }

pub page_spelled : (text : List ℕ) (trees : ValueTrees) → IsUtf8 text → IsCalmPage text trees → IsPlainTrees true trees → CalmSpelled text trees
page_spelled text trees utf8 page plain =
    let d : IsCalmDocument trees = page.document in
    subst (CalmSpelled text) (sym d.is)
    (whole_spelled d.html_attributes d.head_attributes d.body_attributes d.head d.space d.body (ap (are_calm top) (sym d.is) ∙ d.calm) (subst (IsPlainTrees true) d.is plain) text
    (record { utf8 = utf8; calm = page.bytes }) page.framed (subst (λ (t : ValueTrees). SpellsItemsUpTo markup text (items_of t) []) d.is page.spelled.items))

pub page_plain : (text : List ℕ) (trees : ValueTrees) → IsUtf8 text → IsCalmPage text trees → IsPlainTrees true trees
page_plain text trees utf8 page = read_plain text trees page.spelled (document_bare trees page.document) (read_utf8 text trees page.spelled utf8)

pub calm_pages_spelled : CalmPagesAreSpelled
calm_pages_spelled text trees utf8 page = (page_spelled text trees utf8 page (page_plain text trees utf8 page)).spelled

pub calm_pages_parsed : DocumentsAreParsedOneWay → EachCalmPageIsParsed
calm_pages_parsed once text trees utf8 page =
    let plain : IsPlainTrees true trees = page_plain text trees utf8 page in
    let s : CalmSpelled text trees = page_spelled text trees utf8 page plain in
    documents_parsed once (chars text) trees page.document plain s.clean s.spelled
