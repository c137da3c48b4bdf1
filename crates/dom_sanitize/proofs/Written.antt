-- What is written of a cleaned document.
use Rattle.std.proofs.Common.{ℕ, ◌≡◌, ◌≢◌, Bool, true, false, List, [], ◌∷◌, ◌++◌, Option, Some, None, refl, sym, ap, ◌∙◌, subst, append_assoc, chars, codes, inl, inr}
use Rattle.std.specs.Prelude.{◌||◌, filter, slice_get, if◌then◌else◌, is_some, MatchBool, MatchOption}
use Rattle.std.specs.List.{flat_map}
use Rattle.std.specs.Option.{option_map, option_map_or}
use Rattle.std.specs.Str.{IsUtf8, bytes_eq}
use Rattle.std.proofs.lemmas.Bool.{cases_Bool, or_parts, true≢false}
use Rattle.std.proofs.lemmas.Grind.{flat_map-append}
use Rattle.std.proofs.lemmas.Slice.Eq.{bytes_eq-Decides}
use Rattle.std.proofs.lemmas.Str.{IsUtf8-append, chars-append}
use Rattle.dom_nodes.specs.Changes.{only_names}
use Rattle.dom_nodes.specs.Words.{is_among}
use Rattle.dom_nodes.specs.declared.name.Attr.{Attr}
use Rattle.dom_nodes.specs.declared.node_data.NodeData.TheVariants.{Document}
use Rattle.dom_links.specs.Forest.{Forest, children_of}
use Rattle.dom_links.specs.Sound.{IsForest}
use Rattle.dom_markup.specs.Escaping.{escaped_text, text_char}
use Rattle.dom_markup.specs.Html.{end_tag, html_of}
use Rattle.dom_markup.specs.Markup.{IsTagName, Spells, has_name}
use Rattle.dom_markup.specs.Bytes.{folded}
use Rattle.dom_markup.specs.Names.{is_template, mode_in, raw_names, text_names, void_names}
use Rattle.dom_markup.specs.Numbered.{document_of}
use Rattle.dom_markup.specs.Plain.{ArePlain, IsElement, IsPlain, IsPlainIn, IsPlainTrees, Represents, StandForAttributes, html_element, start_text, text_of_trees}
use Rattle.dom_markup.specs.ValueTrees.{Attribute, ValueTrees}
use Rattle.dom_markup.specs.ValueTrees.ValueTrees.{no_trees, text_node, comment_node, doctype_node, element_node}
use Rattle.dom_sanitize.specs.Clean.{Clean, Cleaned, Lists, fate_at, fate_of, kept}
use Rattle.dom_sanitize.specs.Written.{AllowsNoText, ReadsBackClean, followed_by, joined, left_of, with_text}
use Rattle.dom_sanitize.specs.declared.plan.Fate.{Fate}
use Rattle.dom_sanitize.specs.declared.plan.Fate.TheVariants.{Stay, Unwrap, Vanish}
use Rattle.dom_sanitize.proofs.OneClean.{First, Staying, Unwrapped, Vanished, first_of, none_of}

swapped : (xs ys : List ℕ) (b : Bool) → bytes_eq ys xs ≡ b → bytes_eq xs ys ≡ b
swapped xs ys true e = (bytes_eq-Decides xs ys).1 (sym ((bytes_eq-Decides ys xs).0 e))
swapped xs ys false e = elim (cases_Bool (bytes_eq xs ys)) [
  | inr f ↦ f
  | inl t ↦ absurd (true≢false (sym ((bytes_eq-Decides ys xs).1 (sym ((bytes_eq-Decides xs ys).0 t))) ∙ e))
]

-- ---- the nodes that are left stand for what is left of the trees

attributes_left : (names : List (List ℕ)) (attrs : List Attr) (attributes : List Attribute) → StandForAttributes attrs attributes → StandForAttributes (only_names names attrs) (filter (λ a. is_among a.name names) attributes)
attributes_left names [] [] stand = tt
attributes_left names [] (a ∷ attributes) stand = absurd stand
attributes_left names (attr ∷ attrs) [] stand = absurd stand
attributes_left names (attr ∷ attrs) (a ∷ attributes) stand =
    let rest = attributes_left names attrs attributes stand.3 in
    let same : is_among attr.name.local names ≡ is_among a.name names = ap (λ n. is_among n names) stand.1 in
    elim (cases_Bool (is_among a.name names)) [
      | inl t ↦ (let u : is_among attr.name.local names ≡ true = same ∙ t in rw (t, u) (stand.0, stand.1, stand.2, rest))
      | inr f ↦ (let u : is_among attr.name.local names ≡ false = same ∙ f in rw (f, u) rest)
    ]

represents-append : (forest : Forest) (ks ms : List ℕ) (a b : ValueTrees) → Represents forest ks a → Represents forest ms b → Represents forest (ks ++ ms) (followed_by a b)
represents-append forest ks ms no_trees b p q = subst (λ (ns : List ℕ). Represents forest (ns ++ ms) b) (sym p) q
represents-append forest ks ms (text_node contents later) b (n, others, is, read, rest) q =
    (n, others ++ ms, ap (λ ns. ns ++ ms) is, read, represents-append forest others ms later b rest q)
represents-append forest ks ms (comment_node contents later) b (n, others, is, read, rest) q =
    (n, others ++ ms, ap (λ ns. ns ++ ms) is, read, represents-append forest others ms later b rest q)
represents-append forest ks ms (doctype_node name public_id system_id later) b (n, others, is, read, rest) q =
    (n, others ++ ms, ap (λ ns. ns ++ ms) is, read, represents-append forest others ms later b rest q)
represents-append forest ks ms (element_node name attributes children later) b (n, others, below, is, element, inner, rest) q =
    (n, others ++ ms, below, ap (λ ns. ns ++ ms) is, element, inner, represents-append forest others ms later b rest q)

module _ (allow : Lists) (old new : Forest) where
  first_by : (f : Fate) (n : ℕ) (ns ms xs : List ℕ) → fate_at allow old n ≡ f → Clean allow old new xs ms → xs ≡ n ∷ ns → First allow old new f n ns ms
  first_by f n ns ms xs fate clean is = subst (λ g. First allow old new g n ns ms) fate (first_of allow old new xs ms clean n ns is)

  abbrev left_fate : (name : List ℕ) (contents : Option ℕ) → Fate
  left_fate name contents =
      if (bytes_eq name (codes "template") || is_some contents) || is_among name allow.drop then Vanish
      else if is_among name allow.elements then Stay else Unwrap

  element_fate_is : (n : ℕ) (name : List ℕ) (attrs : List Attr) (contents : Option ℕ) (flag : Bool) → slice_get old.content n ≡ Some (html_element name attrs contents flag) → fate_at allow old n ≡ left_fate name contents
  element_fate_is n name attrs contents flag read = ap (λ o. option_map_or (fate_of allow) o Vanish) read

  represents : (ts : ValueTrees) (ns ms : List ℕ) → Clean allow old new ns ms → Represents old ns ts → Represents new ms (left_of allow ts)
  represents no_trees ns ms clean r = none_of allow old new ns ms clean r
  represents (text_node contents later) ns ms clean (n, others, is, read, rest) =
      let first : Staying allow old new n others ms = first_by Stay n others ms ns (ap (λ o. option_map_or (fate_of allow) o Vanish) read) clean is in
      (n, first.rest, first.list, first.content ∙ ap (option_map (kept allow)) read, represents later others first.rest first.later rest)
  represents (comment_node contents later) ns ms clean (n, others, is, read, rest) =
      let first : Vanished allow old new n others ms = first_by Vanish n others ms ns (ap (λ o. option_map_or (fate_of allow) o Vanish) read) clean is in
      represents later others ms first.later rest
  represents (doctype_node name public_id system_id later) ns ms clean (n, others, is, read, rest) =
      let first : Vanished allow old new n others ms = first_by Vanish n others ms ns (ap (λ o. option_map_or (fate_of allow) o Vanish) read) clean is in
      represents later others ms first.later rest
  represents (element_node name attributes children later) ns ms clean (n, others, below, is, element, inner, rest) =
      let fate = element_fate_is n name element.attrs element.contents element.flag element.read in
      elim (cases_Bool (is_template name)) [
        | inl t ↦ (let off : fate_at allow old n ≡ Vanish = fate ∙ rw (swapped name (codes "template") true t) refl in
            let first : Vanished allow old new n others ms = first_by Vanish n others ms ns off clean is in
            rw t (represents later others ms first.later rest))
        | inr f ↦ (let none : (element.contents ≡ None) × (below ≡ children_of old n) = subst (λ b. MatchBool b (MatchOption element.contents ⊥ (λ inside. (children_of old n ≡ []) × (below ≡ children_of old inside))) ((element.contents ≡ None) × (below ≡ children_of old n))) f element.holds in
            let by : fate_at allow old n ≡ (if is_among name allow.drop then Vanish else if is_among name allow.elements then Stay else Unwrap) =
            fate ∙ ap (left_fate name) none.0 ∙ rw (swapped name (codes "template") false f) refl in
            elim (cases_Bool (is_among name allow.drop)) [
              | inl d ↦ (let first : Vanished allow old new n others ms = first_by Vanish n others ms ns (by ∙ rw d refl) clean is in rw (f, d) (represents later others ms first.later rest))
              | inr d ↦ elim (cases_Bool (is_among name allow.elements)) [
                | inl e ↦ (let first : Staying allow old new n others ms = first_by Stay n others ms ns (by ∙ rw (d, e) refl) clean is in
                    let under = represents children (children_of old n) (children_of new n) first.inner (subst (λ (ks : List ℕ). Represents old ks children) none.1 inner) in
                    let there : IsElement new n name (filter (λ a. is_among a.name allow.attrs) attributes) (children_of new n) = record {
                      attrs = only_names allow.attrs element.attrs;
                      contents = None;
                      flag = element.flag;
                      read = first.content ∙ ap (option_map (kept allow)) element.read ∙ ap (λ c. Some (html_element name (only_names allow.attrs element.attrs) c element.flag)) none.0;
                      named = attributes_left allow.attrs element.attrs attributes element.named;
                      holds = rw f (refl, refl);
                    } in
                    rw (f, d, e) (n, first.rest, children_of new n, first.list, there, under, represents later others first.rest first.later rest))
                | inr e ↦ (let first : Unwrapped allow old new n others ms = first_by Unwrap n others ms ns (by ∙ rw (d, e) refl) clean is in
                    let under = represents children (children_of old n) first.under first.inner (subst (λ (ks : List ℕ). Represents old ks children) none.1 inner) in
                    rw (f, d, e) (subst (λ (ks : List ℕ). Represents new ks (followed_by (left_of allow children) (left_of allow later))) (sym first.list)
                    (represents-append new first.under first.rest (left_of allow children) (left_of allow later) under (represents later others first.rest first.later rest))))
              ]
            ])
      ]

-- ---- what is left is plain, once texts side by side are one

-- what is left of plain trees: texts and elements, without elements that hold one text alone
abbrev AreLeft : ValueTrees → Type 0
AreLeft no_trees = Unit {0}
AreLeft (text_node contents later) = (contents ≢ []) × IsUtf8 contents × AreLeft later
AreLeft (comment_node contents later) = ⊥
AreLeft (doctype_node name public_id system_id later) = ⊥
AreLeft (element_node name attributes children later) =
    IsTagName name × (folded name ≡ name) × ArePlain attributes × (is_among name void_names ≡ true → children ≡ no_trees)
    × (is_among name raw_names ≡ false) × (is_among name text_names ≡ false) × AreLeft children × AreLeft later

left-append : (a b : ValueTrees) → AreLeft a → AreLeft b → AreLeft (followed_by a b)
left-append no_trees b p q = q
left-append (text_node contents later) b p q = (p.0, p.1, left-append later b p.2 q)
left-append (comment_node contents later) b p q = absurd p
left-append (doctype_node name public_id system_id later) b p q = absurd p
left-append (element_node name attributes children later) b p q = (p.0, p.1, p.2, p.3, p.4, p.5, p.6, left-append later b p.7 q)

unnamed : (names : List (List ℕ)) (name : List ℕ) (attributes : List Attribute) → has_name name attributes ≡ false → has_name name (filter (λ a. is_among a.name names) attributes) ≡ false
unnamed names name [] out = refl
unnamed names name (a ∷ attributes) out =
    let two = or_parts (bytes_eq a.name name) (has_name name attributes) out in
    elim (cases_Bool (is_among a.name names)) [
      | inl t ↦ rw t (rw two.0 (unnamed names name attributes two.1))
      | inr f ↦ rw f (unnamed names name attributes two.1)
    ]

attributes_plain : (names : List (List ℕ)) (attributes : List Attribute) → ArePlain attributes → ArePlain (filter (λ a. is_among a.name names) attributes)
attributes_plain names [] plain = tt
attributes_plain names (a ∷ attributes) plain =
    let rest = attributes_plain names attributes plain.3 in
    elim (cases_Bool (is_among a.name names)) [
      | inl t ↦ rw t (plain.0, plain.1, unnamed names a.name attributes plain.2, rest)
      | inr f ↦ rw f rest
    ]

are_left : (allow : Lists) → AllowsNoText allow → (top : Bool) (ts : ValueTrees) → IsPlainTrees top ts → AreLeft (left_of allow ts)
are_left allow only top no_trees plain = tt
are_left allow only top (text_node contents later) plain = (plain.0, plain.1, are_left allow only top later plain.3)
are_left allow only top (comment_node contents later) plain = are_left allow only top later plain.1
are_left allow only top (doctype_node name public_id system_id later) plain = are_left allow only top later plain.4
are_left allow only top (element_node name attributes children later) plain =
    let under = are_left allow only false children plain.5 in
    let rest = are_left allow only top later plain.6 in
    elim (cases_Bool (is_template name || is_among name allow.drop)) [
      | inl t ↦ rw t rest
      | inr f ↦ elim (cases_Bool (is_among name allow.elements)) [
        | inl e ↦ (let apart = only name e in
            rw (f, e) (plain.0, plain.1, attributes_plain allow.attrs attributes plain.2, λ void. ap (left_of allow) (plain.3 void), apart.0, apart.1, under, rest))
        | inr e ↦ rw (f, e) (left-append (left_of allow children) (left_of allow later) under rest)
      ]
    ]

some-append : (a b : List ℕ) → a ≢ [] → a ++ b ≢ []
some-append [] b some = λ e. some refl
some-append (x ∷ a) b some = λ e. (let bad : x ∷ (a ++ b) ≡ [] = e in cc)

-- a text before plain trees
text_plain : (top : Bool) (contents : List ℕ) (ts : ValueTrees) → contents ≢ [] → IsUtf8 contents → IsPlainTrees top ts → IsPlainTrees top (with_text contents ts)
text_plain top contents no_trees some utf8 plain = (some, utf8, refl, tt)
text_plain top contents (text_node more later) some utf8 plain = (some-append contents more some, IsUtf8-append contents more utf8 plain.1, plain.2, plain.3)
text_plain top contents (comment_node more later) some utf8 plain = (some, utf8, refl, plain)
text_plain top contents (doctype_node name public_id system_id later) some utf8 plain = (some, utf8, refl, plain)
text_plain top contents (element_node name attributes children later) some utf8 plain = (some, utf8, refl, plain)

in_markup : (name : List ℕ) (children : ValueTrees) → is_among name raw_names ≡ false → is_among name text_names ≡ false → IsPlainIn (mode_in name) children
in_markup name children raw text = rw (raw, text) tt

joined_plain : (top : Bool) (ts : ValueTrees) → AreLeft ts → IsPlainTrees top (joined ts)
joined_plain top no_trees left = tt
joined_plain top (text_node contents later) left = text_plain top contents (joined later) left.0 left.1 (joined_plain top later left.2)
joined_plain top (comment_node contents later) left = absurd left
joined_plain top (doctype_node name public_id system_id later) left = absurd left
joined_plain top (element_node name attributes children later) left =
    (left.0, left.1, left.2, λ void. ap joined (left.3 void), in_markup name (joined children) left.4 left.5, joined_plain false children left.6, joined_plain top later left.7)

-- ---- the text is that of what is left, joined or not

text_written : (contents : List ℕ) (ts : ValueTrees) → IsUtf8 contents → text_of_trees false (with_text contents ts) ≡ escaped_text contents ++ text_of_trees false ts
text_written contents no_trees utf8 = refl
text_written contents (text_node more later) utf8 =
    ap (λ t. t ++ text_of_trees false later) (ap (flat_map text_char) (chars-append contents more utf8) ∙ flat_map-append text_char (chars contents) (chars more))
    ∙ append_assoc (escaped_text contents) (escaped_text more) (text_of_trees false later)
text_written contents (comment_node more later) utf8 = refl
text_written contents (doctype_node name public_id system_id later) utf8 = refl
text_written contents (element_node name attributes children later) utf8 = refl

joined_written : (ts : ValueTrees) → AreLeft ts → text_of_trees false (joined ts) ≡ text_of_trees false ts
joined_written no_trees left = refl
joined_written (text_node contents later) left = text_written contents (joined later) left.1 ∙ ap (λ t. escaped_text contents ++ t) (joined_written later left.2)
joined_written (comment_node contents later) left = absurd left
joined_written (doctype_node name public_id system_id later) left = absurd left
joined_written (element_node name attributes children later) left =
    let under = joined_written children left.6 in
    let rest = joined_written later left.7 in
    rw left.4 (element_written (is_among name void_names) under rest)
  where
    element_written : (void : Bool) → text_of_trees false (joined children) ≡ text_of_trees false children → text_of_trees false (joined later) ≡ text_of_trees false later
        → start_text name attributes ++ ((if void then [] else text_of_trees false (joined children) ++ end_tag name) ++ text_of_trees false (joined later))
        ≡ start_text name attributes ++ ((if void then [] else text_of_trees false children ++ end_tag name) ++ text_of_trees false later)
    element_written void under rest =
        ap (λ t. start_text name attributes ++ ((if void then [] else t ++ end_tag name) ++ text_of_trees false (joined later))) under
        ∙ ap (λ t. start_text name attributes ++ ((if void then [] else text_of_trees false children ++ end_tag name) ++ t)) rest

-- ---- the law

abbrev HtmlOfTrees : Type 0
HtmlOfTrees = (forest : Forest) → IsForest forest → slice_get forest.content 0 ≡ Some Document → (values : ValueTrees) → Represents forest (children_of forest 0) values → html_of forest 0 ≡ text_of_trees false values

abbrev PlainReadsBack : Type 0
PlainReadsBack = (forest : Forest) → IsForest forest → IsPlain forest → (values : ValueTrees) × Represents forest (children_of forest 0) values × Spells (html_of forest 0) values

abbrev OneMeaning : Type 0
OneMeaning = (forest : Forest) (ns : List ℕ) (one two : ValueTrees) → Represents forest ns one → Represents forest ns two → one ≡ two

abbrev StandForTheirTrees : Type 0
StandForTheirTrees = (values : ValueTrees) → Represents (document_of values) (children_of (document_of values) 0) values

root_of : (values : ValueTrees) → slice_get (document_of values).content 0 ≡ Some Document
unfolding document_of
root_of values = refl

pub reads_back_clean : HtmlOfTrees → PlainReadsBack → OneMeaning → StandForTheirTrees → ((values : ValueTrees) → IsForest (document_of values))
    → (allow : Lists) (old new : Forest) → IsForest new → (plain : IsPlain old) → Cleaned allow old new → AllowsNoText allow → ReadsBackClean allow old new plain
reads_back_clean html back one stand forests allow old new good plain cleaned only =
    let left = left_of allow plain.trees in
    let are = are_left allow only true plain.trees plain.plain in
    let document = document_of (joined left) in
    let is_plain : IsPlain document = record { trees = joined left; root = root_of (joined left); below = stand (joined left); plain = joined_plain true left are } in
    let read = back document (forests (joined left)) is_plain in
    let same : read.0 ≡ joined left = one document (children_of document 0) read.0 (joined left) read.1 (stand (joined left)) in
    let texts : html_of document 0 ≡ html_of new 0 =
    html document (forests (joined left)) (root_of (joined left)) (joined left) (stand (joined left))
    ∙ joined_written left are
    ∙ sym (html new good (cleaned.root ∙ plain.root) left (represents allow old new plain.trees (children_of old 0) (children_of new 0) cleaned.below plain.below)) in
    subst (λ (t : List ℕ). Spells t (joined left)) texts (subst (Spells (html_of document 0)) same read.2)
