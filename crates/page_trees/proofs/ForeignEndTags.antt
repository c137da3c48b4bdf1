-- What the rules for foreign content make of an end tag.
use Rattle.std.proofs.Common.{◌≡◌, ◌⊎◌, inl, inr, ◌&&◌, ◌||◌, ℕ, Bool, true, false, List, [], ◌∷◌, codes, cond, drop, not, take, refl, sym, ap, subst, ◌∙◌, true≢false}
use Rattle.std.specs.Prelude.{string_bytes, unwrap_or}
use Rattle.std.specs.Str.{bytes_eq}
use Rattle.std.proofs.lemmas.Slice.Eq.{bytes_eq-Decides}
use Rattle.standard_trees.specs.Building.{Building, own_name, perform, performed, taken, with_tree}
use Rattle.standard_trees.specs.GrowingTree.{GrowingTree, current as top_of, in_foreign, is_among, is_named, is_one, is_single, kind_of, lower, own_before_html, past, top, topmost, with_stack}
use Rattle.standard_trees.specs.RuleWords.{Act, ForeignContent, Mode as StandardMode, Pop, PopUntilOwnInAnyCase, UseCurrentMode, does, goes}
use Rattle.standard_trees.specs.TreeRules.{rules}
use Rattle.standard_trees.specs.TreeStore.{DocumentNode, ElementNode, Html, Kind, MathMl, Svg, is_html, local_in, space_in}
use Rattle.page_tokens.specs.declared.token.Tag.{Tag}
use Rattle.page_trees.specs.Constructs.{Constructs, IsCurrentTag, Outcome}
use Rattle.page_trees.specs.CoveredTurns.{LeavesForeign, ProcessesCovered, ProcessesForeign, covers_acts, covers_tag_in, is_start_tag, leaving_foreign}
use Rattle.standard_order.specs.Order.{has_html}
use Rattle.page_trees.specs.ForeignSteps.{EndsForeign, IsTagNamed, is_called, leaves_foreign_name}
use Rattle.page_trees.specs.Modes.{is_start_kind, mode_of}
use Rattle.page_trees.specs.Names.{name_of, text_of}
use Rattle.page_trees.specs.Stands.{Builds}
use Rattle.page_trees.specs.TreeState.{TreeState}
use Rattle.page_trees.specs.declared.builder.Next.{Next}
use Rattle.page_trees.specs.declared.builder.TreeBuilder.{TreeBuilder}
use Rattle.page_trees.specs.declared.growing.popping.ForeignEnd.{ForeignEnd}
use Rattle.page_trees.specs.declared.name.Name.{Name}
use Rattle.page_trees.proofs.BodyRules.{outcome_of_acts, written_of_end}
use Rattle.page_trees.proofs.BuilderSteps.{moved}
use Rattle.page_trees.proofs.CoveredTags.{starts_is}
use Rattle.page_trees.proofs.ForeignStarts.{covered_parts, foreign_known, sent_on}
use Rattle.page_trees.proofs.RulesTaken.{chosen, plain_tag, taken_tag}
use Rattle.page_trees.proofs.StandingNames.{text_again}

-- ---- the rules for end tags

abbrev other_acts : Bool → Bool → List Act
other_acts single own = elim (single && true) [ true ↦ [] | false ↦ elim (own && true) [ true ↦ does PopUntilOwnInAnyCase [] ∷ [] | false ↦ goes UseCurrentMode ∷ [] ] ]

abbrev end_acts : Bool → Bool → Bool → Bool → Bool → List Act
end_acts leaves script here single own = elim (leaves || false) [
  | true ↦ leaving_foreign
  | false ↦ elim (script || false) [ true ↦ elim (here && true) [ true ↦ does Pop [] ∷ [] | false ↦ other_acts single own ] | false ↦ other_acts single own ]
]

abbrev leaving_names : List (List ℕ)
leaving_names = codes "br" ∷ codes "p" ∷ []

abbrev script : List (List ℕ)
script = codes "script" ∷ []

abbrev svg_script : List (List ℕ)
svg_script = codes "svg script" ∷ []

-- the name that the rules look for
abbrev own_first : Building → Bool
own_first b = own_before_html b.tree (own_name b.token) b.tree.stack

abbrev acts_of : Building → Name → List Act
acts_of b name = end_acts (is_among (text_of name) leaving_names) (is_among (text_of name) script) (is_one b.tree svg_script (top_of b.tree)) (is_single b.tree.stack) (own_first b)

end_row : (b : Building) (name : Name) → chosen (plain_tag false name) b (rules ForeignContent) ≡ acts_of b name
unfolding rules
end_row b name = refl

end_taken : (name : Name) (tag : Tag) (b : Building) → is_start_kind tag.kind ≡ false → IsCurrentTag name tag b → taken b (rules ForeignContent) ≡ acts_of b name
end_taken name tag b ends c = taken_tag name tag b c false ends (rules ForeignContent) foreign_known ∙ end_row b name

leaves_is : (name : Name) → is_among (text_of name) leaving_names ≡ leaves_foreign_name name
leaves_is Name.Br = refl
leaves_is Name.P = refl
leaves_is _ = refl

leaves : (l f h s o : Bool) → l ≡ true → end_acts l f h s o ≡ leaving_foreign
leaves true f h s o e = refl
leaves false f h s o e = absurd (true≢false (sym e))

-- the end tag leaves foreign content
pub end_left : (name : Name) (tag : Tag) (old new : TreeBuilder) (next : Next) → leaves_foreign_name name ≡ true → LeavesForeign name tag old new next →
    is_start_kind tag.kind ≡ false → ProcessesForeign name tag old new next
end_left name tag old new next leaving rule ends within b current foreign covered stands =
    let row = end_taken name tag b ends current
    ∙ leaves (is_among (text_of name) leaving_names) (is_among (text_of name) script) (is_one b.tree svg_script (top_of b.tree)) (is_single b.tree.stack) (own_first b) (leaves_is name ∙ leaving) in
    rule within b current row (sym (ap (λ acts. covers_acts acts b) row) ∙ (covered_parts b covered).1) stands

-- ---- the current node

-- an SVG element `script`, which is no HTML element
svg_script_called : (kind : Kind) → is_named svg_script kind ≡ true → is_html (space_in kind) ≡ false → bytes_eq (lower (local_in kind)) (codes "script") ≡ true
svg_script_called (ElementNode Html local attrs contents) named foreign = absurd (true≢false foreign)
svg_script_called (ElementNode Svg local attrs contents) named foreign = by (bytes_eq local (codes "script")) refl named
  where
    by : (x : Bool) → bytes_eq local (codes "script") ≡ x → (x || false) ≡ true → bytes_eq (lower local) (codes "script") ≡ true
    by true e h = ap (λ text. bytes_eq (lower text) (codes "script")) ((bytes_eq-Decides local (codes "script")).0 e)
    by false e h = absurd (true≢false (sym h))
svg_script_called (ElementNode MathMl local attrs contents) named foreign = absurd (true≢false (sym named))
svg_script_called _ named foreign = absurd (true≢false foreign)

script_text : (name : Name) (text : List ℕ) → name ≡ name_of text → is_among (text_of name) script ≡ true → text ≡ codes "script"
script_text name text known h = by (bytes_eq (text_of name) (codes "script")) refl h
  where
    by : (x : Bool) → bytes_eq (text_of name) (codes "script") ≡ x → (x || false) ≡ true → text ≡ codes "script"
    by true e k = elim (text_again text) [
      | inl other ↦ absurd (true≢false (sym e ∙ ap (λ (n : Name). bytes_eq (text_of n) (codes "script")) (known ∙ other)))
      | inr same ↦ sym same ∙ ap text_of (sym known) ∙ (bytes_eq-Decides (text_of name) (codes "script")).0 e
    ]
    by false e k = absurd (true≢false (sym k))

-- `html` is an HTML element, and no SVG element `script`
html_space : (kind : Kind) → is_named (codes "html" ∷ []) kind ≡ true → (is_html (space_in kind) ≡ true) × (is_named svg_script kind ≡ false)
html_space (ElementNode Html local attrs contents) named = (refl, by (bytes_eq local (codes "html")) refl named)
  where
    by : (x : Bool) → bytes_eq local (codes "html") ≡ x → (x || false) ≡ true → is_among local svg_script ≡ false
    by true e h = ap (λ text. is_among text svg_script) ((bytes_eq-Decides local (codes "html")).0 e)
    by false e h = absurd (true≢false (sym h))
html_space (ElementNode Svg local attrs contents) named = absurd (true≢false (sym named))
html_space (ElementNode MathMl local attrs contents) named = absurd (true≢false (sym named))
html_space _ named = absurd (true≢false (sym named))

-- the current node is the outermost one
single_top : (ns : List ℕ) → is_single ns ≡ true → topmost ns ≡ top ns
single_top (n ∷ []) h = refl
single_top [] h = absurd (true≢false (sym h))
single_top (n ∷ m ∷ ns) h = absurd (true≢false (sym h))

single_html : (b : Building) → has_html b ≡ true → is_single b.tree.stack ≡ true → is_one b.tree (codes "html" ∷ []) (top_of b.tree) ≡ true
single_html b html single = ap (λ n. is_one b.tree (codes "html" ∷ []) n) (sym (single_top b.tree.stack single)) ∙ html

-- the first element that the search comes to
own_top : (t : GrowingTree) (name : List ℕ) (ns : List ℕ) → own_before_html t name ns ≡ true → is_html (space_in (kind_of t (top ns))) ≡ false
own_top t name [] own = absurd (true≢false (sym own))
own_top t name (n ∷ ns) own = by (is_html (space_in (kind_of t n))) own
  where
    by : (x : Bool) → elim x [ true ↦ false | false ↦ is_called name t n || own_before_html t name ns ] ≡ true → x ≡ false
    by true e = absurd (true≢false (sym e))
    by false e = refl

top_own : (t : GrowingTree) (name : List ℕ) (n : ℕ) (ns : List ℕ) → is_html (space_in (kind_of t n)) ≡ false → is_called name t n ≡ true → own_before_html t name (n ∷ ns) ≡ true
top_own t name n ns foreign called =
    ap (λ x. elim x [ true ↦ false | false ↦ is_called name t n || own_before_html t name ns ]) foreign ∙ ap (λ x. x || own_before_html t name ns) called

-- a foreign current node with that name is found
foreign_own : (t : GrowingTree) (name : List ℕ) (ns : List ℕ) → kind_of t 0 ≡ DocumentNode → is_html (space_in (kind_of t (top ns))) ≡ false → is_called name t (top ns) ≡ true →
    own_before_html t name ns ≡ true
foreign_own t name [] root foreign called = absurd (true≢false (sym (ap (λ kind. is_html (space_in kind)) root) ∙ foreign))
foreign_own t name (n ∷ ns) root foreign called = top_own t name n ns foreign called

top_popped : (t : GrowingTree) (name : List ℕ) (ns : List ℕ) → is_called name t (top ns) ≡ true → past (is_called name t) ns ≡ drop 1 ns
top_popped t name [] called = refl
top_popped t name (n ∷ ns) called = ap (λ x. elim x [ true ↦ ns | false ↦ past (is_called name t) ns ]) called

single_in : (b : Building) → in_foreign b.tree ≡ true → is_html (space_in (kind_of b.tree (top_of b.tree))) ≡ true → is_single b.tree.stack ≡ true
single_in b foreign html = by (is_single b.tree.stack) refl
  where
    by : (x : Bool) → is_single b.tree.stack ≡ x → x ≡ true
    by true e = refl
    by false e =
        let kind : Kind = kind_of b.tree (top_of b.tree) in
        absurd (true≢false (sym foreign ∙ ap (λ y. not (is_html (space_in (cond y (unwrap_or b.tree.context kind) kind)))) e ∙ ap not html))

-- ---- which rule is taken

closes : (s h single own : Bool) → single ≡ false → own ≡ true →
    (end_acts false s h single own ≡ does PopUntilOwnInAnyCase [] ∷ []) ⊎ ((end_acts false s h single own ≡ does Pop [] ∷ []) × ((s ≡ true) × (h ≡ true)))
closes s h true own e f = absurd (true≢false e)
closes s h false false e f = absurd (true≢false (sym f))
closes true true false true e f = inr (refl, (refl, refl))
closes true false false true e f = inl refl
closes false h false true e f = inl refl

goes_on : (s h single own : Bool) → single ≡ false → own ≡ false → (s ≡ true → h ≡ true → ⊥) → end_acts false s h single own ≡ goes UseCurrentMode ∷ []
goes_on s h true own e f none = absurd (true≢false e)
goes_on s h false true e f none = absurd (true≢false f)
goes_on true true false false e f none = absurd (none refl refl)
goes_on true false false false e f none = refl
goes_on false h false false e f none = refl

ignored : (s h single own : Bool) → single ≡ true → h ≡ false → end_acts false s h single own ≡ []
ignored s h false own e f = absurd (true≢false (sym e))
ignored s true true own e f = absurd (true≢false f)
ignored true false true own e f = refl
ignored false false true own e f = refl

-- ---- a covered end tag

pub record IsEnd (name : Name) (text : List ℕ) (b : Building) : Type 0 where
  pub html : has_html b ≡ true
  pub own : own_name b.token ≡ text
  pub acts : taken b (rules ForeignContent) ≡ end_acts false (is_among (text_of name) script) (is_one b.tree svg_script (top_of b.tree)) (is_single b.tree.stack)
      (own_before_html b.tree text b.tree.stack)

second_true : (x y : Bool) → x ≡ false → (x || y) ≡ true → y ≡ true
second_true true y e h = absurd (true≢false e)
second_true false y e h = h

end_facts : (name : Name) (tag : Tag) (b : Building) → leaves_foreign_name name ≡ false → is_start_kind tag.kind ≡ false → (c : IsCurrentTag name tag b) →
    (is_start_tag b.token || has_html b) ≡ true → IsEnd name c.standard.name b
end_facts name tag b stays ends c covered =
    let own = written_of_end name tag b c ends in
    record {
      html = second_true (is_start_tag b.token) (has_html b) (starts_is name tag b c ∙ ends) covered;
      own = own;
      acts = end_taken name tag b ends c
          ∙ ap (λ l. end_acts l (is_among (text_of name) script) (is_one b.tree svg_script (top_of b.tree)) (is_single b.tree.stack) (own_first b)) (leaves_is name ∙ stays)
          ∙ ap (λ text. end_acts false (is_among (text_of name) script) (is_one b.tree svg_script (top_of b.tree)) (is_single b.tree.stack) (own_before_html b.tree text b.tree.stack)) own;
    }

-- the name of the current tag
pub named_so : (name : Name) (tag : Tag) (b : Building) → (c : IsCurrentTag name tag b) → IsTagNamed name (string_bytes tag.name) c.standard.name
named_so name tag b c = record { tag = c.written; known = c.named; spelt = c.is.name }

-- not the outermost element alone is open, where the current node is foreign
not_single : (b : Building) → has_html b ≡ true → is_html (space_in (kind_of b.tree (top_of b.tree))) ≡ false → is_single b.tree.stack ≡ false
not_single b html foreign = by (is_single b.tree.stack) refl
  where
    by : (x : Bool) → is_single b.tree.stack ≡ x → x ≡ false
    by true e = absurd (true≢false (sym (html_space (kind_of b.tree (top_of b.tree)) (single_html b html e)).0 ∙ foreign))
    by false e = refl

-- ---- what is done

closed_stands : (name : List ℕ) (old : TreeBuilder) (tree : TreeState) (b : Building) → Builds tree (with_stack b.tree (past (is_called name b.tree) b.tree.stack)) → own_name b.token ≡ name →
    Constructs old b → Constructs (record old { tree = tree }) (perform PopUntilOwnInAnyCase b)
unfolding perform
closed_stands name old tree b built own stands =
    subst (λ text. Constructs (record old { tree = tree }) (with_tree b (with_stack b.tree (past (is_called text b.tree) b.tree.stack)))) (sym own)
    (moved old (record old { tree = tree }) tree old.fault old.too_deep refl b (with_stack b.tree (past (is_called name b.tree) b.tree.stack)) stands built refl)

popped_stands : (name : List ℕ) (old : TreeBuilder) (tree : TreeState) (b : Building) → Builds tree (with_stack b.tree (past (is_called name b.tree) b.tree.stack)) →
    is_called name b.tree (top_of b.tree) ≡ true → Constructs old b → Constructs (record old { tree = tree }) (perform Pop b)
unfolding perform
popped_stands name old tree b built called stands =
    moved old (record old { tree = tree }) tree old.fault old.too_deep refl b (with_stack b.tree (drop 1 b.tree.stack)) stands
    (subst (λ ns. Builds tree (with_stack b.tree ns)) (top_popped b.tree name b.tree.stack called) built) refl

-- the current node is an SVG element `script`, and the tag is its end tag
script_called : (name : Name) (text : List ℕ) (b : Building) → name ≡ name_of text → is_among (text_of name) script ≡ true → is_one b.tree svg_script (top_of b.tree) ≡ true →
    is_html (space_in (kind_of b.tree (top_of b.tree))) ≡ false → is_called text b.tree (top_of b.tree) ≡ true
script_called name text b known named here foreign =
    subst (λ word. is_called word b.tree (top_of b.tree) ≡ true) (sym (script_text name text known named)) (svg_script_called (kind_of b.tree (top_of b.tree)) here foreign)

-- what the code finds for the end tag
abbrev Finds : Name → Tag → TreeBuilder → ForeignEnd → Type 0
Finds name tag old end = (text : List ℕ) → IsTagNamed name (string_bytes tag.name) text → EndsForeign text old.tree end

pub end_closed : (name : Name) (tag : Tag) (old : TreeBuilder) (tree : TreeState) (place : ℕ) → leaves_foreign_name name ≡ false → Finds name tag old (ForeignEnd.At place) →
    tree ≡ record old.tree { stack = take place old.tree.stack } → is_start_kind tag.kind ≡ false → ProcessesForeign name tag old (record old { tree = tree }) Next.Done
end_closed name tag old tree place stays finds e ends within b current foreign covered stands =
    let text : List ℕ = current.standard.name in
    let is = end_facts name tag b stays ends current (covered_parts b covered).0 in
    let facts = finds text (named_so name tag b current) b.tree stands.tree in
    let built = subst (λ (s : TreeState). Builds s (with_stack b.tree (past (is_called text b.tree) b.tree.stack))) (sym e) facts.1 in
    let out = own_top b.tree text b.tree.stack facts.0 in
    elim (closes (is_among (text_of name) script) (is_one b.tree svg_script (top_of b.tree)) (is_single b.tree.stack) (own_before_html b.tree text b.tree.stack)
    (not_single b is.html out) facts.0) [
      | inl row ↦ outcome_of_acts ForeignContent b (record old { tree = tree }) (does PopUntilOwnInAnyCase [] ∷ []) refl (is.acts ∙ row)
          (closed_stands text old tree b built is.own stands)
      | inr row ↦ outcome_of_acts ForeignContent b (record old { tree = tree }) (does Pop [] ∷ []) refl (is.acts ∙ row.0)
          (popped_stands text old tree b built (script_called name text b current.named row.1.0 row.1.1 out) stands)
    ]

pub end_goes_on : (name : Name) (tag : Tag) (old new : TreeBuilder) (next : Next) → leaves_foreign_name name ≡ false → Finds name tag old ForeignEnd.Html →
    ProcessesCovered (mode_of old.mode) name tag old new next → is_start_kind tag.kind ≡ false → ProcessesForeign name tag old new next
end_goes_on name tag old new next stays finds rule ends within b current foreign covered stands =
    let text : List ℕ = current.standard.name in
    let parts = covered_parts b covered in
    let is = end_facts name tag b stays ends current parts.0 in
    let facts = finds text (named_so name tag b current) b.tree stands.tree in
    let row = is.acts ∙ goes_on (is_among (text_of name) script) (is_one b.tree svg_script (top_of b.tree)) (is_single b.tree.stack) (own_before_html b.tree text b.tree.stack)
    (not_single b is.html facts.1) facts.0
    (λ named here. true≢false (sym (foreign_own b.tree text b.tree.stack stands.tree.nodes.root facts.1 (script_called name text b current.named named here facts.1)) ∙ facts.0)) in
    let covers : covers_tag_in b.mode b ≡ true = sym (ap (λ acts. covers_acts acts b) row) ∙ parts.1 in
    sent_on ForeignContent b.mode b b new next (record { token = refl; attrs = refl }) (λ again. ap (λ acts. performed again acts b) row)
    (subst (λ (x : StandardMode). Outcome x b new next) (sym stands.mode)
    (rule within b current (subst (λ (x : StandardMode). covers_tag_in x b ≡ true) stands.mode covers) stands))

pub end_ignored : (name : Name) (tag : Tag) (old : TreeBuilder) → leaves_foreign_name name ≡ false → Finds name tag old ForeignEnd.Nowhere → is_start_kind tag.kind ≡ false →
    ProcessesForeign name tag old old Next.Done
end_ignored name tag old stays finds ends within b current foreign covered stands =
    let text : List ℕ = current.standard.name in
    let is = end_facts name tag b stays ends current (covered_parts b covered).0 in
    let single = single_in b foreign (finds text (named_so name tag b current) b.tree stands.tree) in
    outcome_of_acts ForeignContent b old [] refl
    (is.acts ∙ ignored (is_among (text_of name) script) (is_one b.tree svg_script (top_of b.tree)) (is_single b.tree.stack) (own_before_html b.tree text b.tree.stack) single
    (html_space (kind_of b.tree (top_of b.tree)) (single_html b is.html single)).1) stands
