-- What an end tag does in foreign content: which elements it closes, or that the rules for the current mode process it.
use Rattle.std.proofs.Common.{◌≡◌, ◌+◌, ◌-◌, ◌*◌, ◌<◌, ◌≤◌, inl, inr, ℕ, Bool, true, false, ◌&&◌, ◌||◌, not, List, [], ◌∷◌, ◌++◌, Option, None, Some, eqb, length, map, reverse, take, refl, sym, ap, subst, ◌∙◌, arith, if◌then◌else◌, true≢false}
use Rattle.std.specs.Prelude.{encode_utf8_all, slice_get}
use Rattle.std.specs.Option.{option_map_or}
use Rattle.std.specs.Str.{bytes_eq}
use denote.Enum.Declared.{tag_of}
use Rattle.std.proofs.lemmas.Bool.{cases_Bool, eqb-false, eqb-true, ne_eqb}
use Rattle.std.proofs.lemmas.List.{length_push}
use Rattle.std.proofs.lemmas.Option.{none-some, same_Some}
use Rattle.std.proofs.lemmas.Slice.Eq.{bytes_eq-Decides}
use Rattle.std.proofs.lemmas.Str.{encodes_same}
use Rattle.standard_trees.specs.GrowingTree.{GrowingTree, current, in_scope, kind_of, lower, own_before_html, past, with_stack}
use Rattle.standard_trees.specs.TreeStore.{Kind, is_html, local_in, space_in}
use Rattle.page_trees.specs.ForeignSteps.{EndsForeign, IsTagNamed, is_called, is_foreign_called}
use Rattle.page_trees.specs.NameNumbers.{AreApart, IsNumbered, number_in}
use Rattle.page_trees.specs.Names.{name_of, text_of}
use Rattle.page_trees.specs.Scopes.{is_name, last_place}
use Rattle.page_trees.specs.SearchIndex.{has_key, key_of}
use Rattle.page_trees.specs.Sets.{is_in_html, local_for, space_of}
use Rattle.page_trees.specs.Stands.{AllStand, Builds, IsCurrent, IsOfKind, IsTagName, StandsFor}
use Rattle.page_trees.specs.TreeState.{TreeState}
use Rattle.page_trees.specs.contracts.name.Name.{the_type}
use Rattle.page_trees.specs.declared.growing.popping.ForeignEnd.{ForeignEnd}
use Rattle.page_trees.specs.declared.name.Name.{Name}
use Rattle.page_trees.specs.declared.stack.ElementNamespace.{ElementNamespace}
use Rattle.page_trees.specs.declared.stack.Open.{Open}
use Rattle.page_trees.proofs.AlikeLemmas.{tag_below}
use Rattle.page_trees.proofs.BuiltStacks.{built_front, current_node}
use Rattle.page_trees.proofs.ClosedElements.{cut_at, found_at}
use Rattle.page_trees.proofs.NamesAgree.{again}
use Rattle.page_trees.proofs.NumberedNames.{all_standing}
use Rattle.page_trees.proofs.OtherNamesClosed.{last_as, other_name}
use Rattle.page_trees.proofs.ScopeLemmas.{by_ends, last_place_le, last_place_none, last_place_push, slice_get_end}
use Rattle.page_trees.proofs.StandingNames.{lower_adjusted, same_text, text_again}
use Rattle.standard_trees.specs.NameLists.{svg_names}

-- ---- elements of that name outside of the HTML namespace

abbrev pub is_foreign_named : Name → Open → Bool
is_foreign_named name o = not (is_in_html o.ns) && is_name o.name name

same_bool : (b c : Bool) → (b ≡ true → c ≡ true) → (c ≡ true → b ≡ true) → b ≡ c
same_bool true true f g = refl
same_bool true false f g = sym (f refl)
same_bool false true f g = g refl
same_bool false false f g = refl

eq_eqb : (a b : ℕ) → a ≡ b → eqb a b ≡ true
eq_eqb a b e = elim (cases_Bool (eqb a b)) [ inl t ↦ t | inr f ↦ absurd (eqb-false a b f e) ]

odd_keys : (b : Bool) (x t u : ℕ) → (x ≡ u → t ≡ u) → (t ≡ u → x ≡ u) → eqb (x * 2 + (if b then 0 else 1)) (u * 2 + 1) ≡ (not b && eqb t u)
odd_keys true x t u f g = ne_eqb (x * 2 + 0) (u * 2 + 1) (λ e. omega (arith, e))
odd_keys false x t u f g = same_bool (eqb (x * 2 + 1) (u * 2 + 1)) (eqb t u)
    (λ e. let q : x ≡ u = omega (arith, eqb-true (x * 2 + 1) (u * 2 + 1) e) in eq_eqb t u (f q))
    (λ e. eq_eqb (x * 2 + 1) (u * 2 + 1) (ap (λ z. z * 2 + 1) (g (eqb-true t u e))))

-- the key of a known name finds the foreign elements with that name
pub foreign_key : (name : Name) → is_name name Name.Other ≡ false → (number : ℕ) (o : Open) → has_key false name number o ≡ is_foreign_named name o
foreign_key name known number o =
    ap (λ b. eqb (key_of o) ((if b then 127 + number else tag_of the_type name) * 2 + 1)) known
    ∙ odd_keys (is_in_html o.ns) (if is_name o.name Name.Other then 127 + o.number else tag_of the_type o.name) (tag_of the_type o.name) (tag_of the_type name)
    (λ e. by (is_name o.name Name.Other) refl e) (λ e. back (is_name o.name Name.Other) refl e)
  where
    by : (c : Bool) → is_name o.name Name.Other ≡ c → (if c then 127 + o.number else tag_of the_type o.name) ≡ tag_of the_type name → tag_of the_type o.name ≡ tag_of the_type name
    by true f e = absurd (omega (arith, e, tag_below name))
    by false f e = e

    back : (c : Bool) → is_name o.name Name.Other ≡ c → tag_of the_type o.name ≡ tag_of the_type name → (if c then 127 + o.number else tag_of the_type o.name) ≡ tag_of the_type name
    back true f e = absurd (eqb-false (tag_of the_type name) (tag_of the_type Name.Other) known (sym e ∙ eqb-true (tag_of the_type o.name) (tag_of the_type Name.Other) f))
    back false f e = e

-- the name of an element is that one
text_is : (written : List ℕ) (name : Name) → is_name name Name.Other ≡ false → is_name (name_of written) name ≡ bytes_eq written (text_of name)
text_is written name known = elim (text_again written) [
  | inr same ↦ sym (same_text (name_of written) name) ∙ ap (λ (text : List ℕ). bytes_eq text (text_of name)) same
  | inl other ↦ same_bool (is_name (name_of written) name) (bytes_eq written (text_of name))
      (λ e. absurd (eqb-false (tag_of the_type name) (tag_of the_type Name.Other) known
      (sym (eqb-true (tag_of the_type (name_of written)) (tag_of the_type name) e) ∙ ap (tag_of the_type) other)))
      (λ e. absurd (eqb-false (tag_of the_type name) (tag_of the_type Name.Other) known
      (ap (tag_of the_type) (sym (again name) ∙ ap name_of (sym ((bytes_eq-Decides written (text_of name)).0 e)) ∙ other))))
]

lower_local : (ns : ElementNamespace) (written : List ℕ) → IsTagName written → lower (local_for ns written) ≡ written
lower_local ElementNamespace.Html written tag = tag.lower_case
lower_local ElementNamespace.Svg written tag = lower_adjusted svg_names written tag.lower_case
lower_local ElementNamespace.MathMl written tag = tag.lower_case

html_is : (t : GrowingTree) (o : Open) → StandsFor t.nodes o → is_in_html o.ns ≡ is_html (space_in (kind_of t o.id))
html_is t o s = by o.ns ∙ ap (λ kind. is_html (space_in kind)) (sym s.kind)
  where
    by : (ns : ElementNamespace) → is_in_html ns ≡ is_html (space_of ns)
    by ElementNamespace.Html = refl
    by ElementNamespace.Svg = refl
    by ElementNamespace.MathMl = refl

-- the name of an element's tag
written_is : (t : GrowingTree) (o : Open) (text : List ℕ) → (s : StandsFor t.nodes o) → bytes_eq s.written text ≡ is_called text t o.id
written_is t o text s =
    ap (λ (word : List ℕ). bytes_eq word text) (sym (lower_local o.ns s.written s.tag)) ∙ ap (λ kind. bytes_eq (lower (local_in kind)) text) (sym s.kind)

called_is : (name : Name) → is_name name Name.Other ≡ false → (t : GrowingTree) (o : Open) → StandsFor t.nodes o → is_name o.name name ≡ is_called (text_of name) t o.id
called_is name known t o s =
    ap (λ (n : Name). is_name n name) s.name ∙ text_is s.written name known ∙ written_is t o (text_of name) s

-- ---- the search up the stack

abbrev own_if : Bool → Bool → Bool → Bool
own_if html called rest = elim html [ true ↦ false | false ↦ called || rest ]

abbrev past_if : Bool → List ℕ → List ℕ → List ℕ
past_if called ns rest = elim called [ true ↦ ns | false ↦ rest ]

own_is : (t : GrowingTree) (name : List ℕ) (os : List Open) → AllStand t.nodes os →
    in_scope (is_foreign_called name t) (λ o. is_in_html o.ns) os ≡ own_before_html t name (map (λ o. o.id) os)
own_is t name [] s = refl
own_is t name (o ∷ os) s = by (is_in_html o.ns) (is_html (space_in (kind_of t o.id))) (html_is t o s.0) (own_is t name os s.1)
  where
    by : (h x : Bool) → h ≡ x → in_scope (is_foreign_called name t) (λ o. is_in_html o.ns) os ≡ own_before_html t name (map (λ o. o.id) os) →
        ((not h && is_called name t o.id) || (not h && in_scope (is_foreign_called name t) (λ o. is_in_html o.ns) os))
        ≡ own_if x (is_called name t o.id) (own_before_html t name (map (λ o. o.id) os))
    by true true e rest = refl
    by false false e rest = ap (λ b. is_called name t o.id || b) rest
    by true false e rest = absurd (true≢false e)
    by false true e rest = absurd (true≢false (sym e))

abbrev is_foreign_node : List ℕ → GrowingTree → ℕ → Bool
is_foreign_node name t n = not (is_html (space_in (kind_of t n))) && is_called name t n

-- no HTML element is popped before it
past_is : (t : GrowingTree) (name : List ℕ) (ns : List ℕ) → own_before_html t name ns ≡ true → past (is_foreign_node name t) ns ≡ past (is_called name t) ns
past_is t name [] own = refl
past_is t name (n ∷ ns) own = by (is_html (space_in (kind_of t n))) (is_called name t n) own (past_is t name ns)
  where
    by : (h c : Bool) → own_if h c (own_before_html t name ns) ≡ true → (own_before_html t name ns ≡ true → past (is_foreign_node name t) ns ≡ past (is_called name t) ns) →
        past_if (not h && c) ns (past (is_foreign_node name t) ns) ≡ past_if c ns (past (is_called name t) ns)
    by true c e rest = absurd (true≢false (sym e))
    by false true e rest = refl
    by false false e rest = rest e

-- no element is a foreign one and an HTML element
apart : (name : List ℕ) (t : GrowingTree) (all : List Open) → 0 < last_place (is_foreign_called name t) all → last_place (is_foreign_called name t) all ≡ last_place (λ o. is_in_html o.ns) all → ⊥
apart name t = by_ends (λ all. 0 < last_place (is_foreign_called name t) all → last_place (is_foreign_called name t) all ≡ last_place (λ o. is_in_html o.ns) all → ⊥) (λ some same. omega (arith, some)) (λ ys y rest some same.
    by ys rest (is_in_html y.ns) (is_called name t y.id) (subst (λ n. 0 < n) (last_place_push (is_foreign_called name t) ys y) some)
    (sym (last_place_push (is_foreign_called name t) ys y) ∙ same ∙ last_place_push (λ o. is_in_html o.ns) ys y))
  where
    by : (ys : List Open) → (0 < last_place (is_foreign_called name t) ys → last_place (is_foreign_called name t) ys ≡ last_place (λ o. is_in_html o.ns) ys → ⊥) → (h c : Bool) →
        0 < (if not h && c then length ys + 1 else last_place (is_foreign_called name t) ys) →
        (if not h && c then length ys + 1 else last_place (is_foreign_called name t) ys) ≡ (if h then length ys + 1 else last_place (λ o. is_in_html o.ns) ys) → ⊥
    by ys rest true c some same = omega (arith, same, last_place_le (is_foreign_called name t) ys)
    by ys rest false true some same = omega (arith, same, last_place_le (λ o. is_in_html o.ns) ys)
    by ys rest false false some same = rest some same

-- ---- what the code answers

-- the last foreign element with that name, and the last HTML element
pub record AreTops (name : List ℕ) (view old : TreeState) (t : GrowingTree) (top html : ℕ) : Type 0 where
  pub same : view ≡ old
  pub builds : Builds old t
  pub foreign : top ≡ last_place (is_foreign_called name t) old.stack
  pub last_html : html ≡ last_place (λ o. is_in_html o.ns) view.stack

html_at : (name : List ℕ) (view old : TreeState) (t : GrowingTree) (top html : ℕ) → AreTops name view old t top html → html ≡ last_place (λ o. is_in_html o.ns) old.stack
html_at name view old t top html are = are.last_html ∙ ap (λ (s : TreeState). last_place (λ o. is_in_html o.ns) s.stack) are.same

pub ends_at : (name : List ℕ) (view old : TreeState) (t : GrowingTree) (top html place : ℕ) → AreTops name view old t top html → html < top → place + 1 ≡ top →
    (own_before_html t name t.stack ≡ true) × Builds (record old { stack = take place old.stack }) (with_stack t (past (is_called name t) t.stack))
ends_at name view old t top html place are after next =
    let all : List Open = old.stack in
    let b = are.builds in
    let found = found_at (is_foreign_called name t) (λ o. is_in_html o.ns) all html top (Some place) are.foreign (html_at name view old t top html are) (next, omega (arith, after)) in
    let own : own_before_html t name t.stack ≡ true =
    ap (own_before_html t name) b.stack.ids ∙ sym (own_is t name (reverse all) b.stack.nodes) ∙ found.0 in (
      own,
      subst (λ (ns : List ℕ). Builds (record old { stack = take place all }) (with_stack t ns)) (past_is t name t.stack own)
          (built_front old (record old { stack = take place all }) t place (past (is_foreign_node name t) t.stack) refl b
          (cut_at t (is_foreign_called name t) (is_foreign_node name t) (λ o s. ap (λ h. not h && is_called name t o.id) (html_is t o s)) all place found.1 b.stack)),
    )

nowhere : (name : List ℕ) (view old : TreeState) (t : GrowingTree) (top html : ℕ) → AreTops name view old t top html → top ≤ html → own_before_html t name t.stack ≡ false
nowhere name view old t top html are before =
    let all : List Open = old.stack in
    let b = are.builds in
    let last = html_at name view old t top html are in
    let missed = found_at (is_foreign_called name t) (λ o. is_in_html o.ns) all html top None are.foreign last
    (λ some le. apart name t all (omega (arith, some, are.foreign)) (omega (arith, are.foreign, last, le, before))) in
    ap (own_before_html t name) b.stack.ids ∙ sym (own_is t name (reverse all) b.stack.nodes) ∙ missed

-- whether the current node is an HTML element; where nothing is open, the Document counts as one
abbrev is_html_open : Option Open → Bool
is_html_open r = option_map_or (λ (o : Open). is_in_html o.ns) r true

pub record LastIs (all : List Open) : Type 0 where
  pub html : length all ≤ last_place (λ o. is_in_html o.ns) all → is_html_open (slice_get all (length all - 1)) ≡ true
  pub foreign : last_place (λ o. is_in_html o.ns) all < length all → is_html_open (slice_get all (length all - 1)) ≡ false

last_is : (all : List Open) → LastIs all
last_is = by_ends LastIs (record { html = λ le. refl; foreign = λ lt. absurd (omega (arith, lt)) }) (λ ys y rest. by ys y (is_in_html y.ns) refl)
  where
    split : (ys : List Open) (y : Open) (h : Bool) → length (ys ++ y ∷ []) ≡ length ys + 1 → is_html_open (slice_get (ys ++ y ∷ []) (length (ys ++ y ∷ []) - 1)) ≡ h →
        last_place (λ o. is_in_html o.ns) (ys ++ y ∷ []) ≡ (if h then length ys + 1 else last_place (λ o. is_in_html o.ns) ys) → LastIs (ys ++ y ∷ [])
    split ys y true long value place = record { html = λ le. value; foreign = λ lt. absurd (omega (arith, lt, long, place)) }
    split ys y false long value place = record { html = λ le. absurd (omega (arith, le, long, place, last_place_le (λ o. is_in_html o.ns) ys)); foreign = λ lt. value }

    by : (ys : List Open) (y : Open) (h : Bool) → is_in_html y.ns ≡ h → LastIs (ys ++ y ∷ [])
    by ys y h e =
        let long : length (ys ++ y ∷ []) ≡ length ys + 1 = length_push ys y in
        let here : slice_get (ys ++ y ∷ []) (length (ys ++ y ∷ []) - 1) ≡ Some y = ap (slice_get (ys ++ y ∷ [])) (omega (arith, long)) ∙ slice_get_end ys y in
        let value : is_html_open (slice_get (ys ++ y ∷ []) (length (ys ++ y ∷ []) - 1)) ≡ h = ap is_html_open here ∙ e in
        let place : last_place (λ o. is_in_html o.ns) (ys ++ y ∷ []) ≡ (if h then length ys + 1 else last_place (λ o. is_in_html o.ns) ys) =
        last_place_push (λ o. is_in_html o.ns) ys y ∙ ap (λ b. if b then length ys + 1 else last_place (λ o. is_in_html o.ns) ys) e in
        split ys y h long value place

current_space : (r : Option Open) (t : GrowingTree) (n : ℕ) → IsCurrent r (kind_of t n) → is_html (space_in (kind_of t n)) ≡ is_html_open r
current_space None t n is = ap (λ kind. is_html (space_in kind)) is
current_space (Some o) t n is = ap (λ kind. is_html (space_in kind)) is.kind ∙ by o.ns
  where
    by : (ns : ElementNamespace) → is_html (space_of ns) ≡ is_in_html ns
    by ElementNamespace.Html = refl
    by ElementNamespace.Svg = refl
    by ElementNamespace.MathMl = refl

pub ends_in_html : (name : List ℕ) (view old : TreeState) (t : GrowingTree) (top html count : ℕ) → AreTops name view old t top html → top ≤ html → count ≡ length view.stack → html < count →
    (own_before_html t name t.stack ≡ false) × (is_html (space_in (kind_of t (current t))) ≡ false)
ends_in_html name view old t top html count are before long foreign =
    let last = html_at name view old t top html are in
    let all_is : count ≡ length old.stack = long ∙ ap (λ (s : TreeState). length s.stack) are.same in (
      nowhere name view old t top html are before,
      current_space (slice_get old.stack (length old.stack - 1)) t (current t) (current_node old t are.builds) ∙ (last_is old.stack).foreign (omega (arith, last, all_is, foreign)),
    )

pub ends_nowhere : (name : List ℕ) (view old : TreeState) (html count : ℕ) → view ≡ old → html ≡ last_place (λ o. is_in_html o.ns) view.stack → count ≡ length view.stack → count ≤ html →
    EndsForeign name old ForeignEnd.Nowhere
ends_nowhere name view old html count v f long none t b =
    let last : html ≡ last_place (λ o. is_in_html o.ns) old.stack = f ∙ ap (λ (s : TreeState). last_place (λ o. is_in_html o.ns) s.stack) v in
    let all_is : count ≡ length old.stack = long ∙ ap (λ (s : TreeState). length s.stack) v in
    current_space (slice_get old.stack (length old.stack - 1)) t (current t) (current_node old t b) ∙ (last_is old.stack).html (omega (arith, last, all_is, none))

-- ---- the last foreign element with a name

text_same : (text : List ℕ) (name : Name) → name ≡ name_of text → is_name name Name.Other ≡ false → text_of name ≡ text
text_same text name e known = elim (text_again text) [
  | inl other ↦ absurd (true≢false (sym (ap (λ (n : Name). is_name n Name.Other) (e ∙ other)) ∙ known))
  | inr same ↦ ap text_of e ∙ same
]

known_agrees : (t : GrowingTree) (name : Name) (text : List ℕ) (number : ℕ) → name ≡ name_of text → is_name name Name.Other ≡ false → (o : Open) → StandsFor t.nodes o →
    has_key false name number o ≡ is_foreign_called text t o
known_agrees t name text number e known o s =
    foreign_key name known number o ∙ ap (λ b. not (is_in_html o.ns) && b) (called_is name known t o s ∙ ap (λ (word : List ℕ). is_called word t o.id) (text_same text name e known))

-- the key of a name that is not in `Name` finds the foreign elements with its number
other_foreign_key : (number : ℕ) (o : Open) → has_key false Name.Other number o ≡ (not (is_in_html o.ns) && (is_name o.name Name.Other && eqb o.number number))
other_foreign_key number o = by (is_in_html o.ns) (is_name o.name Name.Other) refl
  where
    by : (b c : Bool) → is_name o.name Name.Other ≡ c →
        eqb ((if c then 127 + o.number else tag_of the_type o.name) * 2 + (if b then 0 else 1)) ((127 + number) * 2 + 1) ≡ (not b && (c && eqb o.number number))
    by true true e = ne_eqb ((127 + o.number) * 2 + 0) ((127 + number) * 2 + 1) (λ f. omega (arith, f))
    by true false e = ne_eqb (tag_of the_type o.name * 2 + 0) ((127 + number) * 2 + 1) (λ f. omega (arith, f))
    by false true e = same_bool (eqb ((127 + o.number) * 2 + 1) ((127 + number) * 2 + 1)) (eqb o.number number)
        (λ f. eq_eqb o.number number (omega (arith, eqb-true ((127 + o.number) * 2 + 1) ((127 + number) * 2 + 1) f)))
        (λ f. eq_eqb ((127 + o.number) * 2 + 1) ((127 + number) * 2 + 1) (ap (λ n. (127 + n) * 2 + 1) (eqb-true o.number number f)))
    by false false e = ne_eqb (tag_of the_type o.name * 2 + 1) ((127 + number) * 2 + 1) (λ f. omega (arith, f, tag_below o.name))

-- an element with a name that is not in `Name` has the number of its name
own_number : (numbers : List (List ℕ × ℕ)) (o : Open) (kind : Kind) → o.name ≡ Name.Other → (s : IsOfKind o kind) → IsNumbered numbers o kind →
    number_in numbers (encode_utf8_all s.written) ≡ Some o.number
own_number numbers o kind other s has =
    ap (number_in numbers) (ap encode_utf8_all (sym (ap (λ (k : Kind). lower (local_in k)) s.kind ∙ lower_local o.ns s.written s.tag))) ∙ has other

-- a name is that of the tag, if it is not in `Name`, exactly where its number is
same_written : (numbers : List (List ℕ × ℕ)) (o : Open) (kind : Kind) (text : List ℕ) (number : ℕ) → AreApart numbers → name_of text ≡ Name.Other →
    number_in numbers (encode_utf8_all text) ≡ Some number → (s : IsOfKind o kind) → IsNumbered numbers o kind →
    (is_name o.name Name.Other && eqb o.number number) ≡ bytes_eq s.written text
same_written numbers o kind text number apart unknown is s has = by (is_name o.name Name.Other) refl
  where
    by : (b : Bool) → is_name o.name Name.Other ≡ b → (b && eqb o.number number) ≡ bytes_eq s.written text
    by true e =
        let own = own_number numbers o kind (other_name o.name e) s has in
        same_bool (eqb o.number number) (bytes_eq s.written text)
        (λ f. (bytes_eq-Decides s.written text).1 (encodes_same s.written text
        (apart.once (encode_utf8_all s.written) (encode_utf8_all text) number (own ∙ ap Some (eqb-true o.number number f)) is)))
        (λ f. eq_eqb o.number number (same_Some _ _ (sym own ∙ ap (λ (w : List ℕ). number_in numbers (encode_utf8_all w)) ((bytes_eq-Decides s.written text).0 f) ∙ is)))
    by false e = elim (cases_Bool (bytes_eq s.written text)) [
      | inl f ↦ absurd (true≢false (sym (ap (λ (n : Name). is_name n Name.Other) (s.name ∙ ap name_of ((bytes_eq-Decides s.written text).0 f) ∙ unknown)) ∙ e))
      | inr f ↦ sym f
    ]

other_agrees : (numbers : List (List ℕ × ℕ)) (t : GrowingTree) (text : List ℕ) (number : ℕ) → AreApart numbers → name_of text ≡ Name.Other →
    number_in numbers (encode_utf8_all text) ≡ Some number → (o : Open) → StandsFor t.nodes o → IsNumbered numbers o (kind_of t o.id) → has_key false Name.Other number o ≡ is_foreign_called text t o
other_agrees numbers t text number apart unknown is o s has =
    other_foreign_key number o ∙ ap (λ b. not (is_in_html o.ns) && b) (same_written numbers o (kind_of t o.id) text number apart unknown is s has ∙ written_is t o text s)

unknown_agrees : (numbers : List (List ℕ × ℕ)) (t : GrowingTree) (text : List ℕ) → name_of text ≡ Name.Other → number_in numbers (encode_utf8_all text) ≡ None →
    (o : Open) → StandsFor t.nodes o → IsNumbered numbers o (kind_of t o.id) → false ≡ is_foreign_called text t o
unknown_agrees numbers t text unknown none o s has =
    by (is_in_html o.ns) (bytes_eq s.written text) refl ∙ ap (λ b. not (is_in_html o.ns) && b) (written_is t o text s)
  where
    by : (h c : Bool) → bytes_eq s.written text ≡ c → false ≡ (not h && c)
    by true c f = refl
    by false false f = refl
    by false true f =
        let same : s.written ≡ text = (bytes_eq-Decides s.written text).0 f in
        absurd (none-some _ (sym none ∙ ap (λ (w : List ℕ). number_in numbers (encode_utf8_all w)) (sym same) ∙ own_number numbers o (kind_of t o.id) (s.name ∙ ap name_of same ∙ unknown) s has))

pub top_is : (view old : TreeState) (name : Name) (bytes text : List ℕ) (t : GrowingTree) (number top : ℕ) → view ≡ old → Builds old t → IsTagNamed name bytes text →
    (name ≡ Name.Other → Some number ≡ number_in old.numbers bytes) → top ≡ last_place (has_key false name number) view.stack → top ≡ last_place (is_foreign_called text t) old.stack
top_is view old name bytes text t number top v b is finds e =
    e ∙ ap (λ (s : TreeState). last_place (has_key false name number) s.stack) v ∙ by (is_name name Name.Other) refl
  where
    by : (x : Bool) → is_name name Name.Other ≡ x → last_place (has_key false name number) old.stack ≡ last_place (is_foreign_called text t) old.stack
    by false f = last_as (has_key false name number) (is_foreign_called text t) old.stack
        (λ k d lt. known_agrees t name text number is.known f _ (all_standing t.nodes old.stack b.stack.nodes k d lt))
    by true f =
        let other = other_name name f in
        ap (λ (n : Name). last_place (has_key false n number) old.stack) other
        ∙ last_as (has_key false Name.Other number) (is_foreign_called text t) old.stack
        (λ k d lt. other_agrees old.numbers t text number b.numbered.apart (sym is.known ∙ other) (ap (number_in old.numbers) (sym is.spelt) ∙ sym (finds other)) _
        (all_standing t.nodes old.stack b.stack.nodes k d lt) (b.numbered.elements k d lt))

pub none_is : (old : TreeState) (name : Name) (bytes text : List ℕ) (t : GrowingTree) → Builds old t → IsTagNamed name bytes text → (is_name name Name.Other ≡ false → ⊥) →
    (name ≡ Name.Other → None ≡ number_in old.numbers bytes) → 0 ≡ last_place (is_foreign_called text t) old.stack
none_is old name bytes text t b is unknown finds = by (is_name name Name.Other) refl
  where
    by : (x : Bool) → is_name name Name.Other ≡ x → 0 ≡ last_place (is_foreign_called text t) old.stack
    by false f = absurd (unknown f)
    by true f =
        let other = other_name name f in
        sym (last_place_none (λ (o : Open). false) (λ o. refl) old.stack) ∙ last_as (λ (o : Open). false) (is_foreign_called text t) old.stack
        (λ k d lt. unknown_agrees old.numbers t text (sym is.known ∙ other) (ap (number_in old.numbers) (sym is.spelt) ∙ sym (finds other)) _
        (all_standing t.nodes old.stack b.stack.nodes k d lt) (b.numbered.elements k d lt))
