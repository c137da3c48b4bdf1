-- The text of plain trees spells them, however values are written in it.
use Rattle.std.proofs.Common.{◌≡◌, ◌≢◌, ℕ, ◌==◌, ◌<◌, Bool, true, false, not, List, [], ◌∷◌, ◌++◌, length, get_or, refl, sym, ap, ◌∙◌, subst, arith, append-nil, append_assoc, inl, inr}
use Rattle.std.specs.Prelude.{codes, ◌||◌}
use Rattle.std.specs.List.{flat_map, list_all}
use Rattle.std.specs.Str.{IsUtf8, bytes_eq, chars}
use Rattle.std.proofs.lemmas.Bool.{cases_Bool, cases_lt, and_parts, and_from, true≢false, not-true, not_from_false, eqb-true, eq-eqb}
use Rattle.std.proofs.lemmas.List.Folds.{list_all-append, list_any-append}
use Rattle.std.proofs.lemmas.Slice.Eq.{bytes_eq-Decides}
use Rattle.dom_markup.specs.Bytes.{is_name_byte, is_letter, is_whitespace, folded}
use Rattle.dom_nodes.specs.Words.{is_among}
use Rattle.dom_markup.specs.Names.{markup, text_of, raw_text_of, mode_in, void_names, raw_names, text_names}
use Rattle.dom_markup.specs.References.{decoded}
use Rattle.dom_markup.specs.Escaping.{escaped_text, lacks}
use Rattle.dom_markup.specs.Html.{end_tag}
use Rattle.dom_markup.specs.ValueTrees.{Attribute, ValueTrees}
use Rattle.dom_markup.specs.ValueTrees.ValueTrees.{no_trees, text_node, comment_node, doctype_node, element_node}
use Rattle.dom_markup.specs.Markup.{Item, IsTagName, BeginsAttribute, EndsTag, has_name, kept_after, BeginsStart, BeginsEnd, begins_markup, text_front, EndsAtTag, BeginsDoctype, Begins, SpellsItemsUpTo, items_of, AreInPlace, Spells, LacksEnd}
use Rattle.dom_markup.specs.Markup.Item.{characters, comment, doctype}
use Rattle.dom_markup.specs.Markup.Item.{end_tag as the_end}
use Rattle.dom_markup.specs.Plain.{HoldsNoClose, IsPlainName, ArePlain, begins_with_text, IsPlainIn, IsPlainTrees}
use Rattle.dom_markup.proofs.grammar.Doctypes.{doctype_made}
use Rattle.dom_markup.proofs.grammar.Reading.{name_no_space}
use Rattle.dom_markup.proofs.html.InertLemmas.{no_less}
use Rattle.dom_markup.proofs.html.ReadBack.{text_reads_back}
use Rattle.dom_markup.specs.WrittenTrees.{ValueChar, attr_by, start_by, text_by}

-- what is written of a value holds no quote, and is read as the value
pub record IsReadBack (by : ValueChar) : Type 0 where
  pub quoteless : (value : List ℕ) → lacks 34 (flat_map by (chars value)) ≡ true
  pub read_back : (value : List ℕ) → IsUtf8 value → decoded (flat_map by (chars value)) ≡ value

pub assoc : (xs ys zs : List ℕ) → (xs ++ ys) ++ zs ≡ xs ++ (ys ++ zs)
assoc xs ys zs = append_assoc xs ys zs

-- ---- texts

-- a text without a `<` goes as far as the place where markup begins
front-lacks : (xs rest : List ℕ) → lacks 60 xs ≡ true → text_front rest ≡ [] → text_front (xs ++ rest) ≡ xs
front-lacks [] rest none stops = stops
front-lacks (x ∷ xs) rest none stops =
    let parts = and_parts (not (x == 60)) (lacks 60 xs) none in
    let here : (x == 60) ≡ false = not-true (x == 60) parts.0 in
    let begins : begins_markup (x ∷ (xs ++ rest)) ≡ false = no_markup x (xs ++ rest) here in
    rw begins (ap (λ t. x ∷ t) (front-lacks xs rest parts.1 stops))
  where
    no_markup : (b : ℕ) (bs : List ℕ) → (b == 60) ≡ false → begins_markup (b ∷ bs) ≡ false
    no_markup b [] h = refl
    no_markup b (c ∷ cs) h = rw h refl

-- what is written of a text is some text
escaped-some : (text : List ℕ) → IsUtf8 text → text ≢ [] → escaped_text text ≢ []
escaped-some text utf8 some none = some (sym (text_reads_back text utf8) ∙ ap decoded none)

text_begins : (text rest : List ℕ) → IsUtf8 text → text ≢ [] → text_front rest ≡ [] → Begins markup (escaped_text text ++ rest) (characters text) rest
text_begins text rest utf8 some stops =
    let front : text_front (escaped_text text ++ rest) ≡ escaped_text text = front-lacks (escaped_text text) rest (no_less text) stops in
    (λ none. escaped-some text utf8 some (sym front ∙ none), ap (λ t. t ++ rest) (sym front), sym (ap decoded front ∙ text_reads_back text utf8))

-- ---- comments

third_differs : (xs ys : List ℕ) → xs ≡ ys → get_or xs 2 0 ≡ 45 → get_or ys 2 0 ≡ 62 → ⊥
third_differs xs ys is p q = true≢false (sym (eq-eqb 45 62 (sym p ∙ (ap (λ l. get_or l 2 0) is ∙ q))))

-- an end of a comment at the front of the contents and what follows them stands in the contents whole
close_here : (contents rest later : List ℕ) → contents ≢ [] → contents ++ (codes "-->" ++ rest) ≡ codes "-->" ++ later → (beyond : List ℕ) × (contents ≡ codes "-->" ++ beyond)
close_here [] rest later some is = absurd (some refl)
close_here (x ∷ []) rest later some is = absurd (third_differs _ _ is refl refl)
close_here (x ∷ y ∷ []) rest later some is = absurd (third_differs _ _ is refl refl)
close_here (x ∷ y ∷ z ∷ zs) rest later some is =
    let one : x ≡ 45 = ap (λ l. get_or l 0 0) is in
    let two : y ≡ 45 = ap (λ l. get_or l 1 0) is in
    let three : z ≡ 62 = ap (λ l. get_or l 2 0) is in
    (zs, ap (λ n. n ∷ y ∷ z ∷ zs) one ∙ (ap (λ n. 45 ∷ n ∷ z ∷ zs) two ∙ ap (λ n. 45 ∷ 45 ∷ n ∷ zs) three))

pub tails : (x y : ℕ) (xs ys : List ℕ) → x ∷ xs ≡ y ∷ ys → (x ≡ y) × (xs ≡ ys)
tails x y xs ys is = (cc, cc)

shorter : (x b : ℕ) (xs before : List ℕ) → length (b ∷ before) < length (x ∷ xs) → length before < length xs
shorter x b xs before h = omega arith

-- and so does one that begins in the contents
close_inside : (contents rest before later : List ℕ) → contents ++ (codes "-->" ++ rest) ≡ before ++ (codes "-->" ++ later) → length before < length contents →
    (beyond : List ℕ) × (contents ≡ before ++ (codes "-->" ++ beyond))
close_inside [] rest before later is short = absurd (omega arith)
close_inside (x ∷ xs) rest [] later is short = close_here (x ∷ xs) rest later (λ e. cc) is
close_inside (x ∷ xs) rest (b ∷ before) later is short =
    let parts = tails x b (xs ++ (codes "-->" ++ rest)) (before ++ (codes "-->" ++ later)) is in
    let more = close_inside xs rest before later parts.1 (shorter x b xs before short) in
    (more.0, ap (λ t. x ∷ t) more.1 ∙ ap (λ c. c ∷ (before ++ (codes "-->" ++ more.0))) parts.0)

comment_begins : (contents rest : List ℕ) → HoldsNoClose contents → Begins markup (codes "<!--" ++ (contents ++ (codes "-->" ++ rest))) (comment contents) rest
comment_begins contents rest none = (
  contents ++ (codes "-->" ++ rest),
  refl,
  record {
    is = refl;
    first = λ before later is. elim (cases_lt (length before) (length contents)) [
      | inl short ↦ (let inside = close_inside contents rest before later is short in absurd (none before inside.0 inside.1))
      | inr long ↦ long
    ];
  },
)

-- ---- doctypes

doctype_begins : (name rest : List ℕ) → IsPlainName name → Begins markup (codes "<!DOCTYPE " ++ (name ++ (codes ">" ++ rest))) (doctype name [] []) rest
doctype_begins name rest plain =
    let closed = 62 ∷ rest in
    let begins = doctype_made (codes "DOCTYPE " ++ (name ++ closed)) (codes "DOCTYPE") (codes " " ++ (name ++ closed)) (codes " ") (name ++ closed) name closed [] [] rest
    (record { is = refl; passes = refl; fails = refl }) (record { is = refl; passes = refl; fails = name_no_space name closed plain.0 plain.1 }) (record { is = refl; passes = plain.1; fails = refl })
    refl (λ e. cc) plain.0 (closed, inl (refl, refl, refl), ([], refl, inl refl)) in
    subst (λ (read : List ℕ). BeginsDoctype (codes "<!DOCTYPE " ++ (name ++ closed)) read [] [] rest) plain.2 begins

-- ---- tags

end_begins : (name rest : List ℕ) → IsTagName name → folded name ≡ name → BeginsEnd (end_tag name ++ rest) name rest
end_begins name rest is folds = record {
  written = name;
  space = [];
  is = ap (λ t. 60 ∷ 47 ∷ t) (assoc name (codes ">") rest);
  names = (is, sym folds);
  is_space = refl;
}

-- a value in quotes ends at the next quote
attribute_begins : (by : ValueChar) (writer : IsReadBack by) (attribute : Attribute) (rest : List ℕ) → IsPlainName attribute.name → IsUtf8 attribute.value →
    BeginsAttribute (attr_by by attribute ++ rest) attribute rest
attribute_begins by writer attribute rest plain utf8 =
    let value = flat_map by (chars attribute.value) in
    let grouped : (attribute.name ++ (codes "=\"" ++ (value ++ codes "\""))) ++ rest ≡ attribute.name ++ (codes "=\"" ++ (value ++ (34 ∷ rest))) =
    assoc attribute.name (codes "=\"" ++ (value ++ codes "\"")) rest ∙ ap (λ t. attribute.name ++ (61 ∷ 34 ∷ t)) (assoc value (codes "\"") rest) in
    record {
      space = codes " ";
      name = attribute.name;
      after = 61 ∷ 34 ∷ (value ++ (34 ∷ rest));
      is = ap (λ t. 32 ∷ t) grouped;
      is_space = refl;
      some_space = λ e. cc;
      is_name = plain.1;
      some_name = plain.0;
      whole_name = refl;
      folds = sym plain.2;
      valued = (value, (writer.quoteless attribute.value, refl), sym (writer.read_back attribute.value utf8));
    }

tag_ends : (by : ValueChar) (writer : IsReadBack by) (slash : Bool) (attributes : List Attribute) (rest : List ℕ) → ArePlain attributes →
    EndsTag slash (flat_map (attr_by by) attributes ++ (62 ∷ rest)) attributes rest
tag_ends by writer slash [] rest plain = ([], refl, inl refl)
tag_ends by writer slash (attribute ∷ later) rest plain =
    let more = flat_map (attr_by by) later in
    let grouped : (attr_by by attribute ++ more) ++ (62 ∷ rest) ≡ attr_by by attribute ++ (more ++ (62 ∷ rest)) = assoc (attr_by by attribute) more (62 ∷ rest) in
    (more ++ (62 ∷ rest), subst (λ (t : List ℕ). BeginsAttribute t attribute (more ++ (62 ∷ rest))) (sym grouped) (attribute_begins by writer attribute (more ++ (62 ∷ rest)) plain.0 plain.1), tag_ends by writer slash later rest plain.3)

pub bytes_eq-swapped : (xs ys : List ℕ) → bytes_eq xs ys ≡ bytes_eq ys xs
bytes_eq-swapped xs ys = go (bytes_eq xs ys) (bytes_eq ys xs) refl refl
  where
    go : (a b : Bool) → bytes_eq xs ys ≡ a → bytes_eq ys xs ≡ b → a ≡ b
    go true true p q = refl
    go false false p q = refl
    go true false p q = sym ((bytes_eq-Decides ys xs).1 (sym ((bytes_eq-Decides xs ys).0 p))) ∙ q
    go false true p q = sym p ∙ (bytes_eq-Decides xs ys).1 (sym ((bytes_eq-Decides ys xs).0 q))

-- none of the attributes has a name of the first ones
abbrev pub AreOthers : List Attribute → List Attribute → Type 0
AreOthers first [] = Unit {0}
AreOthers first (attribute ∷ later) = (has_name attribute.name first ≡ false) × AreOthers first later

others-none : (attributes : List Attribute) → AreOthers [] attributes
others-none [] = tt
others-none (attribute ∷ later) = (refl, others-none later)

pub or_none : (a b : Bool) → a ≡ false → b ≡ false → (a || b) ≡ false
or_none a b p q = rw (p, q) refl

pub none_or : (a b : Bool) → (a || b) ≡ false → (a ≡ false) × (b ≡ false)
none_or true b h = (h, absurd (true≢false h))
none_or false b h = (refl, h)

others-more : (first : List Attribute) (attribute : Attribute) (later : List Attribute) → has_name attribute.name later ≡ false → AreOthers first later → AreOthers (first ++ attribute ∷ []) later
others-more first attribute [] new others = tt
others-more first attribute (a ∷ later) new others =
    let parts = none_or (bytes_eq a.name attribute.name) (has_name attribute.name later) new in (
      list_any-append (λ (x : Attribute). bytes_eq x.name a.name) first (attribute ∷ [])
          ∙ or_none (has_name a.name first) (bytes_eq attribute.name a.name || false) others.0 (or_none _ false (bytes_eq-swapped attribute.name a.name ∙ parts.0) refl),
      others-more first attribute later parts.1 others.1,
    )

kept-all : (first attributes : List Attribute) → ArePlain attributes → AreOthers first attributes → kept_after first attributes ≡ first ++ attributes
kept-all first [] plain others = sym (append-nil first)
kept-all first (attribute ∷ later) plain others =
    rw others.0 (kept-all (first ++ attribute ∷ []) later plain.3 (others-more first attribute later plain.2 others.1) ∙ append_assoc first (attribute ∷ []) later)

start_begins : (by : ValueChar) (writer : IsReadBack by) (name : List ℕ) (attributes : List Attribute) (rest : List ℕ) → IsTagName name → folded name ≡ name → ArePlain attributes →
    BeginsStart (start_by by name attributes ++ rest) name attributes rest
start_begins by writer name attributes rest is folds plain =
    let all = flat_map (attr_by by) attributes in
    let grouped : (name ++ (all ++ codes ">")) ++ rest ≡ name ++ (all ++ (62 ∷ rest)) = assoc name (all ++ codes ">") rest ∙ ap (λ t. name ++ t) (assoc all (codes ">") rest) in
    record {
      written = name;
      more = all ++ (62 ∷ rest);
      all = attributes;
      is = ap (λ t. 60 ∷ t) grouped;
      names = (is, sym folds);
      ends = tag_ends by writer (is_among name void_names) attributes rest plain;
      kept = sym (kept-all [] attributes plain (others-none attributes));
    }

-- ---- raw texts

lacks_where : (p : ℕ → Bool) → p 60 ≡ false → (xs : List ℕ) → list_all p xs ≡ true → lacks 60 xs ≡ true
lacks_where p none [] all = refl
lacks_where p none (x ∷ xs) all =
    let parts = and_parts (p x) (list_all p xs) all in
    and_from (not (x == 60)) (lacks 60 xs) (not_from_false (x == 60) (other p none x parts.0)) (lacks_where p none xs parts.1)
  where
    other : (p : ℕ → Bool) → p 60 ≡ false → (x : ℕ) → p x ≡ true → (x == 60) ≡ false
    other p none x passes = elim (cases_Bool (x == 60)) [
      | inl t ↦ absurd (true≢false (sym passes ∙ (ap p (eqb-true x 60 t) ∙ none)))
      | inr f ↦ f
    ]

lacks_both : (xs ys : List ℕ) → lacks 60 xs ≡ true → lacks 60 ys ≡ true → lacks 60 (xs ++ ys) ≡ true
lacks_both xs ys p q = list_all-append (λ b. not (b == 60)) xs ys ∙ and_from (lacks 60 xs) (lacks 60 ys) p q

name_lacks : (name : List ℕ) → IsTagName name → lacks 60 name ≡ true
name_lacks [] is = absurd is
name_lacks (b ∷ bs) is = and_from (not (b == 60)) (lacks 60 bs) (and_parts (not (b == 60)) true (lacks_where is_letter refl (b ∷ []) (and_from (is_letter b) true is.0 refl))).0 (lacks_where is_name_byte refl bs is.1)

-- a front without a `<` ends before the first one
front_inside : (xs more front beyond : List ℕ) → lacks 60 front ≡ true → xs ++ (60 ∷ more) ≡ front ++ beyond → (left : List ℕ) × (xs ≡ front ++ left)
front_inside xs more [] beyond none is = (xs, refl)
front_inside [] more (c ∷ front) beyond none is =
    let first = tails 60 c more (front ++ beyond) is in
    absurd (true≢false (sym (eq-eqb c 60 (sym first.0)) ∙ not-true (c == 60) (and_parts (not (c == 60)) (lacks 60 front) none).0))
front_inside (x ∷ xs) more (c ∷ front) beyond none is =
    let parts = tails x c (xs ++ (60 ∷ more)) (front ++ beyond) is in
    let inner = front_inside xs more front beyond (and_parts (not (c == 60)) (lacks 60 front) none).1 parts.1 in
    (inner.0, ap (λ t. x ∷ t) inner.1 ∙ ap (λ b. b ∷ (front ++ inner.0)) parts.0)

-- what a longer front has beyond a shorter one
beyond_front : (xs more before later : List ℕ) → xs ++ more ≡ before ++ later → length before < length xs →
    (x : ℕ) × (left : List ℕ) × (xs ≡ before ++ (x ∷ left)) × ((x ∷ left) ++ more ≡ later)
beyond_front [] more before later is short = absurd (omega arith)
beyond_front (x ∷ xs) more [] later is short = (x, xs, refl, is)
beyond_front (x ∷ xs) more (b ∷ before) later is short =
    let parts = tails x b (xs ++ more) (before ++ later) is in
    let inner = beyond_front xs more before later parts.1 (shorter x b xs before short) in
    (inner.0, inner.1, ap (λ t. x ∷ t) inner.2 ∙ ap (λ c. c ∷ (before ++ (inner.0 ∷ inner.1))) parts.0, inner.3)

-- an end tag that begins before a `<` stands before it whole
end_inside : (name : List ℕ) (x : ℕ) (left more later beyond : List ℕ) → (x ∷ left) ++ (60 ∷ more) ≡ later → BeginsEnd later name beyond →
    (rest : List ℕ) × BeginsEnd (x ∷ left) name rest
end_inside name x left more later beyond is ends =
    let front : List ℕ = 47 ∷ (ends.written ++ (ends.space ++ (62 ∷ []))) in
    let none : lacks 60 front ≡ true = lacks_both ends.written (ends.space ++ (62 ∷ [])) (name_lacks ends.written ends.names.0) (lacks_both ends.space (62 ∷ []) (lacks_where is_whitespace refl ends.space ends.is_space) refl) in
    let grouped : 47 ∷ (ends.written ++ (ends.space ++ (62 ∷ beyond))) ≡ front ++ beyond =
    ap (λ t. 47 ∷ (ends.written ++ t)) (sym (assoc ends.space (62 ∷ []) beyond)) ∙ ap (λ t. 47 ∷ t) (sym (assoc ends.written (ends.space ++ (62 ∷ [])) beyond)) in
    let parts = tails x 60 (left ++ (60 ∷ more)) _ (is ∙ ends.is) in
    let inner = front_inside left more front beyond none (parts.1 ∙ grouped) in
    let whole : 47 ∷ ((ends.written ++ (ends.space ++ (62 ∷ []))) ++ inner.0) ≡ 47 ∷ (ends.written ++ (ends.space ++ (62 ∷ inner.0))) =
    ap (λ t. 47 ∷ t) (assoc ends.written (ends.space ++ (62 ∷ [])) inner.0) ∙ ap (λ t. 47 ∷ (ends.written ++ t)) (assoc ends.space (62 ∷ []) inner.0) in (
      inner.0,
      record {
        written = ends.written;
        space = ends.space;
        is = ap (λ b. b ∷ left) parts.0 ∙ (ap (λ t. 60 ∷ t) inner.1 ∙ ap (λ t. 60 ∷ t) whole);
        names = ends.names;
        is_space = ends.is_space;
      },
    )

ends_at_tag : (name text rest : List ℕ) → IsTagName name → folded name ≡ name → LacksEnd name text → EndsAtTag name (text ++ (end_tag name ++ rest)) text (end_tag name ++ rest)
ends_at_tag name text rest is folds none = record {
  is = refl;
  after = rest;
  ends = end_begins name rest is folds;
  first = λ before later beyond same ends. elim (cases_lt (length before) (length text)) [
    | inl short ↦
        (let cut = beyond_front text (end_tag name ++ rest) before later same short in
        let whole = end_inside name cut.0 cut.1 _ later beyond cut.3 ends in
        absurd (none before (cut.0 ∷ cut.1) whole.0 cut.2 whole.1))
    | inr long ↦ long
  ];
}

-- a text without a `<` holds no end tag
no_end-lacks : (name text : List ℕ) → lacks 60 text ≡ true → LacksEnd name text
no_end-lacks name text none before later beyond is ends =
    let behind : lacks 60 later ≡ true = (and_parts (lacks 60 before) (lacks 60 later) (sym (list_all-append (λ b. not (b == 60)) before later) ∙ (ap (lacks 60) (sym is) ∙ none))).1 in
    true≢false (sym behind ∙ ap (lacks 60) ends.is)

-- ---- trees

-- what is written of trees that begin with no text begins no text
stops_before : (by : ValueChar) (top : Bool) (trees : ValueTrees) (rest : List ℕ) → begins_with_text trees ≡ false → IsPlainTrees top trees → text_front rest ≡ [] → text_front (text_by by false trees ++ rest) ≡ []
stops_before by top no_trees rest other plain stops = stops
stops_before by top (text_node contents later) rest other plain stops = absurd (true≢false other)
stops_before by top (comment_node contents later) rest other plain stops = refl
stops_before by top (doctype_node name public system later) rest other plain stops = refl
stops_before by top (element_node [] attributes children later) rest other plain stops = absurd plain.0
stops_before by top (element_node (b ∷ bs) attributes children later) rest other plain stops = rw plain.0.0 refl

-- names of one list, none of which is among others
apart : (name : List ℕ) (known others : List (List ℕ)) → list_all (λ k. not (is_among k others)) known ≡ true → is_among name known ≡ true → is_among name others ≡ false
apart name [] others disjoint among = absurd (true≢false (sym among))
apart name (k ∷ known) others disjoint among =
    let parts = and_parts (not (is_among k others)) (list_all (λ k. not (is_among k others)) known) disjoint in
    elim (cases_Bool (bytes_eq k name)) [
      | inl t ↦ ap (λ n. is_among n others) (sym ((bytes_eq-Decides k name).0 t)) ∙ not-true (is_among k others) parts.0
      | inr f ↦ apart name known others parts.1 (rw f at among)
    ]

pub void_not_raw : (name : List ℕ) → is_among name void_names ≡ true → is_among name raw_names ≡ false
unfolding void_names raw_names
void_not_raw name void = apart name void_names raw_names refl void

pub void_not_text : (name : List ℕ) → is_among name void_names ≡ true → is_among name text_names ≡ false
unfolding void_names text_names
void_not_text name void = apart name void_names text_names refl void

-- what follows the end tag of an element, and the element's children before it
children_spell : (by : ValueChar) (writer : IsReadBack by) (name : List ℕ) (children : ValueTrees) (rest : List ℕ) (items : List Item) (last : List ℕ) → IsTagName name → folded name ≡ name → IsPlainIn (mode_in name) children → IsPlainTrees false children →
    ((rest : List ℕ) (items : List Item) → text_front rest ≡ [] → SpellsItemsUpTo markup rest items last → SpellsItemsUpTo markup (text_by by false children ++ rest) (items_of children ++ items) last) →
    SpellsItemsUpTo markup rest items last →
    SpellsItemsUpTo (mode_in name) (text_by by (is_among name raw_names) children ++ (end_tag name ++ rest)) (items_of children ++ (the_end name ∷ items)) last
children_spell by writer name children rest items last is folds fits plain spell more =
    by_name (is_among name raw_names) (is_among name text_names) refl refl
  where
    raw_children : (children : ValueTrees) → IsPlainIn (raw_text_of name) children → IsPlainTrees false children →
        SpellsItemsUpTo (raw_text_of name) (text_by by true children ++ (end_tag name ++ rest)) (items_of children ++ (the_end name ∷ items)) last
    raw_children no_trees fits plain = (rest, (refl, end_begins name rest is folds), more)
    raw_children (text_node contents no_trees) fits plain = (end_tag name ++ rest, (plain.0, subst (λ (t : List ℕ). EndsAtTag name (t ++ (end_tag name ++ rest)) contents (end_tag name ++ rest)) (sym (append-nil contents)) (ends_at_tag name contents rest is folds fits)), (rest, (refl, end_begins name rest is folds), more))
    raw_children _ fits plain = absurd fits

    text_children : (children : ValueTrees) → IsPlainIn (text_of name) children → IsPlainTrees false children →
        SpellsItemsUpTo (text_of name) (text_by by false children ++ (end_tag name ++ rest)) (items_of children ++ (the_end name ∷ items)) last
    text_children no_trees fits plain = (rest, (refl, end_begins name rest is folds), more)
    text_children (text_node contents no_trees) fits plain =
        let front = escaped_text contents in
        (end_tag name ++ rest, (front, escaped-some contents plain.1 plain.0, subst (λ (t : List ℕ). EndsAtTag name (t ++ (end_tag name ++ rest)) front (end_tag name ++ rest)) (sym (append-nil front)) (ends_at_tag name front rest is folds (no_end-lacks name front (no_less contents))), sym (text_reads_back contents plain.1)), (rest, (refl, end_begins name rest is folds), more))
    text_children _ fits plain = absurd fits

    by_name : (r t : Bool) → is_among name raw_names ≡ r → is_among name text_names ≡ t →
        SpellsItemsUpTo (mode_in name) (text_by by (is_among name raw_names) children ++ (end_tag name ++ rest)) (items_of children ++ (the_end name ∷ items)) last
    by_name true t p q = rw p (raw_children children (rw p at fits) plain)
    by_name false true p q = rw (p, q) (text_children children (rw (p, q) at fits) plain)
    by_name false false p q = rw (p, q) (spell (end_tag name ++ rest) (the_end name ∷ items) refl (rest, end_begins name rest is folds, more))

-- an element, where its children and what follows it are spelled
element_spells : (by : ValueChar) (writer : IsReadBack by) (name : List ℕ) (attributes : List Attribute) (children later : ValueTrees) (rest : List ℕ) (items : List Item) (last : List ℕ) →
    IsTagName name → folded name ≡ name → ArePlain attributes → IsPlainIn (mode_in name) children → IsPlainTrees false children →
    ((rest : List ℕ) (items : List Item) → text_front rest ≡ [] → SpellsItemsUpTo markup rest items last → SpellsItemsUpTo markup (text_by by false children ++ rest) (items_of children ++ items) last) →
    SpellsItemsUpTo markup (text_by by false later ++ rest) (items_of later ++ items) last →
    (void : Bool) → is_among name void_names ≡ void →
    SpellsItemsUpTo markup (text_by by false (element_node name attributes children later) ++ rest) (items_of (element_node name attributes children later) ++ items) last
element_spells by writer name attributes children later rest items last is folds attrs fits plain spell more true void =
    let tag = start_by by name attributes in
    let behind = text_by by false later ++ rest in
    let mode : mode_in name ≡ markup = rw (void_not_raw name void, void_not_text name void) refl in
    rw void (
      behind,
      subst (λ (t : List ℕ). BeginsStart t name attributes behind) (sym (assoc tag (text_by by false later) rest)) (start_begins by writer name attributes behind is folds attrs),
      subst (λ m. SpellsItemsUpTo m behind (items_of later ++ items) last) (sym mode) more,
    )
element_spells by writer name attributes children later rest items last is folds attrs fits plain spell more false void =
    let tag = start_by by name attributes in
    let inner = text_by by (is_among name raw_names) children in
    let behind = text_by by false later ++ rest in
    let after = inner ++ (end_tag name ++ behind) in
    let grouped : (tag ++ ((inner ++ end_tag name) ++ text_by by false later)) ++ rest ≡ tag ++ after =
    assoc tag ((inner ++ end_tag name) ++ text_by by false later) rest ∙ ap (λ t. tag ++ t) (assoc (inner ++ end_tag name) (text_by by false later) rest ∙ assoc inner (end_tag name) behind) in
    let below : SpellsItemsUpTo (mode_in name) after (items_of children ++ (the_end name ∷ (items_of later ++ items))) last = children_spell by writer name children behind (items_of later ++ items) last is folds fits plain spell more in
    rw void (
      after,
      subst (λ (t : List ℕ). BeginsStart t name attributes after) (sym grouped) (start_begins by writer name attributes after is folds attrs),
      subst (λ (is : List Item). SpellsItemsUpTo (mode_in name) after is last) (sym (append_assoc (items_of children) (the_end name ∷ items_of later) items)) below,
    )

-- plain trees, where what follows them begins no text and is spelled
trees_spell : (by : ValueChar) (writer : IsReadBack by) (top : Bool) (trees : ValueTrees) (last rest : List ℕ) (items : List Item) → IsPlainTrees top trees → text_front rest ≡ [] → SpellsItemsUpTo markup rest items last →
    SpellsItemsUpTo markup (text_by by false trees ++ rest) (items_of trees ++ items) last
trees_spell by writer top no_trees last rest items plain stops more = more
trees_spell by writer top (text_node contents later) last rest items plain stops more =
    let behind = text_by by false later ++ rest in (
      behind,
      subst (λ (t : List ℕ). Begins markup t (characters contents) behind) (sym (assoc (escaped_text contents) (text_by by false later) rest)) (text_begins contents behind plain.1 plain.0 (stops_before by top later rest plain.2 plain.3 stops)),
      trees_spell by writer top later last rest items plain.3 stops more,
    )
trees_spell by writer top (comment_node contents later) last rest items plain stops more =
    let behind = text_by by false later ++ rest in (
      behind,
      subst (λ (t : List ℕ). Begins markup (codes "<!--" ++ t) (comment contents) behind) (sym (assoc contents (codes "-->" ++ text_by by false later) rest)) (comment_begins contents behind plain.0),
      trees_spell by writer top later last rest items plain.1 stops more,
    )
trees_spell by writer top (doctype_node name public system later) last rest items plain stops more =
    let behind = text_by by false later ++ rest in (
      behind,
      subst (λ (t : List ℕ). BeginsDoctype (codes "<!DOCTYPE " ++ t) name public system behind) (sym (assoc name (codes ">" ++ text_by by false later) rest))
          (subst (λ (t : List ℕ). BeginsDoctype (codes "<!DOCTYPE " ++ (name ++ (codes ">" ++ behind))) name t system behind) (sym plain.2)
          (subst (λ (t : List ℕ). BeginsDoctype (codes "<!DOCTYPE " ++ (name ++ (codes ">" ++ behind))) name [] t behind) (sym plain.3) (doctype_begins name behind plain.1))),
      trees_spell by writer top later last rest items plain.4 stops more,
    )
trees_spell by writer top (element_node name attributes children later) last rest items plain stops more =
    element_spells by writer name attributes children later rest items last plain.0 plain.1 plain.2 plain.4 plain.5
    (λ r i s m. trees_spell by writer false children last r i plain.5 s m) (trees_spell by writer top later last rest items plain.6 stops more) (is_among name void_names) refl

plain_in_place : (top : Bool) (trees : ValueTrees) → IsPlainTrees top trees → AreInPlace top trees
plain_in_place top no_trees plain = tt
plain_in_place top (text_node contents later) plain = plain_in_place top later plain.3
plain_in_place top (comment_node contents later) plain = plain_in_place top later plain.1
plain_in_place top (doctype_node name public system later) plain = (plain.0, plain_in_place top later plain.4)
plain_in_place top (element_node name attributes children later) plain = (plain.3, plain_in_place false children plain.5, plain_in_place top later plain.6)

pub written_spells : (by : ValueChar) (writer : IsReadBack by) (trees : ValueTrees) → IsPlainTrees true trees → Spells (text_by by false trees) trees
written_spells by writer trees plain = record {
  items = subst (λ (t : List ℕ). SpellsItemsUpTo markup t (items_of trees) []) (append-nil (text_by by false trees))
      (subst (λ (i : List Item). SpellsItemsUpTo markup (text_by by false trees ++ []) i []) (append-nil (items_of trees)) (trees_spell by writer true trees [] [] [] plain refl refl));
  in_place = plain_in_place true trees plain;
}
