-- What a text spells is plain.
use Rattle.std.proofs.Common.{◌≡◌, ◌≢◌, ℕ, ◌+◌, ◌==◌, ◌<◌, ◌≤◌, Bool, true, false, List, [], ◌∷◌, ◌++◌, length, length-append, Option, None, Some, refl, sym, ap, ◌∙◌, subst, arith, append-nil, append_assoc, inl, inr}
use Rattle.std.specs.Prelude.{codes, nat_lt, ◌||◌, if◌then◌else◌}
use Rattle.std.specs.Char.{to_ascii_lowercase, encode_utf8}
use Rattle.std.specs.List.{list_all}
use Rattle.std.specs.Str.{IsUtf8, bytes_eq}
use Rattle.std.proofs.lemmas.Bool.{cases_Bool, cases_lt, and_parts, and_from, le-ltb, lt-ltb}
use Rattle.std.proofs.lemmas.List.Folds.{list_any-append}
use Rattle.std.proofs.lemmas.Str.{length-encode}
use Rattle.std.proofs.lemmas.Str.Ascii.{lowercase-lowercase}
use Rattle.dom_markup.specs.Bytes.{is_name_byte, is_letter, folded}
use Rattle.dom_nodes.specs.Words.{is_among}
use Rattle.dom_markup.specs.Names.{markup, text_of, raw_text_of, mode_in, void_names, raw_names, text_names}
use Rattle.dom_markup.specs.References.{decoded, decoded_after, reference}
use Rattle.dom_markup.specs.declared.references.Reference.{Reference}
use Rattle.dom_markup.specs.ValueTrees.{Attribute, ValueTrees}
use Rattle.dom_markup.specs.ValueTrees.ValueTrees.{no_trees, text_node, comment_node, doctype_node, element_node}
use Rattle.dom_markup.specs.Markup.{Item, IsTagName, EndsTag, has_name, kept_after, BeginsStart, BeginsEnd, begins_markup, text_front, EndsAtTag, EndsAtMark, SpellsItemsUpTo, items_of, AreInPlace, Spells, LacksEnd}
use Rattle.dom_markup.specs.Markup.Item.{end_tag as the_end}
use Rattle.dom_markup.specs.Plain.{HoldsNoClose, IsPlainName, ArePlain, begins_with_text, IsPlainIn, IsPlainTrees, HaveNoIdentifiers}
use Rattle.dom_markup.proofs.grammar.NameBytes.{above}
use Rattle.dom_markup.proofs.plain.WrittenTrees.{assoc, tails, bytes_eq-swapped, or_none, none_or, void_not_raw, void_not_text}

-- the texts and values of trees are UTF-8
abbrev pub ValuesAreUtf8 : List Attribute → Type 0
ValuesAreUtf8 [] = Unit {0}
ValuesAreUtf8 (attribute ∷ later) = IsUtf8 attribute.value × ValuesAreUtf8 later

abbrev pub TextsAreUtf8 : ValueTrees → Type 0
TextsAreUtf8 no_trees = Unit {0}
TextsAreUtf8 (text_node contents later) = IsUtf8 contents × TextsAreUtf8 later
TextsAreUtf8 (comment_node contents later) = TextsAreUtf8 later
TextsAreUtf8 (doctype_node name public system later) = TextsAreUtf8 later
TextsAreUtf8 (element_node name attributes children later) = ValuesAreUtf8 attributes × TextsAreUtf8 children × TextsAreUtf8 later

-- ---- names in lower case

small_letter : (m : ℕ) → 96 < m → m < 123 → is_letter m ≡ true
small_letter m low high = rw (lt-ltb 64 m (omega arith), le-ltb m 91 (omega arith), lt-ltb 96 m low, lt-ltb m 123 high) refl

pub small_name : (m : ℕ) → 96 < m → is_name_byte m ≡ true
small_name m low = above m (omega arith)

-- the byte stays, or is a capital letter that becomes a small one
lower_keeps : (p : ℕ → Bool) → ((m : ℕ) → 96 < m → m < 123 → p m ≡ true) → (b : ℕ) → p b ≡ true → p (to_ascii_lowercase b) ≡ true
lower_keeps p small b passes = elim (cases_lt b 65) [
  | inl low ↦ rw (lt-ltb b 65 low) passes
  | inr above ↦ elim (cases_lt b 91) [
    | inl capital ↦ rw (le-ltb b 65 above, lt-ltb b 91 capital) (small (b + 32) (omega arith) (omega arith))
    | inr high ↦ rw (le-ltb b 65 above, le-ltb b 91 high) passes
  ]
]

folded-names : (name : List ℕ) → list_all is_name_byte name ≡ true → list_all is_name_byte (folded name) ≡ true
folded-names [] all = refl
folded-names (b ∷ bs) all =
    let parts = and_parts (is_name_byte b) (list_all is_name_byte bs) all in
    and_from (is_name_byte (to_ascii_lowercase b)) (list_all is_name_byte (folded bs)) (lower_keeps is_name_byte (λ m low high. small_name m low) b parts.0) (folded-names bs parts.1)

folded-folded : (name : List ℕ) → folded (folded name) ≡ folded name
folded-folded [] = refl
folded-folded (b ∷ bs) = ap (λ c. c ∷ folded (folded bs)) (lowercase-lowercase b) ∙ ap (λ t. to_ascii_lowercase b ∷ t) (folded-folded bs)

folded-tag : (written : List ℕ) → IsTagName written → IsTagName (folded written)
folded-tag [] is = absurd is
folded-tag (b ∷ bs) is = (lower_keeps is_letter small_letter b is.0, folded-names bs is.1)

plain_name : (written name : List ℕ) → name ≡ folded written → written ≢ [] → list_all is_name_byte written ≡ true → IsPlainName name
plain_name [] name folds some all = absurd (some refl)
plain_name (b ∷ bs) name folds some all =
    let P : List ℕ → Type 0 = IsPlainName in
    subst P (sym folds) (λ e. cc, folded-names (b ∷ bs) all, folded-folded (b ∷ bs))

-- ---- attributes

abbrev pub ArePlainNames : List Attribute → Type 0
ArePlainNames [] = Unit {0}
ArePlainNames (attribute ∷ later) = IsPlainName attribute.name × ArePlainNames later

-- plain names, none of which comes twice
abbrev pub AreDistinct : List Attribute → Type 0
AreDistinct [] = Unit {0}
AreDistinct (attribute ∷ later) = IsPlainName attribute.name × (has_name attribute.name later ≡ false) × AreDistinct later

read_names : (slash : Bool) (text : List ℕ) (attributes : List Attribute) (rest : List ℕ) → EndsTag slash text attributes rest → ArePlainNames attributes
read_names slash text [] rest ends = tt
read_names slash text (attribute ∷ later) rest ends =
    let begins = ends.1 in
    (plain_name begins.name attribute.name begins.folds begins.some_name begins.is_name, read_names slash ends.0 later rest ends.2)

distinct_more : (first : List Attribute) (attribute : Attribute) → AreDistinct first → IsPlainName attribute.name → has_name attribute.name first ≡ false → AreDistinct (first ++ attribute ∷ [])
distinct_more [] attribute distinct plain new = (plain, refl, tt)
distinct_more (a ∷ first) attribute distinct plain new =
    let parts = none_or (bytes_eq a.name attribute.name) (has_name attribute.name first) new in (
      distinct.0,
      list_any-append (λ (x : Attribute). bytes_eq x.name a.name) first (attribute ∷ [])
          ∙ or_none (has_name a.name first) (bytes_eq attribute.name a.name || false) distinct.1 (or_none _ false (bytes_eq-swapped attribute.name a.name ∙ parts.0) refl),
      distinct_more first attribute distinct.2 plain parts.1,
    )

kept-distinct : (first all : List Attribute) → AreDistinct first → ArePlainNames all → AreDistinct (kept_after first all)
kept-distinct first [] distinct plain = distinct
kept-distinct first (attribute ∷ later) distinct plain = elim (cases_Bool (has_name attribute.name first)) [
  | inl t ↦ rw t (kept-distinct first later distinct plain.1)
  | inr f ↦ rw f (kept-distinct (first ++ attribute ∷ []) later (distinct_more first attribute distinct plain.0 f) plain.1)
]

distinct-plain : (attributes : List Attribute) → AreDistinct attributes → ValuesAreUtf8 attributes → ArePlain attributes
distinct-plain [] distinct utf8 = tt
distinct-plain (attribute ∷ later) distinct utf8 = (distinct.0, utf8.0, distinct.1, distinct-plain later distinct.2 utf8.1)

start_plain : (text name : List ℕ) (attributes : List Attribute) (rest : List ℕ) → BeginsStart text name attributes rest → ValuesAreUtf8 attributes → IsTagName name × (folded name ≡ name) × ArePlain attributes
start_plain text name attributes rest begins utf8 =
    let folds = begins.names.1 in
    let distinct : AreDistinct attributes = subst AreDistinct (sym begins.kept) (kept-distinct [] begins.all tt (read_names _ begins.more begins.all rest begins.ends)) in
    (subst IsTagName (sym folds) (folded-tag begins.written begins.names.0), ap folded folds ∙ (folded-folded begins.written ∙ sym folds), distinct-plain attributes distinct utf8)

-- ---- texts

-- behind a text that goes as far as it can, no text goes on
pub front_ends : (text rest : List ℕ) → text ≡ text_front text ++ rest → text_front rest ≡ []
front_ends [] rest is = ap text_front (sym is)
front_ends (b ∷ bs) rest is = by_begin (begins_markup (b ∷ bs)) refl (front_ends bs rest)
  where
    by_begin : (m : Bool) → begins_markup (b ∷ bs) ≡ m → (bs ≡ text_front bs ++ rest → text_front rest ≡ []) → text_front rest ≡ []
    by_begin true t more =
        let front : text_front (b ∷ bs) ≡ [] = rw t refl in
        ap text_front (sym (is ∙ ap (λ f. f ++ rest) front)) ∙ front
    by_begin false t more =
        let front : text_front (b ∷ bs) ≡ b ∷ text_front bs = rw t refl in
        more (tails b b bs (text_front bs ++ rest) (is ∙ ap (λ f. f ++ rest) front)).1

no_text_next : (trees : ValueTrees) (text : List ℕ) (items : List Item) (last : List ℕ) → text_front text ≡ [] → SpellsItemsUpTo markup text (items_of trees ++ items) last → begins_with_text trees ≡ false
no_text_next no_trees text items last stops spelled = refl
no_text_next (text_node contents later) text items last stops spelled = absurd (spelled.1.0 stops)
no_text_next (comment_node contents later) text items last stops spelled = refl
no_text_next (doctype_node name public system later) text items last stops spelled = refl
no_text_next (element_node name attributes children later) text items last stops spelled = refl

-- ---- comments and raw texts

too_long : (before later : List ℕ) (b : ℕ) → length (before ++ (b ∷ later)) ≤ length before → ⊥
too_long before later b h = omega (arith, length-append before (b ∷ later), h)

no_close : (more contents rest : List ℕ) → EndsAtMark (codes "-->") more contents rest → HoldsNoClose contents
no_close more contents rest ends before later is =
    let whole : more ≡ before ++ (codes "-->" ++ (later ++ (codes "-->" ++ rest))) =
    ends.is ∙ (ap (λ t. t ++ (codes "-->" ++ rest)) is ∙ assoc before (codes "-->" ++ later) (codes "-->" ++ rest)) in
    too_long before (45 ∷ 62 ∷ later) 45 (subst (λ (t : List ℕ). length t ≤ length before) is (ends.first before _ whole))

end_longer : (text name rest more : List ℕ) → BeginsEnd text name rest → BeginsEnd (text ++ more) name (rest ++ more)
end_longer text name rest more ends = record {
  written = ends.written;
  space = ends.space;
  is = ap (λ t. t ++ more) ends.is ∙ (ap (λ t. 60 ∷ 47 ∷ t) (assoc ends.written (ends.space ++ (62 ∷ rest)) more) ∙ ap (λ t. 60 ∷ 47 ∷ (ends.written ++ t)) (assoc ends.space (62 ∷ rest) more));
  names = ends.names;
  is_space = ends.is_space;
}

no_end : (name text front rest : List ℕ) → EndsAtTag name text front rest → LacksEnd name front
no_end name text front rest at before later beyond is ends =
    let whole : text ≡ before ++ (later ++ rest) = at.is ∙ (ap (λ t. t ++ rest) is ∙ assoc before later rest) in
    let long = at.first before (later ++ rest) (beyond ++ rest) whole (end_longer later name beyond rest ends) in
    too_long before _ 60 (subst (λ (t : List ℕ). length t ≤ length before) (is ∙ ap (λ t. before ++ t) ends.is) long)

-- behind such a text the end tag stands, and no text
pub no_second : (name text front rest next rest2 : List ℕ) → EndsAtTag name text front rest → EndsAtTag name rest next rest2 → next ≢ [] → ⊥
no_second name text front rest [] rest2 at again some = some refl
no_second name text front rest (b ∷ next) rest2 at again some = too_long [] next b (again.first [] rest at.after refl at.ends)

-- what is read of some text is some text
encode_length : (c : ℕ) → 0 < length (encode_utf8 c)
encode_length c = rw length-encode (some_bytes (nat_lt c 128) (nat_lt c 2048) (nat_lt c 65536))
  where
    some_bytes : (x y z : Bool) → 0 < (if x then 1 else if y then 2 else if z then 3 else 4)
    some_bytes true y z = omega arith
    some_bytes false true z = omega arith
    some_bytes false false true = omega arith
    some_bytes false false false = omega arith

encode-some : (c : ℕ) (more : List ℕ) → encode_utf8 c ++ more ≢ []
encode-some c more none = omega (arith, encode_length c, ap length none, length-append (encode_utf8 c) more)

decoded-some : (text : List ℕ) → text ≢ [] → decoded text ≢ []
decoded-some [] some none = some refl
decoded-some (b ∷ rest) some none = by_byte (b == 38) (reference rest) refl refl
  where
    by_byte : (a : Bool) (r : Option Reference) → (b == 38) ≡ a → reference rest ≡ r → ⊥
    by_byte true None p q = let no : 38 ∷ decoded rest ≡ [] = rw (p, q) at none in cc
    by_byte true (Some found) p q = encode-some found.character (decoded_after found.len rest) (rw (p, q) at none)
    by_byte false r p q = let no : b ∷ decoded rest ≡ [] = rw p at none in cc

-- ---- trees

-- the children of an element and what follows its end tag, where the children are read as markup or as a text
abbrev pub IsReadAs : List ℕ → ValueTrees → List Item → List ℕ → Type 0
IsReadAs name children items last = IsPlainIn (mode_in name) children × IsPlainTrees false children × ((rest : List ℕ) × SpellsItemsUpTo markup rest items last)

raw_read : (name : List ℕ) (children : ValueTrees) (text : List ℕ) (items : List Item) (last : List ℕ) → TextsAreUtf8 children →
    SpellsItemsUpTo (raw_text_of name) text (items_of children ++ (the_end name ∷ items)) last →
    IsPlainIn (raw_text_of name) children × IsPlainTrees false children × ((rest : List ℕ) × SpellsItemsUpTo markup rest items last)
raw_read name no_trees text items last utf8 spelled = (tt, tt, (spelled.0, spelled.2))
raw_read name (text_node contents no_trees) text items last utf8 spelled =
    (no_end name text contents spelled.0 spelled.1.1, (spelled.1.0, utf8.0, refl, tt), (spelled.2.0, spelled.2.2))
raw_read name (text_node contents (text_node second later)) text items last utf8 spelled = absurd (no_second name text contents spelled.0 second spelled.2.0 spelled.1.1 spelled.2.1.1 spelled.2.1.0)
raw_read name (text_node contents later) text items last utf8 spelled = absurd spelled.2.1
raw_read name children text items last utf8 spelled = absurd spelled.1

text_read : (name : List ℕ) (children : ValueTrees) (text : List ℕ) (items : List Item) (last : List ℕ) → TextsAreUtf8 children →
    SpellsItemsUpTo (text_of name) text (items_of children ++ (the_end name ∷ items)) last →
    IsPlainIn (text_of name) children × IsPlainTrees false children × ((rest : List ℕ) × SpellsItemsUpTo markup rest items last)
text_read name no_trees text items last utf8 spelled = (tt, tt, (spelled.0, spelled.2))
text_read name (text_node contents no_trees) text items last utf8 spelled =
    let begins = spelled.1 in
    (tt, (λ none. decoded-some begins.0 begins.1 (sym begins.3 ∙ none), utf8.0, refl, tt), (spelled.2.0, spelled.2.2))
text_read name (text_node contents (text_node second later)) text items last utf8 spelled =
    absurd (no_second name text spelled.1.0 spelled.0 spelled.2.1.0 spelled.2.0 spelled.1.2 spelled.2.1.2 spelled.2.1.1)
text_read name (text_node contents later) text items last utf8 spelled = absurd spelled.2.1
text_read name children text items last utf8 spelled = absurd spelled.1

children_read : (name : List ℕ) (children : ValueTrees) (text : List ℕ) (items : List Item) (last : List ℕ) → TextsAreUtf8 children →
    ((items : List Item) → SpellsItemsUpTo markup text (items_of children ++ items) last → IsPlainTrees false children × ((rest : List ℕ) × SpellsItemsUpTo markup rest items last)) →
    SpellsItemsUpTo (mode_in name) text (items_of children ++ (the_end name ∷ items)) last → IsReadAs name children items last
children_read name children text items last utf8 read spelled = by_name (is_among name raw_names) (is_among name text_names) refl refl
  where
    by_name : (r t : Bool) → is_among name raw_names ≡ r → is_among name text_names ≡ t → IsReadAs name children items last
    by_name true t p q = rw p (raw_read name children text items last utf8 (rw p at spelled))
    by_name false true p q = rw (p, q) (text_read name children text items last utf8 (rw (p, q) at spelled))
    by_name false false p q =
        let inner = read (the_end name ∷ items) (rw (p, q) at spelled) in
        rw (p, q) (tt, inner.0, (inner.1.1.0, inner.1.1.2))

element_read : (top : Bool) (name : List ℕ) (attributes : List Attribute) (children later : ValueTrees) (text : List ℕ) (items : List Item) (last : List ℕ) →
    AreInPlace top (element_node name attributes children later) → TextsAreUtf8 (element_node name attributes children later) →
    ((text : List ℕ) (items : List Item) → SpellsItemsUpTo markup text (items_of children ++ items) last → IsPlainTrees false children × ((rest : List ℕ) × SpellsItemsUpTo markup rest items last)) →
    ((text : List ℕ) → SpellsItemsUpTo markup text (items_of later ++ items) last → IsPlainTrees top later × ((rest : List ℕ) × SpellsItemsUpTo markup rest items last)) →
    (void : Bool) → is_among name void_names ≡ void →
    SpellsItemsUpTo markup text (items_of (element_node name attributes children later) ++ items) last →
    IsPlainTrees top (element_node name attributes children later) × ((rest : List ℕ) × SpellsItemsUpTo markup rest items last)
element_read top name attributes children later text items last placed utf8 inner outer true void spelled =
    let tag = start_plain text name attributes spelled.0 spelled.1 utf8.0 in
    let mode : mode_in name ≡ markup = rw (void_not_raw name void, void_not_text name void) refl in
    let more : SpellsItemsUpTo (mode_in name) spelled.0 (items_of later ++ items) last = rw void at spelled.2 in
    let after = outer spelled.0 (subst (λ m. SpellsItemsUpTo m spelled.0 (items_of later ++ items) last) mode more) in
    let none : children ≡ no_trees = placed.0 void in
    ((tag.0, tag.1, tag.2, placed.0, subst (λ m. IsPlainIn m children) (sym mode) tt, subst (IsPlainTrees false) (sym none) tt, after.0), after.1)
element_read top name attributes children later text items last placed utf8 inner outer false void spelled =
    let tag = start_plain text name attributes spelled.0 spelled.1 utf8.0 in
    let more : SpellsItemsUpTo (mode_in name) spelled.0 ((items_of children ++ the_end name ∷ items_of later) ++ items) last = rw void at spelled.2 in
    let grouped = subst (λ (is : List Item). SpellsItemsUpTo (mode_in name) spelled.0 is last) (append_assoc (items_of children) (the_end name ∷ items_of later) items) more in
    let below = children_read name children spelled.0 (items_of later ++ items) last utf8.1 (λ i. inner spelled.0 i) grouped in
    let after = outer below.2.0 below.2.1 in
    ((tag.0, tag.1, tag.2, placed.0, below.0, below.1, after.0), after.1)

-- trees that a front of a text spells are plain
trees_read : (top : Bool) (trees : ValueTrees) (last text : List ℕ) (items : List Item) → AreInPlace top trees → HaveNoIdentifiers trees → TextsAreUtf8 trees →
    SpellsItemsUpTo markup text (items_of trees ++ items) last → IsPlainTrees top trees × ((rest : List ℕ) × SpellsItemsUpTo markup rest items last)
trees_read top no_trees last text items placed bare utf8 spelled = (tt, (text, spelled))
trees_read top (text_node contents later) last text items placed bare utf8 spelled =
    let begins = spelled.1 in
    let more = trees_read top later last spelled.0 items placed bare utf8.1 spelled.2 in
    ((λ none. decoded-some (text_front text) begins.0 (sym begins.2 ∙ none), utf8.0, no_text_next later spelled.0 items last (front_ends text spelled.0 begins.1) spelled.2, more.0), more.1)
trees_read top (comment_node contents later) last text items placed bare utf8 spelled =
    let more = trees_read top later last spelled.0 items placed bare utf8 spelled.2 in
    ((no_close spelled.1.0 contents spelled.0 spelled.1.2, more.0), more.1)
trees_read top (doctype_node name public system later) last text items placed bare utf8 spelled =
    let begins = spelled.1 in
    let more = trees_read top later last spelled.0 items placed.1 bare.2 utf8 spelled.2 in
    ((placed.0, plain_name begins.written name begins.folds begins.some_name begins.is_name, bare.0, bare.1, more.0), more.1)
trees_read top (element_node name attributes children later) last text items placed bare utf8 spelled =
    element_read top name attributes children later text items last placed utf8
    (λ t i s. trees_read false children last t i placed.1 bare.0 utf8.1 s) (λ t s. trees_read top later last t items placed.2 bare.1 utf8.2 s)
    (is_among name void_names) refl spelled

pub read_plain : (text : List ℕ) (trees : ValueTrees) → Spells text trees → HaveNoIdentifiers trees → TextsAreUtf8 trees → IsPlainTrees true trees
read_plain text trees spells bare utf8 =
    (trees_read true trees [] text [] spells.in_place bare utf8 (subst (λ (i : List Item). SpellsItemsUpTo markup text i []) (sym (append-nil (items_of trees))) spells.items)).0
