-- The index of the list of active formatting elements: what is done to the list is done to its keys, and what is found by them.
use Rattle.std.specs.Prelude.{◌≡◌, ◌==◌, ◌+◌, ◌<◌, ◌≤◌, ◌∷◌, ◌++◌, [], refl, ℕ, zero, suc, Bool, true, false, List, IfSome, MatchOption, None, Option, Some}
use Rattle.std.specs.Prelude.{drop, if◌then◌else◌, insert, length, map, nat_lt, remove, reverse, slice_get, slice_set, take}
use Rattle.std.proofs.Common.{arith, inl, inr, rules}
use Rattle.std.specs.Option.{option_and_then}
use Rattle.std.proofs.lemmas.Bool.{eqb-true, lt-ltb, ltb-true}
use Rattle.std.proofs.lemmas.Bool.Decides.{Decides-eqb}
use Rattle.std.proofs.lemmas.List.{length-reverse, map-append, reverse-append, reverse-reverse}
use Rattle.std.proofs.lemmas.List.Elements.{All-cons, All-nil}
use Rattle.std.proofs.lemmas.Option.{none-some, same_Some}
use mathlib.Core.Path.{◌∙◌, sym, ap, subst}
use denote.Enum.Bare.{tag_one}
use denote.Enum.Declared.{tag_of}
use Rattle.page_trees.specs.Formatting.{IsFirst, IsNamed, NoneHas, is_of, last_place, place_from_end, up_to_marker}
use Rattle.page_trees.specs.Formatting.{after_marker as elements_after, element_in}
use Rattle.page_trees.specs.KeyPlaces.{key_from_end, last_key}
use Rattle.page_trees.specs.ListIndex.{AreIndexed, IsEntryIn, IsIndexOf, IsPlaceIn, after_marker, id_key, last_after_marker, marker_key, name_key}
use Rattle.page_trees.specs.contracts.name.Name.{the_type}
use Rattle.page_trees.specs.declared.name.Name.{Name}
use Rattle.page_trees.specs.declared.stack.Open.{Open}
use Rattle.page_trees.proofs.AlikeLemmas.{tag_below}
use Rattle.page_trees.proofs.KeyLemmas.{true_false}
use Rattle.page_trees.specs.declared.formatting.Entry.{Entry}
use Rattle.page_trees.specs.declared.formatting.Entry.TheVariants.{Element as AnEntry, Marker}
use Rattle.page_trees.specs.declared.formatting.index.FormattingIndex.{FormattingIndex}

-- ---- keys of what is done

pub map_long : {X Y : Type 0} (f : X → Y) (xs : List X) → length (map f xs) ≡ length xs
map_long f [] = refl
map_long f (x ∷ xs) = ap suc (map_long f xs)

pub map_taken : {X Y : Type 0} (f : X → Y) (n : ℕ) (xs : List X) → map f (take n xs) ≡ take n (map f xs)
map_taken f zero xs = refl
map_taken f (suc n) [] = refl
map_taken f (suc n) (x ∷ xs) = ap (λ ys. f x ∷ ys) (map_taken f n xs)

map_dropped : {X Y : Type 0} (f : X → Y) (n : ℕ) (xs : List X) → map f (drop n xs) ≡ drop n (map f xs)
map_dropped f zero xs = refl
map_dropped f (suc n) [] = refl
map_dropped f (suc n) (x ∷ xs) = map_dropped f n xs

map_inserted : {X Y : Type 0} (f : X → Y) (xs : List X) (n : ℕ) (x : X) → map f (insert xs n x) ≡ insert (map f xs) n (f x)
map_inserted f xs n x =
    map-append f (take n xs) (x ∷ drop n xs) ∙ ap (λ ys. ys ++ f x ∷ map f (drop n xs)) (map_taken f n xs)
    ∙ ap (λ ys. take n (map f xs) ++ f x ∷ ys) (map_dropped f n xs)

map_removed : {X Y : Type 0} (f : X → Y) (xs : List X) (n : ℕ) → map f (remove xs n) ≡ remove (map f xs) n
map_removed f xs n =
    map-append f (take n xs) (drop (suc n) xs) ∙ ap (λ ys. ys ++ map f (drop (suc n) xs)) (map_taken f n xs)
    ∙ ap (λ ys. take n (map f xs) ++ ys) (map_dropped f (suc n) xs)

map_set : {X Y : Type 0} (f : X → Y) (xs : List X) (n : ℕ) (x : X) → map f (slice_set xs n x) ≡ slice_set (map f xs) n (f x)
map_set f [] n x = refl
map_set f (y ∷ ys) zero x = refl
map_set f (y ∷ ys) (suc n) x = ap (λ zs. f y ∷ zs) (map_set f ys n x)

length_inserted : {X : Type 0} (xs : List X) (n : ℕ) (x : X) → length (insert xs n x) ≡ length xs + 1
length_inserted [] zero x = refl
length_inserted [] (suc n) x = refl
length_inserted (y ∷ ys) zero x = omega arith
length_inserted (y ∷ ys) (suc n) x = let e = length_inserted ys n x in omega (arith, e)

length_removed : {X : Type 0} (xs : List X) (n : ℕ) → n < length xs → length (remove xs n) + 1 ≡ length xs
length_removed [] n less = absurd (omega (arith, less))
length_removed (y ∷ ys) zero less = omega arith
length_removed (y ∷ ys) (suc n) less = let e = length_removed ys n (omega (arith, less)) in omega (arith, e)

length_set : {X : Type 0} (xs : List X) (n : ℕ) (x : X) → length (slice_set xs n x) ≡ length xs
length_set [] n x = refl
length_set (y ∷ ys) zero x = refl
length_set (y ∷ ys) (suc n) x = ap suc (length_set ys n x)

-- ---- the index

id_long : (entries : List Entry) (index : FormattingIndex) → AreIndexed entries index → length index.ids ≡ length entries
id_long entries index at = ap length at.ids ∙ map_long id_key entries

name_long : (entries : List Entry) (index : FormattingIndex) → AreIndexed entries index → length index.names ≡ length entries
name_long entries index at = ap length at.names ∙ map_long name_key entries

pub is_place : (entries : List Entry) (index : Option FormattingIndex) (place : ℕ) → place ≤ length entries → IsIndexOf entries index →
    IfSome index (λ one. IsPlaceIn one place)
is_place entries None place le at = tt
is_place entries (Some index) place le at =
    let ids = id_long entries index at in
    let names = name_long entries index at in
    let likes = at.likes in
    record { ids = omega (arith, le, ids); names = omega (arith, le, names); likes = omega (arith, le, likes) }

pub is_entry_in : (entries : List Entry) (index : Option FormattingIndex) (place : ℕ) → place < length entries → IsIndexOf entries index →
    IfSome index (λ one. IsEntryIn one place)
is_entry_in entries None place less at = tt
is_entry_in entries (Some index) place less at =
    let ids = id_long entries index at in
    let names = name_long entries index at in
    let likes = at.likes in
    record { ids = omega (arith, less, ids); names = omega (arith, less, names); likes = omega (arith, less, likes) }

pub indexed_with : (entries : List Entry) (place : ℕ) (entry : Entry) (key : ℕ) (old new : FormattingIndex) → AreIndexed entries old →
    new.ids ≡ insert old.ids place (id_key entry) → new.names ≡ insert old.names place (name_key entry) →
    new.likes ≡ insert old.likes place key → AreIndexed (insert entries place entry) new
indexed_with entries place entry key old new at ids names likes = record {
  ids = ids ∙ ap (λ ks. insert ks place (id_key entry)) at.ids ∙ sym (map_inserted id_key entries place entry);
  names = names ∙ ap (λ ks. insert ks place (name_key entry)) at.names ∙ sym (map_inserted name_key entries place entry);
  likes = ap length likes ∙ length_inserted old.likes place key ∙ ap (λ n. n + 1) at.likes ∙ sym (length_inserted entries place entry);
}

pub indexed_without : (entries : List Entry) (place : ℕ) (old new : FormattingIndex) → place < length entries → AreIndexed entries old →
    new.ids ≡ remove old.ids place → new.names ≡ remove old.names place → new.likes ≡ remove old.likes place →
    AreIndexed (remove entries place) new
indexed_without entries place old new less at ids names likes = record {
  ids = ids ∙ ap (λ ks. remove ks place) at.ids ∙ sym (map_removed id_key entries place);
  names = names ∙ ap (λ ks. remove ks place) at.names ∙ sym (map_removed name_key entries place);
  likes = (let long = length_removed entries place less in let was = at.likes in
      let left = length_removed old.likes place (omega (arith, was, less)) in let now = ap length likes in omega (arith, now, left, long, was));
}

pub indexed_set : (entries : List Entry) (place : ℕ) (entry : Entry) (key : ℕ) (old new : FormattingIndex) → AreIndexed entries old →
    new.ids ≡ slice_set old.ids place (id_key entry) → new.names ≡ slice_set old.names place (name_key entry) →
    new.likes ≡ slice_set old.likes place key →
    AreIndexed (slice_set entries place entry) new
indexed_set entries place entry key old new at ids names likes = record {
  ids = ids ∙ ap (λ ks. slice_set ks place (id_key entry)) at.ids ∙ sym (map_set id_key entries place entry);
  names = names ∙ ap (λ ks. slice_set ks place (name_key entry)) at.names ∙ sym (map_set name_key entries place entry);
  likes = ap length likes ∙ length_set old.likes place key ∙ at.likes ∙ sym (length_set entries place entry);
}

pub indexed_same : (entries : List Entry) (old new : FormattingIndex) → AreIndexed entries old → new.ids ≡ old.ids → new.names ≡ old.names →
    new.likes ≡ old.likes → AreIndexed entries new
indexed_same entries old new at ids names likes = record {
  ids = ids ∙ at.ids;
  names = names ∙ at.names;
  likes = ap length likes ∙ at.likes;
}

length_front : {X : Type 0} (n : ℕ) (xs : List X) → n ≤ length xs → length (take n xs) ≡ n
length_front zero xs le = refl
length_front (suc n) [] le = absurd (omega (arith, le))
length_front (suc n) (x ∷ xs) le = ap suc (length_front n xs (omega (arith, le)))

pub is_next_place : (entries : List Entry) (index : FormattingIndex) (place : ℕ) → place ≤ length entries →
    AreIndexed (take place entries) index → IsPlaceIn index place
is_next_place entries index place le at =
    is_place (take place entries) (Some index) place (let long = length_front place entries le in omega (arith, long)) at

pub inserted_next : (entries : List Entry) (n : ℕ) (entry : Entry) → slice_get entries n ≡ Some entry →
    insert (take n entries) n entry ≡ take (suc n) entries
inserted_next [] n entry e = cc
inserted_next (one ∷ entries) zero entry e = ap (λ (o : Option Entry). with_none o) (sym e)
  where
    with_none : Option Entry → List Entry
    with_none None = []
    with_none (Some x) = x ∷ []
inserted_next (one ∷ entries) (suc n) entry e = ap (λ es. one ∷ es) (inserted_next entries n entry e)

pub indexed_next : (entries : List Entry) (place : ℕ) (entry : Entry) (key : ℕ) (old mid new : FormattingIndex) → slice_get entries place ≡ Some entry →
    AreIndexed (take place entries) old → mid.ids ≡ old.ids → mid.names ≡ old.names → mid.likes ≡ old.likes →
    new.ids ≡ insert mid.ids place (id_key entry) → new.names ≡ insert mid.names place (name_key entry) →
    new.likes ≡ insert mid.likes place key → AreIndexed (take (suc place) entries) new
indexed_next entries place entry key old mid new got at same_ids same_names same_likes ids names likes =
    subst (λ (es : List Entry). AreIndexed es new) (inserted_next entries place entry got)
    (indexed_with (take place entries) place entry key mid new (indexed_same (take place entries) old mid at same_ids same_names same_likes) ids names likes)

-- an entry at the end
pub inserted_last : (entries : List Entry) (entry : Entry) → insert entries (length entries) entry ≡ entries ++ entry ∷ []
inserted_last [] entry = refl
inserted_last (e ∷ entries) entry = ap (λ es. e ∷ es) (inserted_last entries entry)

pub removed_last : (entries : List Entry) (entry : Entry) → remove (entries ++ entry ∷ []) (length entries) ≡ entries
removed_last [] entry = refl
removed_last (e ∷ entries) entry = ap (λ es. e ∷ es) (removed_last entries entry)

-- an entry that was the last one
pub last_less : (entries front : List Entry) (entry : Entry) (n : ℕ) → entries ≡ front ++ entry ∷ [] → n ≡ length front → n < length entries
last_less entries front entry n whole here = let long = ap length whole ∙ pushed front in omega (arith, long, here)
  where
    pushed : (es : List Entry) → length (es ++ entry ∷ []) ≡ suc (length es)
    pushed [] = refl
    pushed (e ∷ es) = ap suc (pushed es)

-- ---- what is found by ids

other_marker : (id : ℕ) → id < marker_key → (marker_key == id) ≡ false
other_marker id less = by (marker_key == id) refl
  where
    by : (b : Bool) → (marker_key == id) ≡ b → b ≡ false
    by true e = let same = eqb-true marker_key id e in absurd (omega (arith, same, less))
    by false e = refl

id_found : (id : ℕ) → id < marker_key → (es : List Entry) → key_from_end id (map id_key es) ≡ place_from_end (is_of id) es
id_found id less [] = refl
id_found id less (Marker ∷ es) =
    ap (λ b. if b then Some (length (map id_key es)) else key_from_end id (map id_key es)) (other_marker id less) ∙ id_found id less es
id_found id less (AnEntry o ∷ es) =
    ap (λ n. if o.id == id then Some n else key_from_end id (map id_key es)) (map_long id_key es)
    ∙ ap (λ r. if o.id == id then Some (length es) else r) (id_found id less es)

pub map_reversed : {X Y : Type 0} (f : X → Y) (xs : List X) → map f (reverse xs) ≡ reverse (map f xs)
map_reversed f [] = refl
map_reversed f (x ∷ xs) =
    ap (map f) (reverse-append (x ∷ []) xs) ∙ map-append f (reverse xs) (x ∷ []) ∙ ap (λ ys. ys ++ f x ∷ []) (map_reversed f xs)
    ∙ sym (reverse-append (f x ∷ []) (map f xs))

pub found_by_id : (entries : List Entry) (id : ℕ) → id < marker_key → last_key id (map id_key entries) ≡ last_place (is_of id) entries
found_by_id entries id less = ap (key_from_end id) (sym (map_reversed id_key entries)) ∙ id_found id less (reverse entries)

-- ---- what is found by names

pub key_below : (key : ℕ) (ks : List ℕ) (p : ℕ) → key_from_end key ks ≡ Some p → p < length ks
key_below key [] p e = cc
key_below key (k ∷ ks) p e = by (k == key) e (λ h. key_below key ks p h)
  where
    by : (b : Bool) → (if b then Some (length ks) else key_from_end key ks) ≡ Some p → (key_from_end key ks ≡ Some p → p < length ks) →
        p < suc (length ks)
    by true h more = let same = same_Some (length ks) p h in omega (arith, same)
    by false h more = let less = more h in omega (arith, less)

not_below : (n q : ℕ) → q < n → nat_lt n q ≡ false
not_below n q less = by (nat_lt n q) refl
  where
    by : (b : Bool) → nat_lt n q ≡ b → b ≡ false
    by true e = let more = ltb-true n q e in absurd (omega (arith, less, more))
    by false e = refl

-- the last place of a name or of a marker, with one more entry at the end
abbrev pub found_with : Bool → Bool → ℕ → Option ℕ → Option ℕ → Option ℕ
found_with named marks n place marker =
    option_and_then (λ p. after_marker p (if marks then Some n else marker)) (if named then Some n else place)

behind_marker : (n : ℕ) (place marker : Option ℕ) → ((p : ℕ) → place ≡ Some p → p < n) → found_with false true n place marker ≡ None
behind_marker n None marker below = refl
behind_marker n (Some p) marker below = ap (λ b. if b then None else Some p) (lt-ltb p n (below p refl))

named_here : (n : ℕ) (place marker : Option ℕ) → ((q : ℕ) → marker ≡ Some q → q < n) → found_with true false n place marker ≡ Some n
named_here n place None below = refl
named_here n place (Some q) below = ap (λ b. if b then None else Some n) (not_below n q (below q refl))

abbrev pub names_of : List Entry → List ℕ
names_of es = map name_key es

-- in a list from its end on
abbrev pub found_in : ℕ → List Entry → Option ℕ
found_in key es = option_and_then (λ p. after_marker p (key_from_end marker_key (names_of es))) (key_from_end key (names_of es))

at_marker_none : (key : ℕ) → key < marker_key → (es : List Entry) → found_in key (Marker ∷ es) ≡ None
at_marker_none key less es =
    ap (λ b. found_with b (marker_key == marker_key) (length (names_of es)) (key_from_end key (names_of es)) (key_from_end marker_key (names_of es)))
    (other_marker key less)
    ∙ behind_marker (length (names_of es)) (key_from_end key (names_of es)) (key_from_end marker_key (names_of es))
    (λ p e. key_below key (names_of es) p e)

pub no_marker : (k : ℕ) → k < marker_key → (k == marker_key) ≡ false
no_marker k less = by (k == marker_key) refl
  where
    by : (b : Bool) → (k == marker_key) ≡ b → b ≡ false
    by true e = let same = eqb-true k marker_key e in absurd (omega (arith, same, less))
    by false e = refl

pub tag_small : (name : Name) → tag_of the_type name < marker_key
tag_small name = let less = tag_below name in omega (arith, less)

element_found : (key : ℕ) (o : Open) (es : List Entry) (b : Bool) → (tag_of the_type o.name == key) ≡ b →
    found_in key (AnEntry o ∷ es) ≡
    found_with b false (length (names_of es)) (key_from_end key (names_of es)) (key_from_end marker_key (names_of es))
element_found key o es b e =
    ap (λ c. found_with (tag_of the_type o.name == key) c (length (names_of es)) (key_from_end key (names_of es)) (key_from_end marker_key (names_of es)))
    (no_marker (tag_of the_type o.name) (tag_small o.name))
    ∙ ap (λ c. found_with c false (length (names_of es)) (key_from_end key (names_of es)) (key_from_end marker_key (names_of es))) e

named_by : (name : Name) (o : Open) → (tag_of the_type o.name == tag_of the_type name) ≡ true → o.name ≡ name
named_by name o e = tag_one the_type (search rules) o.name name (eqb-true (tag_of the_type o.name) (tag_of the_type name) e)

not_named : (name : Name) (o : Open) → (tag_of the_type o.name == tag_of the_type name) ≡ false → o.name ≡ name → ⊥
not_named name o e same = true_false (tag_of the_type o.name == tag_of the_type name)
    ((Decides-eqb (tag_of the_type o.name) (tag_of the_type name)).1 (ap (tag_of the_type) same)) e

pub none_named : (name : Name) (es : List Entry) → found_in (tag_of the_type name) es ≡ None → NoneHas (IsNamed name) (up_to_marker es)
none_named name [] e = All-nil (λ x. IsNamed name x → ⊥)
none_named name (Marker ∷ es) e = All-nil (λ x. IsNamed name x → ⊥)
none_named name (AnEntry o ∷ es) e = by (tag_of the_type o.name == tag_of the_type name) refl (λ h. none_named name es h)
  where
    key : ℕ
    key = tag_of the_type name

    by : (b : Bool) → (tag_of the_type o.name == key) ≡ b → (found_in key es ≡ None → NoneHas (IsNamed name) (up_to_marker es)) →
        NoneHas (IsNamed name) (o ∷ up_to_marker es)
    by true same more = absurd (none-some (length (names_of es)) (sym e ∙ element_found key o es true same
        ∙ named_here (length (names_of es)) (key_from_end key (names_of es)) (key_from_end marker_key (names_of es))
        (λ q h. key_below marker_key (names_of es) q h)))
    by false other more = All-cons (λ x. IsNamed name x → ⊥) o (up_to_marker es) (not_named name o other)
        (more (sym (element_found key o es false other) ∙ e))

-- the element at the place
pub record IsNamedAt (name : Name) (es : List Entry) (place : ℕ) : Type 0 where
  pub found : Open
  pub there : slice_get (reverse es) place ≡ Some (AnEntry found)
  pub first : IsFirst (IsNamed name) (up_to_marker es) found

got_more : (xs ys : List Entry) (n : ℕ) (e : Entry) → slice_get xs n ≡ Some e → slice_get (xs ++ ys) n ≡ Some e
got_more [] ys n e h = cc
got_more (x ∷ xs) ys zero e h = h
got_more (x ∷ xs) ys (suc n) e h = got_more xs ys n e h

got_last : (xs : List Entry) (e : Entry) → slice_get (xs ++ e ∷ []) (length xs) ≡ Some e
got_last [] e = refl
got_last (x ∷ xs) e = got_last xs e

pub some_named : (name : Name) (es : List Entry) (place : ℕ) → found_in (tag_of the_type name) es ≡ Some place → IsNamedAt name es place
some_named name [] place e = cc
some_named name (Marker ∷ es) place e =
    absurd (none-some place (sym (at_marker_none (tag_of the_type name) (tag_small name) es) ∙ e))
some_named name (AnEntry o ∷ es) place e = by (tag_of the_type o.name == tag_of the_type name) refl (λ h. some_named name es place h)
  where
    key : ℕ
    key = tag_of the_type name

    turned : reverse (AnEntry o ∷ es) ≡ reverse es ++ AnEntry o ∷ []
    turned = reverse-append (AnEntry o ∷ []) es

    by : (b : Bool) → (tag_of the_type o.name == key) ≡ b → (found_in key es ≡ Some place → IsNamedAt name es place) →
        IsNamedAt name (AnEntry o ∷ es) place
    by true same more =
        let here : Some (length (names_of es)) ≡ Some place = sym (named_here (length (names_of es)) (key_from_end key (names_of es))
        (key_from_end marker_key (names_of es)) (λ q h. key_below marker_key (names_of es) q h))
        ∙ sym (element_found key o es true same) ∙ e in
        let at : length (reverse es) ≡ place = length-reverse es ∙ sym (map_long name_key es) ∙ same_Some (length (names_of es)) place here in
        record {
          found = o;
          there = ap (λ xs. slice_get xs place) turned ∙ ap (slice_get (reverse es ++ AnEntry o ∷ [])) (sym at) ∙ got_last (reverse es) (AnEntry o);
          first = inl (named_by name o same, refl);
        }
    by false other more =
        let rest : IsNamedAt name es place = more (sym (element_found key o es false other) ∙ e) in
        record {
          found = rest.found;
          there = ap (λ xs. slice_get xs place) turned ∙ got_more (reverse es) (AnEntry o ∷ []) place (AnEntry rest.found) rest.there;
          first = inr (not_named name o other, rest.first);
        }

found_turned : (name : Name) (entries : List Entry) → last_after_marker (tag_of the_type name) (names_of entries) ≡
    found_in (tag_of the_type name) (reverse entries)
found_turned name entries =
    ap (λ (ks : List ℕ). option_and_then (λ p. after_marker p (key_from_end marker_key ks)) (key_from_end (tag_of the_type name) ks))
    (sym (map_reversed name_key entries))

pub unnamed : (name : Name) (entries : List Entry) (r : Option ℕ) → r ≡ last_after_marker (tag_of the_type name) (names_of entries) → r ≡ None →
    NoneHas (IsNamed name) (elements_after entries)
unnamed name entries r e none = none_named name (reverse entries) (sym (found_turned name entries) ∙ sym e ∙ none)

pub named_at : (name : Name) (entries : List Entry) (r : Option ℕ) (place : ℕ) (o : Option Open) →
    r ≡ last_after_marker (tag_of the_type name) (names_of entries) → r ≡ Some place → o ≡ option_and_then element_in (slice_get entries place) →
    MatchOption o (NoneHas (IsNamed name) (elements_after entries)) (IsFirst (IsNamed name) (elements_after entries))
named_at name entries r place o e some at =
    let found : IsNamedAt name (reverse entries) place = some_named name (reverse entries) place
    (sym (found_turned name entries) ∙ sym e ∙ some) in
    subst (λ q. MatchOption q (NoneHas (IsNamed name) (elements_after entries)) (IsFirst (IsNamed name) (elements_after entries)))
    (sym (at ∙ ap (option_and_then element_in) (ap (λ (xs : List Entry). slice_get xs place) (sym (reverse-reverse entries)) ∙ found.there)))
    found.first
