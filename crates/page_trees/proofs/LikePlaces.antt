-- Elements like one are found by their number, from the end of the list on.
use Rattle.std.specs.Prelude.{◌≡◌, ◌==◌, ◌≤◌, ◌<◌, ◌∷◌, ◌++◌, [], refl, ℕ, zero, suc, Bool, false, List, None, Option, Some, if◌then◌else◌, length, map}
use Rattle.std.specs.Prelude.{nat_lt, reverse, slice_get, take, true}
use Rattle.std.proofs.Common.{arith, inl, inr}
use Rattle.std.specs.Option.{option_and_then}
use Rattle.std.proofs.lemmas.Bool.{cases_Bool, lt-ltb, ltb-true}
use Rattle.std.proofs.lemmas.Bool.Decides.{Decides-eqb}
use Rattle.std.proofs.lemmas.List.{length-reverse, reverse-append, reverse-reverse}
use Rattle.std.proofs.lemmas.Option.{none-some, same_Some}
use mathlib.Core.Path.{◌∙◌, sym, ap, subst}
use denote.Enum.Declared.{tag_of}
use Rattle.dom_links.specs.Forest.{Forest}
use Rattle.page_trees.specs.Formatting.{alike_from_end, are_alike, element_in, places_alike}
use Rattle.page_trees.specs.KeyPlaces.{key_from_end, last_key}
use Rattle.page_trees.specs.Likeness.{AreKeysOf, HasNumber}
use Rattle.page_trees.specs.ListIndex.{FindsLikes, after_marker, last_like, likes_in, marker_key, name_key}
use Rattle.page_trees.specs.contracts.name.Name.{the_type}
use Rattle.page_trees.specs.declared.formatting.Entry.{Entry}
use Rattle.page_trees.specs.declared.formatting.Entry.TheVariants.{Element as AnEntry, Marker}
use Rattle.page_trees.specs.declared.formatting.index.FormattingIndex.{FormattingIndex}
use Rattle.page_trees.specs.declared.stack.Open.{Open}
use Rattle.page_trees.proofs.ElementTexts.{same_number}
use Rattle.page_trees.proofs.IndexedLists.{key_below, map_long, map_reversed, map_taken, no_marker, tag_small}

-- ---- lists from their end on

-- an entry of that number, if no marker comes before it there
abbrev found : ℕ → List ℕ → List Entry → Option ℕ
found key ks es = option_and_then (λ p. after_marker p (key_from_end marker_key (map name_key es))) (key_from_end key ks)

long_keys : (f : Forest) (ns : List (List ℕ × ℕ)) (es : List Entry) (ks : List ℕ) → AreKeysOf f ns es ks → length ks ≡ length es
long_keys f ns [] [] are = refl
long_keys f ns (e ∷ es) (k ∷ ks) are = ap suc (long_keys f ns es ks are.1)
long_keys f ns [] (k ∷ ks) are = absurd are
long_keys f ns (e ∷ es) [] are = absurd are

-- an element of another number is not alike
other_number : (f : Forest) (ns : List (List ℕ × ℕ)) (o : Open) (k id number : ℕ) → HasNumber f ns o.id k → HasNumber f ns id number →
    (k == number) ≡ false → are_alike f o.id id ≡ false
other_number f ns o k id number one wanted apart = by (are_alike f o.id id) refl
  where
    by : (b : Bool) → are_alike f o.id id ≡ b → b ≡ false
    by true alike =
        let same : k ≡ number = same_number f ns o.id id k number one wanted alike in
        sym ((Decides-eqb k number).1 same) ∙ apart
    by false alike = refl

-- no marker is at an element
element_name : (o : Open) → (name_key (AnEntry o) == marker_key) ≡ false
element_name o = no_marker (tag_of the_type o.name) (tag_small o.name)

not_more : (n q : ℕ) → q ≤ n → nat_lt n q ≡ false
not_more n q le = elim (cases_Bool (nat_lt n q)) [
  | inl t ↦ (let more = ltb-true n q t in absurd (omega (arith, le, more)))
  | inr f ↦ f
]

-- a marker further on does not hide an entry
in_front : (n : ℕ) (es : List Entry) → length es ≤ n → after_marker n (key_from_end marker_key (map name_key es)) ≡ Some n
in_front n es le = by (key_from_end marker_key (map name_key es)) refl
  where
    by : (m : Option ℕ) → key_from_end marker_key (map name_key es) ≡ m → after_marker n m ≡ Some n
    by None e = refl
    by (Some q) e =
        let less = key_below marker_key (map name_key es) q e in
        let long = map_long name_key es in
        ap (λ b. if b then None else Some n) (not_more n q (omega (arith, less, long, le)))

-- the entries split at what is found, and there is no like element before it
record IsFoundIn (f : Forest) (id p : ℕ) (es : List Entry) : Type 0 where
  pub front : List Entry
  pub entry : Entry
  pub back : List Entry
  pub split : es ≡ front ++ entry ∷ back
  pub long : length back ≡ p
  pub rest : alike_from_end f id es ≡ alike_from_end f id (entry ∷ back)

found_next : (key k : ℕ) (ks : List ℕ) (o : Open) (es : List Entry) → (k == key) ≡ false →
    found key (k ∷ ks) (AnEntry o ∷ es) ≡ found key ks es
found_next key k ks o es apart =
    ap (λ b. option_and_then (λ p. after_marker p (if name_key (AnEntry o) == marker_key then Some (length (map name_key es)) else
    key_from_end marker_key (map name_key es))) (if b then Some (length ks) else key_from_end key ks)) apart
    ∙ ap (λ b. option_and_then (λ p. after_marker p (if b then Some (length (map name_key es)) else
    key_from_end marker_key (map name_key es))) (key_from_end key ks)) (element_name o)

-- a marker hides what comes behind it
behind_marker : (key k : ℕ) (ks : List ℕ) (es : List Entry) → length ks ≡ length es → (k == key) ≡ false → found key (k ∷ ks) (Marker ∷ es) ≡ None
behind_marker key k ks es long apart =
    ap (λ b. option_and_then (λ p. after_marker p (key_from_end marker_key (map name_key (Marker ∷ es)))) (if b then Some (length ks) else key_from_end key ks)) apart
    ∙ by (key_from_end key ks) refl
  where
    by : (r : Option ℕ) → key_from_end key ks ≡ r →
        option_and_then (λ p. after_marker p (key_from_end marker_key (map name_key (Marker ∷ es)))) r ≡ None
    by None e = refl
    by (Some p) e =
        let less = key_below key ks p e in
        let names = map_long name_key es in
        ap (λ b. if b then None else Some p) (lt-ltb p (length (map name_key es)) (omega (arith, less, names, long)))

-- the first of the number is found
first_found : (key k : ℕ) (ks : List ℕ) (e : Entry) (es : List Entry) → length ks ≡ length es → (k == key) ≡ true →
    found key (k ∷ ks) (e ∷ es) ≡ Some (length es)
first_found key k ks e es long here =
    ap (λ b. option_and_then (λ p. after_marker p (key_from_end marker_key (map name_key (e ∷ es)))) (if b then Some (length ks) else key_from_end key ks)) here
    ∙ ap (λ n. after_marker n (key_from_end marker_key (map name_key (e ∷ es)))) long ∙ by (name_key e == marker_key)
  where
    by : (b : Bool) → after_marker (length es) (if b then Some (length (map name_key es)) else key_from_end marker_key (map name_key es)) ≡ Some (length es)
    by true =
        let names = map_long name_key es in
        ap (λ b. if b then None else Some (length es)) (not_more (length es) (length (map name_key es)) (omega (arith, names)))
    by false = in_front (length es) es (omega arith)

some_found : (f : Forest) (ns : List (List ℕ × ℕ)) (id number : ℕ) → HasNumber f ns id number → (es : List Entry) (ks : List ℕ) (p : ℕ) →
    AreKeysOf f ns es ks → found number ks es ≡ Some p → IsFoundIn f id p es
some_found f ns id number wanted [] [] p are e = absurd (none-some p e)
some_found f ns id number wanted (x ∷ es) (k ∷ ks) p are e = by x (k == number) refl are e (λ all at. some_found f ns id number wanted es ks p all at)
  where
    by : (y : Entry) (b : Bool) → (k == number) ≡ b → AreKeysOf f ns (y ∷ es) (k ∷ ks) → found number (k ∷ ks) (y ∷ es) ≡ Some p →
        (AreKeysOf f ns es ks → found number ks es ≡ Some p → IsFoundIn f id p es) → IsFoundIn f id p (y ∷ es)
    by y true here all at more = record {
      front = [];
      entry = y;
      back = es;
      split = refl;
      long = same_Some (length es) p (sym (first_found number k ks y es (long_keys f ns es ks all.1) here) ∙ at);
      rest = refl;
    }
    by Marker false apart all at more = absurd (none-some p (sym (behind_marker number k ks es (long_keys f ns es ks all.1) apart) ∙ at))
    by (AnEntry o) false apart all at more =
        let next = more all.1 (sym (found_next number k ks o es apart) ∙ at) in
        record {
          front = AnEntry o ∷ next.front;
          entry = next.entry;
          back = next.back;
          split = ap (λ xs. AnEntry o ∷ xs) next.split;
          long = next.long;
          rest = ap (λ b. if b then length es ∷ alike_from_end f id es else alike_from_end f id es) (other_number f ns o k id number all.0 wanted apart) ∙ next.rest;
        }
some_found f ns id number wanted [] (k ∷ ks) p are e = absurd are
some_found f ns id number wanted (x ∷ es) [] p are e = absurd are

none_found : (f : Forest) (ns : List (List ℕ × ℕ)) (id number : ℕ) → HasNumber f ns id number → (es : List Entry) (ks : List ℕ) →
    AreKeysOf f ns es ks → found number ks es ≡ None → alike_from_end f id es ≡ []
none_found f ns id number wanted [] [] are e = refl
none_found f ns id number wanted (x ∷ es) (k ∷ ks) are e = by x (k == number) refl are e (λ all at. none_found f ns id number wanted es ks all at)
  where
    by : (y : Entry) (b : Bool) → (k == number) ≡ b → AreKeysOf f ns (y ∷ es) (k ∷ ks) → found number (k ∷ ks) (y ∷ es) ≡ None →
        (AreKeysOf f ns es ks → found number ks es ≡ None → alike_from_end f id es ≡ []) → alike_from_end f id (y ∷ es) ≡ []
    by y true here all at more = absurd (none-some (length es) (sym at ∙ first_found number k ks y es (long_keys f ns es ks all.1) here))
    by Marker false apart all at more = refl
    by (AnEntry o) false apart all at more =
        ap (λ b. if b then length es ∷ alike_from_end f id es else alike_from_end f id es) (other_number f ns o k id number all.0 wanted apart)
        ∙ more all.1 (sym (found_next number k ks o es apart) ∙ at)
none_found f ns id number wanted [] (k ∷ ks) are e = absurd are
none_found f ns id number wanted (x ∷ es) [] are e = absurd are

-- ---- lists

keys_joined : (f : Forest) (ns : List (List ℕ × ℕ)) (es xs : List Entry) (ks js : List ℕ) → AreKeysOf f ns es ks → AreKeysOf f ns xs js →
    AreKeysOf f ns (es ++ xs) (ks ++ js)
keys_joined f ns [] xs [] js are more = more
keys_joined f ns (e ∷ es) xs (k ∷ ks) js are more = (are.0, keys_joined f ns es xs ks js are.1 more)
keys_joined f ns [] xs (k ∷ ks) js are more = absurd are
keys_joined f ns (e ∷ es) xs [] js are more = absurd are

keys_reversed : (f : Forest) (ns : List (List ℕ × ℕ)) (es : List Entry) (ks : List ℕ) → AreKeysOf f ns es ks → AreKeysOf f ns (reverse es) (reverse ks)
keys_reversed f ns [] [] are = tt
keys_reversed f ns (e ∷ es) (k ∷ ks) are =
    subst (λ (xs : List Entry). AreKeysOf f ns xs (reverse (k ∷ ks))) (sym (reverse-append (e ∷ []) es))
    (subst (AreKeysOf f ns (reverse es ++ e ∷ [])) (sym (reverse-append (k ∷ []) ks))
    (keys_joined f ns (reverse es) (e ∷ []) (reverse ks) (k ∷ []) (keys_reversed f ns es ks are.1) (are.0, tt)))
keys_reversed f ns [] (k ∷ ks) are = absurd are
keys_reversed f ns (e ∷ es) [] are = absurd are

pub keys_taken : (f : Forest) (ns : List (List ℕ × ℕ)) (n : ℕ) (es : List Entry) (ks : List ℕ) → AreKeysOf f ns es ks → AreKeysOf f ns (take n es) (take n ks)
keys_taken f ns zero es ks are = tt
keys_taken f ns (suc n) [] [] are = tt
keys_taken f ns (suc n) (e ∷ es) (k ∷ ks) are = (are.0, keys_taken f ns n es ks are.1)
keys_taken f ns (suc n) [] (k ∷ ks) are = absurd are
keys_taken f ns (suc n) (e ∷ es) [] are = absurd are

-- what is found, in a list from its end on
turned : (number : ℕ) (keys names : List ℕ) (rest : List Entry) → names ≡ map name_key rest →
    found number (reverse keys) (reverse rest) ≡ last_like number keys names
turned number keys names rest are =
    ap (λ ms. option_and_then (λ p. after_marker p (key_from_end marker_key ms)) (last_key number keys)) (map_reversed name_key rest ∙ ap reverse (sym are))

got_between : (ys zs : List Entry) (x : Entry) → slice_get (ys ++ x ∷ zs) (length ys) ≡ Some x
got_between [] zs x = refl
got_between (y ∷ ys) zs x = got_between ys zs x

front_taken : (ys zs : List Entry) → take (length ys) (ys ++ zs) ≡ ys
front_taken [] zs = refl
front_taken (y ∷ ys) zs = ap (λ xs. y ∷ xs) (front_taken ys zs)

joined_on : (xs ys zs : List Entry) → (xs ++ ys) ++ zs ≡ xs ++ (ys ++ zs)
joined_on [] ys zs = refl
joined_on (x ∷ xs) ys zs = ap (λ es. x ∷ es) (joined_on xs ys zs)

-- where a list from its end on is split, the list is
split_back : (rest front back : List Entry) (x : Entry) → reverse rest ≡ front ++ x ∷ back → rest ≡ reverse back ++ x ∷ reverse front
split_back rest front back x e =
    sym (reverse-reverse rest) ∙ ap (λ (es : List Entry). reverse es) e ∙ reverse-append front (x ∷ back)
    ∙ ap (λ es. es ++ reverse front) (reverse-append (x ∷ []) back) ∙ joined_on (reverse back) (x ∷ []) (reverse front)

-- an entry is found, and which elements are like the one is told by it and by the entries before it
record IsPlaceFound (f : Forest) (id place : ℕ) (rest : List Entry) : Type 0 where
  pub entry : Entry
  pub there : slice_get rest place ≡ Some entry
  pub inside : length (take place rest) ≡ place
  pub left : places_alike f id rest ≡ alike_from_end f id (entry ∷ reverse (take place rest))

like_found : (f : Forest) (ns : List (List ℕ × ℕ)) (id number : ℕ) → HasNumber f ns id number → (rest : List Entry) (keys names : List ℕ) (place : ℕ) →
    AreKeysOf f ns rest keys → names ≡ map name_key rest → last_like number keys names ≡ Some place → IsPlaceFound f id place rest
like_found f ns id number wanted rest keys names place are named at =
    let one = some_found f ns id number wanted (reverse rest) (reverse keys) place (keys_reversed f ns rest keys are) (turned number keys names rest named ∙ at) in
    let whole : rest ≡ reverse one.back ++ one.entry ∷ reverse one.front = split_back rest one.front one.back one.entry one.split in
    let long : length (reverse one.back) ≡ place = length-reverse one.back ∙ one.long in
    let front : take place rest ≡ reverse one.back =
    ap (λ n. take n rest) (sym long) ∙ ap (λ (es : List Entry). take (length (reverse one.back)) es) whole ∙ front_taken (reverse one.back) (one.entry ∷ reverse one.front) in
    record {
      entry = one.entry;
      there = ap (slice_get rest) (sym long) ∙ ap (λ (es : List Entry). slice_get es (length (reverse one.back))) whole
          ∙ got_between (reverse one.back) (reverse one.front) one.entry;
      inside = ap (λ (es : List Entry). length es) front ∙ long;
      left = one.rest ∙ ap (λ (es : List Entry). alike_from_end f id (one.entry ∷ es)) (sym (reverse-reverse one.back) ∙ ap (λ (es : List Entry). reverse es) (sym front));
    }

none_like : (f : Forest) (ns : List (List ℕ × ℕ)) (id number : ℕ) → HasNumber f ns id number → (rest : List Entry) (keys names : List ℕ) →
    AreKeysOf f ns rest keys → names ≡ map name_key rest → last_like number keys names ≡ None → places_alike f id rest ≡ []
none_like f ns id number wanted rest keys names are named at =
    none_found f ns id number wanted (reverse rest) (reverse keys) (keys_reversed f ns rest keys are) (turned number keys names rest named ∙ at)

-- ---- the search

-- some first entries of the list, with what an index says of what is found among them
pub record IsSearched (f : Forest) (id number : ℕ) (entries rest : List Entry) (index : FormattingIndex) (found : Option ℕ) : Type 0 where
  pub finds : FindsLikes f id number entries index
  pub front : rest ≡ take (length rest) entries
  pub tells : found ≡ last_like number (take (length rest) index.likes) (take (length rest) index.names)

front_keys : (f : Forest) (id number : ℕ) (entries rest : List Entry) (index : FormattingIndex) (r : Option ℕ) → IsSearched f id number entries rest index r →
    AreKeysOf f (likes_in index).numbers rest (take (length rest) index.likes)
front_keys f id number entries rest index r s =
    subst (λ (es : List Entry). AreKeysOf f (likes_in index).numbers es (take (length rest) index.likes)) (sym s.front)
    (keys_taken f (likes_in index).numbers (length rest) entries index.likes s.finds.keys)

front_names : (f : Forest) (id number : ℕ) (entries rest : List Entry) (index : FormattingIndex) (r : Option ℕ) → IsSearched f id number entries rest index r →
    take (length rest) index.names ≡ map name_key rest
front_names f id number entries rest index r s =
    ap (take (length rest)) s.finds.indexed.names ∙ sym (map_taken name_key (length rest) entries) ∙ ap (λ (es : List Entry). map name_key es) (sym s.front)

found_place : (f : Forest) (id number : ℕ) (entries rest : List Entry) (index : FormattingIndex) (place : ℕ) →
    IsSearched f id number entries rest index (Some place) → IsPlaceFound f id place rest
found_place f id number entries rest index place s =
    like_found f (likes_in index).numbers id number s.finds.element rest (take (length rest) index.likes) (take (length rest) index.names) place
    (front_keys f id number entries rest index (Some place) s) (front_names f id number entries rest index (Some place) s) (sym s.tells)

-- no like element is left
pub none_left : (f : Forest) (id number : ℕ) (entries rest : List Entry) (index : FormattingIndex) (more : ℕ) → IsSearched f id number entries rest index None →
    None ≡ slice_get (places_alike f id rest) more
none_left f id number entries rest index more s =
    sym (ap (λ ps. slice_get ps more) (none_like f (likes_in index).numbers id number s.finds.element rest (take (length rest) index.likes)
    (take (length rest) index.names) (front_keys f id number entries rest index None s) (front_names f id number entries rest index None s) (sym s.tells)))

-- a marker comes
pub marker_left : (f : Forest) (id number : ℕ) (entries rest : List Entry) (index : FormattingIndex) (place more : ℕ) →
    IsSearched f id number entries rest index (Some place) → None ≡ option_and_then element_in (slice_get rest place) →
    None ≡ slice_get (places_alike f id rest) more
marker_left f id number entries rest index place more s none =
    let one = found_place f id number entries rest index place s in
    sym (ap (λ ps. slice_get ps more) (one.left ∙ by one.entry (none ∙ ap (option_and_then element_in) one.there)))
  where
    by : (e : Entry) → None ≡ element_in e → alike_from_end f id (e ∷ reverse (take place rest)) ≡ []
    by Marker h = refl
    by (AnEntry o) h = cc

-- the element there
element_is : (f : Forest) (id place : ℕ) (rest : List Entry) (o : Open) (one : IsPlaceFound f id place rest) →
    Some o ≡ option_and_then element_in (slice_get rest place) → one.entry ≡ AnEntry o
element_is f id place rest o one some = by one.entry (some ∙ ap (option_and_then element_in) one.there)
  where
    by : (e : Entry) → Some o ≡ element_in e → e ≡ AnEntry o
    by Marker h = cc
    by (AnEntry p) h = ap (λ (x : Open). AnEntry x) (sym (same_Some o p h))

element_left : (f : Forest) (id number : ℕ) (entries rest : List Entry) (index : FormattingIndex) (place : ℕ) (o : Open) (b : Bool) →
    IsSearched f id number entries rest index (Some place) → Some o ≡ option_and_then element_in (slice_get rest place) → are_alike f o.id id ≡ b →
    places_alike f id rest ≡ (if b then place ∷ places_alike f id (take place rest) else places_alike f id (take place rest))
element_left f id number entries rest index place o b s some is =
    let one = found_place f id number entries rest index place s in
    let before : List Entry = reverse (take place rest) in
    one.left ∙ ap (λ (e : Entry). alike_from_end f id (e ∷ before)) (element_is f id place rest o one some)
    ∙ ap (λ c. if c then length before ∷ alike_from_end f id before else alike_from_end f id before) is
    ∙ ap (λ n. if b then n ∷ alike_from_end f id before else alike_from_end f id before) (length-reverse (take place rest) ∙ one.inside)

-- the third one that is alike
pub third_is : (f : Forest) (id number : ℕ) (entries rest : List Entry) (index : FormattingIndex) (place more : ℕ) (o : Open) →
    IsSearched f id number entries rest index (Some place) → Some o ≡ option_and_then element_in (slice_get rest place) → are_alike f o.id id ≡ true →
    more ≡ 0 → Some place ≡ slice_get (places_alike f id rest) more
third_is f id number entries rest index place more o s some alike last =
    sym (ap (slice_get (places_alike f id rest)) last ∙ ap (λ ps. slice_get ps 0) (element_left f id number entries rest index place o true s some alike))

-- another one that is alike
pub alike_passed : (f : Forest) (id number : ℕ) (entries rest : List Entry) (index : FormattingIndex) (place more fewer : ℕ) (o : Open) →
    IsSearched f id number entries rest index (Some place) → Some o ≡ option_and_then element_in (slice_get rest place) → are_alike f o.id id ≡ true →
    more ≡ suc fewer → slice_get (places_alike f id (take place rest)) fewer ≡ slice_get (places_alike f id rest) more
alike_passed f id number entries rest index place more fewer o s some alike one =
    sym (ap (slice_get (places_alike f id rest)) one ∙ ap (λ ps. slice_get ps (suc fewer)) (element_left f id number entries rest index place o true s some alike))

-- one that is not
pub unlike_passed : (f : Forest) (id number : ℕ) (entries rest : List Entry) (index : FormattingIndex) (place more : ℕ) (o : Open) →
    IsSearched f id number entries rest index (Some place) → Some o ≡ option_and_then element_in (slice_get rest place) → are_alike f o.id id ≡ false →
    slice_get (places_alike f id (take place rest)) more ≡ slice_get (places_alike f id rest) more
unlike_passed f id number entries rest index place more o s some unlike =
    sym (ap (λ ps. slice_get ps more) (element_left f id number entries rest index place o false s some unlike))

-- the entries before it are the first ones, too
taken_twice : (n m : ℕ) (es : List Entry) → n ≤ m → take n (take m es) ≡ take n es
taken_twice zero m es le = refl
taken_twice (suc n) zero es le = absurd (omega (arith, le))
taken_twice (suc n) (suc m) [] le = refl
taken_twice (suc n) (suc m) (e ∷ es) le = ap (λ xs. e ∷ xs) (taken_twice n m es (omega (arith, le)))

pub inside_front : (n : ℕ) (es : List Entry) → n ≤ length es → length (take n es) ≡ n
inside_front zero es le = refl
inside_front (suc n) [] le = absurd (omega (arith, le))
inside_front (suc n) (e ∷ es) le = ap suc (inside_front n es (omega (arith, le)))

pub still_front : (entries rest : List Entry) (place : ℕ) → rest ≡ take (length rest) entries → place ≤ length rest →
    take place rest ≡ take (length (take place rest)) entries
still_front entries rest place front le =
    ap (λ (es : List Entry). take place es) front ∙ taken_twice place (length rest) entries le ∙ ap (λ n. take n entries) (sym (inside_front place rest le))

got_below : (es : List Entry) (n : ℕ) (e : Entry) → slice_get es n ≡ Some e → n < length es
got_below [] n e h = cc
got_below (x ∷ es) zero e h = omega arith
got_below (x ∷ es) (suc n) e h = (let less = got_below es n e h in omega (arith, less))

-- a place that is found is one of an entry
pub found_inside : (f : Forest) (id number : ℕ) (entries rest : List Entry) (index : FormattingIndex) (place : ℕ) →
    IsSearched f id number entries rest index (Some place) → place < length rest
found_inside f id number entries rest index place s =
    let one = found_place f id number entries rest index place s in
    got_below rest place one.entry one.there
