-- The attributes of a tag that an element doesn't have, added one after the other.
use Rattle.std.proofs.Common.{ℕ, ◌≡◌, Bool, true, false, List, [], ◌∷◌, ◌++◌, ◌||◌, map, filter, not, refl, sym, ap, ◌∙◌, string_bytes, append_assoc, arith, cond, length, String, Result, Ok, Err, OnOk, if◌then◌else◌}
use Rattle.std.specs.BTreeSet.{BTreeSet, contains_text}
use Rattle.std.specs.List.{list_any}
use Rattle.std.specs.Str.{bytes_eq}
use Rattle.std.proofs.lemmas.Bool.{and_parts}
use Rattle.std.proofs.lemmas.Bool.Decides.{same_from_decides, Decides-like}
use Rattle.std.proofs.lemmas.List.{append-nil}
use Rattle.std.proofs.lemmas.List.Folds.{list_any-append}
use Rattle.std.proofs.lemmas.Slice.Eq.{bytes_eq-Decides}
use Rattle.dom_nodes.specs.Changes.{is_attr_named}
use Rattle.dom_nodes.specs.declared.name.Attr.{Attr}
use Rattle.page_tokens.specs.Attributes.{Gains, are_distinct, is_named}
use Rattle.page_tokens.specs.declared.attribute.TagAttr.{TagAttr}
use Rattle.page_trees.specs.Foreign.{attr_in}
use Rattle.page_trees.specs.LateAttrs.{AddsAbsent, Knows, absent_in, is_present}
use Rattle.page_trees.specs.declared.growing.late.LateAttrs.{LateAttrs}
use Rattle.page_trees.specs.declared.stack.ElementNamespace.{ElementNamespace}

same_either_way : (xs ys : List ℕ) → bytes_eq xs ys ≡ bytes_eq ys xs
same_either_way xs ys = same_from_decides _ _ (Decides-like _ sym sym (bytes_eq-Decides xs ys)) (bytes_eq-Decides ys xs)

both_false : (b c : Bool) → (b || c) ≡ false → (b ≡ false) × (c ≡ false)
both_false true c h = absurd (cc)
both_false false c h = (refl, h)

or_false : (b : Bool) → (b || false) ≡ b
or_false true = refl
or_false false = refl

is_false : (b : Bool) → not b ≡ true → b ≡ false
is_false true h = sym h
is_false false h = refl

-- one attribute more
present_more : (xs : List Attr) (x : Attr) (name : List ℕ) → is_present (xs ++ x ∷ []) name ≡ (is_present xs name || bytes_eq x.name.local name)
present_more xs x name =
    list_any-append (is_attr_named name) xs (x ∷ []) ∙ ap (λ b. is_present xs name || b) (or_false (bytes_eq x.name.local name))

absent_first : (xs : List Attr) (a : TagAttr) (rest : List TagAttr) →
    absent_in xs (a ∷ rest) ≡ (if is_present xs (string_bytes a.name) then absent_in xs rest else attr_in ElementNamespace.Html a ∷ absent_in xs rest)
absent_first xs a rest = by (is_present xs (string_bytes a.name))
  where
    by : (b : Bool) → map (attr_in ElementNamespace.Html) (if not b then a ∷ filter (λ r. not (is_present xs (string_bytes r.name))) rest else filter (λ r. not (is_present xs (string_bytes r.name))) rest)
        ≡ (if b then absent_in xs rest else attr_in ElementNamespace.Html a ∷ absent_in xs rest)
    by true = refl
    by false = refl

-- an attribute whose name none of the others has makes no difference to them
absent_again : (xs : List Attr) (x : Attr) (rest : List TagAttr) → list_any (is_named x.name.local) rest ≡ false → absent_in (xs ++ x ∷ []) rest ≡ absent_in xs rest
absent_again xs x [] h = refl
absent_again xs x (r ∷ rest) h =
    let name : List ℕ = string_bytes r.name in
    let parts = both_false (is_named x.name.local r) (list_any (is_named x.name.local) rest) h in
    let same : is_present (xs ++ x ∷ []) name ≡ is_present xs name =
    present_more xs x name ∙ ap (λ b. is_present xs name || b) (same_either_way x.name.local name ∙ parts.0) ∙ or_false (is_present xs name) in
    absent_first (xs ++ x ∷ []) r rest
    ∙ ap (λ b. (let attrs : List Attr = if b then absent_in (xs ++ x ∷ []) rest else attr_in ElementNamespace.Html r ∷ absent_in (xs ++ x ∷ []) rest in attrs)) same
    ∙ ap (λ (others : List Attr). (let attrs : List Attr = if is_present xs name then others else attr_in ElementNamespace.Html r ∷ others in attrs)) (absent_again xs x rest parts.1)
    ∙ sym (absent_first xs r rest)

added_next : (own old mid new : List Attr) (a : TagAttr) (rest : List TagAttr) (b : Bool) → is_present (own ++ old) (string_bytes a.name) ≡ b →
    list_any (is_named (string_bytes a.name)) rest ≡ false → mid ≡ old ++ absent_in (own ++ old) (a ∷ []) → new ≡ mid ++ absent_in (own ++ mid) rest →
    new ≡ old ++ absent_in (own ++ old) (a ∷ rest)
added_next own old mid new a rest true has other first others =
    let here : mid ≡ old =
    first ∙ ap (λ (xs : List Attr). old ++ xs) (absent_first (own ++ old) a [] ∙ ap (λ b. (let attrs : List Attr = if b then [] else attr_in ElementNamespace.Html a ∷ [] in attrs)) has)
    ∙ append-nil old in
    others ∙ ap (λ (xs : List Attr). xs ++ absent_in (own ++ xs) rest) here
    ∙ ap (λ (xs : List Attr). old ++ xs) (sym (absent_first (own ++ old) a rest
    ∙ ap (λ b. (let attrs : List Attr = if b then absent_in (own ++ old) rest else attr_in ElementNamespace.Html a ∷ absent_in (own ++ old) rest in attrs)) has))
added_next own old mid new a rest false has other first others =
    let x : Attr = attr_in ElementNamespace.Html a in
    let here : mid ≡ old ++ x ∷ [] =
    first ∙ ap (λ (xs : List Attr). old ++ xs) (absent_first (own ++ old) a [] ∙ ap (λ b. (let attrs : List Attr = if b then [] else x ∷ [] in attrs)) has) in
    others ∙ ap (λ (xs : List Attr). xs ++ absent_in (own ++ xs) rest) here
    ∙ ap (λ (xs : List Attr). (old ++ x ∷ []) ++ absent_in xs rest) (sym (append_assoc own old (x ∷ [])))
    ∙ ap (λ (xs : List Attr). (old ++ x ∷ []) ++ xs) (absent_again (own ++ old) x rest other)
    ∙ append_assoc old (x ∷ []) (absent_in (own ++ old) rest)
    ∙ ap (λ (xs : List Attr). old ++ xs) (sym (absent_first (own ++ old) a rest
    ∙ ap (λ b. (let attrs : List Attr = if b then absent_in (own ++ old) rest else x ∷ absent_in (own ++ old) rest in attrs)) has))

-- ---- the attributes of later tags

pub adds_none : (own : List Attr) (s : LateAttrs) → Knows own s → AddsAbsent own [] s s
adds_none own s known = record { id = refl; added = sym (append-nil s.added.items); known = known }

pub adds_first : (own : List Attr) (a : TagAttr) (rest : List TagAttr) (old mid new : LateAttrs) → are_distinct (a ∷ rest) ≡ true → AddsAbsent own (a ∷ []) old mid →
    AddsAbsent own rest mid new → AddsAbsent own (a ∷ rest) old new
adds_first own a rest old mid new distinct first others = record {
  id = others.id ∙ first.id;
  added = added_next own old.added.items mid.added.items new.added.items a rest _ refl
      (is_false _ (and_parts (not (list_any (is_named (string_bytes a.name)) rest)) (are_distinct rest) distinct).0) first.added others.added;
  known = others.known;
}

pub distinct_rest : (a : TagAttr) (rest : List TagAttr) → are_distinct (a ∷ rest) ≡ true → are_distinct rest ≡ true
distinct_rest a rest h = (and_parts (not (list_any (is_named (string_bytes a.name)) rest)) (are_distinct rest) h).1

-- an attribute whose name is absent is added, unless the call fails
pub adds_new : {T E : Type 0} (r : Result T E) (own : List Attr) (a : TagAttr) (old new : LateAttrs) (x : Attr) (looked put : List ℕ) → Knows own old →
    looked ≡ string_bytes a.name → contains_text old.names looked ≡ false → x ≡ attr_in ElementNamespace.Html a → put ≡ string_bytes a.name → Gains put old.names new.names → new.id ≡ old.id →
    OnOk r (new.added.items ≡ old.added.items ++ x ∷ []) → OnOk r (AddsAbsent own (a ∷ []) old new)
adds_new (Err _) own a old new x looked put known looks lacks is puts gains same pushed = tt
adds_new (Ok _) own a old new x looked put known looks lacks is puts gains same pushed =
    let before : List Attr = own ++ old.added.items in
    let it : Attr = attr_in ElementNamespace.Html a in
    let absent : is_present before (string_bytes a.name) ≡ false =
    sym (known (string_bytes a.name)) ∙ ap (λ (name : List ℕ). contains_text old.names name) (sym looks) ∙ lacks in
    let grown : new.added.items ≡ old.added.items ++ it ∷ [] = pushed ∙ ap (λ (y : Attr). old.added.items ++ y ∷ []) is in
    record {
      id = same;
      added = grown ∙ ap (λ (xs : List Attr). old.added.items ++ xs) (sym (absent_first before a []
          ∙ ap (λ b. (let attrs : List Attr = if b then [] else it ∷ [] in attrs)) absent));
      known = λ name. gains name ∙ ap (λ b. b || bytes_eq put name) (known name)
          ∙ ap (λ (word : List ℕ). is_present before name || bytes_eq word name) puts
          ∙ sym (present_more before it name)
          ∙ ap (λ (xs : List Attr). is_present xs name) (append_assoc own old.added.items (it ∷ []))
          ∙ ap (λ (xs : List Attr). is_present (own ++ xs) name) (sym grown);
    }

pub no_attrs_left : (attrs : List TagAttr) → length attrs ≡ 0 → attrs ≡ []
no_attrs_left [] h = refl
no_attrs_left (a ∷ attrs) h = absurd (omega (arith, h))

pub or_cond : (b c : Bool) → cond b true c ≡ (c || b)
or_cond true true = refl
or_cond true false = refl
or_cond false true = refl
or_cond false false = refl

-- ---- the names of an element's attributes

or_joined : (b c d : Bool) → ((b || c) || d) ≡ (b || (c || d))
or_joined true c d = refl
or_joined false c d = refl

pub names_noted : {A : Type 0} (old new : BTreeSet (String A)) (a : Attr) (others rest : List Attr) (word name : List ℕ) → rest ≡ a ∷ others → word ≡ a.name.local → Gains word old new →
    (contains_text new name || is_present others name) ≡ (contains_text old name || is_present rest name)
names_noted old new a others rest word name at spelt gains =
    ap (λ b. b || is_present others name) (gains name ∙ ap (λ (w : List ℕ). contains_text old name || bytes_eq w name) spelt)
    ∙ or_joined (contains_text old name) (bytes_eq a.name.local name) (is_present others name)
    ∙ ap (λ (attrs : List Attr). contains_text old name || is_present attrs name) (sym at)

pub names_left : {A : Type 0} (names : BTreeSet (String A)) (rest : List Attr) (name : List ℕ) → length rest ≡ 0 → contains_text names name ≡ (contains_text names name || is_present rest name)
names_left names [] name h = sym (or_false (contains_text names name))
names_left names (a ∷ rest) name h = absurd (omega (arith, h))
