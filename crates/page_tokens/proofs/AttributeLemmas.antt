-- The names of attributes, and the set of the first ones.
use Rattle.std.proofs.Common.{ℕ, suc, ◌≡◌, ◌<◌, ◌≤◌, ◌+◌, Bool, true, false, cond, not, List, [], ◌∷◌, ◌++◌, refl, sym, ap, ◌∙◌, ◌||◌, length, take, map, get_or, string_bytes, arith, length-append, Result, Ok, Err, OnOk, OnErr, MatchBool, subst}
use Rattle.std.specs.Char.{to_ascii_lowercase}
use Rattle.std.specs.List.{list_any}
use Rattle.std.specs.Str.{bytes_eq}
use Rattle.std.proofs.lemmas.Bool.{and_parts}
use Rattle.std.proofs.lemmas.Bool.Decides.{same_from_decides, Decides-like}
use Rattle.std.proofs.lemmas.List.{take-append-le}
use Rattle.std.proofs.lemmas.List.Folds.{list_any_more, list_any-append}
use Rattle.std.proofs.lemmas.Slice.Eq.{bytes_eq-Decides}
use Rattle.std.proofs.lemmas.Str.Ascii.{lowercase-lowercase}
use Rattle.page_tokens.specs.declared.attribute.TagAttr.{TagAttr}
use Rattle.page_tokens.specs.Attributes.{AddsAttr, is_named, are_distinct}

pub cond_or : (b c : Bool) → cond b true c ≡ (c || b)
cond_or true true = refl
cond_or true false = refl
cond_or false true = refl
cond_or false false = refl

-- a name in lower case stays as it is
pub folded-folded : (name : List ℕ) → map to_ascii_lowercase (map to_ascii_lowercase name) ≡ map to_ascii_lowercase name
folded-folded [] = refl
folded-folded (b ∷ name) = rw (lowercase-lowercase b, folded-folded name) refl

pub length-folded : (name : List ℕ) → length (map to_ascii_lowercase name) ≡ length name
length-folded [] = refl
length-folded (b ∷ name) = ap suc (length-folded name)

-- one more name is that of one more attribute
pub one_more : (attrs : List TagAttr) (noted : ℕ) (x : TagAttr) (text name : List ℕ) (old new : Bool) → noted < length attrs → x ≡ get_or attrs noted x →
    text ≡ string_bytes x.name → old ≡ list_any (is_named name) (take noted attrs) → new ≡ (old || bytes_eq text name) →
    new ≡ list_any (is_named name) (take (noted + 1) attrs)
one_more attrs noted x text name old new within is spelled had has =
    has ∙ ap (λ b. b || bytes_eq text name) had ∙ ap (λ (t : List ℕ). list_any (is_named name) (take noted attrs) || bytes_eq t name) spelled
    ∙ ap (λ (a : TagAttr). list_any (is_named name) (take noted attrs) || is_named name a) is ∙ sym (list_any_more (is_named name) attrs noted x within)

bytes_eq-sym : (xs ys : List ℕ) → bytes_eq xs ys ≡ bytes_eq ys xs
bytes_eq-sym xs ys = same_from_decides _ _ (Decides-like _ sym sym (bytes_eq-Decides xs ys)) (bytes_eq-Decides ys xs)

both_false : (b c : Bool) → (b || c) ≡ false → (b ≡ false) × (c ≡ false)
both_false true true h = absurd (cc)
both_false true false h = absurd (cc)
both_false false true h = absurd (cc)
both_false false false h = (refl, refl)

not_true : (b : Bool) → not b ≡ true → b ≡ false
not_true true h = sym h
not_true false h = refl

-- an attribute of a new name behind the others
pub are_distinct-append : (attrs : List TagAttr) (x : TagAttr) → are_distinct attrs ≡ true → list_any (is_named (string_bytes x.name)) attrs ≡ false →
    are_distinct (attrs ++ x ∷ []) ≡ true
are_distinct-append [] x h new = refl
are_distinct-append (a ∷ rest) x h new =
    let parts = and_parts (not (list_any (is_named (string_bytes a.name)) rest)) (are_distinct rest) h in
    let other = both_false (is_named (string_bytes x.name) a) (list_any (is_named (string_bytes x.name)) rest) new in
    let others : list_any (is_named (string_bytes a.name)) rest ≡ false = not_true _ parts.0 in
    let last : bytes_eq (string_bytes x.name) (string_bytes a.name) ≡ false = bytes_eq-sym (string_bytes x.name) (string_bytes a.name) ∙ other.0 in
    let more : are_distinct (rest ++ x ∷ []) ≡ true = are_distinct-append rest x parts.1 other.1 in
    rw (list_any-append (is_named (string_bytes a.name)) rest (x ∷ []), others, last, more) refl

-- the attributes behind which one was put, or not, as the result of doing so says
pub distinct-pushed : {T E : Type 0} (r : Result T E) (attrs more : List TagAttr) (x : TagAttr) → OnOk r (more ≡ attrs ++ x ∷ []) → OnErr r (more ≡ attrs) →
    are_distinct attrs ≡ true → list_any (is_named (string_bytes x.name)) attrs ≡ false → are_distinct more ≡ true
distinct-pushed (Ok _) attrs more x ok err h new = rw ok (are_distinct-append attrs x h new)
distinct-pushed (Err _) attrs more x ok err h new = rw err h

pub within-pushed : {T E : Type 0} (r : Result T E) (attrs more : List TagAttr) (x : TagAttr) (noted : ℕ) → OnOk r (more ≡ attrs ++ x ∷ []) → OnErr r (more ≡ attrs) →
    noted ≤ length attrs → noted ≤ length more
within-pushed (Ok _) attrs more x noted ok err h = rw (ok, length-append) (omega (arith, h))
within-pushed (Err _) attrs more x noted ok err h = rw err h

pub names-pushed : {T E : Type 0} (r : Result T E) (attrs more : List TagAttr) (x : TagAttr) (noted : ℕ) (name : List ℕ) (has : Bool) →
    OnOk r (more ≡ attrs ++ x ∷ []) → OnErr r (more ≡ attrs) → noted ≤ length attrs →
    has ≡ list_any (is_named name) (take noted attrs) → has ≡ list_any (is_named name) (take noted more)
names-pushed (Ok _) attrs more x noted name has ok err within is = rw (ok, take-append-le) is
names-pushed (Err _) attrs more x noted name has ok err within is = rw err is

-- an attribute with a new name is appended
pub adds_new : {T E : Type 0} (r : Result T E) (old new : List TagAttr) (attr : TagAttr) (name value : List ℕ) → string_bytes attr.name ≡ name → string_bytes attr.value ≡ value →
    list_any (is_named (string_bytes attr.name)) old ≡ false → new ≡ old ++ attr ∷ [] → OnOk r (AddsAttr old new name value)
adds_new (Ok u) old new attr name value name_is value_is has is =
    subst (λ b. MatchBool b (new ≡ old) ((a : TagAttr) × (new ≡ old ++ a ∷ []) × (string_bytes a.name ≡ name) × (string_bytes a.value ≡ value)))
    (sym (ap (λ (n : List ℕ). list_any (is_named n) old) (sym name_is) ∙ has)) (attr, is, name_is, value_is)
adds_new (Err e) old new attr name value name_is value_is has is = tt

pub adds_same : {T E : Type 0} (r : Result T E) (old mid new : List TagAttr) (n n' v v' : List ℕ) → mid ≡ old → n ≡ n' → v ≡ v' → OnOk r (AddsAttr mid new n v) → OnOk r (AddsAttr old new n' v')
adds_same (Ok u) old mid new n n' v v' list name value adds =
    subst (λ (ks : List TagAttr). AddsAttr ks new n' v') list (subst (λ (a : List ℕ). AddsAttr mid new a v') name (subst (λ (a : List ℕ). AddsAttr mid new n a) value adds))
adds_same (Err e) old mid new n n' v v' list name value adds = tt
