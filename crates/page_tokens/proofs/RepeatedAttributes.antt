-- Attributes with the same name: the standard keeps the first when the tag is emitted, the tokenizer drops the others as they are finished.
use Rattle.std.specs.Prelude.{◌≡◌, ℕ, Bool, true, false, cond, ◌||◌, List, [], ◌∷◌, ◌++◌, reverse, string_bytes, refl}
use Rattle.std.specs.List.{list_any}
use Rattle.std.specs.Str.{bytes_eq, encode_utf8_all}
use Rattle.std.proofs.lemmas.Bool.Decides.{same_from_decides, Decides-like}
use Rattle.std.proofs.lemmas.List.{reverse-append}
use Rattle.std.proofs.lemmas.Slice.Eq.{bytes_eq-Decides}
use Rattle.std.proofs.lemmas.Str.{encodes_same}
use mathlib.Core.Path.{◌∙◌, sym, ap, subst}
use Rattle.standard_tokens.specs.Machine.{distinct, distinct_behind}
use Rattle.standard_tokens.specs.Tokens.{Attr}
use Rattle.page_tokens.specs.Attributes.{is_named}
use Rattle.page_tokens.specs.Standard.{AreAttrs, IsAttr}
use Rattle.page_tokens.specs.declared.attribute.TagAttr.{TagAttr}

abbrev has_name : List ℕ → List Attr → Bool
has_name name attrs = list_any (λ b. bytes_eq b.name name) attrs

abbrev unless : Bool → List Attr → Attr → List Attr
unless true attrs a = attrs
unless false attrs a = attrs ++ a ∷ []

-- one more attribute
distinct_snoc : (before attrs : List Attr) (a : Attr) → distinct_behind before (attrs ++ a ∷ []) ≡ unless (has_name a.name before || has_name a.name (distinct_behind before attrs)) (distinct_behind before attrs) a
distinct_snoc before [] a = alone (has_name a.name before)
  where
    alone : (b : Bool) → cond b [] (a ∷ []) ≡ unless (b || false) [] a
    alone true = refl
    alone false = refl
distinct_snoc before (x ∷ attrs) a = go (has_name x.name before) refl (distinct_snoc before attrs a) (distinct_snoc (x ∷ before) attrs a)
  where
    turn : (p q r : Bool) → ((p || q) || r) ≡ (q || (p || r))
    turn true true r = refl
    turn true false r = refl
    turn false q r = refl

    out : (b : Bool) (attrs : List Attr) → x ∷ unless b attrs a ≡ unless b (x ∷ attrs) a
    out true attrs = refl
    out false attrs = refl

    go : (b : Bool) → has_name x.name before ≡ b →
        distinct_behind before (attrs ++ a ∷ []) ≡ unless (has_name a.name before || has_name a.name (distinct_behind before attrs)) (distinct_behind before attrs) a →
        distinct_behind (x ∷ before) (attrs ++ a ∷ []) ≡ unless (has_name a.name (x ∷ before) || has_name a.name (distinct_behind (x ∷ before) attrs)) (distinct_behind (x ∷ before) attrs) a →
        cond b (distinct_behind before (attrs ++ a ∷ [])) (x ∷ distinct_behind (x ∷ before) (attrs ++ a ∷ []))
        ≡ unless (has_name a.name before || has_name a.name (cond b (distinct_behind before attrs) (x ∷ distinct_behind (x ∷ before) attrs))) (cond b (distinct_behind before attrs) (x ∷ distinct_behind (x ∷ before) attrs)) a
    go true e there here = there
    go false e there here =
        let rest : List Attr = distinct_behind (x ∷ before) attrs in
        ap (λ t. x ∷ t) here ∙ out (has_name a.name (x ∷ before) || has_name a.name rest) rest
        ∙ ap (λ b. unless b (x ∷ rest) a) (turn (bytes_eq x.name a.name) (has_name a.name before) (has_name a.name rest))

pub distinct_with : (a : Attr) (attrs : List Attr) → distinct (reverse (a ∷ attrs)) ≡ unless (has_name a.name (distinct (reverse attrs))) (distinct (reverse attrs)) a
distinct_with a attrs = ap distinct (reverse-append (a ∷ []) attrs) ∙ distinct_snoc [] (reverse attrs) a

-- names are the same as bytes and as characters
pub same_names : (a b xs ys : List ℕ) → a ≡ encode_utf8_all xs → b ≡ encode_utf8_all ys → bytes_eq a b ≡ bytes_eq xs ys
same_names a b xs ys one other =
    same_from_decides _ _ (Decides-like _ (λ e. encodes_same xs ys (sym one ∙ e ∙ other)) (λ e. one ∙ ap encode_utf8_all e ∙ sym other) (bytes_eq-Decides a b)) (bytes_eq-Decides xs ys)

same_any : (kept : List TagAttr) (attrs : List Attr) (name cs : List ℕ) → AreAttrs kept attrs → name ≡ encode_utf8_all cs → list_any (is_named name) kept ≡ has_name cs attrs
same_any [] [] name cs are is = refl
same_any [] (a ∷ attrs) name cs are is = absurd are
same_any (k ∷ kept) [] name cs are is = absurd are
same_any (k ∷ kept) (a ∷ attrs) name cs are is =
    ap (λ b. b || list_any (is_named name) kept) (same_names (string_bytes k.name) name a.name cs are.0.name is) ∙ ap (λ b. bytes_eq a.name cs || b) (same_any kept attrs name cs are.1 is)

are_snoc : (kept : List TagAttr) (attrs : List Attr) (k : TagAttr) (a : Attr) → AreAttrs kept attrs → IsAttr k a → AreAttrs (kept ++ k ∷ []) (attrs ++ a ∷ [])
are_snoc [] [] k a are is = (is, tt)
are_snoc [] (b ∷ attrs) k a are is = absurd are
are_snoc (j ∷ kept) [] k a are is = absurd are
are_snoc (j ∷ kept) (b ∷ attrs) k a are is = (are.0, are_snoc kept attrs k a are.1 is)

-- what is finished stays out where its name is there already, and is appended otherwise
pub finished_twice : (kept : List TagAttr) (attrs : List Attr) (a : Attr) (name : List ℕ) → AreAttrs kept (distinct (reverse attrs)) → name ≡ encode_utf8_all a.name → list_any (is_named name) kept ≡ true →
    AreAttrs kept (distinct (reverse (a ∷ attrs)))
finished_twice kept attrs a name are is has =
    let there : has_name a.name (distinct (reverse attrs)) ≡ true = sym (same_any kept (distinct (reverse attrs)) name a.name are is) ∙ has in
    subst (AreAttrs kept) (sym (distinct_with a attrs ∙ ap (λ b. unless b (distinct (reverse attrs)) a) there)) are

pub finished_first : (kept : List TagAttr) (attrs : List Attr) (a : Attr) (k : TagAttr) → AreAttrs kept (distinct (reverse attrs)) → IsAttr k a → list_any (is_named (string_bytes k.name)) kept ≡ false →
    AreAttrs (kept ++ k ∷ []) (distinct (reverse (a ∷ attrs)))
finished_first kept attrs a k are is has =
    let there : has_name a.name (distinct (reverse attrs)) ≡ false = sym (same_any kept (distinct (reverse attrs)) (string_bytes k.name) a.name are is.name) ∙ has in
    subst (AreAttrs (kept ++ k ∷ [])) (sym (distinct_with a attrs ∙ ap (λ b. unless b (distinct (reverse attrs)) a) there)) (are_snoc kept (distinct (reverse attrs)) k a are is)
