-- Texts of lists of characters.
use Rattle.std.proofs.Common.{◌≡◌, ℕ, ◌+◌, List, [], ◌∷◌, ◌++◌, map, refl, sym, ap, ◌∙◌, append_assoc, append-nil, arith, add-zero, zero-add, Option, Some, None}
use Rattle.std.proofs.lemmas.Str.{encodes-append, encodes-chars, encodes-IsAscii}
use Rattle.std.specs.Prelude.{string_bytes, unwrap_or, encode_utf8_all}
use Rattle.std.specs.Str.{IsAscii, IsUtf8, chars}
use Rattle.std.specs.Char.{encode_utf8}
use Rattle.decoded_text.specs.declared.decoded.Decoded.{Decoded}
use Rattle.decoded_text.specs.Characters.{text_of, errors_in, Appends, Continues, IsDecoded}

shown : List (Option ℕ) → List ℕ
shown characters = map (λ character. unwrap_or character 0xFFFD) characters

shown-append : (xs ys : List (Option ℕ)) → shown (xs ++ ys) ≡ shown xs ++ shown ys
unfolding shown
shown-append [] ys = refl
shown-append (x ∷ xs) ys = ap (λ r. unwrap_or x 0xFFFD ∷ r) (shown-append xs ys)

pub text-append : (xs ys : List (Option ℕ)) → text_of (xs ++ ys) ≡ text_of xs ++ text_of ys
unfolding text_of shown
text-append xs ys = ap encode_utf8_all (shown-append xs ys) ∙ encodes-append (shown xs) (shown ys)

pub errors-append : (xs ys : List (Option ℕ)) → errors_in (xs ++ ys) ≡ errors_in xs + errors_in ys
unfolding errors_in
errors-append [] ys = sym (zero-add (errors_in ys))
errors-append (Some c ∷ xs) ys = errors-append xs ys
errors-append (None ∷ xs) ys = let e = errors-append xs ys in omega arith

pub text-nil : text_of [] ≡ []
unfolding text_of
text-nil = refl

pub errors-nil : errors_in [] ≡ 0
unfolding errors_in
errors-nil = refl

pub text-some : (c : ℕ) → text_of (Some c ∷ []) ≡ encode_utf8 c
unfolding text_of
text-some c = append-nil (encode_utf8 c)

pub text-none : text_of (None ∷ []) ≡ encode_utf8 0xFFFD
unfolding text_of
text-none = append-nil (encode_utf8 0xFFFD)

pub errors-some : (c : ℕ) → errors_in (Some c ∷ []) ≡ 0
unfolding errors_in
errors-some c = refl

pub errors-none : errors_in (None ∷ []) ≡ 1
unfolding errors_in
errors-none = omega arith

shown-all : (cs : List ℕ) → shown (map Some cs) ≡ cs
unfolding shown
shown-all [] = refl
shown-all (c ∷ cs) = ap (λ r. c ∷ r) (shown-all cs)

pub text-all : (cs : List ℕ) → text_of (map Some cs) ≡ encode_utf8_all cs
unfolding text_of shown
text-all cs = ap encode_utf8_all (shown-all cs)

pub errors-all : (cs : List ℕ) → errors_in (map Some cs) ≡ 0
unfolding errors_in
errors-all [] = refl
errors-all (c ∷ cs) = errors-all cs

pub text-ascii : (bs : List ℕ) → IsAscii bs → text_of (map Some bs) ≡ bs
text-ascii bs h = text-all bs ∙ encodes-IsAscii bs h

-- ---- appending

pub appends-some : (old new : Decoded) (c : ℕ) → string_bytes new.text ≡ string_bytes old.text ++ encode_utf8 c → new.replaced ≡ old.replaced → Appends old new (Some c ∷ [])
appends-some old new c text same = record {
  text = text ∙ ap (λ t. string_bytes old.text ++ t) (sym (text-some c));
  replaced = same ∙ sym (add-zero old.replaced) ∙ ap (λ n. old.replaced + n) (sym (errors-some c));
}

pub appends-none : (old new : Decoded) → string_bytes new.text ≡ string_bytes old.text ++ encode_utf8 0xFFFD → new.replaced ≡ old.replaced + 1 → Appends old new (None ∷ [])
appends-none old new text more = record {
  text = text ∙ ap (λ t. string_bytes old.text ++ t) (sym text-none);
  replaced = more ∙ ap (λ n. old.replaced + n) (sym errors-none);
}

pub appends-ascii : (old new : Decoded) (bs : List ℕ) → IsAscii bs → string_bytes new.text ≡ string_bytes old.text ++ bs → new.replaced ≡ old.replaced → Appends old new (map Some bs)
appends-ascii old new bs h text same = record {
  text = text ∙ ap (λ t. string_bytes old.text ++ t) (sym (text-ascii bs h));
  replaced = same ∙ sym (add-zero old.replaced) ∙ ap (λ n. old.replaced + n) (sym (errors-all bs));
}

pub is_empty : (decoded : Decoded) → string_bytes decoded.text ≡ [] → decoded.replaced ≡ 0 → IsDecoded decoded []
is_empty decoded text none = record { text = text ∙ sym text-nil; replaced = none ∙ sym errors-nil }

-- ---- continuing

pub continues-start : (old : Decoded) (before : List (Option ℕ)) → Continues old before old before
continues-start old before = record { text = refl; replaced = refl }

pub continues-more : (old mid new : Decoded) (before between after items : List (Option ℕ)) → Continues old before mid between → between ≡ items ++ after → Appends mid new items → Continues old before new after
continues-more old mid new before between after items so_far is more = record {
  text = ap (λ t. t ++ text_of after) more.text ∙ append_assoc (string_bytes mid.text) (text_of items) (text_of after)
      ∙ ap (λ t. string_bytes mid.text ++ t) (sym (text-append items after) ∙ ap text_of (sym is)) ∙ so_far.text;
  replaced = let e = errors-append items after in let f = ap errors_in is in let g = more.replaced in let h = so_far.replaced in omega arith;
}

pub continues-one : (old mid new : Decoded) (before between after : List (Option ℕ)) (character : Option ℕ) → Continues old before mid between → between ≡ character ∷ after → Appends mid new (character ∷ []) → Continues old before new after
continues-one old mid new before between after character so_far is more = continues-more old mid new before between after (character ∷ []) so_far is more

pub continues-ascii : (old mid new : Decoded) (before between after : List (Option ℕ)) (bs : List ℕ) → Continues old before mid between → between ≡ map Some bs ++ after → Appends mid new (map Some bs) → Continues old before new after
continues-ascii old mid new before between after bs so_far is more = continues-more old mid new before between after (map Some bs) so_far is more

-- all is written
pub continues-end : (old new : Decoded) (before : List (Option ℕ)) → Continues old before new [] → Appends old new before
continues-end old new before all = record {
  text = sym (append-nil (string_bytes new.text)) ∙ ap (λ t. string_bytes new.text ++ t) (sym text-nil) ∙ all.text;
  replaced = let e = errors-nil in let f = all.replaced in omega arith;
}

pub decoded-all : (old new : Decoded) (characters : List (Option ℕ)) → IsDecoded old [] → Appends old new characters → IsDecoded new characters
decoded-all old new characters start all = record {
  text = all.text ∙ ap (λ t. t ++ text_of characters) (start.text ∙ text-nil);
  replaced = let e = errors-nil in let f = all.replaced in let g = start.replaced in omega arith;
}

pub appends-both : (old mid new : Decoded) (xs ys : List (Option ℕ)) → Appends old mid xs → Appends mid new ys → Appends old new (xs ++ ys)
appends-both old mid new xs ys first second = record {
  text = second.text ∙ ap (λ t. t ++ text_of ys) first.text ∙ append_assoc (string_bytes old.text) (text_of xs) (text_of ys)
      ∙ ap (λ t. string_bytes old.text ++ t) (sym (text-append xs ys));
  replaced = let e = errors-append xs ys in let f = first.replaced in let g = second.replaced in omega arith;
}

pub appends-nothing : (old : Decoded) → Appends old old []
appends-nothing old = record {
  text = sym (append-nil (string_bytes old.text)) ∙ ap (λ t. string_bytes old.text ++ t) (sym text-nil);
  replaced = let e = errors-nil in omega arith;
}

pub appends-text : (old new : Decoded) (bs : List ℕ) → IsUtf8 bs → string_bytes new.text ≡ string_bytes old.text ++ bs → new.replaced ≡ old.replaced → Appends old new (map Some (chars bs))
appends-text old new bs h text same = record {
  text = text ∙ ap (λ t. string_bytes old.text ++ t) (sym (text-all (chars bs) ∙ encodes-chars bs h));
  replaced = same ∙ sym (add-zero old.replaced) ∙ ap (λ n. old.replaced + n) (sym (errors-all (chars bs)));
}

pub continues-both : (old mid new : Decoded) (before between after : List (Option ℕ)) → Continues old before mid between → Continues mid between new after → Continues old before new after
continues-both old mid new before between after first second = record { text = second.text ∙ first.text; replaced = second.replaced ∙ first.replaced }
