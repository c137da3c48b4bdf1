-- What is read at once at the front of a text, one part after another.
use Rattle.std.specs.Prelude.{◌≡◌, ℕ, ◌<◌, false, not, ◌==◌, List, [], ◌∷◌, ◌++◌, length, Option, None, Some, Result, Ok, Err, encode_utf8, refl}
use Rattle.std.proofs.Common.{arith, inl, inr}
use Rattle.std.specs.Borrow.{Bor}
use Rattle.std.specs.Str.{encode_utf8_all}
use Rattle.std.proofs.lemmas.List.{append-nil, append_assoc}
use Rattle.std.proofs.lemmas.List.Folds.{list_all-append}
use Rattle.std.proofs.lemmas.Str.{encode_ascii, encodes-append}
use mathlib.Core.Path.{◌∙◌, sym, ap, subst}
use Rattle.page_tokens.specs.FastPaths.{FollowsRun, IsOutside, ReadsAny, ReadsFront, ReadsPlain, ToldLast}
use Rattle.page_tokens.specs.Reading.{text_of}
use Rattle.page_tokens.specs.Standard.{FollowsStandard, Goes, stays}
use Rattle.page_tokens.specs.declared.token.TokenKind.{TokenKind}
use Rattle.page_tokens.specs.declared.tokenizer.Tokenizer.{Tokenizer}
use Rattle.page_tokens.proofs.FollowsOn.{follows_on}

longer : (xs ys : List ℕ) → 0 < length xs → 0 < length (xs ++ ys)
longer [] ys h = absurd (omega (arith, h))
longer (x ∷ xs) ys h = omega arith

pub nothing_follows : (old : Tokenizer) → old.refused ≡ false → FollowsStandard old old [] None
nothing_follows old memory = record {
  memory = memory;
  leaves = record { in_foreign = refl; after_return = refl };
  reads = λ m ahead rest stands. record {
    machine = m;
    ahead' = ahead;
    characters = [];
    tokens = [];
    goes = subst (λ t. Goes m (t ++ rest) [] m (ahead ++ rest)) (sym (append-nil ahead)) stays;
    holds = inl stands;
    text = sym (append-nil (text_of old));
    ends = refl;
  };
}

-- one character at the end, behind those that were read before
last_on : (a b c : Tokenizer) (front back : List ℕ) (told : Option TokenKind) → b.reference ≡ a.reference → FollowsStandard a b front None → ToldLast told b c back → ToldLast told a c (front ++ back)
last_on a b c front back None outside first last = tt
last_on a b c front back (Some kind) outside first last = record {
  mid = last.mid;
  front = front ++ last.front;
  last = last.last;
  is = ap (λ e. front ++ e) last.is ∙ sym (append_assoc front last.front (last.last ∷ []));
  outside = last.outside;
  begins = follows_on a b last.mid front last.front None outside first last.begins;
  ends = last.ends;
}

last_alone : (old new : Tokenizer) (c : ℕ) (told : Option TokenKind) → IsOutside old → FollowsStandard old new (c ∷ []) told → ToldLast told old new (c ∷ [])
last_alone old new c None outside follows = tt
last_alone old new c (Some kind) outside follows = record { mid = old; front = []; last = c; is = refl; outside = outside.reference; begins = nothing_follows old follows.memory; ends = follows }

-- nothing is read
pub none_read : (old : Tokenizer) (text : List ℕ) → ReadsAny old old text text None
none_read old text = inl (refl, refl, refl)

-- something is read, and then more, or nothing
pub front_on : (a b c : Tokenizer) (text mid rest : List ℕ) (told : Option TokenKind) → ReadsFront a b text mid None → ReadsAny b c mid rest told → ReadsFront a c text rest told
front_on a b c text mid rest told front (inl same) =
    subst (λ k. ReadsFront a c text rest k) (sym same.2) (subst (λ t. ReadsFront a t text rest None) (sym same.1) (subst (λ left. ReadsFront a b text left None) (sym same.0) front))
front_on a b c text mid rest told front (inr back) = record {
  outside = front.outside;
  fresh = front.fresh;
  read = front.read ++ back.read;
  some = longer front.read back.read front.some;
  cut = front.cut ∙ ap (λ e. encode_utf8_all front.read ++ e) back.cut ∙ sym (append_assoc (encode_utf8_all front.read) (encode_utf8_all back.read) rest)
      ∙ ap (λ e. e ++ rest) (sym (encodes-append front.read back.read));
  no_return = list_all-append (λ c. not (c == 13)) front.read back.read ∙ rw (front.no_return, back.no_return) refl;
  follows = λ free.
      let second : FollowsStandard b c back.read told = back.follows free in
      follows_on a b c front.read back.read told (back.outside ∙ sym front.outside) (front.follows second.memory) second;
  last = λ free.
      let second : FollowsStandard b c back.read told = back.follows free in
      last_on a b c front.read back.read told (back.outside ∙ sym front.outside) (front.follows second.memory) (back.last free);
}

pub any_on : (a b c : Tokenizer) (text mid rest : List ℕ) (told : Option TokenKind) → ReadsAny a b text mid None → ReadsAny b c mid rest told → ReadsAny a c text rest told
any_on a b c text mid rest told (inl same) second = subst (λ t. ReadsAny t c text rest told) same.1 (subst (λ left. ReadsAny b c left rest told) same.0 second)
any_on a b c text mid rest told (inr front) second = inr (front_on a b c text mid rest told front second)

-- one ASCII character is read
pub one_read : (old new : Tokenizer) (c : ℕ) (text rest : List ℕ) (told : Option TokenKind) → IsOutside old → c < 128 → (c == 13) ≡ false → text ≡ c ∷ rest →
    (new.refused ≡ false → FollowsStandard old new (c ∷ []) told) → ReadsAny old new text rest told
one_read old new c text rest told outside low no_return cut follows = inr (record {
  outside = outside.reference;
  fresh = outside.after_return;
  read = c ∷ [];
  some = omega arith;
  cut = cut ∙ ap (λ e. e ++ rest) (sym (encode_ascii c low)) ∙ ap (λ e. e ++ rest) (sym (append-nil (encode_utf8 c)));
  no_return = rw no_return refl;
  follows = follows;
  last = λ free. last_alone old new c told outside (follows free);
})

-- nothing is read, and nothing told
pub none_told : (old : Tokenizer) (text : List ℕ) (told : Option TokenKind) → told ≡ None → ReadsAny old old text text told
none_told old text told none = inl (refl, refl, none)

pub none_left : (old new : Tokenizer) (text rest : List ℕ) (told : Option TokenKind) → told ≡ None → ReadsAny old new text rest told → ReadsAny old new text rest None
none_left old new text rest told none any = subst (λ k. ReadsAny old new text rest k) none any

-- ---- of a call's result

pub plain_on : {E : Type 0} (a b c : Tokenizer) (text mid : List ℕ) (told : Option TokenKind) (r : Result (Bor (List ℕ)) E) → ReadsAny a b text mid None → ReadsPlain b c mid told r → ReadsPlain a c text told r
plain_on a b c text mid told (Ok rest) first second = any_on a b c text mid rest.now told first second
plain_on a b c text mid told (Err e) first second = tt

-- no token is told
pub run_told : {E : Type 0} (old new : Tokenizer) (text : List ℕ) (told : Option TokenKind) (r : Result (Bor (List ℕ)) E) → told ≡ None → FollowsRun old new text r → ReadsPlain old new text told r
run_told old new text told (Ok rest) none any = subst (λ k. ReadsAny old new text rest.now k) (sym none) any
run_told old new text told (Err e) none any = tt

-- ---- places outside of references

pub outside_state : (old new : Tokenizer) → new ≡ record old { state = new.state } → IsOutside old → IsOutside new
outside_state old new only outside = record { reference = ap (λ t. t.reference) only ∙ outside.reference; after_return = ap (λ t. t.after_return) only ∙ outside.after_return }

pub outside_attr : (old new : Tokenizer) → new.reference ≡ old.reference → new.after_return ≡ old.after_return → IsOutside old → IsOutside new
outside_attr old new reference after_return outside = record { reference = reference ∙ outside.reference; after_return = after_return ∙ outside.after_return }
