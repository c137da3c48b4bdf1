-- A text begins with one doctype at most.
use Rattle.std.proofs.Common.{◌≡◌, ◌≢◌, ℕ, List, [], ◌∷◌, ◌++◌, true, false, not, refl, sym, ap, ◌∙◌, subst, arith, inl, inr}
use Rattle.std.specs.Prelude.{codes, ◌==◌, ◌⊎◌, nat_lt}
use Rattle.std.specs.List.{list_all}
use Rattle.std.specs.Char.{to_ascii_lowercase}
use Rattle.std.proofs.lemmas.Bool.{true≢false, cases_Bool, and_parts, and_from}
use Rattle.std.proofs.lemmas.Bool.Decides.{nat_tests}
use Rattle.dom_markup.specs.Bytes.{is_whitespace, is_name_byte, folded}
use Rattle.dom_markup.specs.Markup.{Fails, Closes, BeginsQuoted, BeginsWord, BeginsDoctype, begins_markup}
use Rattle.dom_markup.specs.ByteClasses.{AfterPublic, EndsDoctype, IsWord, Splits}
use Rattle.dom_markup.proofs.grammar.Spans.{span_same}
use Rattle.dom_markup.proofs.grammar.Reading.{name_no_space, space_no_name, name_first, not_itself, close_same, behind_first}

-- folding makes no name byte of another
lower_name : (b : ℕ) → is_name_byte (to_ascii_lowercase b) ≡ true → is_name_byte b ≡ true
lower_name b h = elim (cases_Bool (nat_lt b 65)) [
  | inl t ↦ (let same : to_ascii_lowercase b ≡ b = rw t refl in ap is_name_byte (sym same) ∙ h)
  | inr f ↦ elim (cases_Bool (nat_lt b 91)) [
    | inl t ↦ upper b f t
    | inr g ↦ (let same : to_ascii_lowercase b ≡ b = rw (f, g) refl in ap is_name_byte (sym same) ∙ h)
  ]
]
  where
    upper : (b : ℕ) → nat_lt b 65 ≡ false → nat_lt b 91 ≡ true → is_name_byte b ≡ true
    upper b f t = grind (arith, nat_tests)

names_from_fold : (w v : List ℕ) → folded w ≡ v → list_all is_name_byte v ≡ true → list_all is_name_byte w ≡ true
names_from_fold [] v e h = refl
names_from_fold (b ∷ bs) [] e h = cc
names_from_fold (b ∷ bs) (c ∷ cs) e h =
    let parts = and_parts (is_name_byte c) (list_all is_name_byte cs) h in
    let first : to_ascii_lowercase b ≡ c = cc in
    let rest : folded bs ≡ cs = cc in
    and_from (is_name_byte b) (list_all is_name_byte bs) (lower_name b (ap is_name_byte first ∙ parts.0)) (names_from_fold bs cs rest parts.1)

fold_some : (w v : List ℕ) → folded w ≡ v → v ≢ [] → w ≢ []
fold_some [] v e some = absurd (some (sym e))
fold_some (b ∷ bs) v e some = λ n. cc

-- ---- words

pub word_after : (word text a b : List ℕ) → IsWord word → BeginsWord word text a → Fails is_name_byte a → BeginsWord word text b → Fails is_name_byte b → a ≡ b
word_after word text a b known p f q g =
    let np = names_from_fold p.written word p.folds known.name in
    let nq = names_from_fold q.written word q.folds known.name in
    let space = span_same is_whitespace p.space _ q.space _ p.is_space (name_no_space p.written _ (fold_some p.written word p.folds known.some) np) q.is_space (name_no_space q.written _ (fold_some q.written word q.folds known.some) nq) (sym p.is ∙ q.is) in
    (span_same is_name_byte p.written a q.written b np f nq g space.1).1

pub word_other : (word other text a b : List ℕ) → IsWord word → IsWord other → (word ≡ other → ⊥) → BeginsWord word text a → Fails is_name_byte a → BeginsWord other text b → Fails is_name_byte b → ⊥
word_other word other text a b known known' differ p f q g =
    let np = names_from_fold p.written word p.folds known.name in
    let nq = names_from_fold q.written other q.folds known'.name in
    let space = span_same is_whitespace p.space _ q.space _ p.is_space (name_no_space p.written _ (fold_some p.written word p.folds known.some) np) q.is_space (name_no_space q.written _ (fold_some q.written other q.folds known'.some) nq) (sym p.is ∙ q.is) in
    let name = span_same is_name_byte p.written a q.written b np f nq g space.1 in
    differ (sym p.folds ∙ ap folded name.0 ∙ q.folds)

pub word_close : (word text a r : List ℕ) → IsWord word → BeginsWord word text a → Closes false text r → ⊥
word_close word text a r known p (space, all, inl e) =
    let np = names_from_fold p.written word p.folds known.name in
    let some = fold_some p.written word p.folds known.some in
    let same = span_same is_whitespace space (62 ∷ r) p.space _ all refl p.is_space (name_no_space p.written _ some np) (sym e ∙ p.is) in
    name_first 62 r p.written a refl some np same.1
word_close word text a r known p (space, all, inr e) = true≢false (sym e.0)

-- what splits show of the word there
pub record WordShape (word space written behind rest : List ℕ) : Type 0 where
  pub some_space : space ≢ []
  pub folds : folded written ≡ word
  pub rest_is : rest ≡ behind

pub word_shape : (word text space gap written behind rest : List ℕ) → IsWord word → Splits is_whitespace text space gap → Splits is_name_byte gap written behind → Fails is_name_byte rest → BeginsWord word text rest → WordShape word space written behind rest
word_shape word text space gap written behind rest known a b f h =
    let names = names_from_fold h.written word h.folds known.name in
    let one = span_same is_whitespace space gap h.space _ a.passes a.fails h.is_space (name_no_space h.written _ (fold_some h.written word h.folds known.some) names) (sym a.is ∙ h.is) in
    let two = span_same is_name_byte written behind h.written rest b.passes b.fails names f (sym b.is ∙ one.1) in
    record { some_space = λ x. h.some_space (sym one.0 ∙ x); folds = ap folded two.0 ∙ h.folds; rest_is = sym two.1 }

pub word_made : (word text space gap written behind : List ℕ) → Splits is_whitespace text space gap → Splits is_name_byte gap written behind → space ≢ [] → folded written ≡ word → BeginsWord word text behind
word_made word text space gap written behind a b some folds = record {
  space = space;
  written = written;
  is = a.is ∙ ap (λ t. space ++ t) b.is;
  is_space = a.passes;
  some_space = some;
  folds = folds;
}

-- ---- quoted texts

quote_space : (quote : ℕ) → (quote ≡ 34) ⊎ (quote ≡ 39) → is_whitespace quote ≡ false
quote_space quote (inl e) = rw e refl
quote_space quote (inr e) = rw e refl

pub first_same : (x y : ℕ) (xs ys : List ℕ) → x ∷ xs ≡ y ∷ ys → (x ≡ y) × (xs ≡ ys)
first_same x y xs ys e = (cc, cc)

-- what splits show of the quoted text there
pub quoted_shape : (text space quoted value rest : List ℕ) → Splits is_whitespace text space quoted → BeginsQuoted text value rest →
    (space ≢ []) × ((quoted ≡ 34 ∷ (value ++ (34 ∷ rest))) ⊎ (quoted ≡ 39 ∷ (value ++ (39 ∷ rest))))
quoted_shape text space quoted value rest s h =
    let same = span_same is_whitespace space quoted h.space _ s.passes s.fails h.is_space (quote_space h.quote h.is_quote) (sym s.is ∙ h.is) in (
      λ e. h.some_space (sym same.0 ∙ e),
      elim h.is_quote [
        | inl e ↦ inl (same.1 ∙ ap (λ (q : ℕ). q ∷ (value ++ (q ∷ rest))) e)
        | inr e ↦ inr (same.1 ∙ ap (λ (q : ℕ). q ∷ (value ++ (q ∷ rest))) e)
      ],
    )

pub quotes_differ : (text xs ys : List ℕ) → text ≡ 34 ∷ xs → text ≡ 39 ∷ ys → ⊥
quotes_differ text xs ys e f = let is = (first_same 34 39 xs ys (sym e ∙ f)).0 in omega arith

pub quoted_made : (text space quoted value rest : List ℕ) (quote : ℕ) → Splits is_whitespace text space quoted → space ≢ [] → (quote ≡ 34) ⊎ (quote ≡ 39) → list_all (λ b. not (b == quote)) value ≡ true → quoted ≡ quote ∷ (value ++ (quote ∷ rest)) → BeginsQuoted text value rest
quoted_made text space quoted value rest quote s some is_quote within e = record {
  space = space;
  quote = quote;
  is = s.is ∙ ap (λ t. space ++ t) e;
  is_space = s.passes;
  some_space = some;
  is_quote = is_quote;
  within = within;
}

pub quoted_fails : (text value rest : List ℕ) → BeginsQuoted text value rest → Fails is_name_byte text
quoted_fails text value rest q = subst (Fails is_name_byte) (sym q.is) (space_no_name q.space _ q.some_space q.is_space)

pub quoted_same : (text v w r s : List ℕ) → BeginsQuoted text v r → BeginsQuoted text w s → (v ≡ w) × (r ≡ s)
quoted_same text v w r s p q =
    let space = span_same is_whitespace p.space _ q.space _ p.is_space (quote_space p.quote p.is_quote) q.is_space (quote_space q.quote q.is_quote) (sym p.is ∙ q.is) in
    let first = first_same p.quote q.quote _ _ space.1 in
    let moved : list_all (λ b. not (b == p.quote)) w ≡ true = ap (λ (c : ℕ). list_all (λ b. not (b == c)) w) first.0 ∙ q.within in
    let inner : v ++ (p.quote ∷ r) ≡ w ++ (p.quote ∷ s) = first.1 ∙ ap (λ (c : ℕ). w ++ (c ∷ s)) (sym first.0) in
    let value = span_same (λ b. not (b == p.quote)) v (p.quote ∷ r) w (p.quote ∷ s) p.within (not_itself p.quote) moved (not_itself p.quote) inner in
    (value.0, (first_same p.quote p.quote r s value.1).1)

pub quoted_close : (text v a r : List ℕ) → BeginsQuoted text v a → Closes false text r → ⊥
quoted_close text v a r p (space, all, inl e) =
    let same = span_same is_whitespace space (62 ∷ r) p.space _ all refl p.is_space (quote_space p.quote p.is_quote) (sym e ∙ p.is) in
    no_quote p.quote p.is_quote (first_same 62 p.quote r _ same.1).0
  where
    no_quote : (c : ℕ) → (c ≡ 34) ⊎ (c ≡ 39) → 62 ≡ c → ⊥
    no_quote c (inl e) f = omega arith
    no_quote c (inr e) f = omega arith
quoted_close text v a r p (space, all, inr e) = true≢false (sym e.0)

-- ---- identifiers

pub public_known : IsWord (codes "public")
public_known = record { folds = refl; name = refl; some = λ e. cc }

pub system_known : IsWord (codes "system")
system_known = record { folds = refl; name = refl; some = λ e. cc }

pub doctype_known : IsWord (codes "doctype")
doctype_known = record { folds = refl; name = refl; some = λ e. cc }

words_differ : codes "public" ≡ codes "system" → ⊥
words_differ e = let is = (first_same 112 115 _ _ e).0 in omega arith

pub after_public : (text after p s r : List ℕ) → BeginsWord (codes "public") text after → Fails is_name_byte after → EndsDoctype text p s r → AfterPublic after p s r
after_public text after p s r b f (c, inl none, closes) = absurd (word_close (codes "public") text after r public_known b (subst (λ (t : List ℕ). Closes false t r) none.2 closes))
after_public text after p s r b f (c, inr (inl one), closes) =
    let same = word_after (codes "public") text one.0 after public_known one.1 (quoted_fails one.0 p c one.2) b f in
    (c, subst (λ (t : List ℕ). BeginsQuoted t p c) same one.2, inl (one.3, closes))
after_public text after p s r b f (c, inr (inr (inl two)), closes) =
    let same = word_after (codes "public") text two.0 after public_known two.2 (quoted_fails two.0 p two.1 two.3) b f in
    (two.1, subst (λ (t : List ℕ). BeginsQuoted t p two.1) same two.3, inr (c, two.4, closes))
after_public text after p s r b f (c, inr (inr (inr sys)), closes) =
    absurd (word_other (codes "public") (codes "system") text after sys.0 public_known system_known words_differ b f sys.1 (quoted_fails sys.0 s c sys.2))

pub from_public : (text after p s r : List ℕ) → BeginsWord (codes "public") text after → AfterPublic after p s r → EndsDoctype text p s r
from_public text after p s r b (l, q, inl one) = (l, inr (inl (after, b, q, one.0)), one.1)
from_public text after p s r b (l, q, inr two) = (two.0, inr (inr (inl (after, l, b, q, two.1))), two.2)

-- what follows the word `system`
pub AfterSystem : List ℕ → List ℕ → List ℕ → List ℕ → Type 0
AfterSystem after public system rest = (close : List ℕ) × BeginsQuoted after system close × (public ≡ []) × Closes false close rest

pub after_system : (text after p s r : List ℕ) → BeginsWord (codes "system") text after → Fails is_name_byte after → EndsDoctype text p s r → AfterSystem after p s r
unfolding AfterSystem
after_system text after p s r b f (c, inl none, closes) = absurd (word_close (codes "system") text after r system_known b (subst (λ (t : List ℕ). Closes false t r) none.2 closes))
after_system text after p s r b f (c, inr (inl one), closes) =
    absurd (word_other (codes "public") (codes "system") text one.0 after public_known system_known words_differ one.1 (quoted_fails one.0 p c one.2) b f)
after_system text after p s r b f (c, inr (inr (inl two)), closes) =
    absurd (word_other (codes "public") (codes "system") text two.0 after public_known system_known words_differ two.2 (quoted_fails two.0 p two.1 two.3) b f)
after_system text after p s r b f (c, inr (inr (inr sys)), closes) =
    let same = word_after (codes "system") text sys.0 after system_known sys.1 (quoted_fails sys.0 s c sys.2) b f in
    (c, subst (λ (t : List ℕ). BeginsQuoted t s c) same sys.2, sys.3, closes)

-- where neither word stands, the end does
pub after_none : (text p s r : List ℕ) → ((a : List ℕ) → Fails is_name_byte a → BeginsWord (codes "public") text a → ⊥) → ((a : List ℕ) → Fails is_name_byte a → BeginsWord (codes "system") text a → ⊥) → EndsDoctype text p s r → (p ≡ []) × (s ≡ []) × Closes false text r
after_none text p s r no_public no_system (c, inl none, closes) = (none.0, none.1, subst (λ (t : List ℕ). Closes false t r) none.2 closes)
after_none text p s r no_public no_system (c, inr (inl one), closes) = absurd (no_public one.0 (quoted_fails one.0 p c one.2) one.1)
after_none text p s r no_public no_system (c, inr (inr (inl two)), closes) = absurd (no_public two.0 (quoted_fails two.0 p two.1 two.3) two.2)
after_none text p s r no_public no_system (c, inr (inr (inr sys)), closes) = absurd (no_system sys.0 (quoted_fails sys.0 s c sys.2) sys.1)

-- one identifier, or two
pub public_one : (after public later p s r : List ℕ) → BeginsQuoted after public later → ((v a : List ℕ) → BeginsQuoted later v a → ⊥) → AfterPublic after p s r → (p ≡ public) × (s ≡ []) × Closes false later r
public_one after public later p s r q none (l, quoted, inl one) =
    let same = quoted_same after p public l later quoted q in
    (same.0, one.0, subst (λ (t : List ℕ). Closes false t r) same.1 one.1)
public_one after public later p s r q none (l, quoted, inr two) =
    let same = quoted_same after p public l later quoted q in
    absurd (none s two.0 (subst (λ (t : List ℕ). BeginsQuoted t s two.0) same.1 two.1))

pub public_two : (after public later system close p s r : List ℕ) → BeginsQuoted after public later → BeginsQuoted later system close → AfterPublic after p s r → (p ≡ public) × (s ≡ system) × Closes false close r
public_two after public later system close p s r q t (l, quoted, inl one) =
    let same = quoted_same after p public l later quoted q in
    absurd (quoted_close later system close r t (subst (λ (x : List ℕ). Closes false x r) same.1 one.1))
public_two after public later system close p s r q t (l, quoted, inr two) =
    let same = quoted_same after p public l later quoted q in
    let more = quoted_same later s system two.0 close (subst (λ (x : List ℕ). BeginsQuoted x s two.0) same.1 two.1) t in
    (same.0, more.0, subst (λ (x : List ℕ). Closes false x r) more.1 two.2)

pub public_some : (after p s r : List ℕ) → AfterPublic after p s r → (later : List ℕ) × BeginsQuoted after p later
public_some after p s r h = (h.0, h.1)

pub system_one : (after system close p s r : List ℕ) → BeginsQuoted after system close → AfterSystem after p s r → (p ≡ []) × (s ≡ system) × Closes false close r
unfolding AfterSystem
system_one after system close p s r q h =
    let same = quoted_same after s system h.0 close h.1 q in
    (h.2, same.0, subst (λ (x : List ℕ). Closes false x r) same.1 h.3)

pub system_some : (after p s r : List ℕ) → AfterSystem after p s r → (close : List ℕ) × BeginsQuoted after s close
unfolding AfterSystem
system_some after p s r h = (h.0, h.1)

pub ends_doctype_same : (text p q s t r u : List ℕ) → EndsDoctype text p s r → EndsDoctype text q t u → (p ≡ q) × (s ≡ t) × (r ≡ u)
ends_doctype_same text p q s t r u (c, inl none, closes) h =
    let here = subst (λ (x : List ℕ). Closes false x r) none.2 closes in
    let other = after_none text q t u (λ a f w. word_close (codes "public") text a r public_known w here) (λ a f w. word_close (codes "system") text a r system_known w here) h in
    (none.0 ∙ sym other.0, none.1 ∙ sym other.1, close_same false text r u here other.2)
ends_doctype_same text p q s t r u (c, inr (inl one), closes) h =
    let other = public_one one.0 p c q t u one.2 (λ v a w. quoted_close c v a r w closes) (after_public text one.0 q t u one.1 (quoted_fails one.0 p c one.2) h) in
    (sym other.0, one.3 ∙ sym other.1, close_same false c r u closes other.2)
ends_doctype_same text p q s t r u (c, inr (inr (inl two)), closes) h =
    let other = public_two two.0 p two.1 s c q t u two.3 two.4 (after_public text two.0 q t u two.2 (quoted_fails two.0 p two.1 two.3) h) in
    (sym other.0, sym other.1, close_same false c r u closes other.2)
ends_doctype_same text p q s t r u (c, inr (inr (inr sys)), closes) h =
    let other = system_one sys.0 s c q t u sys.2 (after_system text sys.0 q t u sys.1 (quoted_fails sys.0 s c sys.2) h) in
    (sys.3 ∙ sym other.0, sym other.1, close_same false c r u closes other.2)

-- ---- doctypes

-- what the splits of a text show of the doctype there
pub record DoctypeShape (word space name behind : List ℕ) (n p s r : List ℕ) : Type 0 where
  pub is_word : folded word ≡ codes "doctype"
  pub some_space : space ≢ []
  pub some_name : name ≢ []
  pub is_name : n ≡ folded name
  pub ends : EndsDoctype behind p s r

pub doctype_shape : (text tag word inner space gap name behind n p s r : List ℕ) → text ≡ 60 ∷ 33 ∷ tag → Splits is_name_byte tag word inner → Splits is_whitespace inner space gap → Splits is_name_byte gap name behind → BeginsDoctype text n p s r → DoctypeShape word space name behind n p s r
doctype_shape text tag word inner space gap name behind n p s r e a b c h =
    let known = names_from_fold h.word (codes "doctype") h.is_word refl in
    let both : word ++ inner ≡ h.word ++ (h.space ++ (h.written ++ h.more)) = sym a.is ∙ behind_first 33 _ _ _ refl (behind_first 60 text _ _ e h.is) in
    let one = span_same is_name_byte word inner h.word _ a.passes a.fails known (space_no_name h.space _ h.some_space h.is_space) both in
    let two = span_same is_whitespace space gap h.space _ b.passes b.fails h.is_space (name_no_space h.written _ h.some_name h.is_name) (sym b.is ∙ one.1) in
    let three = span_same is_name_byte name behind h.written h.more c.passes c.fails h.is_name h.whole_name (sym c.is ∙ two.1) in
    record {
      is_word = ap folded one.0 ∙ h.is_word;
      some_space = λ x. h.some_space (sym two.0 ∙ x);
      some_name = λ x. h.some_name (sym three.0 ∙ x);
      is_name = h.folds ∙ ap folded (sym three.0);
      ends = subst (λ (t : List ℕ). EndsDoctype t p s r) (sym three.1) (h.close, h.identifiers, h.closes);
    }

pub doctype_made : (tag word inner space gap name behind p s r : List ℕ) → Splits is_name_byte tag word inner → Splits is_whitespace inner space gap → Splits is_name_byte gap name behind → folded word ≡ codes "doctype" → space ≢ [] → name ≢ [] → EndsDoctype behind p s r → BeginsDoctype (60 ∷ 33 ∷ tag) (folded name) p s r
doctype_made tag word inner space gap name behind p s r a b c is_word some_space some_name ends = record {
  word = word;
  space = space;
  written = name;
  more = behind;
  close = ends.0;
  is = ap (λ t. 60 ∷ 33 ∷ t) (a.is ∙ ap (λ t. word ++ t) (b.is ∙ ap (λ t. space ++ t) c.is));
  is_word = is_word;
  is_space = b.passes;
  some_space = some_space;
  is_name = c.passes;
  some_name = some_name;
  whole_name = c.fails;
  folds = refl;
  identifiers = ends.1;
  closes = ends.2;
}

pub doctype_same : (text n m p q s t r u : List ℕ) → BeginsDoctype text n p s r → BeginsDoctype text m q t u → (n ≡ m) × (p ≡ q) × (s ≡ t) × (r ≡ u)
doctype_same text n m p q s t r u h k =
    let known = names_from_fold h.word (codes "doctype") h.is_word refl in
    let a : Splits is_name_byte (h.word ++ (h.space ++ (h.written ++ h.more))) h.word (h.space ++ (h.written ++ h.more)) = record { is = refl; passes = known; fails = space_no_name h.space _ h.some_space h.is_space } in
    let b : Splits is_whitespace (h.space ++ (h.written ++ h.more)) h.space (h.written ++ h.more) = record { is = refl; passes = h.is_space; fails = name_no_space h.written _ h.some_name h.is_name } in
    let c : Splits is_name_byte (h.written ++ h.more) h.written h.more = record { is = refl; passes = h.is_name; fails = h.whole_name } in
    let shape = doctype_shape text _ _ _ _ _ _ _ m q t u h.is a b c k in
    let ends = ends_doctype_same h.more p q s t r u (h.close, h.identifiers, h.closes) shape.ends in
    (h.folds ∙ sym shape.is_name, ends.0, ends.1, ends.2)

pub doctype_markup : (text n p s r : List ℕ) → BeginsDoctype text n p s r → begins_markup text ≡ true
doctype_markup text n p s r h = rw h.is refl

-- a comment is no doctype
pub doctype_first : (text more n p s r : List ℕ) → text ≡ codes "<!-" ++ more → BeginsDoctype text n p s r → ⊥
doctype_first text more n p s r e h =
    let both : 45 ∷ more ≡ h.word ++ (h.space ++ (h.written ++ h.more)) = behind_first 33 _ _ _ refl (behind_first 60 text _ _ e h.is) in
    go h.word h.is_word both
  where
    go : (w : List ℕ) → folded w ≡ codes "doctype" → 45 ∷ more ≡ w ++ (h.space ++ (h.written ++ h.more)) → ⊥
    go [] f g = cc
    go (b ∷ bs) f g = no_dash b (first_same 45 b _ _ g).0 (first_same _ 100 _ _ f).0
      where
        no_dash : (b : ℕ) → 45 ≡ b → to_ascii_lowercase b ≡ 100 → ⊥
        no_dash b x y = let is : to_ascii_lowercase 45 ≡ 100 = ap to_ascii_lowercase x ∙ y in omega (arith, is)
