-- What the attributes of a `meta` say.
use Rattle.std.proofs.Common.{◌≡◌, ℕ, List, ◌∷◌, Bool, true, false, ◌||◌, map, refl, sym, ap, ◌∙◌, subst, Option, Some, None}
use Rattle.std.specs.Prelude.{◌↔◌, IsTrue, bytes_eq, codes, option_and_then}
use Rattle.std.specs.Char.{to_ascii_lowercase}
use Rattle.std.proofs.lemmas.Slice.Eq.{bytes_eq-Decides}
use Rattle.encodings.specs.declared.attributes.Declared.{Declared}
use Rattle.encodings.specs.declared.encoding.Encoding.{Encoding}
use Rattle.encodings.specs.Attributes.{Meta, declared_by, is_in, label_in, noted, noted_as, processed, with_attribute, with_content}
use Rattle.encodings.specs.Labels.{encoding_of}
use Rattle.encodings.specs.Views.{IsRead, charset_of}
use Rattle.encodings.proofs.Rows.{same_test}

-- an attribute of a name that was there before says nothing
pub known_before : (meta : Meta) (name value : List ℕ) → true ≡ is_in name meta.names → noted_as meta name value ≡ meta
known_before meta name value is = rw (sym is) refl

pub new_name : (meta : Meta) (name value : List ℕ) → false ≡ is_in name meta.names → noted_as meta name value ≡ with_attribute (record meta { names = name ∷ meta.names }) name value
new_name meta name value is = rw (sym is) refl

pub again : (declared : Declared) (meta : Meta) (name value : List ℕ) → true ≡ is_in name meta.names → IsRead declared meta → IsRead declared (noted_as meta name value)
again declared meta name value is read = subst (IsRead declared) (sym (known_before meta name value is)) read

-- ---- `http-equiv`

with_pragma : (declared : Declared) (meta : Meta) (value : List ℕ) (is : Bool) → is ≡ bytes_eq (map to_ascii_lowercase value) (codes "content-type") → IsRead declared meta →
    IsRead (record declared { has_http_equiv = true; has_pragma = declared.has_pragma || is }) (with_attribute (record meta { names = codes "http-equiv" ∷ meta.names }) (codes "http-equiv") value)
with_pragma declared meta value true is read =
    rw (sym is) (record { http_equiv = refl; content = read.content; charset = read.charset; pragma = or_true declared.has_pragma; need = read.need; found = read.found })
  where
    or_true : (b : Bool) → (b || true) ≡ true
    or_true true = refl
    or_true false = refl
with_pragma declared meta value false is read =
    rw (sym is) (record { http_equiv = refl; content = read.content; charset = read.charset; pragma = or_false declared.has_pragma ∙ read.pragma; need = read.need; found = read.found })
  where
    or_false : (b : Bool) → (b || false) ≡ b
    or_false true = refl
    or_false false = refl

pub http_equiv_read : (declared : Declared) (meta : Meta) (value : List ℕ) (is : Bool) → false ≡ is_in (codes "http-equiv") meta.names → is ≡ bytes_eq (map to_ascii_lowercase value) (codes "content-type") →
    IsRead declared meta → IsRead (record declared { has_http_equiv = true; has_pragma = declared.has_pragma || is }) (noted_as meta (codes "http-equiv") value)
http_equiv_read declared meta value is new same read =
    subst (IsRead (record declared { has_http_equiv = true; has_pragma = declared.has_pragma || is })) (sym (new_name meta (codes "http-equiv") value new)) (with_pragma declared meta value is same read)

-- ---- `content`

abbrev named_content : Meta → Meta
named_content meta = record meta { names = codes "content" ∷ meta.names }

pub content_read : (declared : Declared) (meta : Meta) (value : List ℕ) → false ≡ is_in (codes "content") meta.names → IsRead declared meta →
    IsRead (record declared { has_content = true }) (named_content meta)
content_read declared meta value new read = record { http_equiv = read.http_equiv; content = refl; charset = read.charset; pragma = read.pragma; need = read.need; found = read.found }

with_known : (declared : Declared) (meta : Meta) (found : Option Encoding) (need : Bool) → declared.needs_pragma ≡ Some need → IsRead declared meta →
    with_content (named_content meta) meta.charset found ≡ named_content meta
with_known declared meta found need is read =
    let known : meta.charset ≡ Some declared.encoding = sym read.found ∙ ap (λ n. charset_of n declared.encoding) is in
    rw known refl

pub content_known : (declared : Declared) (meta : Meta) (value : List ℕ) (need : Bool) → false ≡ is_in (codes "content") meta.names → declared.needs_pragma ≡ Some need → IsRead declared meta →
    IsRead (record declared { has_content = true }) (noted_as meta (codes "content") value)
content_known declared meta value need new is read =
    subst (IsRead (record declared { has_content = true }))
    (sym (new_name meta (codes "content") value new ∙ with_known declared meta (option_and_then encoding_of (label_in value)) need is read)) (content_read declared meta value new read)

pub content_nothing : (declared : Declared) (meta : Meta) (value : List ℕ) → false ≡ is_in (codes "content") meta.names → None ≡ option_and_then encoding_of (label_in value) → IsRead declared meta →
    IsRead (record declared { has_content = true }) (noted_as meta (codes "content") value)
content_nothing declared meta value new is read =
    let same : with_content (named_content meta) meta.charset (option_and_then encoding_of (label_in value)) ≡ named_content meta =
    ap (with_content (named_content meta) meta.charset) (sym is) ∙ nothing meta.charset in
    subst (IsRead (record declared { has_content = true })) (sym (new_name meta (codes "content") value new ∙ same)) (content_read declared meta value new read)
  where
    nothing : (charset : Option (Option Encoding)) → with_content (named_content meta) charset None ≡ named_content meta
    nothing None = refl
    nothing (Some charset) = refl

pub content_found : (declared : Declared) (meta : Meta) (value : List ℕ) (encoding : Encoding) → false ≡ is_in (codes "content") meta.names → declared.needs_pragma ≡ None →
    Some encoding ≡ option_and_then encoding_of (label_in value) → IsRead declared meta →
    IsRead (record declared { has_content = true; encoding = Some encoding; needs_pragma = Some true }) (noted_as meta (codes "content") value)
content_found declared meta value encoding new none is read =
    let null : meta.charset ≡ None = sym read.found ∙ ap (λ n. charset_of n declared.encoding) none in
    let same : with_content (named_content meta) meta.charset (option_and_then encoding_of (label_in value)) ≡ record (named_content meta) { charset = Some (Some encoding); need_pragma = Some true } =
    ap (λ c. with_content (named_content meta) c (option_and_then encoding_of (label_in value))) null ∙ ap (with_content (named_content meta) None) (sym is) in
    subst (IsRead (record declared { has_content = true; encoding = Some encoding; needs_pragma = Some true })) (sym (new_name meta (codes "content") value new ∙ same))
    (record { http_equiv = read.http_equiv; content = refl; charset = read.charset; pragma = read.pragma; need = refl; found = refl })

-- ---- `charset`

pub charset_read : (declared : Declared) (meta : Meta) (value : List ℕ) (found : Option Encoding) → false ≡ is_in (codes "charset") meta.names → found ≡ encoding_of value → IsRead declared meta →
    IsRead (record declared { has_charset = true; encoding = found; needs_pragma = Some false }) (noted_as meta (codes "charset") value)
charset_read declared meta value found new is read =
    subst (IsRead (record declared { has_charset = true; encoding = found; needs_pragma = Some false })) (sym (new_name meta (codes "charset") value new))
    (record { http_equiv = read.http_equiv; content = read.content; charset = refl; pragma = read.pragma; need = refl; found = ap (λ e. Some e) is })

-- ---- other names

-- the test of a name
is_word : (name word : List ℕ) (b : Bool) → (IsTrue b ↔ (map to_ascii_lowercase name ≡ word)) → b ≡ bytes_eq (map to_ascii_lowercase name) word
is_word name word b h = same_test b (map to_ascii_lowercase name) word h

pub noted_word : (declared : Declared) (meta : Meta) (name value word : List ℕ) → map to_ascii_lowercase name ≡ word → IsRead declared (noted_as meta word value) → IsRead declared (noted meta (name, value))
noted_word declared meta name value word is read = subst (λ w. IsRead declared (noted_as meta w value)) (sym is) read

other_name : (meta : Meta) (name value : List ℕ) → bytes_eq name (codes "http-equiv") ≡ false → bytes_eq name (codes "content") ≡ false → bytes_eq name (codes "charset") ≡ false →
    with_attribute meta name value ≡ meta
other_name meta name value a b c = rw (a, b, c) refl

not_same : (xs ys : List ℕ) → bytes_eq xs ys ≡ false → bytes_eq ys xs ≡ false
not_same xs ys h = flipped (bytes_eq ys xs) (λ is. absurd (wrong is))
  where
    flipped : (b : Bool) → (b ≡ true → b ≡ false) → b ≡ false
    flipped true f = f refl
    flipped false f = refl

    wrong : bytes_eq ys xs ≡ true → ⊥
    wrong is =
        let same : ys ≡ xs = (bytes_eq-Decides ys xs).0 is in
        let yes : bytes_eq xs ys ≡ true = (bytes_eq-Decides xs ys).1 (sym same) in
        cc

other_in : (name : List ℕ) (word : List ℕ) (names : List (List ℕ)) → bytes_eq name word ≡ false → is_in word (name ∷ names) ≡ is_in word names
other_in name word names h = let other : bytes_eq word name ≡ false = not_same name word h in rw other refl

pub others_read : (declared : Declared) (meta : Meta) (name value : List ℕ) → bytes_eq name (codes "http-equiv") ≡ false → bytes_eq name (codes "content") ≡ false → bytes_eq name (codes "charset") ≡ false →
    IsRead declared meta → IsRead declared (noted_as meta name value)
others_read declared meta name value a b c read = cases (is_in name meta.names) refl
  where
    cases : (is : Bool) → is ≡ is_in name meta.names → IsRead declared (noted_as meta name value)
    cases true is = again declared meta name value is read
    cases false is =
        subst (IsRead declared) (sym (new_name meta name value is ∙ other_name (record meta { names = name ∷ meta.names }) name value a b c))
        (record {
          http_equiv = read.http_equiv ∙ sym (other_in name (codes "http-equiv") meta.names a);
          content = read.content ∙ sym (other_in name (codes "content") meta.names b);
          charset = read.charset ∙ sym (other_in name (codes "charset") meta.names c);
          pragma = read.pragma;
          need = read.need;
          found = read.found;
        })

-- ---- what is declared

pub found_by : (declared : Declared) (meta : Meta) → IsRead declared meta → processed declared.needs_pragma declared.has_pragma (charset_of declared.needs_pragma declared.encoding) ≡ declared_by meta
found_by declared meta read =
    ap (λ need. processed need declared.has_pragma (charset_of declared.needs_pragma declared.encoding)) read.need ∙ ap (λ got. processed meta.need_pragma got (charset_of declared.needs_pragma declared.encoding)) read.pragma
    ∙ ap (processed meta.need_pragma meta.got_pragma) read.found
