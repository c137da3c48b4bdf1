-- A doctype is quirky by its bytes, as it is by its characters: each text of the lists is ASCII.
use Rattle.std.proofs.Common.{◌≡◌, ℕ, ◌+◌, ◌/◌, ◌%◌, ◌<◌, ◌≤◌, Bool, true, false, cond, ◌&&◌, ◌||◌, not, nat_eq, nat_lt, List, [], ◌∷◌, ◌++◌, refl, sym, ap, ◌∙◌, arith, codes, inl, inr, Option, Some, None}
use Rattle.std.specs.Char.{to_ascii_lowercase}
use Rattle.std.specs.List.{list_all, list_any}
use Rattle.std.specs.Option.{option_map_or}
use Rattle.std.specs.Prelude.{String, encode_utf8_all, string_bytes}
use Rattle.std.specs.Str.{bytes_eq}
use lib.Utf8.{encode}
use Rattle.std.proofs.lemmas.Bool.{and_parts, cases_lt, ltb-true, ne_eqb}
use Rattle.std.proofs.lemmas.Bool.Decides.{same_from_decides, Decides-like}
use Rattle.std.proofs.lemmas.Slice.Eq.{bytes_eq-Decides}
use Rattle.std.proofs.lemmas.Str.{encode_ascii, encodes_same}
use Rattle.standard_tokens.specs.Tokens.{ADoctype, Doctype as StandardDoctype}
use Rattle.standard_trees.specs.Building.{FullQuirks, LimitedQuirks, NoQuirks, QuirksMode as StandardQuirks, begins, is_missing, is_text, passes, quirks_of}
use Rattle.standard_trees.specs.QuirksTexts.{either_quirks_public_begins, limited_quirks_public_begins, quirks_public_begins}
use Rattle.standard_trees.specs.QuirksTexts.{quirks_public_is, quirks_system_is}
use Rattle.page_tokens.specs.Standard.{IsDoctype, MaySpell}
use Rattle.page_tokens.specs.declared.token.Doctype.{Doctype}
use Rattle.page_trees.specs.Quirks.{bytes_in, mode_of, quirks_mode_of}
use Rattle.page_trees.specs.SameNodes.{part_for}

abbrev pub are_ascii : List ℕ → Bool
are_ascii [] = true
are_ascii (x ∷ xs) = nat_lt x 128 && are_ascii xs

-- ---- one character

high_stays : (b : ℕ) → 128 ≤ b → to_ascii_lowercase b ≡ b
high_stays b h = grind arith

low_stays_low : (c : ℕ) → c < 128 → to_ascii_lowercase c < 128
low_stays_low c h = grind arith

apart : (b f : ℕ) → 128 ≤ b → f < 128 → nat_eq (to_ascii_lowercase b) (to_ascii_lowercase f) ≡ false
apart b f high low =
    let stays = high_stays b high in
    let below = low_stays_low f low in
    ne_eqb (to_ascii_lowercase b) (to_ascii_lowercase f) (λ e. omega (arith, e, stays, below, high))

-- a byte that is not ASCII, and others
pub record BeginsHigh (bytes : List ℕ) : Type 0 where
  pub first : ℕ
  pub others : List ℕ
  pub is : bytes ≡ first ∷ others
  pub high : 128 ≤ first

pub not_low : (c : ℕ) → 128 ≤ c → nat_lt c 128 ≡ false
not_low c h = grind arith

pub high_begins : (c : ℕ) → 128 ≤ c → BeginsHigh (encode c)
unfolding encode
high_begins c h = rw (not_low c h) (each (nat_lt c 2048) (nat_lt c 65536))
  where
    each : (x y : Bool) → BeginsHigh (cond x ((192 + c / 64) ∷ (128 + c % 64) ∷ []) (cond y ((224 + c / 4096) ∷ (128 + (c / 64) % 64) ∷ (128 + c % 64) ∷ [])
        ((240 + c / 262144) ∷ (128 + (c / 4096) % 64) ∷ (128 + (c / 64) % 64) ∷ (128 + c % 64) ∷ [])))
    each true y = record { first = 192 + c / 64; others = (128 + c % 64) ∷ []; is = refl; high = omega arith }
    each false true = record { first = 224 + c / 4096; others = (128 + (c / 64) % 64) ∷ (128 + c % 64) ∷ []; is = refl; high = omega arith }
    each false false = record { first = 240 + c / 262144; others = (128 + (c / 4096) % 64) ∷ (128 + (c / 64) % 64) ∷ (128 + c % 64) ∷ []; is = refl; high = omega arith }

-- ---- a text of a list

pub same_text : (other : List ℕ) → are_ascii other ≡ true → (cs : List ℕ) → is_text (encode_utf8_all cs) other ≡ is_text cs other
same_text [] low [] = refl
same_text (f ∷ fs) low [] = refl
same_text [] low (c ∷ cs) = elim (cases_lt c 128) [
  | inl is_low ↦ ap (λ bytes. is_text (bytes ++ encode_utf8_all cs) []) (encode_ascii c is_low)
  | inr is_high ↦ ap (λ bytes. is_text (bytes ++ encode_utf8_all cs) []) (high_begins c is_high).is
]
same_text (f ∷ fs) low (c ∷ cs) =
    let parts = and_parts (nat_lt f 128) (are_ascii fs) low in
    elim (cases_lt c 128) [
      | inl is_low ↦ ap (λ bytes. is_text (bytes ++ encode_utf8_all cs) (f ∷ fs)) (encode_ascii c is_low)
          ∙ ap (λ b. nat_eq (to_ascii_lowercase c) (to_ascii_lowercase f) && b) (same_text fs parts.1 cs)
      | inr is_high ↦ (let begins = high_begins c is_high in
          let f_low = ltb-true f 128 parts.0 in
          ap (λ bytes. is_text (bytes ++ encode_utf8_all cs) (f ∷ fs)) begins.is
          ∙ ap (λ b. b && is_text (begins.others ++ encode_utf8_all cs) fs) (apart begins.first f begins.high f_low)
          ∙ sym (ap (λ b. b && is_text cs fs) (apart c f is_high f_low)))
    ]

same_begin : (front : List ℕ) → are_ascii front ≡ true → (cs : List ℕ) → begins (encode_utf8_all cs) front ≡ begins cs front
same_begin [] low cs = refl
same_begin (f ∷ fs) low [] = refl
same_begin (f ∷ fs) low (c ∷ cs) =
    let parts = and_parts (nat_lt f 128) (are_ascii fs) low in
    elim (cases_lt c 128) [
      | inl is_low ↦ ap (λ bytes. begins (bytes ++ encode_utf8_all cs) (f ∷ fs)) (encode_ascii c is_low)
          ∙ ap (λ b. nat_eq (to_ascii_lowercase c) (to_ascii_lowercase f) && b) (same_begin fs parts.1 cs)
      | inr is_high ↦ (let high = high_begins c is_high in
          let f_low = ltb-true f 128 parts.0 in
          ap (λ bytes. begins (bytes ++ encode_utf8_all cs) (f ∷ fs)) high.is
          ∙ ap (λ b. b && begins (high.others ++ encode_utf8_all cs) fs) (apart high.first f high.high f_low)
          ∙ sym (ap (λ b. b && begins cs fs) (apart c f is_high f_low)))
    ]

-- ---- lists

same_any : (test : List ℕ → List ℕ → Bool) (cs : List ℕ) → ((other : List ℕ) → are_ascii other ≡ true → test (encode_utf8_all cs) other ≡ test cs other) → (others : List (List ℕ)) →
    list_all are_ascii others ≡ true → list_any (test (encode_utf8_all cs)) others ≡ list_any (test cs) others
same_any test cs same [] low = refl
same_any test cs same (other ∷ others) low =
    let parts = and_parts (are_ascii other) (list_all are_ascii others) low in
    ap (λ b. b || list_any (test (encode_utf8_all cs)) others) (same other parts.0) ∙ ap (λ b. test cs other || b) (same_any test cs same others parts.1)

-- a text that the tokenizer holds passes as the characters do
same_pass : {A : Type 0} → (test : List ℕ → List ℕ → Bool) → ((other : List ℕ) → are_ascii other ≡ true → (cs : List ℕ) → test (encode_utf8_all cs) other ≡ test cs other) →
    (others : List (List ℕ)) → list_all are_ascii others ≡ true → (text : Option (String A)) (cs : Option (List ℕ)) → MaySpell text cs → passes test (bytes_in text) others ≡ passes test cs others
same_pass test same others low None None spelt = refl
same_pass test same others low None (Some cs) spelt = absurd spelt
same_pass test same others low (Some text) None spelt = absurd spelt
same_pass test same others low (Some text) (Some cs) spelt =
    ap (λ bytes. list_any (test bytes) others) spelt ∙ same_any test cs (λ other is. same other is cs) others low

same_missing : {A : Type 0} → (text : Option (String A)) (cs : Option (List ℕ)) → MaySpell text cs → is_missing (bytes_in text) ≡ is_missing cs
same_missing None None spelt = refl
same_missing None (Some cs) spelt = absurd spelt
same_missing (Some text) None spelt = absurd spelt
same_missing (Some text) (Some cs) spelt = refl

html_bytes : codes "html" ≡ encode_utf8_all (codes "html")
unfolding encode
html_bytes = refl

pub same_bytes : (a b xs ys : List ℕ) → a ≡ encode_utf8_all xs → b ≡ encode_utf8_all ys → bytes_eq a b ≡ bytes_eq xs ys
same_bytes a b xs ys one other =
    same_from_decides _ _ (Decides-like _ (λ e. encodes_same xs ys (sym one ∙ e ∙ other)) (λ e. one ∙ ap encode_utf8_all e ∙ sym other) (bytes_eq-Decides a b)) (bytes_eq-Decides xs ys)

same_name : {A : Type 0} → (text : Option (String A)) (cs : Option (List ℕ)) → MaySpell text cs →
    option_map_or (bytes_eq (codes "html")) (bytes_in text) false ≡ option_map_or (bytes_eq (codes "html")) cs false
same_name None None spelt = refl
same_name None (Some cs) spelt = absurd spelt
same_name (Some text) None spelt = absurd spelt
same_name (Some text) (Some cs) spelt = same_bytes (codes "html") (string_bytes text) (codes "html") cs html_bytes spelt

-- ---- doctypes

abbrev quirks_by : Bool → Bool → Bool → Bool → Bool → Bool → Bool → Bool → StandardQuirks
quirks_by forced html public system front missing either half =
    cond (forced || not html || public || system || front || (missing && either)) FullQuirks (cond (half || either) LimitedQuirks NoQuirks)

public_is_low : list_all are_ascii quirks_public_is ≡ true
unfolding quirks_public_is
public_is_low = refl

system_is_low : list_all are_ascii quirks_system_is ≡ true
unfolding quirks_system_is
system_is_low = refl

public_begins_low : list_all are_ascii quirks_public_begins ≡ true
unfolding quirks_public_begins
public_begins_low = refl

either_low : list_all are_ascii either_quirks_public_begins ≡ true
unfolding either_quirks_public_begins
either_low = refl

limited_low : list_all are_ascii limited_quirks_public_begins ≡ true
unfolding limited_quirks_public_begins
limited_low = refl

-- the quirks mode is that of the doctype
pub same_quirks : (one : Doctype) (d : StandardDoctype) → IsDoctype one d → quirks_mode_of one ≡ mode_of (quirks_of (ADoctype d) NoQuirks)
same_quirks one d is =
    let public = same_pass is_text same_text quirks_public_is public_is_low one.public_id d.public_id is.public_id in
    let system = same_pass is_text same_text quirks_system_is system_is_low one.system_id d.system_id is.system_id in
    let front = same_pass begins same_begin quirks_public_begins public_begins_low one.public_id d.public_id is.public_id in
    let either = same_pass begins same_begin either_quirks_public_begins either_low one.public_id d.public_id is.public_id in
    let half = same_pass begins same_begin limited_quirks_public_begins limited_low one.public_id d.public_id is.public_id in
    let missing = same_missing one.system_id d.system_id is.system_id in
    let html = same_name one.name d.name is.name in
    ap mode_of (by _ _ _ _ _ _ _ _ _ _ _ _ _ _ _ _ is.force_quirks html public system front missing either half)
  where
    by : (a b c d e f g h p q r s t u v w : Bool) → a ≡ p → b ≡ q → c ≡ r → d ≡ s → e ≡ t → f ≡ u → g ≡ v → h ≡ w → quirks_by a b c d e f g h ≡ quirks_by p q r s t u v w
    by a b c d e f g h p q r s t u v w one two three four five six seven eight = cc

-- the parts of a doctype node
pub part_is : {A : Type 0} → (text : Option (String A)) (cs : Option (List ℕ)) → MaySpell text cs → option_map_or string_bytes text [] ≡ part_for cs
part_is None None spelt = refl
part_is None (Some cs) spelt = absurd spelt
part_is (Some text) None spelt = absurd spelt
part_is (Some text) (Some cs) spelt = spelt

pub same_parts : (x y z : List ℕ) (d : StandardDoctype) → x ≡ part_for d.name → y ≡ part_for d.public_id → z ≡ part_for d.system_id →
    x ∷ y ∷ z ∷ [] ≡ part_for d.name ∷ part_for d.public_id ∷ part_for d.system_id ∷ []
same_parts x y z d name public system =
    ap (λ (part : List ℕ). part ∷ y ∷ z ∷ []) name ∙ ap (λ (part : List ℕ). part_for d.name ∷ part ∷ z ∷ []) public
    ∙ ap (λ (part : List ℕ). part_for d.name ∷ part_for d.public_id ∷ part ∷ []) system
