-- What the characters of a tag do, in the standard.
use Rattle.std.specs.Prelude.{◌≡◌, ℕ, Bool, true, false, ◌==◌, ◌&&◌, nat_le, cond, List, [], ◌∷◌, ◌++◌, refl}
use Rattle.std.proofs.Common.{arith}
use Rattle.std.specs.Char.{to_ascii_lowercase}
use mathlib.Core.Path.{sym, subst}
use Rattle.standard_tokens.specs.Entries.{Add, AttrName, TheTagName, Current, Lower, replacement, Stay}
use Rattle.standard_tokens.specs.Machine.{Machine, taken}
use Rattle.standard_tokens.specs.States as there
use Rattle.standard_tokens.specs.States.{State as StandardState}
use Rattle.standard_tokens.specs.Table.{entries}
use Rattle.standard_tokens.specs.Tokens.{Attr}
use Rattle.page_tokens.specs.Comments.{shown_of}
use Rattle.page_tokens.specs.Standard.{Goes}
use Rattle.page_tokens.proofs.StandardSteps.{by_bool, by_entry, taking}

-- a character that does not end a name
pub record IsNameLetter (c : ℕ) : Type 0 where
  pub tab : (9 == c) ≡ false
  pub line_feed : (10 == c) ≡ false
  pub form_feed : (12 == c) ≡ false
  pub space : (32 == c) ≡ false
  pub slash : (47 == c) ≡ false
  pub greater : (62 == c) ≡ false

abbrev pub is_upper : ℕ → Bool
is_upper c = nat_le 65 c && nat_le c 90

stays_lower : (c : ℕ) → is_upper c ≡ false → to_ascii_lowercase c ≡ c
stays_lower c h = grind arith

upper_is_none : (c : ℕ) → is_upper c ≡ true → (0 == c) ≡ false
upper_is_none c h = grind arith

abbrev pub naming : Machine → List ℕ → Machine
naming m name = record m { state = there.TagName; tag = record m.tag { name = name } }

-- a letter of the tag's name
pub name_letter : (b : Bool) (m : Machine) (name rest : List ℕ) (c : ℕ) → IsNameLetter c → Goes (naming m name) (c ∷ rest) [] (naming m (name ++ to_ascii_lowercase (shown_of c) ∷ [])) rest
unfolding taken entries
name_letter b m name rest c is =
    by_bool (λ e x. Goes (naming m name) (e ∷ rest) [] (naming m (name ++ to_ascii_lowercase (cond x 0xfffd e) ∷ [])) rest) c 0
    (by_entry (naming m name) (0 ∷ rest) (taking (Add TheTagName replacement ∷ []) Stay (0 ∷ [])) (λ x. refl) refl)
    (λ h0. go h0 (is_upper c) refl)
  where
    go : (0 == c) ≡ false → (x : Bool) → is_upper c ≡ x → Goes (naming m name) (c ∷ rest) [] (naming m (name ++ to_ascii_lowercase c ∷ [])) rest
    go h0 true e =
        by_entry (naming m name) (c ∷ rest) (taking (Add TheTagName Lower ∷ []) Stay (c ∷ [])) (λ x. rw (is.tab, is.line_feed, is.form_feed, is.space, is.slash, is.greater, e) refl) refl
    go h0 false e =
        subst (λ d. Goes (naming m name) (c ∷ rest) [] (naming m (name ++ d ∷ [])) rest) (sym (stays_lower c e))
        (by_entry (naming m name) (c ∷ rest) (taking (Add TheTagName Current ∷ []) Stay (c ∷ [])) (λ x. rw (is.tab, is.line_feed, is.form_feed, is.space, is.slash, is.greater, e, h0) refl) refl)

abbrev pub with_attrs : Machine → StandardState → List Attr → Machine
with_attrs m state attrs = record m { state = state; tag = record m.tag { attrs = attrs } }

abbrev pub an_attr : List ℕ → List ℕ → Attr
an_attr name value = record { name = name; value = value }

-- a letter of an attribute's name
pub attr_letter : (b : Bool) (m : Machine) (name value rest : List ℕ) (older : List Attr) (c : ℕ) → IsNameLetter c → (61 == c) ≡ false →
    Goes (with_attrs m there.AttributeName (an_attr name value ∷ older)) (c ∷ rest) [] (with_attrs m there.AttributeName (an_attr (name ++ to_ascii_lowercase (shown_of c) ∷ []) value ∷ older)) rest
unfolding taken entries
attr_letter b m name value rest older c is h61 =
    by_bool (λ e x. Goes M (e ∷ rest) [] (with_attrs m there.AttributeName (an_attr (name ++ to_ascii_lowercase (cond x 0xfffd e) ∷ []) value ∷ older)) rest) c 0
    (by_entry M (0 ∷ rest) (taking (Add AttrName replacement ∷ []) Stay (0 ∷ [])) (λ x. refl) refl)
    (λ h0. go h0 (is_upper c) refl)
  where
    M : Machine
    M = with_attrs m there.AttributeName (an_attr name value ∷ older)

    go : (0 == c) ≡ false → (x : Bool) → is_upper c ≡ x → Goes M (c ∷ rest) [] (with_attrs m there.AttributeName (an_attr (name ++ to_ascii_lowercase c ∷ []) value ∷ older)) rest
    go h0 true e =
        by_entry M (c ∷ rest) (taking (Add AttrName Lower ∷ []) Stay (c ∷ [])) (λ x. rw (is.tab, is.line_feed, is.form_feed, is.space, is.slash, is.greater, h61, e) refl) refl
    go h0 false e =
        subst (λ d. Goes M (c ∷ rest) [] (with_attrs m there.AttributeName (an_attr (name ++ d ∷ []) value ∷ older)) rest) (sym (stays_lower c e))
        (by_entry M (c ∷ rest) (taking (Add AttrName Current ∷ []) Stay (c ∷ [])) (λ x. rw (is.tab, is.line_feed, is.form_feed, is.space, is.slash, is.greater, h61, e, h0) refl) refl)
