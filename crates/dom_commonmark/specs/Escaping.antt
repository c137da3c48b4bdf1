-- How a text is escaped.
use Rattle.std.specs.Prelude.{◌≡◌, ◌<◌, ◌≤◌, ◌+◌, ℕ, ◌==◌, ◌&&◌, Bool, true, false, List, [], ◌∷◌, ◌++◌, length, reverse, take, drop, Option, MatchOption, String, string_bytes, slice_index_or, if◌then◌else◌}
use Rattle.std.specs.List.{slice_range}
use Rattle.std.specs.Str.{IsCharBoundary}
use Rattle.dom_nodes.specs.Ascii.{backslash, exclamation_mark, less_than}
use Rattle.dom_commonmark.specs.Inline.{begins_mail, can_begin}
use Rattle.dom_commonmark.specs.Lines.{is_nil}
use Rattle.dom_commonmark.specs.declared.escaping.Place.{Place}
use Rattle.dom_commonmark.specs.declared.escaping.Cut.{Cut}

-- the byte needs a backslash: it is one, or a construct can begin or end at it, or could with what follows the text
abbrev pub is_marked : Place → List ℕ → ℕ → List ℕ → Bool
is_marked place before b after =
    if b == backslash then true
    else if b == less_than && begins_mail true after then true
    else if b == exclamation_mark && is_nil after then place.before_link
    else can_begin place.cell before b after

-- a backslash before each byte that needs one
abbrev pub escaped_on : Place → List ℕ → List ℕ → List ℕ
escaped_on place before [] = []
escaped_on place before (b ∷ text) =
    if is_marked place before b text then backslash ∷ b ∷ escaped_on place (b ∷ before) text
    else b ∷ escaped_on place (b ∷ before) text

abbrev pub escaped : Place → List ℕ → List ℕ
escaped place text = escaped_on place [] text

-- what is written from an offset of the text on
abbrev pub escaped_from : Place → List ℕ → ℕ → List ℕ
escaped_from place text at = escaped_on place (reverse (take at text)) (drop at text)

-- the escaped text was appended
abbrev pub AppendsEscaped : {A : Type 0} → Place → (old new : String A) → List ℕ → Type 0
AppendsEscaped place old new text = string_bytes new ≡ string_bytes old ++ escaped place text

-- the first byte from an offset on that needs a backslash is at this index
pub record IsNextMark (place : Place) (text : List ℕ) (from at : ℕ) : Type 0 where
  pub past : from ≤ at
  pub within : at < length text
  pub ascii : slice_index_or text at 0 < 128
  pub whole : escaped_from place text from ≡ slice_range text from at ++ backslash ∷ slice_index_or text at 0 ∷ escaped_from place text (at + 1)

abbrev pub FindsMark : Place → List ℕ → ℕ → Option ℕ → Type 0
FindsMark place text from result = MatchOption result (escaped_from place text from ≡ drop from text) (λ at. IsNextMark place text from at)

-- the text from an offset on is cut behind the first such byte
pub record IsCut (place : Place) (text : List ℕ) (from : ℕ) (cut : Cut) : Type 0 where
  pub further : from < cut.end
  pub within : cut.end ≤ length text
  pub boundary : IsCharBoundary text cut.end
  pub whole : escaped_from place text from ≡ cut.before.now ++ backslash ∷ (cut.mark.now ++ escaped_from place text cut.end)

abbrev pub Cuts : Place → List ℕ → ℕ → Option Cut → Type 0
Cuts place text from result = MatchOption result (escaped_from place text from ≡ drop from text) (λ cut. IsCut place text from cut)
