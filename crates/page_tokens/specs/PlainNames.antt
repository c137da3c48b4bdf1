-- The names of tags and attributes that the definition's tokenizer makes.
use Rattle.std.specs.Prelude.{◌≡◌, ℕ, Bool, true, not, ◌&&◌, ◌||◌, List, [], ◌∷◌, codes}
use Rattle.std.specs.Char.{char_set_contains, is_ascii_uppercase}
use Rattle.std.specs.List.{list_all}
use Rattle.standard_tokens.specs.Machine.{start_in}
use Rattle.standard_tokens.specs.Reading.{Feedback, Reader, Reads, reader}
use Rattle.standard_tokens.specs.States.{State}
use Rattle.standard_tokens.specs.Tokens.{Attr, Token, AStart, AnEnd}

-- no white space, no `/`, no `>`, and no ASCII upper-case letter
abbrev pub is_name_char : ℕ → Bool
is_name_char c = not (char_set_contains (0x9 ∷ 0xa ∷ 0xc ∷ 0x20 ∷ codes "/>") c || is_ascii_uppercase c)

abbrev pub is_plain : List ℕ → Bool
is_plain name = list_all is_name_char name

abbrev pub are_plain : List Attr → Bool
are_plain attrs = list_all (λ (a : Attr). is_plain a.name) attrs

abbrev pub has_plain_names : Token → Bool
has_plain_names (AStart name attrs self_closing) = is_plain name && are_plain attrs
has_plain_names (AnEnd name) = is_plain name
has_plain_names _ = true

-- whatever tree construction answers, and wherever a text is read: all names so far are such names
abbrev pub NamesArePlain : Type 0
NamesArePlain = (f : Feedback) (first : State) (text : List ℕ) (r : Reader) → Reads f (reader (start_in first) text []) r →
    list_all has_plain_names r.seen ≡ true
