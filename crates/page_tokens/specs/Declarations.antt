-- What is read behind `<!`.
use Rattle.std.specs.Prelude.{ℕ, ◌+◌, ◌==◌, ◌||◌, Bool, false, cond, List, codes}
use Rattle.std.specs.Char.{to_ascii_lowercase}
use Rattle.std.specs.List.{slice_get}
use Rattle.std.specs.Option.{option_map_or}
use Rattle.page_tokens.specs.declared.tokenizer.declarations.Declared.{Declared}
use Rattle.page_tokens.specs.declared.tokenizer.declarations.Declared.TheVariants as it
use Rattle.page_tokens.specs.declared.tokenizer.state.Seen.{Seen}
use Rattle.page_tokens.specs.declared.tokenizer.state.Seen.TheVariants as seen

-- the letter of the word at an index is this one
abbrev pub letter_is : List ℕ → ℕ → ℕ → Bool
letter_is word n c = option_map_or (λ d. d == c) (slice_get word n) false

-- what begins with what was seen and one more character
abbrev pub declared_of : Seen → ℕ → Declared
declared_of seen.Nothing c =
    cond (c == 45) (it.More seen.Dash)
    (cond (c == 100 || c == 68) (it.More (seen.Doctype 1)) (cond (c == 91) (it.More (seen.Cdata 1)) it.Bogus))
declared_of seen.Dash c = cond (c == 45) it.Comment it.Bogus
declared_of (seen.Doctype n) c =
    cond (letter_is (codes "doctype") n (to_ascii_lowercase c)) (cond (n == 6) it.Doctype (it.More (seen.Doctype (n + 1)))) it.Bogus
declared_of (seen.Cdata n) c = cond (letter_is (codes "[CDATA[") n c) (cond (n == 6) it.Cdata (it.More (seen.Cdata (n + 1)))) it.Bogus
