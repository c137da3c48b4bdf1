-- What counts of a text: its size, its commas, and how it ends.
use Rattle.std.specs.Prelude.{ℕ, ◌==◌, ◌||◌, nat_lt, Bool, true, false, List, [], ◌∷◌, if◌then◌else◌}
use Rattle.std.specs.Str.{chars}
use Rattle.dom_article.specs.Sums.{one_if, plus}
use Rattle.dom_article.specs.Texts.{is_blank, is_from_to}
use Rattle.dom_article.specs.declared.texts.TextFacts.{TextFacts}

-- The size of a character: none of one that leaves no mark; two of those of Chinese, Japanese and Korean; and one of others.
abbrev pub size_of : ℕ → ℕ
size_of c = if is_blank c then 0 else if is_from_to 0x2e80 0xffef c then 2 else 1

-- Whether a character is a comma of some script.
abbrev pub is_comma : ℕ → Bool
is_comma c =
    (c == 0x2c) || (c == 0x60c) || (c == 0xfe50) || (c == 0xfe10) || (c == 0xfe11) || (c == 0x2e41) || (c == 0x2e34)
    || (c == 0x2e32) || (c == 0xff0c) || (c == 0x3001)

-- Whether a character is a full stop, an exclamation mark, a question mark, a colon or an ellipsis.
abbrev pub ends_sentence : ℕ → Bool
ends_sentence c =
    (c == 0x2e) || (c == 0x21) || (c == 0x3f) || (c == 0x3a) || (c == 0x3002) || (c == 0xff01) || (c == 0xff1f) || (c == 0x2026)

abbrev pub no_text : TextFacts
no_text = record { size = 0; commas = 0; ends = true; copyright = false }

-- What counts of a text with one character more.
abbrev pub with_char : TextFacts → ℕ → TextFacts
with_char text c = record {
  size = plus text.size (size_of c);
  commas = plus text.commas (one_if (is_comma c));
  ends = if nat_lt 0 (size_of c) then ends_sentence c else text.ends;
  copyright = text.copyright || (c == 0xa9);
}

abbrev pub with_chars : TextFacts → List ℕ → TextFacts
with_chars text [] = text
with_chars text (c ∷ cs) = with_chars (with_char text c) cs

-- What counts of a text.
abbrev pub text_facts : List ℕ → TextFacts
text_facts text = with_chars no_text (chars text)
