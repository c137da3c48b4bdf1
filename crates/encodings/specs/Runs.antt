-- The kinds of bytes that runs have.
use Rattle.std.specs.Prelude.{ℕ, Bool, not, ◌==◌}
use Rattle.encodings.specs.Bytes.{ends_label, ends_name, ends_value, is_blank, is_space, is_space_or_slash}
use Rattle.encodings.specs.declared.places.Run.{Run}
use Rattle.encodings.specs.declared.places.Run.TheVariants.{Blanks, Label, Name, Spaces, SpacesAndSlashes, Until, Value}

abbrev pub in_run : Run → ℕ → Bool
in_run Spaces = is_space
in_run SpacesAndSlashes = is_space_or_slash
in_run Blanks = is_blank
in_run Name = λ byte. not (ends_name byte)
in_run Value = λ byte. not (ends_value byte)
in_run Label = λ byte. not (ends_label byte)
in_run (Until other) = λ byte. not (byte == other)
