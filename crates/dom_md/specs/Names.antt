-- Names of elements that Markdown leaves out by default.
use Rattle.std.specs.Prelude.{ℕ, ◌==◌, ◌||◌, Bool, List, [], ◌∷◌, codes}
use Rattle.dom_md.specs.declared.serializer.names.TheConstants.{SCRIPT, STYLE, META, HEAD}

unfoldable pub skipped_names : List (List ℕ)
skipped_names = codes "script" ∷ codes "style" ∷ codes "meta" ∷ codes "head" ∷ []

-- the number is that of one of these names
abbrev pub is_skipped_number : ℕ → Bool
is_skipped_number number = number == SCRIPT || number == STYLE || number == META || number == HEAD
