-- The bytes of a local name, in each storage form.
use Rattle.std.specs.Prelude.{ℕ, ◌<◌, List}
use Rattle.dom_nodes.specs.declared.name.LocalForm.{LocalForm}
use Rattle.dom_nodes.specs.declared.name.LocalForm.TheVariants.{Known, Own}
use Rattle.dom_nodes.specs.declared.name.LentForm.{LentForm}
use Rattle.dom_nodes.specs.declared.name.LentForm.TheVariants.{Known as LentKnown, Own as LentOwn}
use Rattle.dom_nodes.specs.KnownNames.{known_name, IsUnknown}

-- The bytes of an owned local name.
abbrev pub name_bytes : LocalForm → List ℕ
name_bytes (Known number) = known_name number
name_bytes (Own text) = text

-- A known name is stored by a valid table index. Only names that aren't in the table are stored as
-- text.
abbrev pub IsCanonical : LocalForm → Type 0
IsCanonical (Known number) = number < 247
IsCanonical (Own text) = IsUnknown text

-- The bytes of a borrowed local name.
abbrev pub lent_bytes : LentForm → List ℕ
lent_bytes (LentKnown number) = known_name number
lent_bytes (LentOwn text) = text.now

-- The condition of `IsCanonical` for a borrowed local name.
abbrev pub IsCanonicalLent : LentForm → Type 0
IsCanonicalLent (LentKnown number) = number < 247
IsCanonicalLent (LentOwn text) = IsUnknown text.now
