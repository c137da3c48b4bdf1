-- The parts of a name in each storage form, and the two parts of an element beside it.
use Rattle.std.specs.Prelude.{ℕ, ◌<◌, Bool, List, Option, None}
use Rattle.dom_nodes.specs.declared.name.NameParts.{NameParts}
use Rattle.dom_nodes.specs.declared.name.Namespace.TheVariants.{Html as HtmlNamespace, None as NoNamespace}
use Rattle.dom_nodes.specs.declared.name.form.NameForm.{NameForm}
use Rattle.dom_nodes.specs.declared.name.form.NameForm.TheVariants.{Html, Plain, OwnHtml, OwnPlain, Other}
use Rattle.dom_nodes.specs.KnownNames.{known_name, IsUnknown}

-- The name in the HTML namespace with this local name, without prefix.
abbrev pub html_name : List ℕ → NameParts
html_name name = record { prefix = None; ns = HtmlNamespace; local = name }

-- The parts of the stored name.
abbrev pub form_name : NameForm → NameParts
form_name (Html flag number contents) = html_name (known_name number)
form_name (Plain flag number contents) = record { prefix = None; ns = NoNamespace; local = known_name number }
form_name (OwnHtml flag contents text) = html_name text
form_name (OwnPlain flag contents text) = record { prefix = None; ns = NoNamespace; local = text }
form_name (Other flag contents parts) = parts.value

-- The flag beside the name.
abbrev pub form_flag : NameForm → Bool
form_flag (Html flag number contents) = flag
form_flag (Plain flag number contents) = flag
form_flag (OwnHtml flag contents text) = flag
form_flag (OwnPlain flag contents text) = flag
form_flag (Other flag contents parts) = flag

-- The template contents beside the name.
abbrev pub form_contents : NameForm → Option ℕ
form_contents (Html flag number contents) = contents
form_contents (Plain flag number contents) = contents
form_contents (OwnHtml flag contents text) = contents
form_contents (OwnPlain flag contents text) = contents
form_contents (Other flag contents parts) = contents

-- A known name is stored by a valid table index. Only names that aren't in the table are stored as
-- text.
abbrev pub IsCanonicalName : NameForm → Type 0
IsCanonicalName (Html flag number contents) = number < 247
IsCanonicalName (Plain flag number contents) = number < 247
IsCanonicalName (OwnHtml flag contents text) = IsUnknown text
IsCanonicalName (OwnPlain flag contents text) = IsUnknown text
IsCanonicalName (Other flag contents parts) = Unit {0}
