-- The quirks mode of a doctype (13.2.6.4.1): the one that standard_trees defines.
use Rattle.std.specs.Prelude.{ℕ, List, Option, String, string_bytes}
use Rattle.std.specs.Option.{option_map}
use Rattle.standard_tokens.specs.Tokens.{ADoctype, Doctype as DoctypeToken}
use Rattle.standard_trees.specs.Building.{FullQuirks, LimitedQuirks, NoQuirks, QuirksMode as Quirks, quirks_of}
use Rattle.dom_trees.specs.declared.quirks.QuirksMode.{QuirksMode}
use Rattle.page_tokens.specs.declared.token.Doctype.{Doctype}

abbrev pub bytes_in : {A : Type 0} → Option (String A) → Option (List ℕ)
bytes_in text = option_map string_bytes text

-- the doctype as the Standard's token has it
abbrev pub token_of : Doctype → DoctypeToken
token_of d =
    record { name = bytes_in d.name; public_id = bytes_in d.public_id; system_id = bytes_in d.system_id; force_quirks = d.force_quirks }

abbrev pub mode_of : Quirks → QuirksMode
mode_of NoQuirks = QuirksMode.NoQuirks
mode_of LimitedQuirks = QuirksMode.LimitedQuirks
mode_of FullQuirks = QuirksMode.Quirks

abbrev pub quirks_mode_of : Doctype → QuirksMode
quirks_mode_of d = mode_of (quirks_of (ADoctype (token_of d)) NoQuirks)
