-- What a `PageParser` parses.
use Rattle.std.specs.Prelude.{◌≡◌, false}
use Rattle.page_reading.specs.declared.reading.PageParser.{PageParser}

-- the parser parses a page, not a fragment
abbrev pub ReadsPage : PageParser → Type 0
ReadsPage parser = parser.is_fragment ≡ false
