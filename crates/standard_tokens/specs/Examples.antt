-- Pages that take every entry of the table, with their tokens. Made from tests/standard/texts.jsonl by tests/standard/definitions.py.
use Rattle.std.specs.Prelude.{ℕ, Bool, true, false, List, [], ◌∷◌, None, Some, codes}
use Rattle.standard_tokens.specs.Tokens.{Token, AChar, AComment, ADoctype, AStart, AnEnd, AnEof}

pub record Example : Type 0 where
  pub text : List ℕ
  pub foreign : Bool  -- whether it is read in foreign content
  pub tokens : List Token

abbrev pub page : Bool → List ℕ → List Token → Example
page foreign text tokens = record { text = text; foreign = foreign; tokens = tokens }

abbrev pub example0 : Example
example0 = page false (codes "&notin;&ampx") (AChar 8713 ∷ AChar 38 ∷ AChar 120 ∷ AnEof ∷ [])

abbrev pub example1 : Example
example1 =
    page false (codes "<a b=\"&ampx&notit;&amp=\">")
    (AStart (codes "a") (record { name = codes "b"; value = codes "&ampx&notit;&amp=" } ∷ []) false ∷ AnEof ∷ [])

abbrev pub example2 : Example
example2 =
    page false (codes "<a b='&amp;&lt'>") (AStart (codes "a") (record { name = codes "b"; value = codes "&<" } ∷ []) false ∷ AnEof ∷ [])

abbrev pub example3 : Example
example3 =
    page false (codes "<a b=&NotEqualTilde;x c=&#x>")
    (AStart (codes "a") (record { name = codes "b"; value = 8770 ∷ 824 ∷ 120 ∷ [] } ∷ record { name = codes "c"; value = codes "&#x" } ∷ [])
    false ∷ AnEof ∷ [])

-- "a\r\nb\rc"
abbrev pub example4 : Example
example4 = page false (97 ∷ 13 ∷ 10 ∷ 98 ∷ 13 ∷ 99 ∷ []) (AChar 97 ∷ AChar 10 ∷ AChar 98 ∷ AChar 10 ∷ AChar 99 ∷ AnEof ∷ [])

-- "<!--<!-\u00e9\u0000--><kGZ//"
abbrev pub example5 : Example
example5 =
    page true (60 ∷ 33 ∷ 45 ∷ 45 ∷ 60 ∷ 33 ∷ 45 ∷ 233 ∷ 0 ∷ 45 ∷ 45 ∷ 62 ∷ 60 ∷ 107 ∷ 71 ∷ 90 ∷ 47 ∷ 47 ∷ [])
    (AComment (60 ∷ 33 ∷ 45 ∷ 233 ∷ 65533 ∷ []) ∷ AnEof ∷ [])

-- "<script><!--\u0000<oTn\t\u0000--</Z "
abbrev pub example6 : Example
example6 =
    page false
    (60 ∷ 115 ∷ 99 ∷ 114 ∷ 105 ∷ 112 ∷ 116 ∷ 62 ∷ 60 ∷ 33 ∷ 45 ∷ 45 ∷ 0 ∷ 60 ∷ 111 ∷ 84 ∷ 110 ∷ 9 ∷ 0 ∷ 45 ∷ 45 ∷ 60 ∷ 47 ∷ 90 ∷ 32 ∷ [])
    (AStart (codes "script") ([]) false ∷ AChar 60 ∷ AChar 33 ∷ AChar 45 ∷ AChar 45 ∷ AChar 65533 ∷ AChar 60 ∷ AChar 111 ∷ AChar 84
    ∷ AChar 110 ∷ AChar 9 ∷ AChar 65533 ∷ AChar 45 ∷ AChar 45 ∷ AChar 60 ∷ AChar 47 ∷ AChar 90 ∷ AChar 32 ∷ AnEof ∷ [])

-- "&#xA4!\u0000</I\f =\n"
abbrev pub example7 : Example
example7 =
    page true (38 ∷ 35 ∷ 120 ∷ 65 ∷ 52 ∷ 33 ∷ 0 ∷ 60 ∷ 47 ∷ 73 ∷ 12 ∷ 32 ∷ 61 ∷ 10 ∷ []) (AChar 164 ∷ AChar 33 ∷ AChar 0 ∷ AnEof ∷ [])

-- "<title>&#9\u00e9\u0000</V/&z \"b\">"
abbrev pub example8 : Example
example8 =
    page false (60 ∷ 116 ∷ 105 ∷ 116 ∷ 108 ∷ 101 ∷ 62 ∷ 38 ∷ 35 ∷ 57 ∷ 233 ∷ 0 ∷ 60 ∷ 47 ∷ 86 ∷ 47 ∷ 38 ∷ 122 ∷ 32 ∷ 34 ∷ 98 ∷ 34 ∷ 62 ∷ [])
    (AStart (codes "title") ([]) false ∷ AChar 9 ∷ AChar 233 ∷ AChar 65533 ∷ AChar 60 ∷ AChar 47 ∷ AChar 86 ∷ AChar 47 ∷ AChar 38
    ∷ AChar 122 ∷ AChar 32 ∷ AChar 34 ∷ AChar 98 ∷ AChar 34 ∷ AChar 62 ∷ AnEof ∷ [])

-- "<!DOCTYPE x PUBLIC \"y\"''\f!><?\u0000]"
abbrev pub example9 : Example
example9 =
    page false
    (60 ∷ 33 ∷ 68 ∷ 79 ∷ 67 ∷ 84 ∷ 89 ∷ 80 ∷ 69 ∷ 32 ∷ 120 ∷ 32 ∷ 80 ∷ 85 ∷ 66 ∷ 76 ∷ 73 ∷ 67 ∷ 32 ∷ 34 ∷ 121 ∷ 34 ∷ 39 ∷ 39 ∷ 12 ∷ 33 ∷ 62
    ∷ 60 ∷ 63 ∷ 0 ∷ 93 ∷ [])
    (ADoctype (record { name = Some (codes "x"); public_id = Some (codes "y"); system_id = Some ([]); force_quirks = false })
    ∷ AComment (63 ∷ 65533 ∷ 93 ∷ []) ∷ AnEof ∷ [])

-- "<script><!--<script></OhZm-<'---></Ws\t\u0000</]\"x>y"
abbrev pub example10 : Example
example10 =
    page false
    (60 ∷ 115 ∷ 99 ∷ 114 ∷ 105 ∷ 112 ∷ 116 ∷ 62 ∷ 60 ∷ 33 ∷ 45 ∷ 45 ∷ 60 ∷ 115 ∷ 99 ∷ 114 ∷ 105 ∷ 112 ∷ 116 ∷ 62 ∷ 60 ∷ 47 ∷ 79 ∷ 104 ∷ 90
    ∷ 109 ∷ 45 ∷ 60 ∷ 39 ∷ 45 ∷ 45 ∷ 45 ∷ 62 ∷ 60 ∷ 47 ∷ 87 ∷ 115 ∷ 9 ∷ 0 ∷ 60 ∷ 47 ∷ 93 ∷ 34 ∷ 120 ∷ 62 ∷ 121 ∷ [])
    (AStart (codes "script") ([]) false ∷ AChar 60 ∷ AChar 33 ∷ AChar 45 ∷ AChar 45 ∷ AChar 60 ∷ AChar 115 ∷ AChar 99 ∷ AChar 114
    ∷ AChar 105 ∷ AChar 112 ∷ AChar 116 ∷ AChar 62 ∷ AChar 60 ∷ AChar 47 ∷ AChar 79 ∷ AChar 104 ∷ AChar 90 ∷ AChar 109 ∷ AChar 45 ∷ AChar 60
    ∷ AChar 39 ∷ AChar 45 ∷ AChar 45 ∷ AChar 45 ∷ AChar 62 ∷ AChar 60 ∷ AChar 47 ∷ AChar 87 ∷ AChar 115 ∷ AChar 9 ∷ AChar 65533 ∷ AChar 60
    ∷ AChar 47 ∷ AChar 93 ∷ AChar 34 ∷ AChar 120 ∷ AChar 62 ∷ AChar 121 ∷ AnEof ∷ [])

abbrev pub example11 : Example
example11 =
    page false (codes "<style></</In/")
    (AStart (codes "style") ([]) false ∷ AChar 60 ∷ AChar 47 ∷ AChar 60 ∷ AChar 47 ∷ AChar 73 ∷ AChar 110 ∷ AChar 47 ∷ AnEof ∷ [])

abbrev pub example12 : Example
example12 = page false (codes "<!----!--<< a>") (AComment (codes "--!--<< a>") ∷ AnEof ∷ [])

abbrev pub example13 : Example
example13 = page true (codes "<![CDATA[]]]x\"Z]") (AChar 93 ∷ AChar 93 ∷ AChar 93 ∷ AChar 120 ∷ AChar 34 ∷ AChar 90 ∷ AChar 93 ∷ AnEof ∷ [])

-- "<a bZ\u0000='\u0000&?&#!&#\""
abbrev pub example14 : Example
example14 = page true (60 ∷ 97 ∷ 32 ∷ 98 ∷ 90 ∷ 0 ∷ 61 ∷ 39 ∷ 0 ∷ 38 ∷ 63 ∷ 38 ∷ 35 ∷ 33 ∷ 38 ∷ 35 ∷ 34 ∷ []) (AnEof ∷ [])

-- "<!DOCTYPE\u0000Z=x\u0000"
abbrev pub example15 : Example
example15 =
    page false (60 ∷ 33 ∷ 68 ∷ 79 ∷ 67 ∷ 84 ∷ 89 ∷ 80 ∷ 69 ∷ 0 ∷ 90 ∷ 61 ∷ 120 ∷ 0 ∷ [])
    (ADoctype (record { name = Some (65533 ∷ 122 ∷ 61 ∷ 120 ∷ 65533 ∷ []); public_id = None; system_id = None; force_quirks = true })
    ∷ AnEof ∷ [])

abbrev pub example16 : Example
example16 = page true (codes "<!--<!---!'-") (AComment (codes "<!---!'") ∷ AnEof ∷ [])

-- "<!DOCTYPE x SYSTEM\t\"!\u0000\""
abbrev pub example17 : Example
example17 =
    page true (60 ∷ 33 ∷ 68 ∷ 79 ∷ 67 ∷ 84 ∷ 89 ∷ 80 ∷ 69 ∷ 32 ∷ 120 ∷ 32 ∷ 83 ∷ 89 ∷ 83 ∷ 84 ∷ 69 ∷ 77 ∷ 9 ∷ 34 ∷ 33 ∷ 0 ∷ 34 ∷ [])
    (ADoctype (record { name = Some (codes "x"); public_id = None; system_id = Some (33 ∷ 65533 ∷ []); force_quirks = true }) ∷ AnEof ∷ [])

-- "<a b=\"&#Xd=&p;\u0000\"x>y"
abbrev pub example18 : Example
example18 =
    page true (60 ∷ 97 ∷ 32 ∷ 98 ∷ 61 ∷ 34 ∷ 38 ∷ 35 ∷ 88 ∷ 100 ∷ 61 ∷ 38 ∷ 112 ∷ 59 ∷ 0 ∷ 34 ∷ 120 ∷ 62 ∷ 121 ∷ [])
    (AStart (codes "a")
    (record { name = codes "b"; value = 13 ∷ 61 ∷ 38 ∷ 112 ∷ 59 ∷ 65533 ∷ [] } ∷ record { name = codes "x"; value = [] } ∷ []) false
    ∷ AChar 121 ∷ AnEof ∷ [])

-- "<\u00e9</ ><yx"
abbrev pub example19 : Example
example19 = page false (60 ∷ 233 ∷ 60 ∷ 47 ∷ 32 ∷ 62 ∷ 60 ∷ 121 ∷ 120 ∷ []) (AChar 60 ∷ AChar 233 ∷ AComment (codes " ") ∷ AnEof ∷ [])

abbrev pub example20 : Example
example20 =
    page false (codes "<script><!---<\"-<A</SCRipT/>")
    (AStart (codes "script") ([]) false ∷ AChar 60 ∷ AChar 33 ∷ AChar 45 ∷ AChar 45 ∷ AChar 45 ∷ AChar 60 ∷ AChar 34 ∷ AChar 45 ∷ AChar 60
    ∷ AChar 65 ∷ AnEnd (codes "script") ∷ AnEof ∷ [])

-- "<!DOCTYPE\t\nT\f\tsYStem' \">"
abbrev pub example21 : Example
example21 =
    page true (60 ∷ 33 ∷ 68 ∷ 79 ∷ 67 ∷ 84 ∷ 89 ∷ 80 ∷ 69 ∷ 9 ∷ 10 ∷ 84 ∷ 12 ∷ 9 ∷ 115 ∷ 89 ∷ 83 ∷ 116 ∷ 101 ∷ 109 ∷ 39 ∷ 32 ∷ 34 ∷ 62 ∷ [])
    (ADoctype (record { name = Some (codes "t"); public_id = None; system_id = Some (codes " \""); force_quirks = true }) ∷ AnEof ∷ [])

-- "<!DOCTYPE x PUBLIC'\u0000'  />"
abbrev pub example22 : Example
example22 =
    page true
    (60 ∷ 33 ∷ 68 ∷ 79 ∷ 67 ∷ 84 ∷ 89 ∷ 80 ∷ 69 ∷ 32 ∷ 120 ∷ 32 ∷ 80 ∷ 85 ∷ 66 ∷ 76 ∷ 73 ∷ 67 ∷ 39 ∷ 0 ∷ 39 ∷ 32 ∷ 32 ∷ 47 ∷ 62 ∷ [])
    (ADoctype (record { name = Some (codes "x"); public_id = Some (65533 ∷ []); system_id = None; force_quirks = true }) ∷ AnEof ∷ [])

-- "<a b=\n><"
abbrev pub example23 : Example
example23 =
    page false (60 ∷ 97 ∷ 32 ∷ 98 ∷ 61 ∷ 10 ∷ 62 ∷ 60 ∷ [])
    (AStart (codes "a") (record { name = codes "b"; value = [] } ∷ []) false ∷ AChar 60 ∷ AnEof ∷ [])

-- "<a\u0000>&#x41A=<!dOCtype\t\u0000\tpuBLIC\"!/\u0000\"\u0000"
abbrev pub example24 : Example
example24 =
    page false
    (60 ∷ 97 ∷ 0 ∷ 62 ∷ 38 ∷ 35 ∷ 120 ∷ 52 ∷ 49 ∷ 65 ∷ 61 ∷ 60 ∷ 33 ∷ 100 ∷ 79 ∷ 67 ∷ 116 ∷ 121 ∷ 112 ∷ 101 ∷ 9 ∷ 0 ∷ 9 ∷ 112 ∷ 117 ∷ 66
    ∷ 76 ∷ 73 ∷ 67 ∷ 34 ∷ 33 ∷ 47 ∷ 0 ∷ 34 ∷ 0 ∷ [])
    (AStart (97 ∷ 65533 ∷ []) ([]) false ∷ AChar 1050 ∷ AChar 61
    ∷ ADoctype (record { name = Some (65533 ∷ []); public_id = Some (33 ∷ 47 ∷ 65533 ∷ []); system_id = None; force_quirks = true }) ∷ AnEof
    ∷ [])

-- "<script><!--\u00e9-Z</>-->"
abbrev pub example25 : Example
example25 =
    page false (60 ∷ 115 ∷ 99 ∷ 114 ∷ 105 ∷ 112 ∷ 116 ∷ 62 ∷ 60 ∷ 33 ∷ 45 ∷ 45 ∷ 233 ∷ 45 ∷ 90 ∷ 60 ∷ 47 ∷ 62 ∷ 45 ∷ 45 ∷ 62 ∷ [])
    (AStart (codes "script") ([]) false ∷ AChar 60 ∷ AChar 33 ∷ AChar 45 ∷ AChar 45 ∷ AChar 233 ∷ AChar 45 ∷ AChar 90 ∷ AChar 60 ∷ AChar 47
    ∷ AChar 62 ∷ AChar 45 ∷ AChar 45 ∷ AChar 62 ∷ AnEof ∷ [])

-- "<plaintext>\u0000!"
abbrev pub example26 : Example
example26 =
    page false (60 ∷ 112 ∷ 108 ∷ 97 ∷ 105 ∷ 110 ∷ 116 ∷ 101 ∷ 120 ∷ 116 ∷ 62 ∷ 0 ∷ 33 ∷ [])
    (AStart (codes "plaintext") ([]) false ∷ AChar 65533 ∷ AChar 33 ∷ AnEof ∷ [])

abbrev pub example27 : Example
example27 = page false (codes "<!--<!<!--></") (AComment (codes "<!<!") ∷ AChar 60 ∷ AChar 47 ∷ AnEof ∷ [])

-- "<script><!--<script><->'\u0000</e>\u0000-\u0000\u0000---/-"
abbrev pub example28 : Example
example28 =
    page false
    (60 ∷ 115 ∷ 99 ∷ 114 ∷ 105 ∷ 112 ∷ 116 ∷ 62 ∷ 60 ∷ 33 ∷ 45 ∷ 45 ∷ 60 ∷ 115 ∷ 99 ∷ 114 ∷ 105 ∷ 112 ∷ 116 ∷ 62 ∷ 60 ∷ 45 ∷ 62 ∷ 39 ∷ 0
    ∷ 60 ∷ 47 ∷ 101 ∷ 62 ∷ 0 ∷ 45 ∷ 0 ∷ 0 ∷ 45 ∷ 45 ∷ 45 ∷ 47 ∷ 45 ∷ [])
    (AStart (codes "script") ([]) false ∷ AChar 60 ∷ AChar 33 ∷ AChar 45 ∷ AChar 45 ∷ AChar 60 ∷ AChar 115 ∷ AChar 99 ∷ AChar 114
    ∷ AChar 105 ∷ AChar 112 ∷ AChar 116 ∷ AChar 62 ∷ AChar 60 ∷ AChar 45 ∷ AChar 62 ∷ AChar 39 ∷ AChar 65533 ∷ AChar 60 ∷ AChar 47
    ∷ AChar 101 ∷ AChar 62 ∷ AChar 65533 ∷ AChar 45 ∷ AChar 65533 ∷ AChar 65533 ∷ AChar 45 ∷ AChar 45 ∷ AChar 45 ∷ AChar 47 ∷ AChar 45
    ∷ AnEof ∷ [])

abbrev pub example29 : Example
example29 =
    page false (codes "<title><!</-</title>&<")
    (AStart (codes "title") ([]) false ∷ AChar 60 ∷ AChar 33 ∷ AChar 60 ∷ AChar 47 ∷ AChar 45 ∷ AnEnd (codes "title") ∷ AChar 38 ∷ AChar 60
    ∷ AnEof ∷ [])

-- "<!DOCTYPE><!]\u0000"
abbrev pub example30 : Example
example30 =
    page false (60 ∷ 33 ∷ 68 ∷ 79 ∷ 67 ∷ 84 ∷ 89 ∷ 80 ∷ 69 ∷ 62 ∷ 60 ∷ 33 ∷ 93 ∷ 0 ∷ [])
    (ADoctype (record { name = None; public_id = None; system_id = None; force_quirks = true }) ∷ AComment (93 ∷ 65533 ∷ []) ∷ AnEof ∷ [])

-- "<a b=\u0000"
abbrev pub example31 : Example
example31 = page false (60 ∷ 97 ∷ 32 ∷ 98 ∷ 61 ∷ 0 ∷ []) (AnEof ∷ [])

-- "<a b\t\u0000\u0000\f=\"!&! a>"
abbrev pub example32 : Example
example32 = page false (60 ∷ 97 ∷ 32 ∷ 98 ∷ 9 ∷ 0 ∷ 0 ∷ 12 ∷ 61 ∷ 34 ∷ 33 ∷ 38 ∷ 33 ∷ 32 ∷ 97 ∷ 62 ∷ []) (AnEof ∷ [])

-- "<!DOCTYPE x PUBLIC \t' \"b\">"
abbrev pub example33 : Example
example33 =
    page false
    (60 ∷ 33 ∷ 68 ∷ 79 ∷ 67 ∷ 84 ∷ 89 ∷ 80 ∷ 69 ∷ 32 ∷ 120 ∷ 32 ∷ 80 ∷ 85 ∷ 66 ∷ 76 ∷ 73 ∷ 67 ∷ 32 ∷ 9 ∷ 39 ∷ 32 ∷ 34 ∷ 98 ∷ 34 ∷ 62 ∷ [])
    (ADoctype (record { name = Some (codes "x"); public_id = Some (codes " \"b\""); system_id = None; force_quirks = true }) ∷ AnEof ∷ [])

abbrev pub example34 : Example
example34 = page true (codes "<!-->&#x4;!</>-->") (AComment ([]) ∷ AChar 4 ∷ AChar 33 ∷ AChar 45 ∷ AChar 45 ∷ AChar 62 ∷ AnEof ∷ [])

-- "<style>\u0000<</style>"
abbrev pub example35 : Example
example35 =
    page false (60 ∷ 115 ∷ 116 ∷ 121 ∷ 108 ∷ 101 ∷ 62 ∷ 0 ∷ 60 ∷ 60 ∷ 47 ∷ 115 ∷ 116 ∷ 121 ∷ 108 ∷ 101 ∷ 62 ∷ [])
    (AStart (codes "style") ([]) false ∷ AChar 65533 ∷ AChar 60 ∷ AnEnd (codes "style") ∷ AnEof ∷ [])

abbrev pub example36 : Example
example36 =
    page false (codes "<script>=<!<!-</? <</script/")
    (AStart (codes "script") ([]) false ∷ AChar 61 ∷ AChar 60 ∷ AChar 33 ∷ AChar 60 ∷ AChar 33 ∷ AChar 45 ∷ AChar 60 ∷ AChar 47 ∷ AChar 63
    ∷ AChar 32 ∷ AChar 60 ∷ AnEof ∷ [])

-- "<!DOCTYPE x SYSTEM '\u0000"
abbrev pub example37 : Example
example37 =
    page false (60 ∷ 33 ∷ 68 ∷ 79 ∷ 67 ∷ 84 ∷ 89 ∷ 80 ∷ 69 ∷ 32 ∷ 120 ∷ 32 ∷ 83 ∷ 89 ∷ 83 ∷ 84 ∷ 69 ∷ 77 ∷ 32 ∷ 39 ∷ 0 ∷ [])
    (ADoctype (record { name = Some (codes "x"); public_id = None; system_id = Some (65533 ∷ []); force_quirks = true }) ∷ AnEof ∷ [])

-- "<!---\u00e9Z\u0000--!>"
abbrev pub example38 : Example
example38 = page false (60 ∷ 33 ∷ 45 ∷ 45 ∷ 45 ∷ 233 ∷ 90 ∷ 0 ∷ 45 ∷ 45 ∷ 33 ∷ 62 ∷ []) (AComment (45 ∷ 233 ∷ 90 ∷ 65533 ∷ []) ∷ AnEof ∷ [])

-- "<script><!--\u0000-\u0000-"
abbrev pub example39 : Example
example39 =
    page false (60 ∷ 115 ∷ 99 ∷ 114 ∷ 105 ∷ 112 ∷ 116 ∷ 62 ∷ 60 ∷ 33 ∷ 45 ∷ 45 ∷ 0 ∷ 45 ∷ 0 ∷ 45 ∷ [])
    (AStart (codes "script") ([]) false ∷ AChar 60 ∷ AChar 33 ∷ AChar 45 ∷ AChar 45 ∷ AChar 65533 ∷ AChar 45 ∷ AChar 65533 ∷ AChar 45
    ∷ AnEof ∷ [])

abbrev pub example40 : Example
example40 =
    page false (codes "<!DOCTYPE x SYSTEM\"")
    (ADoctype (record { name = Some (codes "x"); public_id = None; system_id = Some ([]); force_quirks = true }) ∷ AnEof ∷ [])

-- "<!DOCTYPE x SYSTEM \t"
abbrev pub example41 : Example
example41 =
    page true (60 ∷ 33 ∷ 68 ∷ 79 ∷ 67 ∷ 84 ∷ 89 ∷ 80 ∷ 69 ∷ 32 ∷ 120 ∷ 32 ∷ 83 ∷ 89 ∷ 83 ∷ 84 ∷ 69 ∷ 77 ∷ 32 ∷ 9 ∷ [])
    (ADoctype (record { name = Some (codes "x"); public_id = None; system_id = None; force_quirks = true }) ∷ AnEof ∷ [])

-- "<!DOCTYPE x PUBLIC \"y\"\f'\u0000Z'\t\n><!---><![CDATA[\u0000>&MMw;&"
abbrev pub example42 : Example
example42 =
    page false
    (60 ∷ 33 ∷ 68 ∷ 79 ∷ 67 ∷ 84 ∷ 89 ∷ 80 ∷ 69 ∷ 32 ∷ 120 ∷ 32 ∷ 80 ∷ 85 ∷ 66 ∷ 76 ∷ 73 ∷ 67 ∷ 32 ∷ 34 ∷ 121 ∷ 34 ∷ 12 ∷ 39 ∷ 0 ∷ 90 ∷ 39
    ∷ 9 ∷ 10 ∷ 62 ∷ 60 ∷ 33 ∷ 45 ∷ 45 ∷ 45 ∷ 62 ∷ 60 ∷ 33 ∷ 91 ∷ 67 ∷ 68 ∷ 65 ∷ 84 ∷ 65 ∷ 91 ∷ 0 ∷ 62 ∷ 38 ∷ 77 ∷ 77 ∷ 119 ∷ 59 ∷ 38 ∷ [])
    (ADoctype (record { name = Some (codes "x"); public_id = Some (codes "y"); system_id = Some (65533 ∷ 90 ∷ []); force_quirks = false })
    ∷ AComment ([]) ∷ AComment (91 ∷ 67 ∷ 68 ∷ 65 ∷ 84 ∷ 65 ∷ 91 ∷ 65533 ∷ []) ∷ AChar 38 ∷ AChar 77 ∷ AChar 77 ∷ AChar 119 ∷ AChar 59
    ∷ AChar 38 ∷ AnEof ∷ [])

abbrev pub example43 : Example
example43 = page false (codes "<title>&#995;</title/") (AStart (codes "title") ([]) false ∷ AChar 995 ∷ AnEof ∷ [])

abbrev pub example44 : Example
example44 = page false (codes "<!---") (AComment ([]) ∷ AnEof ∷ [])

-- "<a b='' == '&>\u0000x\u0000&'/xX"
abbrev pub example45 : Example
example45 =
    page false (60 ∷ 97 ∷ 32 ∷ 98 ∷ 61 ∷ 39 ∷ 39 ∷ 32 ∷ 61 ∷ 61 ∷ 32 ∷ 39 ∷ 38 ∷ 62 ∷ 0 ∷ 120 ∷ 0 ∷ 38 ∷ 39 ∷ 47 ∷ 120 ∷ 88 ∷ [])
    (AnEof ∷ [])

abbrev pub example46 : Example
example46 =
    page true (codes "<!DOCTYPE x PUBLIC'' \">")
    (ADoctype (record { name = Some (codes "x"); public_id = Some ([]); system_id = Some ([]); force_quirks = true }) ∷ AnEof ∷ [])

-- "<script><!--<SCRIPT>--\u0000"
abbrev pub example47 : Example
example47 =
    page false (60 ∷ 115 ∷ 99 ∷ 114 ∷ 105 ∷ 112 ∷ 116 ∷ 62 ∷ 60 ∷ 33 ∷ 45 ∷ 45 ∷ 60 ∷ 83 ∷ 67 ∷ 82 ∷ 73 ∷ 80 ∷ 84 ∷ 62 ∷ 45 ∷ 45 ∷ 0 ∷ [])
    (AStart (codes "script") ([]) false ∷ AChar 60 ∷ AChar 33 ∷ AChar 45 ∷ AChar 45 ∷ AChar 60 ∷ AChar 83 ∷ AChar 67 ∷ AChar 82 ∷ AChar 73
    ∷ AChar 80 ∷ AChar 84 ∷ AChar 62 ∷ AChar 45 ∷ AChar 45 ∷ AChar 65533 ∷ AnEof ∷ [])

abbrev pub example48 : Example
example48 =
    page true (codes "<!DOCTYPE x <><!DoctYPe")
    (ADoctype (record { name = Some (codes "x"); public_id = None; system_id = None; force_quirks = true })
    ∷ ADoctype (record { name = None; public_id = None; system_id = None; force_quirks = true }) ∷ AnEof ∷ [])

abbrev pub example49 : Example
example49 =
    page false (codes "<script><!--<SCRIPT>--</script </sCRIPT><script></script>y")
    (AStart (codes "script") ([]) false ∷ AChar 60 ∷ AChar 33 ∷ AChar 45 ∷ AChar 45 ∷ AChar 60 ∷ AChar 83 ∷ AChar 67 ∷ AChar 82 ∷ AChar 73
    ∷ AChar 80 ∷ AChar 84 ∷ AChar 62 ∷ AChar 45 ∷ AChar 45 ∷ AChar 60 ∷ AChar 47 ∷ AChar 115 ∷ AChar 99 ∷ AChar 114 ∷ AChar 105 ∷ AChar 112
    ∷ AChar 116 ∷ AChar 32 ∷ AnEnd (codes "script") ∷ AStart (codes "script") ([]) false ∷ AnEnd (codes "script") ∷ AChar 121 ∷ AnEof ∷ [])

abbrev pub example50 : Example
example50 = page false (codes "<!----") (AComment ([]) ∷ AnEof ∷ [])

abbrev pub example51 : Example
example51 = page false (codes "<!----!") (AComment ([]) ∷ AnEof ∷ [])

abbrev pub example52 : Example
example52 = page false (codes "<a b=\"\"") (AnEof ∷ [])

abbrev pub example53 : Example
example53 =
    page false (codes "<!DOCTYPE x ><!dOCtype  a>")
    (ADoctype (record { name = Some (codes "x"); public_id = None; system_id = None; force_quirks = false })
    ∷ ADoctype (record { name = Some (codes "a"); public_id = None; system_id = None; force_quirks = false }) ∷ AnEof ∷ [])

-- "<!DOCTYPE\t"
abbrev pub example54 : Example
example54 =
    page false (60 ∷ 33 ∷ 68 ∷ 79 ∷ 67 ∷ 84 ∷ 89 ∷ 80 ∷ 69 ∷ 9 ∷ [])
    (ADoctype (record { name = None; public_id = None; system_id = None; force_quirks = true }) ∷ AnEof ∷ [])

-- "<!DOCTYPE?\f"
abbrev pub example55 : Example
example55 =
    page true (60 ∷ 33 ∷ 68 ∷ 79 ∷ 67 ∷ 84 ∷ 89 ∷ 80 ∷ 69 ∷ 63 ∷ 12 ∷ [])
    (ADoctype (record { name = Some (codes "?"); public_id = None; system_id = None; force_quirks = true }) ∷ AnEof ∷ [])

abbrev pub example56 : Example
example56 = page true (codes "<script><!--") (AStart (codes "script") ([]) false ∷ AChar 60 ∷ AChar 33 ∷ AChar 45 ∷ AChar 45 ∷ AnEof ∷ [])

abbrev pub example57 : Example
example57 =
    page false (codes "<!DOCTYPE x SYSTEM><!DOcTypeZ sYSTEm-->z")
    (ADoctype (record { name = Some (codes "x"); public_id = None; system_id = None; force_quirks = true })
    ∷ ADoctype (record { name = Some (codes "z"); public_id = None; system_id = None; force_quirks = true }) ∷ AChar 122 ∷ AnEof ∷ [])

abbrev pub example58 : Example
example58 = page false (codes "<style></style/") (AStart (codes "style") ([]) false ∷ AnEof ∷ [])

abbrev pub example59 : Example
example59 = page true (codes "<title></title ") (AStart (codes "title") ([]) false ∷ AnEof ∷ [])

-- "<![CDATA[]]>/<9\u0000"
abbrev pub example60 : Example
example60 =
    page true (60 ∷ 33 ∷ 91 ∷ 67 ∷ 68 ∷ 65 ∷ 84 ∷ 65 ∷ 91 ∷ 93 ∷ 93 ∷ 62 ∷ 47 ∷ 60 ∷ 57 ∷ 0 ∷ [])
    (AChar 47 ∷ AChar 60 ∷ AChar 57 ∷ AChar 0 ∷ AnEof ∷ [])

-- "<style></style \f"
abbrev pub example61 : Example
example61 =
    page false (60 ∷ 115 ∷ 116 ∷ 121 ∷ 108 ∷ 101 ∷ 62 ∷ 60 ∷ 47 ∷ 115 ∷ 116 ∷ 121 ∷ 108 ∷ 101 ∷ 32 ∷ 12 ∷ [])
    (AStart (codes "style") ([]) false ∷ AnEof ∷ [])

abbrev pub example62 : Example
example62 =
    page false (codes "<!DOCTYPE x SYSTEM")
    (ADoctype (record { name = Some (codes "x"); public_id = None; system_id = None; force_quirks = true }) ∷ AnEof ∷ [])

abbrev pub example63 : Example
example63 =
    page false (codes "<!DOCTYPE x PUBLIC")
    (ADoctype (record { name = Some (codes "x"); public_id = None; system_id = None; force_quirks = true }) ∷ AnEof ∷ [])

abbrev pub example64 : Example
example64 = page false (codes "<script><</script ") (AStart (codes "script") ([]) false ∷ AChar 60 ∷ AnEof ∷ [])

abbrev pub example65 : Example
example65 =
    page false (codes "<!DOCTYPE x PUBLIC ")
    (ADoctype (record { name = Some (codes "x"); public_id = None; system_id = None; force_quirks = true }) ∷ AnEof ∷ [])

abbrev pub example66 : Example
example66 =
    page false (codes "<!DOCTYPE x PUBLIC'")
    (ADoctype (record { name = Some (codes "x"); public_id = Some ([]); system_id = None; force_quirks = true }) ∷ AnEof ∷ [])

abbrev pub example67 : Example
example67 =
    page false (codes "<!DOCTYPE x PUBLIC\"")
    (ADoctype (record { name = Some (codes "x"); public_id = Some ([]); system_id = None; force_quirks = true }) ∷ AnEof ∷ [])

abbrev pub example68 : Example
example68 =
    page false (codes "<!DOCTYPE x PUBLIC>")
    (ADoctype (record { name = Some (codes "x"); public_id = None; system_id = None; force_quirks = true }) ∷ AnEof ∷ [])

abbrev pub example69 : Example
example69 =
    page true (codes "<!DOCTYPE x PUBLIC/")
    (ADoctype (record { name = Some (codes "x"); public_id = None; system_id = None; force_quirks = true }) ∷ AnEof ∷ [])

abbrev pub example70 : Example
example70 =
    page true (codes "<!DOCTYPE x PUBLIC\"\"")
    (ADoctype (record { name = Some (codes "x"); public_id = Some ([]); system_id = None; force_quirks = true }) ∷ AnEof ∷ [])

abbrev pub example71 : Example
example71 =
    page false (codes "<!DOCTYPE x PUBLIC\">")
    (ADoctype (record { name = Some (codes "x"); public_id = Some ([]); system_id = None; force_quirks = true }) ∷ AnEof ∷ [])

-- "<!DOCTYPE x SYSTEM\f9>"
abbrev pub example72 : Example
example72 =
    page false (60 ∷ 33 ∷ 68 ∷ 79 ∷ 67 ∷ 84 ∷ 89 ∷ 80 ∷ 69 ∷ 32 ∷ 120 ∷ 32 ∷ 83 ∷ 89 ∷ 83 ∷ 84 ∷ 69 ∷ 77 ∷ 12 ∷ 57 ∷ 62 ∷ [])
    (ADoctype (record { name = Some (codes "x"); public_id = None; system_id = None; force_quirks = true }) ∷ AnEof ∷ [])

-- "<!DOCTYPE x PUBLIC\f/>"
abbrev pub example73 : Example
example73 =
    page false (60 ∷ 33 ∷ 68 ∷ 79 ∷ 67 ∷ 84 ∷ 89 ∷ 80 ∷ 69 ∷ 32 ∷ 120 ∷ 32 ∷ 80 ∷ 85 ∷ 66 ∷ 76 ∷ 73 ∷ 67 ∷ 12 ∷ 47 ∷ 62 ∷ [])
    (ADoctype (record { name = Some (codes "x"); public_id = None; system_id = None; force_quirks = true }) ∷ AnEof ∷ [])

-- "<!DOCTYPE x PUBLIC''\f"
abbrev pub example74 : Example
example74 =
    page true (60 ∷ 33 ∷ 68 ∷ 79 ∷ 67 ∷ 84 ∷ 89 ∷ 80 ∷ 69 ∷ 32 ∷ 120 ∷ 32 ∷ 80 ∷ 85 ∷ 66 ∷ 76 ∷ 73 ∷ 67 ∷ 39 ∷ 39 ∷ 12 ∷ [])
    (ADoctype (record { name = Some (codes "x"); public_id = Some ([]); system_id = None; force_quirks = true }) ∷ AnEof ∷ [])

-- "<!DOCTYPE x SYSTEM\n\t>"
abbrev pub example75 : Example
example75 =
    page false (60 ∷ 33 ∷ 68 ∷ 79 ∷ 67 ∷ 84 ∷ 89 ∷ 80 ∷ 69 ∷ 32 ∷ 120 ∷ 32 ∷ 83 ∷ 89 ∷ 83 ∷ 84 ∷ 69 ∷ 77 ∷ 10 ∷ 9 ∷ 62 ∷ [])
    (ADoctype (record { name = Some (codes "x"); public_id = None; system_id = None; force_quirks = true }) ∷ AnEof ∷ [])

abbrev pub example76 : Example
example76 =
    page true (codes "<script><!--</script ") (AStart (codes "script") ([]) false ∷ AChar 60 ∷ AChar 33 ∷ AChar 45 ∷ AChar 45 ∷ AnEof ∷ [])

-- "<!DOCTYPE x PUBLIC\t>x"
abbrev pub example77 : Example
example77 =
    page false (60 ∷ 33 ∷ 68 ∷ 79 ∷ 67 ∷ 84 ∷ 89 ∷ 80 ∷ 69 ∷ 32 ∷ 120 ∷ 32 ∷ 80 ∷ 85 ∷ 66 ∷ 76 ∷ 73 ∷ 67 ∷ 9 ∷ 62 ∷ 120 ∷ [])
    (ADoctype (record { name = Some (codes "x"); public_id = None; system_id = None; force_quirks = true }) ∷ AChar 120 ∷ AnEof ∷ [])

abbrev pub example78 : Example
example78 =
    page false (codes "<!DOCTYPE x PUBLIC''\"")
    (ADoctype (record { name = Some (codes "x"); public_id = Some ([]); system_id = Some ([]); force_quirks = true }) ∷ AnEof ∷ [])

abbrev pub example79 : Example
example79 =
    page false (codes "<!DOCTYPE- pubLIC \"b\">")
    (ADoctype (record { name = Some (codes "-"); public_id = Some (codes "b"); system_id = None; force_quirks = false }) ∷ AnEof ∷ [])

-- "<script><!--<script\f--"
abbrev pub example80 : Example
example80 =
    page false (60 ∷ 115 ∷ 99 ∷ 114 ∷ 105 ∷ 112 ∷ 116 ∷ 62 ∷ 60 ∷ 33 ∷ 45 ∷ 45 ∷ 60 ∷ 115 ∷ 99 ∷ 114 ∷ 105 ∷ 112 ∷ 116 ∷ 12 ∷ 45 ∷ 45 ∷ [])
    (AStart (codes "script") ([]) false ∷ AChar 60 ∷ AChar 33 ∷ AChar 45 ∷ AChar 45 ∷ AChar 60 ∷ AChar 115 ∷ AChar 99 ∷ AChar 114
    ∷ AChar 105 ∷ AChar 112 ∷ AChar 116 ∷ AChar 12 ∷ AChar 45 ∷ AChar 45 ∷ AnEof ∷ [])

abbrev pub example81 : Example
example81 =
    page false (codes "<!DOCTYPE x PUBLIC\"\" >x")
    (ADoctype (record { name = Some (codes "x"); public_id = Some ([]); system_id = None; force_quirks = false }) ∷ AChar 120 ∷ AnEof ∷ [])

abbrev pub examples : List Example
examples = example0 ∷ example1 ∷ example2 ∷ example3 ∷ example4 ∷ example5 ∷ example6 ∷ example7 ∷ example8 ∷ example9 ∷ example10
    ∷ example11 ∷ example12 ∷ example13 ∷ example14 ∷ example15 ∷ example16 ∷ example17 ∷ example18 ∷ example19 ∷ example20 ∷ example21
    ∷ example22 ∷ example23 ∷ example24 ∷ example25 ∷ example26 ∷ example27 ∷ example28 ∷ example29 ∷ example30 ∷ example31 ∷ example32
    ∷ example33 ∷ example34 ∷ example35 ∷ example36 ∷ example37 ∷ example38 ∷ example39 ∷ example40 ∷ example41 ∷ example42 ∷ example43
    ∷ example44 ∷ example45 ∷ example46 ∷ example47 ∷ example48 ∷ example49 ∷ example50 ∷ example51 ∷ example52 ∷ example53 ∷ example54
    ∷ example55 ∷ example56 ∷ example57 ∷ example58 ∷ example59 ∷ example60 ∷ example61 ∷ example62 ∷ example63 ∷ example64 ∷ example65
    ∷ example66 ∷ example67 ∷ example68 ∷ example69 ∷ example70 ∷ example71 ∷ example72 ∷ example73 ∷ example74 ∷ example75 ∷ example76
    ∷ example77 ∷ example78 ∷ example79 ∷ example80 ∷ example81 ∷ []
