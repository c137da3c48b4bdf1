-- The identifiers of doctypes that set a Document to quirks mode (13.2.6.4.1), of docs/standard/tree_construction.txt; made by
-- tests/standard/trees/definition.py.
use Rattle.std.specs.Prelude.{ℕ, List, [], ◌∷◌, codes}

unfoldable pub quirks_public_is : List (List ℕ)
quirks_public_is =
    (codes "-//W3O//DTD W3 HTML Strict 3.0//EN//") ∷
    (codes "-/W3C/DTD HTML 4.0 Transitional/EN") ∷
    (codes "HTML") ∷ []

unfoldable pub quirks_system_is : List (List ℕ)
quirks_system_is =
    (codes "http://www.ibm.com/data/dtd/v11/ibmxhtml1-transitional.dtd") ∷ []

unfoldable pub quirks_public_begins : List (List ℕ)
quirks_public_begins =
    (codes "+//Silmaril//dtd html Pro v0r11 19970101//") ∷
    (codes "-//AS//DTD HTML 3.0 asWedit + extensions//") ∷
    (codes "-//AdvaSoft Ltd//DTD HTML 3.0 asWedit + extensions//") ∷
    (codes "-//IETF//DTD HTML 2.0 Level 1//") ∷
    (codes "-//IETF//DTD HTML 2.0 Level 2//") ∷
    (codes "-//IETF//DTD HTML 2.0 Strict Level 1//") ∷
    (codes "-//IETF//DTD HTML 2.0 Strict Level 2//") ∷
    (codes "-//IETF//DTD HTML 2.0 Strict//") ∷
    (codes "-//IETF//DTD HTML 2.0//") ∷
    (codes "-//IETF//DTD HTML 2.1E//") ∷
    (codes "-//IETF//DTD HTML 3.0//") ∷
    (codes "-//IETF//DTD HTML 3.2 Final//") ∷
    (codes "-//IETF//DTD HTML 3.2//") ∷
    (codes "-//IETF//DTD HTML 3//") ∷
    (codes "-//IETF//DTD HTML Level 0//") ∷
    (codes "-//IETF//DTD HTML Level 1//") ∷
    (codes "-//IETF//DTD HTML Level 2//") ∷
    (codes "-//IETF//DTD HTML Level 3//") ∷
    (codes "-//IETF//DTD HTML Strict Level 0//") ∷
    (codes "-//IETF//DTD HTML Strict Level 1//") ∷
    (codes "-//IETF//DTD HTML Strict Level 2//") ∷
    (codes "-//IETF//DTD HTML Strict Level 3//") ∷
    (codes "-//IETF//DTD HTML Strict//") ∷
    (codes "-//IETF//DTD HTML//") ∷
    (codes "-//Metrius//DTD Metrius Presentational//") ∷
    (codes "-//Microsoft//DTD Internet Explorer 2.0 HTML Strict//") ∷
    (codes "-//Microsoft//DTD Internet Explorer 2.0 HTML//") ∷
    (codes "-//Microsoft//DTD Internet Explorer 2.0 Tables//") ∷
    (codes "-//Microsoft//DTD Internet Explorer 3.0 HTML Strict//") ∷
    (codes "-//Microsoft//DTD Internet Explorer 3.0 HTML//") ∷
    (codes "-//Microsoft//DTD Internet Explorer 3.0 Tables//") ∷
    (codes "-//Netscape Comm. Corp.//DTD HTML//") ∷
    (codes "-//Netscape Comm. Corp.//DTD Strict HTML//") ∷
    (codes "-//O'Reilly and Associates//DTD HTML 2.0//") ∷
    (codes "-//O'Reilly and Associates//DTD HTML Extended 1.0//") ∷
    (codes "-//O'Reilly and Associates//DTD HTML Extended Relaxed 1.0//") ∷
    (codes "-//SQ//DTD HTML 2.0 HoTMetaL + extensions//") ∷
    (codes "-//SoftQuad Software//DTD HoTMetaL PRO 6.0::19990601::extensions to HTML 4.0//") ∷
    (codes "-//SoftQuad//DTD HoTMetaL PRO 4.0::19971010::extensions to HTML 4.0//") ∷
    (codes "-//Spyglass//DTD HTML 2.0 Extended//") ∷
    (codes "-//Sun Microsystems Corp.//DTD HotJava HTML//") ∷
    (codes "-//Sun Microsystems Corp.//DTD HotJava Strict HTML//") ∷
    (codes "-//W3C//DTD HTML 3 1995-03-24//") ∷
    (codes "-//W3C//DTD HTML 3.2 Draft//") ∷
    (codes "-//W3C//DTD HTML 3.2 Final//") ∷
    (codes "-//W3C//DTD HTML 3.2//") ∷
    (codes "-//W3C//DTD HTML 3.2S Draft//") ∷
    (codes "-//W3C//DTD HTML 4.0 Frameset//") ∷
    (codes "-//W3C//DTD HTML 4.0 Transitional//") ∷
    (codes "-//W3C//DTD HTML Experimental 19960712//") ∷
    (codes "-//W3C//DTD HTML Experimental 970421//") ∷
    (codes "-//W3C//DTD W3 HTML//") ∷
    (codes "-//W3O//DTD W3 HTML 3.0//") ∷
    (codes "-//WebTechs//DTD Mozilla HTML 2.0//") ∷
    (codes "-//WebTechs//DTD Mozilla HTML//") ∷ []

unfoldable pub either_quirks_public_begins : List (List ℕ)
either_quirks_public_begins =
    (codes "-//W3C//DTD HTML 4.01 Frameset//") ∷
    (codes "-//W3C//DTD HTML 4.01 Transitional//") ∷ []

unfoldable pub limited_quirks_public_begins : List (List ℕ)
limited_quirks_public_begins =
    (codes "-//W3C//DTD XHTML 1.0 Frameset//") ∷
    (codes "-//W3C//DTD XHTML 1.0 Transitional//") ∷ []
