-- The lists of element names that the standard gives for the stack of open elements (13.2.4.2, 13.2.6.3).
use Rattle.std.specs.Prelude.{ℕ, List, [], ◌∷◌, codes}
use Rattle.standard_rules.specs.RuleWords.{ScopeKind, Scope, ButtonScope, ListItemScope, TableScope}

-- the elements that bound the ordinary scope
abbrev pub scope_names : List (List ℕ)
scope_names = codes "applet" ∷ codes "caption" ∷ codes "html" ∷ codes "table" ∷ codes "td" ∷ codes "th" ∷ codes "marquee" ∷ codes "object"
    ∷ codes "template" ∷ codes "select" ∷ []

-- the elements that bound a scope
abbrev pub scope_of : ScopeKind → List (List ℕ)
scope_of Scope = scope_names
scope_of ButtonScope = codes "button" ∷ scope_names
scope_of ListItemScope = codes "ol" ∷ codes "ul" ∷ scope_names
scope_of TableScope = codes "html" ∷ codes "table" ∷ codes "template" ∷ []

-- the elements whose end tags are implied
abbrev pub implied_names : List (List ℕ)
implied_names = codes "dd" ∷ codes "dt" ∷ codes "li" ∷ codes "optgroup" ∷ codes "option" ∷ codes "p" ∷ codes "rb" ∷ codes "rp" ∷ codes "rt"
    ∷ codes "rtc" ∷ []

-- the special elements of HTML
abbrev pub special_names : List (List ℕ)
special_names = codes "address" ∷ codes "applet" ∷ codes "area" ∷ codes "article" ∷ codes "aside" ∷ codes "base" ∷ codes "basefont"
    ∷ codes "bgsound" ∷ codes "blockquote" ∷ codes "body" ∷ codes "br" ∷ codes "button" ∷ codes "caption" ∷ codes "center" ∷ codes "col"
    ∷ codes "colgroup" ∷ codes "dd" ∷ codes "details" ∷ codes "dir" ∷ codes "div" ∷ codes "dl" ∷ codes "dt" ∷ codes "embed"
    ∷ codes "fieldset" ∷ codes "figcaption" ∷ codes "figure" ∷ codes "footer" ∷ codes "form" ∷ codes "frame" ∷ codes "frameset" ∷ codes "h1"
    ∷ codes "h2" ∷ codes "h3" ∷ codes "h4" ∷ codes "h5" ∷ codes "h6" ∷ codes "head" ∷ codes "header" ∷ codes "hgroup" ∷ codes "hr"
    ∷ codes "html" ∷ codes "iframe" ∷ codes "img" ∷ codes "input" ∷ codes "keygen" ∷ codes "li" ∷ codes "link" ∷ codes "listing"
    ∷ codes "main" ∷ codes "marquee" ∷ codes "menu" ∷ codes "meta" ∷ codes "nav" ∷ codes "noembed" ∷ codes "noframes" ∷ codes "noscript"
    ∷ codes "object" ∷ codes "ol" ∷ codes "p" ∷ codes "param" ∷ codes "plaintext" ∷ codes "pre" ∷ codes "script" ∷ codes "search"
    ∷ codes "section" ∷ codes "select" ∷ codes "source" ∷ codes "style" ∷ codes "summary" ∷ codes "table" ∷ codes "tbody" ∷ codes "td"
    ∷ codes "template" ∷ codes "textarea" ∷ codes "tfoot" ∷ codes "th" ∷ codes "thead" ∷ codes "title" ∷ codes "tr" ∷ codes "track"
    ∷ codes "ul" ∷ codes "wbr" ∷ codes "xmp" ∷ []
