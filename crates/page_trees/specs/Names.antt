-- The element names that the rules of tree construction mention.
use Rattle.std.specs.Prelude.{ℕ, List, [], ◌∷◌, codes, if◌then◌else◌}
use Rattle.std.specs.Borrow.{Bor}
use Rattle.std.specs.Str.{bytes_eq}
use Rattle.page_trees.specs.declared.name.Name.{Name}

-- the local name that each stands for; `Other` stands for no one name
abbrev pub text_of : Name → List ℕ
text_of Name.A = codes "a"
text_of Name.Abbr = codes "abbr"
text_of Name.Address = codes "address"
text_of Name.AnnotationXml = codes "annotation-xml"
text_of Name.Applet = codes "applet"
text_of Name.Area = codes "area"
text_of Name.Article = codes "article"
text_of Name.Aside = codes "aside"
text_of Name.B = codes "b"
text_of Name.Base = codes "base"
text_of Name.Basefont = codes "basefont"
text_of Name.Bgsound = codes "bgsound"
text_of Name.Big = codes "big"
text_of Name.Blockquote = codes "blockquote"
text_of Name.Body = codes "body"
text_of Name.Br = codes "br"
text_of Name.Button = codes "button"
text_of Name.Caption = codes "caption"
text_of Name.Center = codes "center"
text_of Name.Code = codes "code"
text_of Name.Col = codes "col"
text_of Name.Colgroup = codes "colgroup"
text_of Name.Dd = codes "dd"
text_of Name.Desc = codes "desc"
text_of Name.Details = codes "details"
text_of Name.Dialog = codes "dialog"
text_of Name.Dir = codes "dir"
text_of Name.Div = codes "div"
text_of Name.Dl = codes "dl"
text_of Name.Dt = codes "dt"
text_of Name.Em = codes "em"
text_of Name.Embed = codes "embed"
text_of Name.Fieldset = codes "fieldset"
text_of Name.Figcaption = codes "figcaption"
text_of Name.Figure = codes "figure"
text_of Name.Font = codes "font"
text_of Name.Footer = codes "footer"
text_of Name.Foreignobject = codes "foreignobject"
text_of Name.Form = codes "form"
text_of Name.Frame = codes "frame"
text_of Name.Frameset = codes "frameset"
text_of Name.H1 = codes "h1"
text_of Name.H2 = codes "h2"
text_of Name.H3 = codes "h3"
text_of Name.H4 = codes "h4"
text_of Name.H5 = codes "h5"
text_of Name.H6 = codes "h6"
text_of Name.Head = codes "head"
text_of Name.Header = codes "header"
text_of Name.Hgroup = codes "hgroup"
text_of Name.Hr = codes "hr"
text_of Name.Html = codes "html"
text_of Name.I = codes "i"
text_of Name.Iframe = codes "iframe"
text_of Name.Image = codes "image"
text_of Name.Img = codes "img"
text_of Name.Input = codes "input"
text_of Name.Keygen = codes "keygen"
text_of Name.Label = codes "label"
text_of Name.Li = codes "li"
text_of Name.Link = codes "link"
text_of Name.Listing = codes "listing"
text_of Name.Main = codes "main"
text_of Name.Malignmark = codes "malignmark"
text_of Name.Marquee = codes "marquee"
text_of Name.Math = codes "math"
text_of Name.Menu = codes "menu"
text_of Name.Menuitem = codes "menuitem"
text_of Name.Meta = codes "meta"
text_of Name.Mglyph = codes "mglyph"
text_of Name.Mi = codes "mi"
text_of Name.Mn = codes "mn"
text_of Name.Mo = codes "mo"
text_of Name.Ms = codes "ms"
text_of Name.Mtext = codes "mtext"
text_of Name.Nav = codes "nav"
text_of Name.Nobr = codes "nobr"
text_of Name.Noembed = codes "noembed"
text_of Name.Noframes = codes "noframes"
text_of Name.Noscript = codes "noscript"
text_of Name.Object = codes "object"
text_of Name.Ol = codes "ol"
text_of Name.Optgroup = codes "optgroup"
text_of Name.Option = codes "option"
text_of Name.Output = codes "output"
text_of Name.P = codes "p"
text_of Name.Param = codes "param"
text_of Name.Plaintext = codes "plaintext"
text_of Name.Pre = codes "pre"
text_of Name.Rb = codes "rb"
text_of Name.Rp = codes "rp"
text_of Name.Rt = codes "rt"
text_of Name.Rtc = codes "rtc"
text_of Name.Ruby = codes "ruby"
text_of Name.S = codes "s"
text_of Name.Script = codes "script"
text_of Name.Search = codes "search"
text_of Name.Section = codes "section"
text_of Name.Select = codes "select"
text_of Name.Small = codes "small"
text_of Name.Source = codes "source"
text_of Name.Span = codes "span"
text_of Name.Strike = codes "strike"
text_of Name.Strong = codes "strong"
text_of Name.Style = codes "style"
text_of Name.Sub = codes "sub"
text_of Name.Summary = codes "summary"
text_of Name.Sup = codes "sup"
text_of Name.Svg = codes "svg"
text_of Name.Table = codes "table"
text_of Name.Tbody = codes "tbody"
text_of Name.Td = codes "td"
text_of Name.Template = codes "template"
text_of Name.Textarea = codes "textarea"
text_of Name.Tfoot = codes "tfoot"
text_of Name.Th = codes "th"
text_of Name.Thead = codes "thead"
text_of Name.Title = codes "title"
text_of Name.Tr = codes "tr"
text_of Name.Track = codes "track"
text_of Name.Tt = codes "tt"
text_of Name.U = codes "u"
text_of Name.Ul = codes "ul"
text_of Name.Var = codes "var"
text_of Name.Wbr = codes "wbr"
text_of Name.Xmp = codes "xmp"
text_of Name.Other = []

-- names with their texts
abbrev pub rows_for : List Name → List (List ℕ × Name)
rows_for [] = []
rows_for (name ∷ names) = (text_of name, name) ∷ rows_for names

-- the names of HTML elements, and of elements of SVG that have such a name
unfoldable pub html_rows : List (List ℕ × Name)
html_rows = rows_for (
    Name.A ∷ Name.Abbr ∷ Name.Address ∷ Name.Applet ∷ Name.Area ∷ Name.Article ∷ Name.Aside ∷ Name.B ∷ Name.Base ∷ Name.Basefont ∷
    Name.Bgsound ∷ Name.Big ∷ Name.Blockquote ∷ Name.Body ∷ Name.Br ∷ Name.Button ∷ Name.Caption ∷ Name.Center ∷ Name.Code ∷ Name.Col ∷
    Name.Colgroup ∷ Name.Dd ∷ Name.Details ∷ Name.Dialog ∷ Name.Dir ∷ Name.Div ∷ Name.Dl ∷ Name.Dt ∷ Name.Em ∷ Name.Embed ∷
    Name.Fieldset ∷ Name.Figcaption ∷ Name.Figure ∷ Name.Font ∷ Name.Footer ∷ Name.Form ∷ Name.Frame ∷ Name.Frameset ∷ Name.H1 ∷ Name.H2 ∷
    Name.H3 ∷ Name.H4 ∷ Name.H5 ∷ Name.H6 ∷ Name.Head ∷ Name.Header ∷ Name.Hgroup ∷ Name.Hr ∷ Name.Html ∷ Name.I ∷ Name.Iframe ∷
    Name.Img ∷ Name.Input ∷ Name.Keygen ∷ Name.Label ∷ Name.Li ∷ Name.Link ∷ Name.Main ∷ Name.Marquee ∷ Name.Menu ∷ Name.Menuitem ∷
    Name.Meta ∷ Name.Nav ∷ Name.Nobr ∷ Name.Noembed ∷ Name.Noframes ∷ Name.Noscript ∷ Name.Object ∷ Name.Ol ∷ Name.Optgroup ∷
    Name.Option ∷ Name.Output ∷ Name.P ∷ Name.Param ∷ Name.Plaintext ∷ Name.Pre ∷ Name.Rp ∷ Name.Rt ∷ Name.Ruby ∷ Name.S ∷ Name.Script ∷
    Name.Search ∷ Name.Section ∷ Name.Select ∷ Name.Small ∷ Name.Source ∷ Name.Span ∷ Name.Strike ∷ Name.Strong ∷ Name.Style ∷ Name.Sub ∷
    Name.Summary ∷ Name.Sup ∷ Name.Svg ∷ Name.Table ∷ Name.Tbody ∷ Name.Td ∷ Name.Template ∷ Name.Textarea ∷ Name.Tfoot ∷ Name.Th ∷
    Name.Thead ∷ Name.Title ∷ Name.Tr ∷ Name.Track ∷ Name.Tt ∷ Name.U ∷ Name.Ul ∷ Name.Var ∷ Name.Wbr ∷ Name.Xmp ∷ [])

-- the names of MathML, those of SVG that no HTML element has, and names of HTML that are met rarely
unfoldable pub rare_rows : List (List ℕ × Name)
rare_rows = rows_for (
    Name.AnnotationXml ∷ Name.Desc ∷ Name.Foreignobject ∷ Name.Image ∷ Name.Listing ∷ Name.Malignmark ∷ Name.Math ∷ Name.Mglyph ∷
    Name.Mi ∷ Name.Mn ∷ Name.Mo ∷ Name.Ms ∷ Name.Mtext ∷ Name.Rb ∷ Name.Rtc ∷ [])

-- what the first row with a text gives
abbrev pub row_for : List (List ℕ × Name) → Name → List ℕ → Name
row_for [] otherwise text = otherwise
row_for (row ∷ rows) otherwise text = if bytes_eq row.0 text then row.1 else row_for rows otherwise text

-- the name of a local name; `Other` for one that no rule mentions
abbrev pub name_of : List ℕ → Name
name_of text = row_for rare_rows (row_for html_rows Name.Other text) text

-- the rows of a table of the code
abbrev pub rows_of : List (Bor (List ℕ) × Name) → List (List ℕ × Name)
rows_of [] = []
rows_of (row ∷ rows) = (row.0.now, row.1) ∷ rows_of rows
