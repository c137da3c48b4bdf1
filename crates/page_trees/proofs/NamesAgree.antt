-- A test of names is computed over the table of names.
use Rattle.std.proofs.Common.{◌≡◌, ℕ, Bool, true, false, ◌&&◌, not, List, [], ◌∷◌, refl, sym, ap, subst, ◌∙◌, if◌then◌else◌, true≢false}
use Rattle.std.proofs.lemmas.Slice.Eq.{bytes_eq-Decides}
use Rattle.std.specs.List.{list_all}
use Rattle.std.specs.Str.{bytes_eq}
use Rattle.standard_trees.specs.GrowingTree.{is_among}
use Rattle.page_trees.specs.Names.{html_rows, name_of, rare_rows, row_for, text_of}
use Rattle.page_trees.specs.declared.name.Name.{Name}
use Rattle.page_trees.specs.declared.stack.ElementNamespace.{ElementNamespace}

-- a name is the one of its text
pub again : (name : Name) → name_of (text_of name) ≡ name
unfolding html_rows rare_rows
again Name.A = refl
again Name.Abbr = refl
again Name.Address = refl
again Name.AnnotationXml = refl
again Name.Applet = refl
again Name.Area = refl
again Name.Article = refl
again Name.Aside = refl
again Name.B = refl
again Name.Base = refl
again Name.Basefont = refl
again Name.Bgsound = refl
again Name.Big = refl
again Name.Blockquote = refl
again Name.Body = refl
again Name.Br = refl
again Name.Button = refl
again Name.Caption = refl
again Name.Center = refl
again Name.Code = refl
again Name.Col = refl
again Name.Colgroup = refl
again Name.Dd = refl
again Name.Desc = refl
again Name.Details = refl
again Name.Dialog = refl
again Name.Dir = refl
again Name.Div = refl
again Name.Dl = refl
again Name.Dt = refl
again Name.Em = refl
again Name.Embed = refl
again Name.Fieldset = refl
again Name.Figcaption = refl
again Name.Figure = refl
again Name.Font = refl
again Name.Footer = refl
again Name.Foreignobject = refl
again Name.Form = refl
again Name.Frame = refl
again Name.Frameset = refl
again Name.H1 = refl
again Name.H2 = refl
again Name.H3 = refl
again Name.H4 = refl
again Name.H5 = refl
again Name.H6 = refl
again Name.Head = refl
again Name.Header = refl
again Name.Hgroup = refl
again Name.Hr = refl
again Name.Html = refl
again Name.I = refl
again Name.Iframe = refl
again Name.Image = refl
again Name.Img = refl
again Name.Input = refl
again Name.Keygen = refl
again Name.Label = refl
again Name.Li = refl
again Name.Link = refl
again Name.Listing = refl
again Name.Main = refl
again Name.Malignmark = refl
again Name.Marquee = refl
again Name.Math = refl
again Name.Menu = refl
again Name.Menuitem = refl
again Name.Meta = refl
again Name.Mglyph = refl
again Name.Mi = refl
again Name.Mn = refl
again Name.Mo = refl
again Name.Ms = refl
again Name.Mtext = refl
again Name.Nav = refl
again Name.Nobr = refl
again Name.Noembed = refl
again Name.Noframes = refl
again Name.Noscript = refl
again Name.Object = refl
again Name.Ol = refl
again Name.Optgroup = refl
again Name.Option = refl
again Name.Output = refl
again Name.P = refl
again Name.Param = refl
again Name.Plaintext = refl
again Name.Pre = refl
again Name.Rb = refl
again Name.Rp = refl
again Name.Rt = refl
again Name.Rtc = refl
again Name.Ruby = refl
again Name.S = refl
again Name.Script = refl
again Name.Search = refl
again Name.Section = refl
again Name.Select = refl
again Name.Small = refl
again Name.Source = refl
again Name.Span = refl
again Name.Strike = refl
again Name.Strong = refl
again Name.Style = refl
again Name.Sub = refl
again Name.Summary = refl
again Name.Sup = refl
again Name.Svg = refl
again Name.Table = refl
again Name.Tbody = refl
again Name.Td = refl
again Name.Template = refl
again Name.Textarea = refl
again Name.Tfoot = refl
again Name.Th = refl
again Name.Thead = refl
again Name.Title = refl
again Name.Tr = refl
again Name.Track = refl
again Name.Tt = refl
again Name.U = refl
again Name.Ul = refl
again Name.Var = refl
again Name.Wbr = refl
again Name.Xmp = refl
again Name.Other = refl

pub both : (a b : Bool) → (a && b) ≡ true → (a ≡ true) × (b ≡ true)
both true b e = (refl, e)
both false b e = absurd (true≢false (sym e))

abbrev pub same : Bool → Bool → Bool
same true b = b
same false b = not b

same_is : (a b : Bool) → same a b ≡ true → a ≡ b
same_is true b e = sym e
same_is false true e = e
same_is false false e = refl

-- ---- a test passes every name

passed_in : (p : Name → Bool) (rows : List (List ℕ × Name)) (otherwise : Name) (text : List ℕ) →
    list_all (λ row. p row.1) rows ≡ true → p otherwise ≡ true → p (row_for rows otherwise text) ≡ true
passed_in p [] otherwise text h e = e
passed_in p (row ∷ rows) otherwise text h e =
    let parts = both (p row.1) (list_all (λ row. p row.1) rows) h in
    by_test parts.0 (passed_in p rows otherwise text parts.1 e) (bytes_eq row.0 text)
  where
    by_test : p row.1 ≡ true → p (row_for rows otherwise text) ≡ true → (b : Bool) → p (if b then row.1 else row_for rows otherwise text) ≡ true
    by_test first others true = first
    by_test first others false = others

abbrev pub passes_all : (Name → Bool) → Bool
passes_all p = p Name.Other && (list_all (λ row. p row.1) html_rows && list_all (λ row. p row.1) rare_rows)

pub for_all : (p : Name → Bool) → passes_all p ≡ true → (name : Name) → p name ≡ true
for_all p h name =
    let ends = both (p Name.Other) (list_all (λ row. p row.1) html_rows && list_all (λ row. p row.1) rare_rows) h in
    let parts = both (list_all (λ row. p row.1) html_rows) (list_all (λ row. p row.1) rare_rows) ends.1 in
    let text = text_of name in
    ap p (sym (again name)) ∙
    passed_in p rare_rows (row_for html_rows Name.Other text) text parts.1 (passed_in p html_rows Name.Other text parts.0 ends.0)

-- two tests agree on every name, in every namespace
abbrev pub agree : (ElementNamespace → Name → Bool) → (ElementNamespace → Name → Bool) → ElementNamespace → Bool
agree f g ns = passes_all (λ name. same (f ns name) (g ns name))

agreed_in : (f g : ElementNamespace → Name → Bool) (ns : ElementNamespace) → agree f g ns ≡ true → (name : Name) → f ns name ≡ g ns name
agreed_in f g ns h name = same_is (f ns name) (g ns name) (for_all (λ name. same (f ns name) (g ns name)) h name)

pub agreed : (f g : ElementNamespace → Name → Bool) → agree f g ElementNamespace.Html ≡ true → agree f g ElementNamespace.Svg ≡ true →
    agree f g ElementNamespace.MathMl ≡ true → (ns : ElementNamespace) (name : Name) → f ns name ≡ g ns name
agreed f g h s m ElementNamespace.Html name = agreed_in f g ElementNamespace.Html h name
agreed f g h s m ElementNamespace.Svg name = agreed_in f g ElementNamespace.Svg s name
agreed f g h s m ElementNamespace.MathMl name = agreed_in f g ElementNamespace.MathMl m name

-- ---- a name that is none of a list

infixr 20 ◌and◌
abbrev pub ◌and◌ : {A B : Type 0} → A → B → A × B
a and b = (a, b)

abbrev pub IfListed : Bool → Type 0 → Type 0 → Type 0
IfListed true Other More = Other × More
IfListed false Other More = More

-- it is none of the names of these rows whose texts the list has
abbrev pub IsNone : Name → List (List ℕ) → List (List ℕ × Name) → Type 0
IsNone name texts [] = Unit {0}
IsNone name texts (row ∷ rows) = IfListed (is_among row.0 texts) (name ≡ row.1 → ⊥) (IsNone name texts rows)

none_in : (texts : List (List ℕ)) (rows : List (List ℕ × Name)) (otherwise : Name) (text : List ℕ) →
    IsNone (row_for rows otherwise text) texts rows → (row_for rows otherwise text ≡ otherwise → is_among text texts ≡ false) →
    is_among text texts ≡ false
none_in texts [] otherwise text h k = k refl
none_in texts (row ∷ rows) otherwise text h k = by_test (λ is other. none_in texts rows otherwise text is other) (bytes_eq row.0 text) refl h k
  where
    by_row : (b : Bool) → IfListed b (row.1 ≡ row.1 → ⊥) (IsNone row.1 texts rows) → b ≡ false
    by_row true is = absurd (is.0 refl)
    by_row false is = refl

    rest : (name : Name) (b : Bool) → IfListed b (name ≡ row.1 → ⊥) (IsNone name texts rows) → IsNone name texts rows
    rest name true is = is.1
    rest name false is = is

    by_test : (IsNone (row_for rows otherwise text) texts rows → (row_for rows otherwise text ≡ otherwise → is_among text texts ≡ false) → is_among text texts ≡ false) →
        (b : Bool) → bytes_eq row.0 text ≡ b → IsNone (if b then row.1 else row_for rows otherwise text) texts (row ∷ rows) →
        ((if b then row.1 else row_for rows otherwise text) ≡ otherwise → is_among text texts ≡ false) → is_among text texts ≡ false
    by_test others true e is other = ap (λ t. is_among t texts) (sym ((bytes_eq-Decides row.0 text).0 e)) ∙ by_row (is_among row.0 texts) is
    by_test others false e is other = others (rest (row_for rows otherwise text) (is_among row.0 texts) is) other

pub none_of : (texts : List (List ℕ)) (name : Name) → is_among [] texts ≡ false → IsNone name texts rare_rows → IsNone name texts html_rows →
    is_among (text_of name) texts ≡ false
none_of texts name none rare html =
    let text = text_of name in
    let common = row_for html_rows Name.Other text in
    let is : row_for rare_rows common text ≡ name = again name in
    none_in texts rare_rows common text (subst (λ n. IsNone n texts rare_rows) (sym is) rare) (λ e.
    none_in texts html_rows Name.Other text (subst (λ n. IsNone n texts html_rows) (sym is ∙ e) html) (λ other.
    ap (λ n. is_among (text_of n) texts) (sym is ∙ e ∙ other) ∙ none))
