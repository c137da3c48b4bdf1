-- The groups of elements that the rules for "in body" treat alike (13.2.6.4.7).
use Rattle.std.specs.Prelude.{◌≡◌, Bool, true, false, List, [], ◌∷◌, Option, None, Some, if◌then◌else◌}
use Rattle.std.specs.List.{list_any}
use Rattle.std.specs.Option.{unwrap_or}
use Rattle.standard_tokens.specs.Tokens.{Token, AStart}
use Rattle.standard_trees.specs.Building.{fits}
use Rattle.standard_trees.specs.RuleWords.{Act, InBody, Rule, Test, rule}
use Rattle.standard_trees.specs.TreeRules.{rules}
use Rattle.page_trees.specs.Names.{text_of}
use Rattle.page_trees.specs.declared.modes.groups.Group.{Group}
use Rattle.page_trees.specs.declared.name.Name.{Name}

-- the groups of names that are in none of the groups below
abbrev pub rare_group : Name → Group
rare_group Name.Nobr = Group.Nobr
rare_group Name.Applet = Group.Object
rare_group Name.Marquee = Group.Object
rare_group Name.Object = Group.Object
rare_group Name.Table = Group.Table
rare_group Name.Area = Group.Void
rare_group Name.Br = Group.Void
rare_group Name.Embed = Group.Void
rare_group Name.Img = Group.Void
rare_group Name.Keygen = Group.Void
rare_group Name.Wbr = Group.Void
rare_group Name.Image = Group.Image
rare_group Name.Input = Group.Input
rare_group Name.Param = Group.Param
rare_group Name.Source = Group.Param
rare_group Name.Track = Group.Param
rare_group Name.Hr = Group.Hr
rare_group Name.Textarea = Group.Textarea
rare_group Name.Xmp = Group.Xmp
rare_group Name.Iframe = Group.Iframe
rare_group Name.Noembed = Group.Noembed
rare_group Name.Noscript = Group.Noscript
rare_group Name.Select = Group.Select
rare_group Name.Optgroup = Group.Optgroup
rare_group Name.Option = Group.Option
rare_group Name.Rb = Group.RubyBase
rare_group Name.Rtc = Group.RubyBase
rare_group Name.Rp = Group.RubyText
rare_group Name.Rt = Group.RubyText
rare_group Name.Math = Group.Math
rare_group Name.Svg = Group.Svg
rare_group Name.Caption = Group.Stray
rare_group Name.Col = Group.Stray
rare_group Name.Colgroup = Group.Stray
rare_group Name.Frame = Group.Stray
rare_group Name.Head = Group.Stray
rare_group Name.Tbody = Group.Stray
rare_group Name.Td = Group.Stray
rare_group Name.Tfoot = Group.Stray
rare_group Name.Th = Group.Stray
rare_group Name.Thead = Group.Stray
rare_group Name.Tr = Group.Stray
rare_group _ = Group.Ordinary

-- the names of blocks
abbrev pub is_block_name : Name → Bool
is_block_name Name.Address = true
is_block_name Name.Article = true
is_block_name Name.Aside = true
is_block_name Name.Blockquote = true
is_block_name Name.Center = true
is_block_name Name.Details = true
is_block_name Name.Dialog = true
is_block_name Name.Dir = true
is_block_name Name.Div = true
is_block_name Name.Dl = true
is_block_name Name.Fieldset = true
is_block_name Name.Figcaption = true
is_block_name Name.Figure = true
is_block_name Name.Footer = true
is_block_name Name.Header = true
is_block_name Name.Hgroup = true
is_block_name Name.Main = true
is_block_name Name.Menu = true
is_block_name Name.Nav = true
is_block_name Name.Ol = true
is_block_name Name.Search = true
is_block_name Name.Section = true
is_block_name Name.Summary = true
is_block_name Name.Ul = true
is_block_name _ = false

-- the groups of other names
abbrev pub common_group : Name → Option Group
common_group Name.Html = Some Group.Html
common_group Name.Base = Some Group.Metadata
common_group Name.Basefont = Some Group.Metadata
common_group Name.Bgsound = Some Group.Metadata
common_group Name.Link = Some Group.Metadata
common_group Name.Meta = Some Group.Metadata
common_group Name.Noframes = Some Group.Metadata
common_group Name.Script = Some Group.Metadata
common_group Name.Style = Some Group.Metadata
common_group Name.Title = Some Group.Metadata
common_group Name.Template = Some Group.Template
common_group Name.Body = Some Group.Body
common_group Name.Frameset = Some Group.Frameset
common_group Name.P = Some Group.P
common_group Name.H1 = Some Group.Heading
common_group Name.H2 = Some Group.Heading
common_group Name.H3 = Some Group.Heading
common_group Name.H4 = Some Group.Heading
common_group Name.H5 = Some Group.Heading
common_group Name.H6 = Some Group.Heading
common_group Name.Pre = Some Group.Pre
common_group Name.Listing = Some Group.Pre
common_group Name.Form = Some Group.Form
common_group Name.Li = Some Group.Li
common_group Name.Dd = Some Group.Description
common_group Name.Dt = Some Group.Description
common_group Name.Plaintext = Some Group.Plaintext
common_group Name.Button = Some Group.Button
common_group Name.A = Some Group.A
common_group Name.B = Some Group.Formatting
common_group Name.Big = Some Group.Formatting
common_group Name.Code = Some Group.Formatting
common_group Name.Em = Some Group.Formatting
common_group Name.Font = Some Group.Formatting
common_group Name.I = Some Group.Formatting
common_group Name.S = Some Group.Formatting
common_group Name.Small = Some Group.Formatting
common_group Name.Strike = Some Group.Formatting
common_group Name.Strong = Some Group.Formatting
common_group Name.Tt = Some Group.Formatting
common_group Name.U = Some Group.Formatting
common_group _ = None

-- the group of each name
abbrev pub group_named : Name → Group
group_named name = if is_block_name name then Group.Block else unwrap_or (common_group name) (rare_group name)

-- an element of each group
abbrev pub example_of : Group → Name
example_of Group.Html = Name.Html
example_of Group.Metadata = Name.Meta
example_of Group.Template = Name.Template
example_of Group.Body = Name.Body
example_of Group.Frameset = Name.Frameset
example_of Group.Block = Name.Div
example_of Group.P = Name.P
example_of Group.Heading = Name.H1
example_of Group.Pre = Name.Pre
example_of Group.Form = Name.Form
example_of Group.Li = Name.Li
example_of Group.Description = Name.Dd
example_of Group.Plaintext = Name.Plaintext
example_of Group.Button = Name.Button
example_of Group.A = Name.A
example_of Group.Formatting = Name.B
example_of Group.Nobr = Name.Nobr
example_of Group.Object = Name.Object
example_of Group.Table = Name.Table
example_of Group.Void = Name.Br
example_of Group.Image = Name.Image
example_of Group.Input = Name.Input
example_of Group.Param = Name.Param
example_of Group.Hr = Name.Hr
example_of Group.Textarea = Name.Textarea
example_of Group.Xmp = Name.Xmp
example_of Group.Iframe = Name.Iframe
example_of Group.Noembed = Name.Noembed
example_of Group.Noscript = Name.Noscript
example_of Group.Select = Name.Select
example_of Group.Optgroup = Name.Optgroup
example_of Group.Option = Name.Option
example_of Group.RubyBase = Name.Rb
example_of Group.RubyText = Name.Rt
example_of Group.Math = Name.Math
example_of Group.Svg = Name.Svg
example_of Group.Stray = Name.Td
example_of Group.Ordinary = Name.Span

-- what the rules say that are for a token, each with its tests
abbrev pub rules_for : Token → List Rule → List (List Test × List Act)
rules_for token [] = []
rules_for token (rule patterns tests acts ∷ more) =
    if list_any (λ pattern. fits pattern token) patterns then (tests, acts) ∷ rules_for token more else rules_for token more

-- the rules for "in body" that are for a start tag of that name
abbrev pub body_rules_for : Name → List (List Test × List Act)
body_rules_for name = rules_for (AStart (text_of name) [] false) (rules InBody)

-- the rules for "in body" say the same of the name and of the group's example
abbrev pub IsGroupOf : Name → Group → Type 0
IsGroupOf name group = body_rules_for name ≡ body_rules_for (example_of group)

-- "If the stack of open elements has a p element in button scope, then close a p element": for each tag of these groups
abbrev pub closes_p : Group → Bool
closes_p Group.Block = true
closes_p Group.P = true
closes_p Group.Heading = true
closes_p Group.Pre = true
closes_p Group.Plaintext = true
closes_p Group.Hr = true
closes_p Group.Xmp = true
closes_p _ = false

-- "Set the frameset-ok flag to 'not ok'": for each tag of these groups
abbrev pub spoils_frameset : Group → Bool
spoils_frameset Group.Pre = true
spoils_frameset Group.Li = true
spoils_frameset Group.Description = true
spoils_frameset Group.Button = true
spoils_frameset Group.Object = true
spoils_frameset Group.Table = true
spoils_frameset Group.Void = true
spoils_frameset Group.Image = true
spoils_frameset Group.Hr = true
spoils_frameset Group.Textarea = true
spoils_frameset Group.Xmp = true
spoils_frameset Group.Iframe = true
spoils_frameset _ = false

-- "Reconstruct the active formatting elements, if any", before the element is inserted: for each tag of these groups
abbrev pub reconstructs : Group → Bool
reconstructs Group.Object = true
reconstructs Group.Void = true
reconstructs Group.Image = true
reconstructs Group.Xmp = true
reconstructs Group.Math = true
reconstructs Group.Svg = true
reconstructs _ = false

-- ---- names

-- cells of tables
abbrev pub is_cell_name : Name → Bool
is_cell_name Name.Td = true
is_cell_name Name.Th = true
is_cell_name _ = false

-- sections of tables
abbrev pub is_section_name : Name → Bool
is_section_name Name.Tbody = true
is_section_name Name.Tfoot = true
is_section_name Name.Thead = true
is_section_name _ = false

-- "in table": the start tags of what is between a table and its cells, and of cells
abbrev pub is_part_name : Name → Bool
is_part_name Name.Caption = true
is_part_name Name.Col = true
is_part_name Name.Colgroup = true
is_part_name Name.Tbody = true
is_part_name Name.Td = true
is_part_name Name.Tfoot = true
is_part_name Name.Th = true
is_part_name Name.Thead = true
is_part_name Name.Tr = true
is_part_name _ = false

-- the end tags that the modes of tables ignore, besides those of the parts of a table
abbrev pub is_dropped_end_name : Name → Bool
is_dropped_end_name Name.Body = true
is_dropped_end_name Name.Caption = true
is_dropped_end_name Name.Col = true
is_dropped_end_name Name.Colgroup = true
is_dropped_end_name Name.Html = true
is_dropped_end_name _ = false

-- the start tags that every mode processes by the rules for "in head"
abbrev pub is_metadata_name : Name → Bool
is_metadata_name Name.Base = true
is_metadata_name Name.Basefont = true
is_metadata_name Name.Bgsound = true
is_metadata_name Name.Link = true
is_metadata_name Name.Meta = true
is_metadata_name Name.Noframes = true
is_metadata_name Name.Script = true
is_metadata_name Name.Style = true
is_metadata_name Name.Template = true
is_metadata_name Name.Title = true
is_metadata_name _ = false
