-- What the rules for "in body" make of a tag (13.2.6.4.7): which tags are covered, and what comes before an element is made.
use Rattle.std.specs.Prelude.{◌≡◌, ◌&&◌, Bool, List, [], ◌∷◌, codes, false, if◌then◌else◌, true, ℕ}
use Rattle.std.specs.List.{list_all}
use Rattle.standard_tokens.specs.Tokens.{AStart, AnEnd, Token as StandardToken}
use Rattle.standard_trees.specs.Building.{Building, is_met, perform, with_tree}
use Rattle.standard_trees.specs.GrowingTree.{GrowingTree, has_in_scope, implied_of}
use Rattle.standard_trees.specs.GrowingTree.{popped_until}
use Rattle.standard_trees.specs.RuleWords.{Act, Action, ButtonScope, CloseP, FramesetNotOk}
use Rattle.standard_trees.specs.NameLists.{implied}
use Rattle.standard_trees.specs.RuleWords.{InBody, InCaption, InCell, InScope, InsertNamed, Mode as StandardMode, ReconstructFormatting}
use Rattle.standard_trees.specs.RuleWords.{Scope as DefaultScope, These, does, goes, isnt}
use Rattle.page_tokens.specs.declared.token.Tag.{Tag}
use Rattle.page_tokens.specs.declared.token.TagKind.{TagKind}
use Rattle.page_trees.specs.CharacterSteps.{goes_to_mode}
use Rattle.page_trees.specs.Constructs.{Constructs, IsCurrentTag, Outcome, RemembersLimits, WithinLimits, all_performed}
use Rattle.page_trees.specs.Groups.{closes_p, group_named, reconstructs, spoils_frameset}
use Rattle.page_trees.specs.LateMerges.{HasHtml}
use Rattle.page_trees.specs.Listing.{allows_agency, starts_a, starts_nobr}
use Rattle.page_trees.specs.Modes.{is_start_kind}
use Rattle.page_trees.specs.Names.{name_of}
use Rattle.page_trees.specs.Stands.{popped_if, without_marker}
use Rattle.page_trees.specs.declared.builder.Next.{Next}
use Rattle.page_trees.specs.declared.builder.TreeBuilder.{TreeBuilder}
use Rattle.page_trees.specs.declared.modes.groups.Group.{Group}
use Rattle.page_trees.specs.declared.name.Name.{Name}

-- ---- which tags are covered

-- the groups of which it is stated that their start tags are processed by the rules
abbrev pub covers_start : Group → Bool
covers_start Group.Block = true
covers_start Group.P = true
covers_start Group.Heading = true
covers_start Group.Pre = true
covers_start Group.Form = true
covers_start Group.Li = true
covers_start Group.Description = true
covers_start Group.Button = true
covers_start Group.Plaintext = true
covers_start Group.Object = true
covers_start Group.Void = true
covers_start Group.Param = true
covers_start Group.Stray = true
covers_start Group.Html = true
covers_start Group.Metadata = true
covers_start Group.Template = true
covers_start Group.Textarea = true
covers_start Group.Xmp = true
covers_start Group.Iframe = true
covers_start Group.Noembed = true
covers_start Group.Noscript = true
covers_start Group.Table = true
covers_start Group.Hr = true
covers_start Group.Image = true
covers_start Group.Input = true
covers_start Group.Select = true
covers_start Group.RubyBase = true
covers_start Group.RubyText = true
covers_start Group.Option = true
covers_start Group.Optgroup = true
covers_start Group.Ordinary = true
covers_start Group.A = true
covers_start Group.Formatting = true
covers_start Group.Nobr = true
covers_start Group.Math = true
covers_start Group.Svg = true
covers_start Group.Body = true
covers_start Group.Frameset = true

-- the groups whose end tags the rules process like any other end tag, but for `br`
abbrev pub ends_otherwise : Group → Bool
ends_otherwise Group.Block = false
ends_otherwise Group.Button = false
ends_otherwise Group.Pre = false
ends_otherwise Group.Select = false
ends_otherwise Group.Heading = false
ends_otherwise Group.Description = false
ends_otherwise Group.Object = false
ends_otherwise Group.A = false
ends_otherwise Group.Formatting = false
ends_otherwise Group.Nobr = false
ends_otherwise Group.Html = false
ends_otherwise Group.Template = false
ends_otherwise Group.Body = false
ends_otherwise Group.P = false
ends_otherwise Group.Form = false
ends_otherwise Group.Li = false
ends_otherwise _ = true

-- the groups of which it is stated that their end tags are processed by the rules
abbrev pub covers_end_of : Group → Bool
covers_end_of Group.Block = true
covers_end_of Group.Button = true
covers_end_of Group.Pre = true
covers_end_of Group.Select = true
covers_end_of Group.Heading = true
covers_end_of Group.Description = true
covers_end_of Group.Li = true
covers_end_of Group.P = true
covers_end_of Group.Form = true
covers_end_of Group.Body = true
covers_end_of Group.Html = true
covers_end_of Group.A = true
covers_end_of Group.Formatting = true
covers_end_of Group.Nobr = true
covers_end_of Group.Object = true
covers_end_of Group.Template = true
covers_end_of group = ends_otherwise group

abbrev pub covers_end : Name → Bool
covers_end name = covers_end_of (group_named name)

abbrev pub covers_body : TagKind → Name → Bool
covers_body TagKind.Start name = covers_start (group_named name)
covers_body TagKind.End name = covers_end name

-- whether the tags of that token of the definition are covered
abbrev pub covers_in_body : StandardToken → Bool
covers_in_body (AStart name attrs closing) = covers_start (group_named (name_of name))
covers_in_body (AnEnd name) = covers_end (name_of name)
covers_in_body _ = false

-- the modes whose rules for `img` are those for "in body"
abbrev pub is_body_mode : StandardMode → Bool
is_body_mode InBody = true
is_body_mode InCaption = true
is_body_mode InCell = true
is_body_mode _ = false

-- "Change the token's tag name to 'img' and reprocess it": it comes to the rules for "in body" again
abbrev pub comes_back : Building → Bool
comes_back b = is_body_mode b.mode && goes_to_mode b.tree

-- what is asked of the state in which the start tag of a group is processed: for `a` and `nobr`, of the list of active formatting
-- elements; for `image`, of the insertion mode
abbrev pub starts_in : Group → Building → Bool
starts_in Group.A b = starts_a b
starts_in Group.Nobr b = starts_nobr b
starts_in Group.Image b = comes_back b
starts_in _ b = true

-- and for end tags: for formatting elements, of their list, too
abbrev pub ends_in : Group → Building → Bool
ends_in Group.A b = allows_agency b
ends_in Group.Formatting b = allows_agency b
ends_in Group.Nobr b = allows_agency b
ends_in _ b = true

abbrev pub suits_body : TagKind → Name → Building → Bool
suits_body TagKind.Start name b = starts_in (group_named name) b
suits_body TagKind.End name b = ends_in (group_named name) b

-- Within the limits, a tag that is covered is processed by the rules for "in body", where the outermost open element is `html`
-- and the state suits the tag.
abbrev pub ProcessesInBody : Name → Tag → TreeBuilder → TreeBuilder → Next → Type 0
ProcessesInBody name tag old new next =
    covers_body tag.kind name ≡ true → WithinLimits new → (b : Building) → IsCurrentTag name tag b → HasHtml b → Constructs old b →
    suits_body tag.kind name b ≡ true → Outcome InBody b new next

-- ---- acts

-- acts are done one after the other, each where its tests are met then
abbrev pub acted : List Act → Building → Building
acted [] b = b
acted (does action tests ∷ acts) b = acted acts (elim (list_all (is_met b) tests) [ true ↦ perform action b | false ↦ b ])
acted (goes way ∷ acts) b = acted acts b

-- within the limits, these acts lead from the old state to the new one
abbrev pub Acts : List Act → TreeBuilder → TreeBuilder → Type 0
Acts acts old new = WithinLimits new → (b : Building) → Constructs old b → Constructs new (acted acts b)

-- within the limits, these acts for a start tag lead from the old state to the new one
abbrev pub ActsFor : Name → Tag → List Act → TreeBuilder → TreeBuilder → Type 0
ActsFor name tag acts old new =
    is_start_kind tag.kind ≡ true → WithinLimits new → (b : Building) → IsCurrentTag name tag b → Constructs old b →
    Constructs new (acted acts b)

-- within the limits, these acts for a start tag lead from an old state that passes a test to the new one
abbrev pub ActsWhere : (Building → Bool) → Name → Tag → List Act → TreeBuilder → TreeBuilder → Type 0
ActsWhere test name tag acts old new =
    is_start_kind tag.kind ≡ true → WithinLimits new → (b : Building) → test b ≡ true → IsCurrentTag name tag b → Constructs old b →
    Constructs new (acted acts b)

-- ---- start tags

abbrev pub only_if : Bool → Action → List Action
only_if test action = if test then action ∷ [] else []

-- the state in which the element of a start tag of the group is made: a `p` may be closed, the active formatting elements may be
-- reconstructed, and the frameset-ok flag may be set to "not ok"
abbrev pub begun : Group → Building → Building
begun group b =
    all_performed (only_if (spoils_frameset group) FramesetNotOk) (all_performed (only_if (reconstructs group) ReconstructFormatting)
    (all_performed (only_if (closes_p group) CloseP) b))

-- what comes before the element is made is done, within the limits
abbrev pub Begins : Group → TreeBuilder → TreeBuilder → Type 0
Begins group old new = WithinLimits new → (b : Building) → Constructs old b → Constructs new (begun group b)

-- the rest of what the rules say of a start tag of the group is done, within the limits
pub record IsContinued (group : Group) (name : Name) (tag : Tag) (old new : TreeBuilder) (next : Next) : Type 0 where
  pub limits : RemembersLimits old new
  pub rule : is_start_kind tag.kind ≡ true → WithinLimits new → (b : Building) → IsCurrentTag name tag b → HasHtml b →
      Constructs old (begun group b) → starts_in group b ≡ true → Outcome InBody b new next

abbrev pub Continues : Group → Name → Tag → TreeBuilder → TreeBuilder → Next → Type 0
Continues group name tag old new next = covers_start group ≡ true → group_named name ≡ group → IsContinued group name tag old new next

-- the groups of which no start tag is processed as a block
abbrev pub is_phrase : Group → Bool
is_phrase Group.Block = false
is_phrase Group.P = false
is_phrase Group.Html = false
is_phrase Group.Body = false
is_phrase Group.Frameset = false
is_phrase Group.Heading = false
is_phrase Group.Pre = false
is_phrase Group.Form = false
is_phrase Group.Li = false
is_phrase Group.Description = false
is_phrase Group.Button = false
is_phrase _ = true

-- those that have no elements of the head, no formatting elements and no foreign ones either
abbrev pub is_inline : Group → Bool
is_inline Group.Metadata = false
is_inline Group.Template = false
is_inline Group.A = false
is_inline Group.Formatting = false
is_inline Group.Nobr = false
is_inline Group.Math = false
is_inline Group.Svg = false
is_inline group = is_phrase group

-- the groups of elements whose content is text, and of those that no rule names
abbrev pub is_texty : Group → Bool
is_texty Group.Plaintext = true
is_texty Group.Textarea = true
is_texty Group.Xmp = true
is_texty Group.Iframe = true
is_texty Group.Noembed = true
is_texty Group.Noscript = true
is_texty Group.Ordinary = true
is_texty _ = false

-- ---- end tags

-- a covered end tag is processed by the rules
abbrev pub EndsInBody : Name → Tag → TreeBuilder → TreeBuilder → Next → Type 0
EndsInBody name tag old new next =
    covers_end name ≡ true → is_start_kind tag.kind ≡ false → WithinLimits new →
    (b : Building) → IsCurrentTag name tag b → Constructs old b → ends_in (group_named name) b ≡ true → Outcome InBody b new next

-- within the limits, the tree is changed so, and nothing else
abbrev pub ChangesTree : (GrowingTree → GrowingTree) → TreeBuilder → TreeBuilder → Type 0
ChangesTree step old new = WithinLimits new → (b : Building) → Constructs old b → Constructs new (with_tree b (step b.tree))

-- an element in scope is closed, and the list of active formatting elements is cleared up to the last marker
abbrev pub closed_to_marker : List (List ℕ) → GrowingTree → GrowingTree
closed_to_marker names t = elim (has_in_scope DefaultScope names t) [ true ↦ without_marker (popped_until names t) | false ↦ t ]

-- the end tag `p`: an element for it is inserted where no `p` is in button scope
abbrev pub implying_p : Act
implying_p = does (InsertNamed (codes "p")) (isnt (InScope ButtonScope (These (codes "p" ∷ []))) ∷ [])

-- ---- what comes before an element is inserted

-- "If the stack of open elements has such an element in scope, then generate implied end tags", but for elements of the second names
abbrev pub implied_in : List (List ℕ) → List (List ℕ) → GrowingTree → GrowingTree
implied_in names but t = elim (has_in_scope DefaultScope names t) [ true ↦ implied_of implied but t | false ↦ t ]

-- before an `option` or an `optgroup`: outside a `select` only the current node is popped, if it is an `option`
abbrev pub option_ended : List (List ℕ) → GrowingTree → GrowingTree
option_ended but t =
    elim (has_in_scope DefaultScope (codes "select" ∷ []) t) [ true ↦ implied_of implied but t | false ↦ popped_if (codes "option" ∷ []) t ]

-- for a start tag, within the limits, the tree is changed so, and then these actions are performed
abbrev pub ChangesThen : (GrowingTree → GrowingTree) → List Action → Name → Tag → TreeBuilder → TreeBuilder → Type 0
ChangesThen step actions name tag old new =
    is_start_kind tag.kind ≡ true → WithinLimits new → (b : Building) → IsCurrentTag name tag b → Constructs old b →
    Constructs new (all_performed actions (with_tree b (step b.tree)))
