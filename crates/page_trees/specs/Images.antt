-- The start tag `image` (13.2.6.4.7): "Change the token's tag name to 'img' and reprocess it."
use Rattle.std.specs.Prelude.{◌≡◌, ◌∷◌, List, [], codes, false, true}
use Rattle.standard_trees.specs.Building.{Building, perform}
use Rattle.standard_trees.specs.RuleWords.{Act, FramesetNotOk, InsertElement, Pop, ReconstructFormatting, Rename, does}
use Rattle.page_tokens.specs.declared.token.Tag.{Tag}
use Rattle.page_trees.specs.BodyTags.{acted, begun}
use Rattle.page_trees.specs.Constructs.{Constructs, IsCurrentTag, WithinLimits}
use Rattle.page_trees.specs.Modes.{is_start_kind}
use Rattle.page_trees.specs.TableTexts.{with_fostering}
use Rattle.page_trees.specs.declared.builder.TreeBuilder.{TreeBuilder}
use Rattle.page_trees.specs.declared.modes.groups.Group.{Group}
use Rattle.page_trees.specs.declared.name.Name.{Name}

-- what the rules for "in body" say of the start tag `img`
abbrev pub img_acts : List Act
img_acts = does ReconstructFormatting [] ∷ does InsertElement [] ∷ does Pop [] ∷ does FramesetNotOk [] ∷ []

-- that is done once the token's tag name is changed
abbrev pub as_img : Building → Building
as_img b = acted img_acts (perform (Rename (codes "img")) b)

-- and with foster parenting
abbrev pub img_fostered : Building → Building
img_fostered b = with_fostering false (as_img (with_fostering true b))

-- within the limits, a start tag `image` is done with so, behind what comes before the element is made
abbrev pub StartsImage : Tag → TreeBuilder → TreeBuilder → Type 0
StartsImage tag old new =
    is_start_kind tag.kind ≡ true → WithinLimits new → (b : Building) → IsCurrentTag Name.Image tag b → Constructs old (begun Group.Image b) →
    Constructs new (as_img b)

-- within the limits, it is moved out of a table
abbrev pub FostersImage : Tag → TreeBuilder → TreeBuilder → Type 0
FostersImage tag old new =
    is_start_kind tag.kind ≡ true → WithinLimits new → (b : Building) → IsCurrentTag Name.Image tag b → Constructs old b →
    Constructs new (img_fostered b)
