-- Tags that can't be in a table: the rules for "in body" process them, with foster parenting (13.2.6.4.9, "anything else").
use Rattle.std.specs.Prelude.{◌≡◌, ◌∷◌, ◌&&◌, ◌||◌, Bool, List, [], false, true}
use Rattle.std.specs.List.{list_all}
use Rattle.standard_tokens.specs.Tokens.{AStart, AnEnd, Token as StandardToken}
use Rattle.standard_trees.specs.Building.{Building, taken}
use Rattle.standard_trees.specs.RuleWords.{Act, FosterOff, FosterOn, InBody, InHead, InRow, InTable, InTableBody}
use Rattle.standard_trees.specs.RuleWords.{Mode as StandardMode, Use, does, goes}
use Rattle.standard_trees.specs.TreeRules.{rules}
use Rattle.page_tokens.specs.declared.token.Tag.{Tag}
use Rattle.page_tokens.specs.declared.token.TagKind.{TagKind}
use Rattle.page_trees.specs.BodyTags.{covers_in_body, ends_in, starts_in}
use Rattle.page_trees.specs.CharacterSteps.{goes_to_mode}
use Rattle.page_trees.specs.Constructs.{Constructs, IsCurrentTag, Outcome, WithinLimits}
use Rattle.page_trees.specs.Groups.{group_named}
use Rattle.page_trees.specs.LateMerges.{HasHtml}
use Rattle.page_trees.specs.Modes.{is_start_kind}
use Rattle.page_trees.specs.Names.{name_of}
use Rattle.page_trees.specs.TableTexts.{with_fostering}
use Rattle.page_trees.specs.declared.builder.Next.{Next}
use Rattle.page_trees.specs.declared.builder.TreeBuilder.{TreeBuilder}
use Rattle.page_trees.specs.declared.name.Name.{Name}

-- "enable foster parenting, process the token using the rules for in body, and then disable foster parenting"
abbrev pub is_fostering : List Act → Bool
is_fostering (does FosterOn [] ∷ goes (Use InBody) ∷ does FosterOff [] ∷ []) = true
is_fostering _ = false

-- actions alone: the token goes to no other rules
abbrev pub is_action : Act → Bool
is_action (does action tests) = true
is_action (goes way) = false

abbrev pub acts_alone : List Act → Bool
acts_alone acts = list_all is_action acts

-- "process the token using the rules for in head"
abbrev pub uses_head : List Act → Bool
uses_head (goes (Use InHead) ∷ []) = true
uses_head _ = false

-- by the rules for "in body" the token is done with: they have actions alone for it, or those for "in head" have, which they use
abbrev pub ends_there : Building → Bool
ends_there b =
    acts_alone (taken b (rules InBody)) || (uses_head (taken b (rules InBody)) && acts_alone (taken b (rules InHead)))

-- the state suits the tag
abbrev pub suits_in_body : StandardToken → Building → Bool
suits_in_body (AStart name attrs closing) b = starts_in (group_named (name_of name)) b
suits_in_body (AnEnd name) b = ends_in (group_named (name_of name)) b
suits_in_body _ b = false

-- the tag is done with there, and it is one of which it is stated that they are processed by these rules in such a state
abbrev pub acts_in_body : Building → Bool
acts_in_body b = ends_there b && (covers_in_body b.token && suits_in_body b.token b)

-- the start tag `image`
abbrev pub names_image : Name → Bool
names_image Name.Image = true
names_image _ = false

abbrev pub is_image_start : Name → TagKind → Bool
is_image_start name kind = names_image name && is_start_kind kind

abbrev pub is_image : StandardToken → Bool
is_image (AStart name attrs closing) = names_image (name_of name)
is_image _ = false

-- the modes whose rules for `img` are those for "in table"
abbrev pub is_table_mode : StandardMode → Bool
is_table_mode InTable = true
is_table_mode InTableBody = true
is_table_mode InRow = true
is_table_mode _ = false

-- "Change the token's tag name to 'img' and reprocess it": it comes to the rules for "in table" again
abbrev pub comes_to_table : Building → Bool
comes_to_table b = is_image b.token && (is_table_mode b.mode && goes_to_mode b.tree)

-- the tag is moved out of the table, and covered
abbrev pub fosters_tag : Building → Bool
fosters_tag b = is_fostering (taken b (rules InTable)) && (acts_in_body (with_fostering true b) || comes_to_table b)

-- Within the limits, and where the outermost open element is `html`, a tag that is moved out of the table is processed "in table".
abbrev pub FostersTag : Name → Tag → TreeBuilder → TreeBuilder → Next → Type 0
FostersTag name tag old new next =
    WithinLimits new → (b : Building) → IsCurrentTag name tag b → HasHtml b → fosters_tag b ≡ true → Constructs old b →
    Outcome InTable b new next
