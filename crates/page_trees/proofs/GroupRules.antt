-- The groups of names are those of the rules for "in body".
use Rattle.std.proofs.Common.{◌≡◌, true, false, Option, refl, ap, subst, ◌∙◌}
use Rattle.std.specs.Prelude.{if◌then◌else◌}
use Rattle.std.specs.Option.{unwrap_or}
use Rattle.standard_trees.specs.TreeRules.{rules}
use Rattle.page_trees.specs.Groups.{IsGroupOf, common_group, group_named, is_block_name, rare_group}
use Rattle.page_trees.specs.declared.modes.groups.Group.{Group}
use Rattle.page_trees.specs.declared.name.Name.{Name}

-- by computation for each name
pub group_follows : (name : Name) → IsGroupOf name (group_named name)
unfolding rules
group_follows Name.Html = refl
group_follows _ = refl

pub block_follows : (name : Name) → is_block_name name ≡ true → IsGroupOf name Group.Block
block_follows name e =
    subst (IsGroupOf name) (ap (λ b. if b then Group.Block else unwrap_or (common_group name) (rare_group name)) e) (group_follows name)

pub other_follows : (name : Name) (group : Option Group) → is_block_name name ≡ false → common_group name ≡ group → IsGroupOf name (unwrap_or group (rare_group name))
other_follows name group e f =
    subst (IsGroupOf name) (ap (λ b. if b then Group.Block else unwrap_or (common_group name) (rare_group name)) e ∙ ap (λ o. unwrap_or o (rare_group name)) f) (group_follows name)
