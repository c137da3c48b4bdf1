-- What one thing and then another come to.
use Rattle.std.specs.Prelude.{◌≡◌, None, Option, Some, refl}
use Rattle.std.specs.Option.{option_and_then}
use Rattle.standard_trees.specs.Building.{Building}

pub in_turn : (o : Option Building) (f : Building → Option Building) (c : Building) → option_and_then f o ≡ Some c → (x : Building) × (o ≡ Some x) × (f x ≡ Some c)
in_turn None f c h = cc
in_turn (Some x) f c h = (x, refl, h)
