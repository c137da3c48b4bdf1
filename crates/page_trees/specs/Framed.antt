-- How a calm page starts and ends.
use Rattle.std.specs.Prelude.{ℕ, ◌≡◌, ◌≤◌, ◌-◌, List, [], ◌∷◌, length, map, take, drop, codes}
use Rattle.std.specs.Char.{to_ascii_lowercase}

-- The text starts with a doctype and `<html` and ends with the end tags of `body` and `html`, in upper or lower case.
pub record IsFramed (page : List ℕ) : Type 0 where
  pub long : 34 ≤ length page
  pub front : map to_ascii_lowercase (take 20 page) ≡ codes "<!doctype html><html"
  pub back : map to_ascii_lowercase (drop (length page - 14) page) ≡ codes "</body></html>"

-- the UTF-8 byte order mark
abbrev pub byte_order_mark : List ℕ
byte_order_mark = 239 ∷ 187 ∷ 191 ∷ []
