-- Pages whose tree has the shape of a page.
use Rattle.std.specs.Prelude.{◌≡◌, Bool, List, Option, Some, [], codes, false, option_map, true, ℕ}
use Rattle.standard_trees.specs.Building.{Building}
use Rattle.standard_trees.specs.Parsing.{depth_for, page_parser, parsed, steps_for}
use Rattle.standard_order.specs.PageShape.{is_page_of}

-- whether the tree has it as which the text is parsed
abbrev pub is_shaped : List ℕ → Option Bool
is_shaped text = option_map (λ (b : Building). is_page_of b.tree) (parsed (depth_for text) (steps_for text) (page_parser false text))

pub record PagesAreShaped : Type 0 where
  pub empty : is_shaped [] ≡ Some true
  pub implied : is_shaped (codes "<p>a") ≡ Some true
  -- comments at each place, and white space
  pub comments : is_shaped (codes "<!--a--><!doctype html><!--b--><title>c</title> <body>d</body> <!--e--></html> <!--f-->") ≡ Some true
  -- text and elements in a table come before it
  pub fostered : is_shaped (codes "<table>a<b>c<tr>d</b></table><p>e") ≡ Some true
  pub template : is_shaped (codes "<head><template><tr><td>a") ≡ Some true
  -- what follows a frameset, and a formatting element that is reconstructed there
  pub frames : is_shaped (codes "<!doctype html><frameset></frameset></html> <noframes>a") ≡ Some true
  pub formatted : is_shaped (codes "<b><frameset></frameset></html> ") ≡ Some true
