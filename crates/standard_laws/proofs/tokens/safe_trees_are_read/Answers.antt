use Rattle.dom_markup.specs.WrittenTrees.{safe_char}
use Rattle.standard_laws.specs.Values.{safe_piece}
use Rattle.standard_laws.proofs.Pieces.{safe_writes_values}
use Rattle.standard_laws.proofs.TreesRead.{read_anywhere, read_as_pages, read_one_way}
use Rattle.standard_laws.proofs.tokens.safe_trees_are_read.Goals as goal

pub returns-clause-anywhere : goal.returns-clause-anywhere
returns-clause-anywhere c = read_anywhere c.plain_markup.ensures safe_char safe_piece safe_writes_values

pub returns-clause-page : goal.returns-clause-page
returns-clause-page c = read_as_pages c.plain_pages.ensures.read safe_char safe_piece safe_writes_values

pub returns-clause-only : goal.returns-clause-only
returns-clause-only c = read_one_way c.plain_pages.ensures.only safe_char safe_piece safe_writes_values
