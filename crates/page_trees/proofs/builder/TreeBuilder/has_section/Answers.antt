use Rattle.std.proofs.Common.{refl, [], ◌∷◌, codes}
use Rattle.page_trees.proofs.TableRules.{found_first, found_rest}
use Rattle.page_trees.proofs.builder.TreeBuilder.has_section.Goals as goal

pub returns-then-has_in_table : goal.returns-then-has_in_table
returns-then-has_in_table c t b = found_first (codes "tbody") (codes "thead" ∷ codes "tfoot" ∷ []) t _ (c.has_in_table.ensures refl t b) c.if-has_in_table.true

pub returns-then-has_in_table-2 : goal.returns-then-has_in_table-2
returns-then-has_in_table-2 c t b =
    found_rest (codes "tbody") (codes "thead" ∷ codes "tfoot" ∷ []) t _ _ (c.has_in_table.ensures refl t b) c.if-has_in_table.false
    (found_first (codes "thead") (codes "tfoot" ∷ []) t _ (c.has_in_table-2.ensures refl t b) c.if-has_in_table-2.true)

pub returns : goal.returns
returns c t b =
    found_rest (codes "tbody") (codes "thead" ∷ codes "tfoot" ∷ []) t _ _ (c.has_in_table.ensures refl t b) c.if-has_in_table.false
    (found_rest (codes "thead") (codes "tfoot" ∷ []) t _ _ (c.has_in_table-2.ensures refl t b) c.if-has_in_table-2.false (c.has_in_table-3.ensures refl t b))
