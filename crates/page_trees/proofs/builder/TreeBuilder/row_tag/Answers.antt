use Rattle.std.proofs.Common.{◌≡◌, ◌∙◌, Bool, true, false, sym, subst}
use Rattle.page_trees.specs.Modes.{is_start_kind}
use Rattle.page_trees.specs.TableSteps.{covers_row}
use Rattle.page_trees.proofs.builder.TreeBuilder.row_tag.Goals as goal

pub returns-then-is_start : goal.returns-then-is_start
returns-then-is_start c = record {
  rule = let starts : is_start_kind c.args.tag.now.kind ≡ true = sym c.is_start.ensures ∙ c.if-is_start.true in
      λ within b current html covered stands. c.start_in_row.ensures.rule starts within b current html (subst (λ (s : Bool). covers_row s c.args.name b ≡ true) starts covered) stands;
}

pub returns : goal.returns
returns c = record {
  rule = let ends : is_start_kind c.args.tag.now.kind ≡ false = sym c.is_start.ensures ∙ c.if-is_start.false in
      λ within b current html covered stands. c.end_in_row.ensures.rule ends within b current html (subst (λ (s : Bool). covers_row s c.args.name b ≡ true) ends covered) stands;
}
