use Rattle.std.proofs.Common.{◌∙◌, subst, sym}
use Rattle.standard_trees.specs.RuleWords.{InTable}
use Rattle.page_trees.specs.Constructs.{Outcome}
use Rattle.page_trees.specs.declared.builder.Next.{Next}
use Rattle.page_trees.proofs.TableInputs.{input_inserted, input_is}
use Rattle.page_trees.proofs.TableTags.{left_over}
use Rattle.page_trees.proofs.builder.TreeBuilder.start_table_input.Goals as goal

pub returns-then-is_hidden : goal.returns-then-is_hidden
returns-then-is_hidden c = record {
  rule = λ named starts within b current html covered stands. subst (λ (n : Next). Outcome InTable b c.insert_void.new.self n) (sym c.insert_void.ensures.next)
      (input_inserted c.args.name c.args.tag.now b _ current starts
      (input_is c.args.name c.args.tag.now b c.is_hidden.result named current starts c.is_hidden.ensures ∙ c.if-is_hidden.true) (c.insert_void.ensures.rule starts within b current stands));
}

pub returns : goal.returns
returns c = record {
  rule = λ named starts within b current html covered stands. c.fostered_tag.ensures.rule within b current html
      (left_over _ _ (input_is c.args.name c.args.tag.now b c.is_hidden.result named current starts c.is_hidden.ensures ∙ c.if-is_hidden.false) covered) stands;
}
