use Rattle.std.proofs.Common.{subst, sym}
use Rattle.standard_trees.specs.RuleWords.{InHead}
use Rattle.page_trees.specs.Constructs.{Outcome}
use Rattle.page_trees.specs.declared.builder.Next.{Next}
use Rattle.page_trees.proofs.HeadRules.{element_opened, one_token_before, stays_current}
use Rattle.page_trees.proofs.builder.TreeBuilder.head_element.Goals as goal

pub returns-clause-rule : goal.returns-clause-rule
returns-clause-rule c known starts within b current stands =
    let inserted = c.after_head_element.ensures.limits within in
    let before = c.insert.ensures.limits inserted in
    let front = c.before_head_element.ensures.rule before b stands in
    let tag_stays = stays_current c.args.name c.args.tag.now b _ (one_token_before c.args.name b) current in
    subst (λ (next : Next). Outcome InHead b c.after_head_element.new.self next) (sym c.after_head_element.ensures.next)
    (element_opened c.args.name c.args.tag.now b c.after_head_element.new.self current starts known
    (c.after_head_element.ensures.rule within _ (c.insert.ensures.rule starts inserted _ tag_stays front)))
