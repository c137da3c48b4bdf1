use Rattle.std.proofs.Common.{ap, subst, sym}
use Rattle.standard_trees.specs.Building.{own_name}
use Rattle.standard_trees.specs.RuleWords.{AfterHead}
use Rattle.page_trees.specs.Constructs.{Outcome}
use Rattle.page_trees.specs.declared.builder.Next.{Next}
use Rattle.page_trees.proofs.HeadAgain.{opened_in_head}
use Rattle.page_trees.proofs.HeadPlaces.{element_in_head_by}
use Rattle.page_trees.proofs.HeadRules.{one_token_before, stays_current}
use Rattle.page_trees.proofs.builder.TreeBuilder.in_head_again.Goals as goal

pub returns-clause-rule : goal.returns-clause-rule
returns-clause-rule c known starts within b current html closed stands =
    let inserted = c.after_head_element.ensures.limits within in
    let before = c.insert_into_head.ensures.limits inserted in
    let front = c.before_head_element.ensures.rule before b stands in
    let same = one_token_before c.args.name b in
    let tag_stays = stays_current c.args.name c.args.tag.now b _ same current in
    subst (λ (next : Next). Outcome AfterHead b c.after_head_element.new.self next) (sym c.after_head_element.ensures.next)
    (opened_in_head c.args.name c.args.tag.now b c.after_head_element.new.self current starts known stands.tree.head_named closed
    (c.after_head_element.ensures.rule within _
    (element_in_head_by c.args.name c.args.tag.now c.before_head_element.new.self c.insert_into_head.new.self b _ starts tag_stays c.insert_into_head.ensures.rule
    (ap own_name same.token) same.attrs inserted front)))
