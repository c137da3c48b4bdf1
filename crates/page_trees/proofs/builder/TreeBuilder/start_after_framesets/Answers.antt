use Rattle.std.proofs.Common.{subst, ap}
use Rattle.page_trees.specs.Constructs.{IsCurrentTag}
use Rattle.page_trees.specs.declared.name.Name.{Name}
use Rattle.page_trees.specs.Groups.{is_metadata_name}
use Rattle.page_trees.proofs.FramesetTags.{html_behind, ignored_behind, noframes_behind}
use Rattle.page_trees.proofs.builder.TreeBuilder.start_after_framesets.Goals as goal

pub returns-in-Html-clause-rule : goal.returns-in-Html-clause-rule
returns-in-Html-clause-rule c mode behind starts within b current html stands =
    let now = subst (λ (n : Name). IsCurrentTag n c.args.tag.now b) c.in-Html.is current in
    html_behind mode c.args.tag.now b c.add_html_attrs.new.self c.add_html_attrs.result behind now starts (c.add_html_attrs.ensures.rule starts within b now html stands)

pub returns-in-Noframes-clause-rule : goal.returns-in-Noframes-clause-rule
returns-in-Noframes-clause-rule c mode behind starts within b current html stands =
    let now = subst (λ (n : Name). IsCurrentTag n c.args.tag.now b) c.in-Noframes.is current in
    noframes_behind mode c.args.tag.now b c.head_element.new.self c.head_element.result behind now starts
    (c.head_element.ensures.rule (ap is_metadata_name c.in-Noframes.is) starts within b current stands)

pub returns-in_default-clause-rule : goal.returns-in_default-clause-rule
returns-in_default-clause-rule c mode behind starts within b current html stands =
    ignored_behind mode c.args.name c.args.tag.now b c.args.self.now behind current starts c.in_default.not-Html c.in_default.not-Noframes stands
