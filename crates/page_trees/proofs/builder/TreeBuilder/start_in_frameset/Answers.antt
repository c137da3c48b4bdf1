use Rattle.std.proofs.Common.{sym, subst, ap}
use Rattle.page_trees.specs.Constructs.{IsCurrentTag, Outcome}
use Rattle.page_trees.specs.declared.builder.Next.{Next}
use Rattle.page_trees.specs.declared.name.Name.{Name}
use Rattle.standard_trees.specs.RuleWords.{InFrameset}
use Rattle.page_trees.specs.Groups.{is_metadata_name}
use Rattle.page_trees.proofs.FramesetTags.{frame_in_frameset, frameset_in_frameset, html_in_frameset, ignored_in_frameset, noframes_in_frameset}
use Rattle.page_trees.proofs.builder.TreeBuilder.start_in_frameset.Goals as goal

pub returns-in-Html-clause-rule : goal.returns-in-Html-clause-rule
returns-in-Html-clause-rule c starts within b current html stands =
    let now = subst (λ (n : Name). IsCurrentTag n c.args.tag.now b) c.in-Html.is current in
    html_in_frameset c.args.tag.now b c.add_html_attrs.new.self c.add_html_attrs.result now starts (c.add_html_attrs.ensures.rule starts within b now html stands)

pub returns-in-Frameset-clause-rule : goal.returns-in-Frameset-clause-rule
returns-in-Frameset-clause-rule c starts within b current html stands =
    let now = subst (λ (n : Name). IsCurrentTag n c.args.tag.now b) c.in-Frameset.is current in
    subst (λ (next : Next). Outcome InFrameset b c.insert_done.new.self next) (sym c.insert_done.ensures.next)
    (frameset_in_frameset c.args.tag.now b c.insert_done.new.self now starts (c.insert_done.ensures.rule starts within b current stands))

pub returns-in-Frame-clause-rule : goal.returns-in-Frame-clause-rule
returns-in-Frame-clause-rule c starts within b current html stands =
    let now = subst (λ (n : Name). IsCurrentTag n c.args.tag.now b) c.in-Frame.is current in
    subst (λ (next : Next). Outcome InFrameset b c.insert_void.new.self next) (sym c.insert_void.ensures.next)
    (frame_in_frameset c.args.tag.now b c.insert_void.new.self now starts (c.insert_void.ensures.rule starts within b current stands))

pub returns-in-Noframes-clause-rule : goal.returns-in-Noframes-clause-rule
returns-in-Noframes-clause-rule c starts within b current html stands =
    let now = subst (λ (n : Name). IsCurrentTag n c.args.tag.now b) c.in-Noframes.is current in
    noframes_in_frameset c.args.tag.now b c.head_element.new.self c.head_element.result now starts
    (c.head_element.ensures.rule (ap is_metadata_name c.in-Noframes.is) starts within b current stands)

pub returns-in_default-clause-rule : goal.returns-in_default-clause-rule
returns-in_default-clause-rule c starts within b current html stands =
    ignored_in_frameset c.args.name c.args.tag.now b c.args.self.now current starts c.in_default.not-Html c.in_default.not-Frameset c.in_default.not-Frame c.in_default.not-Noframes stands
