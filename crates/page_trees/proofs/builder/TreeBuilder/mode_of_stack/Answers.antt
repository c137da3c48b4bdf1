use Rattle.std.proofs.Common.{◌≡◌, ◌∙◌, ap, arith, length, List}
use Rattle.std.specs.Option.{unwrap_or}
use Rattle.page_trees.specs.Modes.{mode_of}
use Rattle.page_trees.specs.declared.stack.Open.{Open}
use Rattle.page_trees.proofs.ResetLemmas.{mode_found, place_in}
use Rattle.page_trees.proofs.builder.TreeBuilder.mode_of_stack.Goals as goal

pub returns : goal.returns
returns c b stands =
    let place : c.unwrap_or-place.result ≡ place_in c.args.self.now.tree.stack =
    c.unwrap_or-place.ensures ∙ ap (λ o. unwrap_or o 0) (c.topmost.ensures c.open-2.ensures.index) ∙ ap place_in c.open-2.ensures.elements in
    ap mode_of c.unwrap_or.ensures
    ∙ mode_found c.args.self.now.tree b.tree c.args.self.now.template_modes.items b.template_modes stands.tree stands.template_modes.0
    (λ none. omega (arith, none, c.len.ensures, ap (λ (os : List Open). length os) c.open.ensures.elements, c.if-len-eq0.false)) c.unwrap_or-place.result place c.mode_at.result c.mode_at.ensures
