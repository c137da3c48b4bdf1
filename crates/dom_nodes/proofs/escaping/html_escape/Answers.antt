use Rattle.std.proofs.Common.{◌++◌, ◌∙◌, [], ap, sym}
use Rattle.std.specs.List.{flat_map}
use Rattle.std.proofs.lemmas.Iterator.{YieldsList-from_chars}
use Rattle.std.proofs.lemmas.Iterator.Consumers.{YieldsList-end}
use Rattle.std.proofs.lemmas.List.{flat_map_more, map-id}
use Rattle.dom_nodes.specs.Escaping.{value_char}
use Rattle.dom_nodes.proofs.escaping.html_escape.Goals as goal

pub loop-c-preserved : goal.loop-c-preserved
loop-c-preserved c =
    c.in_ok-push_escaped.ensures ∙ (ap (λ t. t ++ value_char c.in-Some.c) c.loop-c.invariant ∙ flat_map_more value_char [] c.loop-c.yielded c.in-Some.c)

pub returns : goal.returns
returns c =
    let end = YieldsList-end (YieldsList-from_chars c.args.text.now c.utf8.text cc) c.loop-c.yielded _ c.loop-c.yielded_by _ _ c.in-None.is c.next.ensures.steps in
    c.loop-c.invariant ∙ ap (flat_map value_char) (sym (map-id c.loop-c.yielded) ∙ end.0)
