use Rattle.std.proofs.Common.{encode_utf8_all, sym, ap, ◌∙◌, map-id}
use Rattle.std.proofs.lemmas.Iterator.{YieldsList-from_chars}
use Rattle.std.proofs.lemmas.Iterator.Consumers.{YieldsList-end}
use Rattle.dom_selectors.specs.Css.{css_string}
use Rattle.dom_selectors.proofs.CssLemmas.{css_more, css_closed}
use Rattle.dom_selectors.proofs.css.in_quotes.Goals as goal

pub loop-c-preserved : goal.loop-c-preserved
loop-c-preserved c = css_more _ _ c.loop-c.yielded c.in-Some.c c.in_ok-push_css.ensures c.loop-c.invariant

pub returns : goal.returns
returns c =
    let end = YieldsList-end (YieldsList-from_chars c.args.text.now c.utf8.text cc) c.loop-c.yielded _ c.loop-c.yielded_by _ _ c.in-None.is c.next.ensures.steps in
    css_closed _ _ c.loop-c.yielded c.in_ok-push-2.ensures.bytes c.loop-c.invariant ∙ ap (λ text. encode_utf8_all (css_string text)) (sym (map-id c.loop-c.yielded) ∙ end.0)
