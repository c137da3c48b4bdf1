use Rattle.std.proofs.Common.{◌∙◌, ap, sym}
use Rattle.std.proofs.lemmas.Iterator.{YieldsList-from_chars}
use Rattle.std.proofs.lemmas.Iterator.Consumers.{YieldsList-end}
use Rattle.std.proofs.lemmas.List.{map-id}
use Rattle.dom_article.specs.Contents.{no_text, with_char, with_chars}
use Rattle.dom_article.specs.declared.texts.TextFacts.{TextFacts}
use Rattle.dom_article.proofs.ContentLemmas.{with_more}
use Rattle.dom_article.proofs.texts.TextFacts.of_chars.Goals as goal

pub loop-c-preserved : goal.loop-c-preserved
loop-c-preserved c =
    c.add.ensures ∙ (ap (λ (f : TextFacts). with_char f c.in-Some.c) c.loop-c.invariant ∙ sym (with_more no_text c.loop-c.yielded c.in-Some.c))

pub returns : goal.returns
returns c =
    let end = YieldsList-end (YieldsList-from_chars c.args.text.now c.utf8.text cc) c.loop-c.yielded _ c.loop-c.yielded_by _ _ c.in-None.is c.next.ensures.steps in
    c.loop-c.invariant ∙ ap (λ cs. with_chars no_text cs) (sym (map-id c.loop-c.yielded) ∙ end.0)
