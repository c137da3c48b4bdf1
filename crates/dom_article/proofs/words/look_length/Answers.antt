use Rattle.std.proofs.Common.{◌∙◌, sym}
use Rattle.dom_article.proofs.WordLemmas.{no_look}
use Rattle.dom_article.proofs.words.look_length.Goals as goal

pub returns-then-not-may_be_look : goal.returns-then-not-may_be_look
returns-then-not-may_be_look c = sym (no_look c.args.text.now (sym c.may_be_look.ensures ∙ c.if-not-may_be_look.true))
