use Rattle.std.proofs.Common.{◌∙◌, ap}
use Rattle.dom_article.specs.Names.{kind_of}
use Rattle.dom_article.proofs.KindLemmas.{kept_kinds}
use Rattle.dom_article.proofs.kinds.Kinds.kind_of.Goals as goal

pub returns-clause-kept : goal.returns-clause-kept
returns-clause-kept c =
    kept_kinds c.args.self.now.known.items c.keep.new.self.known.items c.in-Some.number c.kind_named-kind.result c.args.name.now c.keep.ensures c.in-Some.ensures.1
    (c.kind_named-kind.ensures ∙ ap (λ ks. kind_of ks) c.as_str-2.ensures) c.requires
