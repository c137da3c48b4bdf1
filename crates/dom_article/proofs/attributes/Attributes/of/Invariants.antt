use Rattle.std.proofs.Common.{◌≡◌, ◌++◌, List}
use Rattle.dom_nodes.specs.declared.name.Attr.{Attr}
use Rattle.dom_article.specs.Attributes.{AreAttributes}
use Rattle.dom_article.proofs.attributes.Attributes.of.Given as goal

-- those of the attributes behind the ones that are left were found
abbrev pub invariant-loop-attr : goal.invariant-loop-attr
invariant-loop-attr l = (done : List Attr) × (l.element.attrs ≡ l.attr-iterator.iter.rest.now ++ done) × AreAttributes done l.found
