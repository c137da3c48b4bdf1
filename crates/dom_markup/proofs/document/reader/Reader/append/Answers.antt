use Rattle.std.proofs.Common.{refl, ℕ, length, subst}
use Rattle.dom_links.specs.Growth.{with_child}
use Rattle.dom_markup.specs.TreeUnderConstruction.{GrowsTo}
use Rattle.dom_markup.proofs.rows.Steps.{may_grow}
use Rattle.dom_markup.proofs.document.reader.Reader.append.Goals as goal

pub append-requires-clause-may : goal.append-requires-clause-may
append-requires-clause-may c = may_grow c.args.self.now c.parent-parent.result c.parent-parent.ensures c.requires.reading

pub returns : goal.returns
returns c =
    let old = c.args.self.now.tree in
    record {
      stack = refl;
      grown = subst (λ (p : ℕ). GrowsTo c.append.result c.append.new.self (length old.content) (with_child p c.args.content old)) c.parent-parent.ensures c.append.ensures;
    }
