use Rattle.std.proofs.Common.{◌∙◌, ◌∷◌, [], None, ap, arith, length, sym, vec_len}
use Rattle.dom_links.specs.Copies.{copied_below}
use Rattle.dom_links.specs.Forest.{forest_of}
use Rattle.dom_links.proofs.copies.Copied.{count_is, first_number, no_numbers}
use Rattle.dom_links.proofs.copies.CopiedForests.{all_may, all_copied, none_left, taken_back}
use Rattle.dom_links.proofs.ops.copies.copy_one.Goals as goal

pub copy_tree-requires : goal.copy_tree-requires
copy_tree-requires g c = (c.requires.1, record { known = c.requires.3.0.known; place = tt })

pub returns-in-Ok : goal.returns-in-Ok
returns-in-Ok g c =
    let source = g.at.source in
    let ids = c.args.id ∷ [] in
    let forest = forest_of c.args.nodes.now.items in
    let way = c.copy_tree.ensures.copies.under_way in
    let count = count_is g.at c.args.other c.args.nodes.now.items (vec_len c.args.nodes.now) c.requires.1 (omega arith) in
    all_copied source ids c.args.nodes.now.items c.copy_tree.new.nodes.items c.in-Ok.made way.good c.requires.3 c.requires.0 way.linked way.numbered c.in-Ok.ensures.copies.made
    (ap (λ k. k ∷ []) (c.in-Ok.ensures.number ∙ count)
    ∙ sym (first_number source None c.args.id [] forest way.good (all_may source ids c.requires.3) ∙ ap (λ ks. length forest.content ∷ ks) (no_numbers source (copied_below source None ids forest))))

pub returns-in-Err : goal.returns-in-Err
returns-in-Err g c =
    let way = c.copy_tree.ensures.copies.under_way in
    let back = taken_back c.args.nodes.now.items c.copy_tree.new.nodes.items c.truncate.new.self.items g.at.base c.len-count.result c.requires.0 c.requires.2 way.linked way.kept (omega (arith, c.len-count.ensures)) c.truncate.ensures.items in
    none_left g.at.source (c.args.id ∷ []) c.args.nodes.now.items c.truncate.new.self.items c.in-Err.fault c.requires.0 back c.in-Err.ensures.copies.cause
