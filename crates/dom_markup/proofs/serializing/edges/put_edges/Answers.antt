use Rattle.std.proofs.Common.{◌≡◌, ◌∷◌, ◌++◌, ◌∙◌, ap, append_assoc, append-nil, arith, length, subst, sym}
use Rattle.std.specs.Io.KnownBytes.{Appends}
use Rattle.std.proofs.lemmas.Result.{err_from_is_err_and}
use Rattle.dom_links.specs.Forest.{forest_of}
use Rattle.dom_markup.specs.EdgeTexts.{edge_text, edges_text}
use Rattle.dom_markup.proofs.html.WritingLemmas.{beginning-more, fault-inside, written-then}
use Rattle.dom_markup.proofs.serializing.edges.put_edges.Goals as goal

pub loop-escaper-smaller : goal.loop-escaper-smaller
loop-escaper-smaller g c =
    let taken : c.loop-escaper.edges ≡ c.in-Some.edge ∷ c.next.new.self = rw c.in-Some.is at c.in_ok-edge.ensures in
    omega (arith, ap length taken)

pub loop-escaper-preserved : goal.loop-escaper-preserved
loop-escaper-preserved g c =
    let forest = forest_of c.args.nodes.now in
    let before = c.loop-escaper.invariant in
    let mine = edge_text forest c.in-Some.edge in
    let taken : c.loop-escaper.edges ≡ c.in-Some.edge ∷ c.next.new.self = rw c.in-Some.is at c.in_ok-edge.ensures in
    record {
      front = before.front ++ mine;
      whole = append_assoc before.front mine (edges_text forest c.next.new.self) ∙ (ap (λ es. before.front ++ edges_text forest es) (sym taken) ∙ before.whole);
      written = written-then _ _ _ before.front mine before.written c.in_ok-put_edge.ensures;
    }

pub returns : goal.returns
returns g c =
    let before = c.loop-escaper.invariant in
    let none = rw c.in_default.is at c.in_ok-edge.ensures in
    subst (Appends _ _) (sym (append-nil before.front) ∙ (ap (λ es. before.front ++ edges_text (forest_of c.args.nodes.now) es) (sym none) ∙ before.whole)) before.written

pub returns-in_err-edge : goal.returns-in_err-edge
returns-in_err-edge g c =
    let before = c.loop-escaper.invariant in
    let e = err_from_is_err_and c.from_residual.result c.from_residual.ensures.1 in
    rw e.1 (record { front = before.front; back = edges_text (forest_of c.args.nodes.now) c.loop-escaper.edges; whole = before.whole; written = before.written })

pub returns-in_err-put_edge : goal.returns-in_err-put_edge
returns-in_err-put_edge g c =
    let forest = forest_of c.args.nodes.now in
    let before = c.loop-escaper.invariant in
    let taken : c.loop-escaper.edges ≡ c.in-Some.edge ∷ c.next.new.self = rw c.in-Some.is at c.in_ok-edge.ensures in
    let e = err_from_is_err_and c.from_residual-in_err-put_edge.result c.from_residual-in_err-put_edge.ensures.1 in
    rw e.1 (fault-inside _ _ _ before.front (edge_text forest c.in-Some.edge ++ edges_text forest c.next.new.self) _ before.written
    (beginning-more _ _ (edge_text forest c.in-Some.edge) (edges_text forest c.next.new.self) c.in_err-put_edge.ensures)
    (ap (λ es. before.front ++ edges_text forest es) (sym taken) ∙ before.whole))
