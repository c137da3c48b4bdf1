use Rattle.std.proofs.Common.{◌≡◌, ◌∙◌, ◌++◌, ap, false, subst, sym}
use Rattle.std.proofs.lemmas.Option.{slice_get_within}
use Rattle.dom_links.specs.Forest.{children_of, forest_of}
use Rattle.dom_links.specs.Lists.{first}
use Rattle.dom_mini.specs.Descents.{IsDescent, IsPassed, flags_after, still_found, waiting}
use Rattle.dom_mini.specs.MiniPaths.{IsFound}
use Rattle.dom_mini.specs.PathFlags.{data_at, is_led}
use Rattle.dom_select.specs.Selected.{one_if}
use Rattle.dom_mini.proofs.DescentLemmas.{begun, behind, ended, fewer, from_start, known_at, step_of, visited}
use Rattle.dom_mini.proofs.PathLemmas.{found_none, found_right}
use Rattle.dom_mini.proofs.SearchLemmas.{data_is}
use Rattle.dom_mini.proofs.mini_selector.descent.follow_down.Goals as goal

pub returns-in_default : goal.returns-in_default
returns-in_default c =
    let forest = forest_of c.args.nodes.now in
    let good = c.requires.sound.forest in
    subst (IsFound c.args.path.now forest c.args.start) (sym c.new-found.ensures.items)
    (found_none forest good (c.lines_of_a_forest.ensures forest good) (c.trees_of_a_forest.ensures forest good) c.args.path.now c.args.start c.in_default.ensures)

pub loop-next-init : goal.loop-next-init
loop-next-init c =
    let forest = forest_of c.args.nodes.now in
    let good = c.requires.sound.forest in
    record {
      search = begun forest c.args.path.now (c.trees_of_a_forest.ensures forest good) (c.lines_of_a_forest.ensures forest good) c.requires.down c.args.start c.new-found.result.items c.new-pending.result.items c.get-next.result
          c.new-found.ensures.items c.new-pending.ensures.items (c.get-next.ensures ∙ c.in-Some.ensures.first_is) c.requires.some;
      ended = λ _. c.new-pending.ensures.items;
    }

pub node_at-node-requires-clause-known : goal.node_at-node-requires-clause-known
node_at-node-requires-clause-known c =
    (known_at (forest_of c.args.nodes.now) c.args.path.now c.loop-next.pending.items c.loop-next.next c.in-Some-next.id c.loop-next.passed c.in-Some-next.is c.loop-next.invariant.search.known).1

pub count_passed-requires-clause-few : goal.count_passed-requires-clause-few
count_passed-requires-clause-few c =
    (known_at (forest_of c.args.nodes.now) c.args.path.now c.loop-next.pending.items c.loop-next.next c.in-Some-next.id c.loop-next.passed c.in-Some-next.is c.loop-next.invariant.search.known).2

-- what waits behind the node
waits : (c : goal.After-predict_next-next) →
    c.go_on.new.pending.items ++ waiting c.predict_next-next.result c.go_on.new.passed ≡ behind (forest_of c.args.nodes.now) c.loop-next.pending.items c.in-Some-next.id c.loop-next.passed c.in_ok-below.below
waits c = step_of (forest_of c.args.nodes.now) c.loop-next.pending.items c.go_on.new.pending.items c.in-Some-next.id c.loop-next.passed c.in_ok-below.below c.go_on.new.passed _ _ c.in_ok-after.after c.predict_next-next.result
    c.predict_next-next.ensures c.node_at-node.ensures.next_is c.node_at-node.ensures.first_is c.in_ok-after.ensures.waits

pub loop-next-smaller : goal.loop-next-smaller
loop-next-smaller c =
    let forest = forest_of c.args.nodes.now in
    let known = (known_at forest c.args.path.now c.loop-next.pending.items c.loop-next.next c.in-Some-next.id c.loop-next.passed c.in-Some-next.is c.loop-next.invariant.search.known).1 in
    let less = fewer forest c.args.path.now (c.trees_of_a_forest.ensures forest c.requires.sound.forest) (c.lines_of_a_forest.ensures forest c.requires.sound.forest) c.requires.down
    c.loop-next.pending.items _ c.in-Some-next.id c.loop-next.passed c.in_ok-below.below known (waits c) in
    rw c.in-Some-next.is less

pub loop-next-preserved : goal.loop-next-preserved
loop-next-preserved c =
    let forest = forest_of c.args.nodes.now in
    let good = c.requires.sound.forest in
    let path = c.args.path.now in
    let pending = c.loop-next.pending.items in
    let id = c.in-Some-next.id in
    let node = c.node_at-node.result.now.content in
    let same : node ≡ data_at forest id = sym (data_is forest.content id node c.node_at-node.ensures.content_is) in
    let all = still_found forest path (waiting (first (children_of forest c.args.start)) 0) in
    record {
      search = visited forest path (c.trees_of_a_forest.ensures forest good) (c.lines_of_a_forest.ensures forest good) c.requires.down c.loop-next.found.items c.count_passed.new.found.items all pending _ id c.loop-next.passed c.in_ok-below.below
          (subst (λ o. IsDescent forest path all c.loop-next.found.items (pending ++ waiting o c.loop-next.passed)) c.in-Some-next.is c.loop-next.invariant.search)
          (subst (λ n. IsPassed path n c.loop-next.passed c.in_ok-below.below) same c.in_ok-below.ensures.below)
          (c.in_ok-below.ensures.found ∙ ap (λ n. c.loop-next.found.items ++ one_if (is_led path n false (flags_after path c.loop-next.passed)) id) same)
          (waits c);
      ended = λ e. c.in_ok-after.ensures.last (sym c.predict_next-next.ensures ∙ e);
    }

pub returns : goal.returns
returns c =
    let forest = forest_of c.args.nodes.now in
    let good = c.requires.sound.forest in
    let path = c.args.path.now in
    let lines = c.lines_of_a_forest.ensures forest good in
    let whole = c.trees_of_a_forest.ensures forest good in
    let known = slice_get_within forest.content c.args.start _ c.in-Some.ensures.content_is in
    let all = ended forest path whole lines c.requires.down _ c.loop-next.found.items c.loop-next.pending.items c.loop-next.next c.loop-next.passed c.in_default-next.is (c.loop-next.invariant.ended c.in_default-next.is) c.loop-next.invariant.search in
    subst (IsFound path forest c.args.start) (sym (all ∙ sym (from_start forest path whole lines c.requires.down c.args.start c.requires.some)))
    (found_right forest good lines whole path c.args.start known)
