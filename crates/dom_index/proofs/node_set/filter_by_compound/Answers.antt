use Rattle.std.proofs.Common.{◌<◌, ◌≡◌, ◌+◌, ◌∙◌, sym, ap, map, subst, length, replicate, true, false, arith}
use Rattle.std.proofs.lemmas.List.{length-map, length-set, get_or_read}
use Rattle.std.proofs.lemmas.List.Sums.{count_by_more_yes}
use Rattle.std.proofs.lemmas.Grind.{common_steps}
use Rattle.dom_select.specs.Answers.{AreAnswers}
use Rattle.dom_select.specs.Meaning.{Holds}
use Rattle.dom_selectors.specs.ListsAsTrees.{lists_of}
use Rattle.dom_selectors.specs.ValuesAsTrees.{read_compound, read_nested}
use Rattle.dom_index.specs.NodeSets.{in_set}
use Rattle.dom_index.proofs.FillLemmas.{all_answered, one_more_decided, written_elsewhere}
use Rattle.dom_index.proofs.ForwardLemmas.{decided_by}
use Rattle.dom_index.proofs.node_set.filter_by_compound.Goals as goal

pub compound_holds-requires-clause-prepared : goal.compound_holds-requires-clause-prepared
compound_holds-requires-clause-prepared c =
    let lists = map read_nested c.args.compound.now.nested.items in
    let forest = c.args.preorder.now.tree.now in
    let n = c.loop-n.n in
    let known : n < length forest.content = omega (arith, c.loop-n.invariant.long) in
    let here = c.requires.lists n known (sym (c.loop-n.invariant.left n (omega arith)) ∙ (sym (get_or_read c.loop-n.table.items _ _ (omega arith) c.index.ensures false) ∙ c.if-not-index.false)) in
    let all = all_answered lists forest n here in
    let long : c.len.result ≡ length lists = c.len.ensures ∙ (omega arith) ∙ sym (length-map c.args.compound.now.nested.items read_nested) in
    let answers : c.in_ok-vec.field-0.items ≡ replicate (length lists) true = c.in_ok-vec.ensures.items_if_clones_equal (λ y h. h) ∙ ap (λ m. replicate m true) long in
    record {
      known = known;
      filter = c.type_filter_of.ensures;
      answered = subst (AreAnswers (lists_of lists) forest n) (sym answers) all;
      caches_are = c.loop-n.invariant.kept;
    }

pub loop-n-preserved : goal.loop-n-preserved
loop-n-preserved c =
    let n = c.loop-n.n in
    let table = c.loop-n.table.items in
    let wanted = c.args.wanted.items in
    let forest = c.args.preorder.now.tree.now in
    let inside : n < length table = omega arith in
    let whole = c.requires.wanted in
    let long = c.loop-n.invariant.long in
    let here : in_set wanted n ≡ true = sym (c.loop-n.invariant.left n (omega arith)) ∙ (sym (get_or_read table _ _ inside c.index.ensures false) ∙ c.if-not-index.false) in
    record {
      long = length-set table n c.compound_holds.result ∙ long;
      few = omega (arith, c.compound_holds.ensures.counted, c.loop-n.invariant.few);
      counted = c.compound_holds.ensures.counted ∙ (ap (λ k. k + 1) c.loop-n.invariant.counted ∙ sym (count_by_more_yes (λ b. b) wanted n false (omega arith) here));
      kept = c.compound_holds.ensures.kept ∙ c.loop-n.invariant.kept;
      answer = one_more_decided (λ m. (in_set wanted m ≡ true) × Holds (read_compound c.args.compound.now) forest m) table n c.compound_holds.result inside c.loop-n.invariant.answer
          (decided_by c.compound_holds.result _ _ (λ holds. (here, holds)) (λ both. both.1) c.compound_holds.ensures.is);
      left = λ m past. written_elsewhere table n m c.compound_holds.result (λ e. omega arith) ∙ c.loop-n.invariant.left m (omega arith);
    }

pub loop-n-preserved-then-not-index : goal.loop-n-preserved-then-not-index
loop-n-preserved-then-not-index c = grind (arith, common_steps)

pub returns-clause-counted : goal.returns-clause-counted
returns-clause-counted c = grind (arith, common_steps)

pub returns-clause-tests : goal.returns-clause-tests
returns-clause-tests c = grind (arith, common_steps)
