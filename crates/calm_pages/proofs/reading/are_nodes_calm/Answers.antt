use Rattle.std.proofs.Common.{◌≡◌, ℕ, suc, ◌+◌, List, [], ◌∷◌, ◌++◌, Some, None, drop, length, sym, ap, ◌∙◌, arith}
use Rattle.std.proofs.lemmas.List.{length_push}
use Rattle.dom_markup.specs.Numbered.{rows_from}
use Rattle.calm_pages.specs.Calm.{top}
use Rattle.calm_pages.specs.Scopes.{next_scope}
use Rattle.calm_pages.specs.declared.nesting.Scope.{Scope}
use Rattle.calm_pages.proofs.NodeRows.{IsRead, node_below, node_next, nodes_none}
use Rattle.calm_pages.proofs.ScopeLemmas.{all_fit, rows_fit}
use Rattle.calm_pages.proofs.reading.are_nodes_calm.Goals as goal

pub loop-node-init : goal.loop-node-init
loop-node-init c =
    let items : c.push.new.self.items ≡ top ∷ [] = c.in_ok-push.ensures.items ∙ ap (λ (s : List Scope). s ++ top ∷ []) c.in_ok-scopes.ensures.items in
    record {
      each = ap length items;
      left = λ trees e. ap (λ (s : List Scope). all_fit s (rows_from 0 1 trees)) items ∙ rows_fit trees;
    }

pub returns-in_default : goal.returns-in_default
returns-in_default c = λ trees e.
    let read : IsRead c.nodes.result.now trees = record { sound = c.nodes.ensures.sound; same = c.nodes.ensures.value ∙ e } in
    let here = node_below c.nodes.result.now c.loop-node.node-index c.node-item.result c.loop-node-test.true c.node-item.is in
    let scopes = c.loop-node.scopes.items in
    sym (node_next c.nodes.result.now trees read scopes c.loop-node.node-index c.node-item.result here.at here.low c.loop-node.invariant.each None
    (c.in_default.ensures ∙ ap (λ (s : List Scope). next_scope s c.node-item.result.parent c.node-item.result.content) c.deref.ensures.value))
    ∙ c.loop-node.invariant.left trees e

pub loop-node-preserved : goal.loop-node-preserved
loop-node-preserved c =
    let scopes = c.loop-node.scopes.items in
    let i = c.loop-node.node-index in
    let items : c.push-in-loop-node.new.self.items ≡ scopes ++ c.in-Some.scope ∷ [] = c.in_ok-push-2.ensures.items in
    let each : length scopes ≡ suc i = c.loop-node.invariant.each in
    let many : length c.push-in-loop-node.new.self.items ≡ length scopes + 1 = ap length items ∙ length_push scopes c.in-Some.scope in
    let next : i + 1 ≡ suc i = omega arith in
    record {
      each = omega (arith, each, many);
      left = λ trees e. (
          let read : IsRead c.nodes.result.now trees = record { sound = c.nodes.ensures.sound; same = c.nodes.ensures.value ∙ e } in
          let here = node_below c.nodes.result.now i c.node-item.result c.loop-node-test.true c.node-item.is in
          ap (λ (s : List Scope). all_fit s (drop (i + 1) (rows_from 0 1 trees))) items
          ∙ ap (λ (k : ℕ). all_fit (scopes ++ c.in-Some.scope ∷ []) (drop k (rows_from 0 1 trees))) next
          ∙ sym (node_next c.nodes.result.now trees read scopes i c.node-item.result here.at here.low each (Some c.in-Some.scope)
          (c.in-Some.ensures ∙ ap (λ (s : List Scope). next_scope s c.node-item.result.parent c.node-item.result.content) c.deref.ensures.value))
          ∙ c.loop-node.invariant.left trees e
          );
    }

pub returns : goal.returns
returns c = λ trees e.
    let read : IsRead c.nodes.result.now trees = record { sound = c.nodes.ensures.sound; same = c.nodes.ensures.value ∙ e } in
    sym (nodes_none c.nodes.result.now trees read c.loop-node.scopes.items c.loop-node.node-index c.loop-node-test.false) ∙ c.loop-node.invariant.left trees e
