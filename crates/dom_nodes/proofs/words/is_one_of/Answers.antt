use Rattle.std.proofs.Common.{◌≡◌, true, false, sym, ap, ◌∙◌, arith}
use Rattle.std.proofs.lemmas.List.{take_all}
use Rattle.std.proofs.lemmas.List.Folds.{list_any_at}
use Rattle.std.specs.List.{list_any}
use Rattle.std.specs.Str.{bytes_eq}
use Rattle.dom_nodes.proofs.AttrLemmas.{list_any-map}
use Rattle.dom_nodes.proofs.words.is_one_of.Goals as goal

pub returns-then-eq : goal.returns-then-eq
returns-then-eq c =
    let found : list_any (λ name. bytes_eq name.now c.args.text.now) c.args.names.now ≡ true =
    list_any_at _ c.args.names.now c.loop-name.name-index _ (omega arith) (sym c.eq.ensures ∙ c.if-eq.true) in
    sym found ∙ sym (list_any-map (λ name. name.now) (λ name. bytes_eq name c.args.text.now) c.args.names.now)

pub returns : goal.returns
returns c =
    let none : list_any (λ name. bytes_eq name.now c.args.text.now) c.args.names.now ≡ false =
    ap (list_any (λ name. bytes_eq name.now c.args.text.now)) (sym (take_all c.loop-name.name-index c.args.names.now (omega arith))) ∙ c.loop-name.invariant in
    sym none ∙ sym (list_any-map (λ name. name.now) (λ name. bytes_eq name c.args.text.now) c.args.names.now)
