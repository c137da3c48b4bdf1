use Rattle.std.proofs.Common.{◌≡◌, true, false, arith, sym, ◌∙◌, string_bytes}
use Rattle.std.specs.Str.{bytes_eq}
use Rattle.dom_nodes.proofs.AttrLemmas.{list_any-map}
use Rattle.dom_clean.specs.declared.lists.OwnAttribute.{OwnAttribute}
use Rattle.dom_clean.proofs.Searches.{none_more, none_passes, one_passes}
use Rattle.dom_clean.proofs.policy.has_own.Goals as goal

pub loop-own-preserved : goal.loop-own-preserved
loop-own-preserved c =
    let failed : bytes_eq (string_bytes c.own-item.result.attribute) c.args.name.now ≡ false = cc in
    none_more (λ own. bytes_eq (string_bytes own.attribute) c.args.name.now) c.args.names.now c.loop-own.own-index c.own-item.result (omega arith) c.own-item.is c.loop-own.invariant failed

pub returns-then-eq : goal.returns-then-eq
returns-then-eq c =
    let passed : bytes_eq (string_bytes c.own-item.result.attribute) c.args.name.now ≡ true = cc in
    sym (list_any-map (λ (own : OwnAttribute). string_bytes own.attribute) (λ word. bytes_eq word c.args.name.now) c.args.names.now ∙ one_passes (λ own. bytes_eq (string_bytes own.attribute) c.args.name.now) c.args.names.now c.loop-own.own-index c.own-item.result (omega arith) c.own-item.is passed)

pub returns : goal.returns
returns c = sym (list_any-map (λ (own : OwnAttribute). string_bytes own.attribute) (λ word. bytes_eq word c.args.name.now) c.args.names.now ∙ none_passes (λ own. bytes_eq (string_bytes own.attribute) c.args.name.now) c.args.names.now c.loop-own.own-index (omega arith) c.loop-own.invariant)
