use Rattle.std.proofs.Common.{◌≡◌, true, false, arith, sym, ◌∙◌, string_bytes}
use Rattle.std.specs.Str.{bytes_eq}
use Rattle.dom_nodes.proofs.AttrLemmas.{list_any-map}
use Rattle.dom_clean.proofs.Searches.{none_more, none_passes, one_passes}
use Rattle.dom_clean.proofs.lists.is_among.Goals as goal

pub loop-name-preserved : goal.loop-name-preserved
loop-name-preserved c =
    let failed : bytes_eq (string_bytes c.name-item.result) c.args.text.now ≡ false = cc in
    none_more (λ name. bytes_eq (string_bytes name) c.args.text.now) c.args.names.now c.loop-name.name-index c.name-item.result (omega arith) c.name-item.is c.loop-name.invariant failed

pub returns-then-eq : goal.returns-then-eq
returns-then-eq c =
    let passed : bytes_eq (string_bytes c.name-item.result) c.args.text.now ≡ true = cc in
    sym (list_any-map string_bytes (λ word. bytes_eq word c.args.text.now) c.args.names.now ∙ one_passes (λ name. bytes_eq (string_bytes name) c.args.text.now) c.args.names.now c.loop-name.name-index c.name-item.result (omega arith) c.name-item.is passed)

pub returns : goal.returns
returns c = sym (list_any-map string_bytes (λ word. bytes_eq word c.args.text.now) c.args.names.now ∙ none_passes (λ name. bytes_eq (string_bytes name) c.args.text.now) c.args.names.now c.loop-name.name-index (omega arith) c.loop-name.invariant)
