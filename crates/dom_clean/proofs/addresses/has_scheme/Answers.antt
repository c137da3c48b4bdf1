use Rattle.std.proofs.Common.{◌≡◌, true, false, arith, sym, ◌∙◌, string_bytes}
use Rattle.std.specs.Str.{bytes_eq}
use Rattle.dom_nodes.proofs.AttrLemmas.{list_any-map}
use Rattle.dom_clean.proofs.Searches.{none_more, none_passes, one_passes}
use Rattle.dom_clean.proofs.addresses.has_scheme.Goals as goal

pub loop-one-preserved : goal.loop-one-preserved
loop-one-preserved c =
    let failed : bytes_eq (string_bytes c.one-item.result) c.args.scheme.now ≡ false = cc in
    none_more (λ one. bytes_eq (string_bytes one) c.args.scheme.now) c.args.schemes.now c.loop-one.one-index c.one-item.result (omega arith) c.one-item.is c.loop-one.invariant failed

pub returns-then-is_same_word : goal.returns-then-is_same_word
returns-then-is_same_word c =
    let passed : bytes_eq (string_bytes c.one-item.result) c.args.scheme.now ≡ true = cc in
    sym (list_any-map string_bytes (λ word. bytes_eq word c.args.scheme.now) c.args.schemes.now ∙ one_passes (λ one. bytes_eq (string_bytes one) c.args.scheme.now) c.args.schemes.now c.loop-one.one-index c.one-item.result (omega arith) c.one-item.is passed)

pub returns : goal.returns
returns c = sym (list_any-map string_bytes (λ word. bytes_eq word c.args.scheme.now) c.args.schemes.now ∙ none_passes (λ one. bytes_eq (string_bytes one) c.args.scheme.now) c.args.schemes.now c.loop-one.one-index (omega arith) c.loop-one.invariant)
