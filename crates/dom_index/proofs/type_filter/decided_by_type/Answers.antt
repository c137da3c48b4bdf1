use Rattle.std.proofs.Common.{◌≡◌, true, sym, subst, arith}
use Rattle.std.proofs.lemmas.List.{get_or_read}
use Rattle.std.proofs.lemmas.Option.{IfSome_then}
use Rattle.dom_index.specs.TypeBytes.{HasTypeByte, byte_at, is_type_byte}
use Rattle.dom_index.proofs.type_filter.decided_by_type.Goals as goal

pub returns : goal.returns
returns c =
    let g = c.args.preorder.now in
    let n = c.args.n in
    let at : c.index.result.now ≡ byte_at g.type_bytes.items n = get_or_read g.type_bytes.items n c.index.result.now (let long = g.named.long in let known = c.requires in omega arith) c.index.ensures 0 in
    let here : HasTypeByte g.tree.now n c.index.result.now = record { known = c.requires; named = λ node is. subst (λ byte. is_type_byte node byte ≡ true) (sym at) (g.named.each n node is) } in
    IfSome_then c.decided.result c.decided.ensures (λ answer is compound some. is compound g.tree.now n here some)
