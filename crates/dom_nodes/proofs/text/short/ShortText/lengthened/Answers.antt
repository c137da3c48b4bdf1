use Rattle.std.proofs.Common.{rules, ◌≡◌, ◌+◌, ◌-◌, length, sym, subst}
use Rattle.std.specs.Prelude.{IsUtf8, take}
use Rattle.std.proofs.lemmas.Slice.{take-put_mid}
use Rattle.std.proofs.lemmas.Str.{IsUtf8-append}
use Rattle.dom_nodes.proofs.text.short.ShortText.lengthened.Goals as goal

pub invariant_of-result : goal.invariant_of-result
invariant_of-result c =
    let count = c.self.inside.length in
    let more = c.args.more.now in
    let is : c.copy_from_slice.new.self ≡ more = search rules in
    let utf8 : IsUtf8 c.copy_from_slice.new.self = subst IsUtf8 (sym is) c.utf8.more in
    let whole = take-put_mid count (count + length more - count) c.self.inside.bytes c.copy_from_slice.new.self (count + length more) (search rules) (search rules) in
    (search rules, subst IsUtf8 (sym whole) (IsUtf8-append (take count c.self.inside.bytes) c.copy_from_slice.new.self c.self.invariant.1 utf8))
