use Rattle.std.proofs.Common.{◌≡◌, ℕ, List, false, string_bytes, ap, refl, sym, ◌∙◌}
use Rattle.std.specs.List.{list_any}
use Rattle.page_tokens.specs.Attributes.{is_named}
use Rattle.page_tokens.proofs.AttributeLemmas.{adds_new, distinct-pushed, folded-folded, length-folded, names-pushed, within-pushed}
use Rattle.page_tokens.proofs.attributes.Attributes.add.Goals as goal

pub invariant_of-push : goal.invariant_of-push
invariant_of-push c = record {
  not_empty = rw (c.make_ascii_lowercase.ensures.bytes, length-folded) c.requires;
  folded = rw c.make_ascii_lowercase.ensures.bytes (folded-folded _);
}

pub invariant_of-self : goal.invariant_of-self
invariant_of-self c =
    let new : list_any (is_named (string_bytes c.make_ascii_lowercase.new.self)) c.args.self.now.kept.items ≡ false =
    ap (λ (n : List ℕ). list_any (is_named n) c.args.self.now.kept.items) (sym c.as_str.ensures.value) ∙ sym c.has.ensures ∙ c.if-has.false in
    record {
      distinct = distinct-pushed c.push.result c.args.self.now.kept.items c.push.new.attrs.items _ c.push.ensures.ok c.push.ensures.err c.args.self.now.distinct new;
      within = within-pushed c.push.result c.args.self.now.kept.items c.push.new.attrs.items _ c.args.self.now.noted c.push.ensures.ok c.push.ensures.err c.args.self.now.within;
      names = λ name. names-pushed c.push.result c.args.self.now.kept.items c.push.new.attrs.items _ c.args.self.now.noted name _
          c.push.ensures.ok c.push.ensures.err c.args.self.now.within (c.args.self.now.names name);
    }

pub returns : goal.returns
returns c =
    let new : list_any (is_named (string_bytes c.make_ascii_lowercase.new.self)) c.args.self.now.kept.items ≡ false =
    ap (λ (n : List ℕ). list_any (is_named n) c.args.self.now.kept.items) (sym c.as_str.ensures.value) ∙ sym c.has.ensures ∙ c.if-has.false in
    adds_new c.note.result c.args.self.now.kept.items _ _ _ _ c.make_ascii_lowercase.ensures.bytes refl new (c.note.ensures ∙ c.in_ok-push.ensures.ok)
