use Rattle.std.proofs.Common.{◌≡◌, ◌++◌, ℕ, List, refl, sym, ap, ◌∙◌, string_bytes}
use Rattle.std.specs.Prelude.{Option, None, Some}
use Rattle.memchr.specs.Find.{IsFirstByte, is_byte}
use Rattle.dom_markup.specs.References.{decoded}
use Rattle.dom_markup.proofs.grammar.ReferenceLemmas.{decoded-none}
use Rattle.dom_markup.proofs.references.decode_references.Goals as goal

-- a text in which no `&` stands
unreferred : (text : List ℕ) (next : Option ℕ) → IsFirstByte (is_byte 38) text next → ((at : ℕ) → next ≡ Some at → ⊥) → decoded text ≡ text
unreferred text None first none = decoded-none text first
unreferred text (Some at) first none = absurd (none at refl)

pub returns : goal.returns
returns c =
    let end = unreferred c.loop-next.rest.now c.loop-next.next c.loop-next.invariant.first c.in_default.not-Some in
    c.from.ensures ∙ c.in_ok-push_str-2.ensures.bytes ∙ ap (λ l. string_bytes c.loop-next.read ++ l) (sym end) ∙ c.loop-next.invariant.whole
