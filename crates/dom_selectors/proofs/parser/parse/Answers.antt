use Rattle.std.proofs.Common.{◌≡◌, sym, ◌∙◌, [], ap, subst, length, arith}
use Rattle.std.proofs.lemmas.Grind.{common_steps}
use Rattle.dom_selectors.specs.Spelling.{SpellsNone}
use Rattle.dom_selectors.specs.Characters.{after_white}
use Rattle.dom_selectors.specs.Grammar.{SpellsInner, SpellsList, whole}
use Rattle.dom_selectors.specs.ValuesAsTrees.{read_list}
use Rattle.dom_selectors.proofs.FaultLemmas.{passes_on}
use Rattle.dom_selectors.proofs.DeepLemmas.{IsWithin, refused_within, within_white}
use Rattle.dom_selectors.proofs.RefusalLemmas.{none_without_list, none_before_more}
use Rattle.dom_selectors.proofs.parser.parse.Goals as goal

pub returns-in_err-list : goal.returns-in_err-list
returns-in_err-list c =
    let text = c.args.text.now in
    let inside : IsWithin c.after_white.result.now text = subst (λ t. IsWithin t text) (sym c.after_white.ensures) (within_white text) in
    passes_on c.from_residual.result _ _ c.from_residual.ensures.1
    (refused_within whole _ c.after_white.result.now text _ _ inside (λ refused. none_without_list text (subst (SpellsNone (SpellsList whole (SpellsInner whole))) c.after_white.ensures refused)) c.in_err-list.ensures)

pub returns-then-not-is_empty : goal.returns-then-not-is_empty
returns-then-not-is_empty c =
    let list = read_list c.in_ok-list.list.items in
    let spelled = subst (λ t. SpellsList whole (SpellsInner whole) list t c.in_ok-list.after.now) c.after_white.ensures c.in_ok-list.ensures in
    let more : after_white c.in_ok-list.after.now ≡ [] → ⊥ = λ e. let none = ap length (c.after_white-2.ensures ∙ e) in grind (arith, common_steps) in
    none_before_more c.args.text.now c.in_ok-list.after.now list spelled more
