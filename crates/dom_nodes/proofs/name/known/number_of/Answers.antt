use Rattle.std.proofs.Common.{rules, ◌≡◌, length, sym, ap, ◌∙◌, subst, lit<, get_or}
use Rattle.std.proofs.lemmas.List.{nil_from_length}
use Rattle.dom_nodes.specs.declared.name.known.TheConstants.{PLACES}
use Rattle.dom_nodes.specs.KnownNames.{HasNumber}
use Rattle.dom_nodes.proofs.KnownLemmas.{known_empty, slot_in, unknown}
use Rattle.dom_nodes.proofs.name.known.number_of.Goals.{else-number-lt247-via-then-number-lt247+else-is_same_word, else-number-lt247-via-else-number-lt247}
use Rattle.dom_nodes.proofs.name.known.number_of.Goals as goal

pub returns-then-length-eq0 : goal.returns-then-length-eq0
returns-then-length-eq0 c =
    let none : length c.args.name.now ≡ 0 = search rules in
    (lit< tt, known_empty ∙ sym (nil_from_length c.args.name.now none))

pub returns : goal.returns
returns c =
    let at : c.slot_of.result ≡ slot_in c.args.name.now = c.slot_of.ensures.is ∙ ap slot_in c.as_bytes-bytes.ensures.value in
    unknown c.args.name.now (λ e. search (rules, e)) (λ h.
    let here = subst (λ i. HasNumber c.args.name.now (get_or PLACES i 0)) (sym at) h in
    elim c.else-number-lt247.branch [
      | else-number-lt247-via-then-number-lt247+else-is_same_word w ↦ search (rules, here)
      | else-number-lt247-via-else-number-lt247 w ↦ search (rules, here)
    ])
