use Rattle.dom_markup.specs.Bytes.{folded}
use Rattle.dom_markup.specs.Token.{mode_of}
use Rattle.dom_markup.proofs.grammar.Items.{found_end, found_text, no_end_left, unclosed_cause}
use Rattle.dom_markup.proofs.document.front.front_in_text.Goals as goal

pub returns-in-Some : goal.returns-in-Some
returns-in-Some c = found_end (mode_of c.args.within) (folded c.args.name.now) c.args.text.now _ c.requires c.in-Some.ensures.some

pub returns-in_default-split_raw : goal.returns-in_default-split_raw
returns-in_default-split_raw c =
    let name = folded c.args.name.now in
    let mode = mode_of c.args.within in
    (no_end_left mode name c.args.text.now c.requires c.in_default-split_raw.ensures.none, unclosed_cause mode name c.args.text.now c.requires c.in_default-split_raw.ensures.none)

pub returns : goal.returns
returns c = found_text (mode_of c.args.within) (folded c.args.name.now) c.args.text.now _ _ c.requires c.in-Some-split_raw.ensures.some c.in_default.ensures.none
