use Rattle.std.proofs.Common.{◌++◌, subst, sym}
use Rattle.std.specs.Prelude.{IfOk}
use Rattle.decoded_text.specs.Characters.{Continues}
use Rattle.encodings.specs.declared.encoding.Encoding.{Encoding}
use Rattle.encodings.specs.declared.encoding.Encoding.TheVariants.{Replacement, SingleByte, Utf8}
use Rattle.text_decoding.specs.Decoding.{characters_from}
use Rattle.text_decoding.proofs.States.{at_end}
use Rattle.text_decoding.proofs.state.decode_into.Goals as goal

pub returns-in-Utf8-clause-continues : goal.returns-in-Utf8-clause-continues
returns-in-Utf8-clause-continues c = λ more last.
    let P : Encoding → Type 0 = λ e. IfOk c.utf8-2.result (λ end. Continues c.args.out.now (characters_from e c.args.state (c.args.bytes.now ++ more))
    c.utf8-2.new.out (characters_from e end.0 (end.1.now ++ more))) in
    subst P (sym c.in-Utf8.is) (at_end (characters_from Utf8) _ _ _ more _ (c.utf8-2.ensures.continues more last) c.utf8-2.ensures.all)

pub returns-in-Iso2022Jp-clause-continues : goal.returns-in-Iso2022Jp-clause-continues
returns-in-Iso2022Jp-clause-continues c = λ more last.
    let P : Encoding → Type 0 = λ e. IfOk c.iso_2022_jp.result (λ end. Continues c.args.out.now (characters_from e c.args.state (c.args.bytes.now ++ more))
    c.iso_2022_jp.new.out (characters_from e end.0 (end.1.now ++ more))) in
    subst P (sym c.in-Iso2022Jp.is) (c.iso_2022_jp.ensures.continues more last)

pub returns-in-Replacement-clause-continues : goal.returns-in-Replacement-clause-continues
returns-in-Replacement-clause-continues c = λ more last.
    let P : Encoding → Type 0 = λ e. IfOk c.replacement.result (λ end. Continues c.args.out.now (characters_from e c.args.state (c.args.bytes.now ++ more))
    c.replacement.new.out (characters_from e end.0 (end.1.now ++ more))) in
    subst P (sym c.in-Replacement.is) (at_end (characters_from Replacement) _ _ _ more _ (c.replacement.ensures.continues more) c.replacement.ensures.all)

pub returns-in-SingleByte-clause-continues : goal.returns-in-SingleByte-clause-continues
returns-in-SingleByte-clause-continues c = λ more last.
    let P : Encoding → Type 0 = λ e. IfOk c.single_byte.result (λ end. Continues c.args.out.now (characters_from e c.args.state (c.args.bytes.now ++ more))
    c.single_byte.new.out (characters_from e end.0 (end.1.now ++ more))) in
    subst P (sym c.in-SingleByte.is) (at_end (characters_from (SingleByte c.in-SingleByte.single)) _ _ _ more _ (c.single_byte.ensures.continues more) c.single_byte.ensures.all)
