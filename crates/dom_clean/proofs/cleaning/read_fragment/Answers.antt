use Rattle.std.proofs.Common.{subst, sym}
use Rattle.std.specs.Prelude.{IfOk, codes}
use Rattle.std.specs.Str.{chars}
use Rattle.standard_trees.specs.Building.{Surroundings}
use Rattle.page_reading.specs.StandardPages.{IsFragmentInLimit, IsStandardFragment}
use Rattle.page_trees.specs.declared.reading.Options.{Options}
use Rattle.dom_clean.specs.StandardSources.{in_div, source_options}
use Rattle.dom_clean.proofs.StandardSources.{div_surrounds, div_unspaced, named_in}
use Rattle.dom_clean.proofs.cleaning.read_fragment.Goals as goal

pub returns : goal.returns
returns c = λ limit.
    let text = chars c.args.source.now in
    let options = c.reading_options.result in
    subst (λ (around : Surroundings). IfOk c.parse_page_fragment.result (IsStandardFragment source_options around text)) div_surrounds
    (subst (λ (o : Options). IfOk c.parse_page_fragment.result (IsStandardFragment o (named_in (chars (codes "div"))) text)) c.reading_options.ensures
    (c.parse_page_fragment.ensures.standard div_unspaced
    (subst (λ (around : Surroundings). IsFragmentInLimit options around text) (sym div_surrounds) (subst (λ (o : Options). IsFragmentInLimit o in_div text) (sym c.reading_options.ensures) limit))))
