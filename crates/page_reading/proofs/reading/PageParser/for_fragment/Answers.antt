use Rattle.std.proofs.Common.{[], ap, refl, sym, true, ◌∙◌}
use Rattle.text_decoding.specs.Decoding.{characters_behind}
use Rattle.page_reading.specs.Utf8Pages.{unmarked_if, with_replacements}
use Rattle.page_reading.proofs.Utf8Lemmas.{nothing_behind}
use Rattle.page_reading.proofs.reading.PageParser.for_fragment.Goals as goal

pub returns-clause-begins : goal.returns-clause-begins
returns-clause-begins c unspaced = record {
  kind = refl;
  options_are = c.in_ok-reader.ensures.options;
  built = c.in_ok-reader.ensures.begins unspaced;
  no_bytes = nothing_behind c.new.result.decoder c.new.ensures.decoder;
}

pub returns-clause-bytes : goal.returns-clause-bytes
returns-clause-bytes c unspaced = record {
  kind = refl;
  options_are = c.in_ok-reader.ensures.options;
  read = [];
  built = c.in_ok-reader.ensures.begins unspaced;
  follows = λ more.
      ap (λ text. unmarked_if true (with_replacements text)) (sym (c.new.ensures.decoder more))
      ∙ ap (λ first. unmarked_if first (with_replacements (characters_behind c.new.result.decoder more))) (sym c.new.ensures.start);
}
