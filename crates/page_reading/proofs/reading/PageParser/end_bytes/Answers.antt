use Rattle.std.proofs.Common.{ℕ, List, [], ap, sym, ◌∙◌, ◌++◌, subst}
use Rattle.std.specs.Prelude.{encode_utf8_all}
use Rattle.std.proofs.lemmas.List.{append-nil}
use Rattle.page_trees.specs.PagesRead.{HasBuilt}
use Rattle.decoded_text.specs.Characters.{text_of}
use Rattle.text_decoding.specs.Decoding.{characters_behind}
use Rattle.page_reading.specs.StandardPages.{EndsBytes, KeepsParsed}
use Rattle.page_reading.specs.Utf8Pages.{text_behind, unmarked_if, utf8_text, with_replacements}
use Rattle.page_reading.specs.declared.utf8_pieces.Utf8Pieces.{Utf8Pieces}
use Rattle.page_reading.proofs.StandardLemmas.{on_ok}
use Rattle.page_reading.proofs.Utf8Lemmas.{is_spelt, no_mark_in_none}
use Rattle.page_reading.proofs.reading.PageParser.end_bytes.Goals as goal

pub returns-in-Ok-clause-parses : goal.returns-in-Ok-clause-parses
unfolding text_of
returns-in-Ok-clause-parses c =
    on_ok c.feed.result (KeepsParsed c.args.self.now (record c.args.self.now { reader = c.feed.new.self; bytes = c.without_mark-text.new.self })) (λ options beginning text has.
    let spelt = c.as_str.ensures.value ∙ c.in-Ok.ensures.text ∙ ap text_of has.no_bytes in
    let empty = c.without_mark-text.ensures.rest [] spelt ∙ ap encode_utf8_all (no_mark_in_none c.finish.new.self.is_start) in
    record {
      kind = has.kind;
      options_are = c.feed.ensures.options ∙ has.options_are;
      built = subst (λ (read : List ℕ). HasBuilt beginning read c.feed.new.self) (append-nil text)
          (c.feed.ensures.builds beginning text [] empty has.built);
      no_bytes = ap (λ (p : Utf8Pieces). characters_behind p.decoder []) c.without_mark-text.ensures.only ∙ c.finish.ensures.ended;
    })

-- the text of the last bytes is parsed
pub returns-in-Ok-clause-bytes : goal.returns-in-Ok-clause-bytes
returns-in-Ok-clause-bytes c =
    on_ok c.feed.result (EndsBytes c.args.self.now (record c.args.self.now { reader = c.feed.new.self; bytes = c.without_mark-text.new.self })) (λ options beginning bytes has.
    let old = c.args.self.now.bytes in
    let cs = with_replacements (characters_behind old.decoder []) in
    let last = c.without_mark-text.ensures.rest cs (c.as_str.ensures.value ∙ is_spelt _ _ c.in-Ok.ensures.text)
    ∙ ap (λ (p : Utf8Pieces). encode_utf8_all (unmarked_if p.is_start cs)) c.finish.ensures.only in
    let whole = sym (ap utf8_text (sym (append-nil bytes)) ∙ has.follows []) in
    record {
      kind = has.kind;
      options_are = c.feed.ensures.options ∙ has.options_are;
      built = subst (λ (read : List ℕ). HasBuilt beginning read c.feed.new.self) whole
          (c.feed.ensures.builds beginning has.read (text_behind old []) last has.built);
      no_bytes = ap (λ (p : Utf8Pieces). characters_behind p.decoder []) c.without_mark-text.ensures.only ∙ c.finish.ensures.ended;
    })
