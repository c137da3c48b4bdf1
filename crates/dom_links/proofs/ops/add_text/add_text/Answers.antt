use Rattle.std.proofs.Common.{◌≡◌, ◌∙◌, ap, arith, length, rules, sym}
use Rattle.std.proofs.lemmas.Grind.{common_steps}
use Rattle.std.proofs.lemmas.List.{with_items_is}
use Rattle.std.proofs.lemmas.Result.{on_ok_weaker}
use Rattle.std.specs.Prelude.{Some}
use Rattle.dom_links.specs.AddedTexts.{text_before, lengthened}
use Rattle.dom_links.specs.Contents.{Changed, with_content}
use Rattle.dom_links.specs.Forest.{forest_of}
use Rattle.dom_links.proofs.texts.AddingTexts.{some_before}
use Rattle.dom_links.proofs.ops.add_text.add_text.Goals as goal

pub returns : goal.returns
returns c =
    let forest = forest_of c.args.nodes.now.items in
    let same : length c.lengthen.new.nodes ≡ length c.deref_mut.result.now = omega arith in
    let whole : length c.lengthen.new.nodes ≡ c.args.nodes.now.len = same ∙ c.deref_mut.ensures.len in
    let before : Some c.in-Some.before ≡ text_before c.args.gap forest = sym c.in-Some.is ∙ c.text_before.ensures ∙ ap (λ nodes. text_before c.args.gap (forest_of nodes)) c.deref.ensures.value in
    record {
      made = on_ok_weaker c.lengthen.result (λ done.
          ap forest_of (with_items_is c.args.nodes.now c.lengthen.new.nodes whole)
          ∙ Changed.made done
          ∙ ap (λ nodes. with_content c.in-Some.before (lengthened c.args.text.now) (forest_of nodes)) c.deref_mut.ensures.value
          ∙ some_before c.args.gap c.args.text.now forest c.in-Some.before before) c.lengthen.ensures.ok;
      err = grind (arith, common_steps);
      cause = search rules;
      sound = grind (arith, common_steps);
    }
