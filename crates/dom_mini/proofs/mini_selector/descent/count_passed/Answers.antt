use Rattle.std.proofs.Common.{◌∙◌, false, length, refl, sym, arith}
use Rattle.std.proofs.lemmas.Option.{slice_get_read}
use Rattle.dom_mini.proofs.DescentLemmas.{at_last, goes_on, led_last, led_later, none_more, not_led, one_more, stays}
use Rattle.dom_mini.proofs.mini_selector.descent.count_passed.Goals as goal

pub returns-then-not-match_data-clause-below : goal.returns-then-not-match_data-clause-below
returns-then-not-match_data-clause-below c =
    let path = c.args.path.now in
    let mini = slice_get_read path (length path) c.args.passed c.index-path-passed.result refl c.requires.few c.index-path-passed.is in
    record {
      flags = stays c.args.node.now path false c.args.passed c.index-path-passed.result c.requires.down mini (sym c.match_data.ensures ∙ c.if-not-match_data.true);
      few = c.requires.few;
    }

pub returns-then-not-match_data-clause-found : goal.returns-then-not-match_data-clause-found
returns-then-not-match_data-clause-found c =
    let path = c.args.path.now in
    let mini = slice_get_read path (length path) c.args.passed c.index-path-passed.result refl c.requires.few c.index-path-passed.is in
    none_more c.args.found.now.items c.args.id _ (not_led c.args.node.now path false c.args.passed c.index-path-passed.result mini (sym c.match_data.ensures ∙ c.if-not-match_data.true))

pub returns-then-passed-path-clause-below : goal.returns-then-passed-path-clause-below
returns-then-passed-path-clause-below c =
    let path = c.args.path.now in
    let mini = slice_get_read path (length path) c.args.passed c.index-path-passed.result refl c.requires.few c.index-path-passed.is in
    record {
      flags = goes_on c.args.node.now path c.args.passed c.index-path-passed.result c.requires.down mini (sym c.match_data.ensures ∙ c.if-not-match_data.false) (omega (arith, c.if-passed-path.true));
      few = omega (arith, c.if-passed-path.true);
    }

pub returns-then-passed-path-clause-found : goal.returns-then-passed-path-clause-found
returns-then-passed-path-clause-found c =
    none_more c.args.found.now.items c.args.id _ (led_later c.args.node.now c.args.path.now false c.args.passed (omega (arith, c.if-passed-path.true)))

pub returns-clause-below : goal.returns-clause-below
returns-clause-below c =
    record {
      flags = at_last c.args.node.now c.args.path.now false c.args.passed c.requires.down (omega (arith, c.requires.few, c.if-passed-path.false));
      few = c.requires.few;
    }

pub returns-clause-found : goal.returns-clause-found
returns-clause-found c =
    let path = c.args.path.now in
    let mini = slice_get_read path (length path) c.args.passed c.index-path-passed.result refl c.requires.few c.index-path-passed.is in
    c.in_ok-push.ensures.items
    ∙ one_more c.args.found.now.items c.args.id _
    (led_last c.args.node.now path false c.args.passed c.index-path-passed.result mini (sym c.match_data.ensures ∙ c.if-not-match_data.false) (omega (arith, c.requires.few, c.if-passed-path.false)))
