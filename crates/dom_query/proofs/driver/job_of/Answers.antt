use Rattle.std.proofs.Common.{◌≡◌, rules, sym, ◌∙◌, codes}
use Rattle.dom_query.proofs.Driving.{words-alone}
use Rattle.dom_query.proofs.driver.job_of.Goals as goal

pub returns-then-eq : goal.returns-then-eq
returns-then-eq c =
    let same : c.as_str-script.result.now ≡ codes "--md" = search rules in
    words-alone c.args.words.now c.word-item.result _ c.word-item.is c.in-len1.len_at_least c.in-len1.len_below (sym c.as_str-script.ensures.value ∙ same)
