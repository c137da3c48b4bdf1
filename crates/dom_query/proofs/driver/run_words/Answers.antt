use Rattle.std.proofs.Common.{Some, subst, sym}
use Rattle.std.proofs.lemmas.Result.{err_from_is_err_and}
use Rattle.dom_query.specs.declared.driver.Job.TheVariants.{Script, Markdown}
use Rattle.dom_query.specs.Drive.{AsksFor, Stopped, words_of}
use Rattle.dom_query.specs.Out.Ending.{done}
use Rattle.dom_query.specs.Runs.{Began, RunCause}
use Rattle.dom_query.proofs.Driving.{began-ended, began-over, fault-begun, read-as, stopped-reading, wrote-begun}
use Rattle.dom_query.proofs.driver.run_words.Goals as goal

pub returns-in_err-markup-clause-cause : goal.returns-in_err-markup-clause-cause
returns-in_err-markup-clause-cause g c =
    let p = err_from_is_err_and c.from_residual.result c.from_residual.ensures.1 in
    rw p.1 (subst (λ f. Stopped (words_of c.args.args.now) (g.R.Read.remaining c.args.input.now) (g.W.Write.contents c.args.out.now) (g.W.Write.contents c.args.out.now) (Some f)) (sym p.2)
    (stopped-reading _ _ _ c.in-Some.job _ c.in-Some.ensures c.in_err-markup.ensures.err))

pub returns-in_err-run-in-Script-clause-cause : goal.returns-in_err-run-in-Script-clause-cause
returns-in_err-run-in-Script-clause-cause g c =
    let p = err_from_is_err_and c.from_residual-in_err-run-in-Script.result c.from_residual-in_err-run-in-Script.ensures.1 in
    let asked = subst (AsksFor (words_of c.args.args.now)) c.in-Script.is c.in-Some.ensures in
    let read = read-as _ c.deref.result.now _ c.deref.ensures.value c.in_ok-markup.ensures.ok in
    let reports = subst (λ script. RunCause c.deref.result.now script (g.W.Write.contents c.args.out.now) (g.W.Write.contents c.run.new.out) c.in_err-run-in-Script.field-0.0) c.as_bytes.ensures.value c.in_err-run-in-Script.ensures.cause in
    rw p.1 (subst (λ f. Stopped (words_of c.args.args.now) (g.R.Read.remaining c.args.input.now) (g.W.Write.contents c.args.out.now) (g.W.Write.contents c.run.new.out) (Some f)) (sym p.2)
    (Script c.in-Script.script, c.deref.result.now, asked, read, reports))

pub returns-in_err-run-in-Script-clause-begun : goal.returns-in_err-run-in-Script-clause-begun
returns-in_err-run-in-Script-clause-begun g c =
    let asked = subst (AsksFor (words_of c.args.args.now)) c.in-Script.is c.in-Some.ensures in
    let read = read-as _ c.deref.result.now _ c.deref.ensures.value c.in_ok-markup.ensures.ok in
    began-over _ _ (Script c.in-Script.script) c.deref.result.now _ _ asked read
    (subst (λ script. Began c.deref.result.now script (g.W.Write.contents c.args.out.now) (g.W.Write.contents c.run.new.out)) c.as_bytes.ensures.value c.in_err-run-in-Script.ensures.begun)

pub returns-in-Script-clause-begun : goal.returns-in-Script-clause-begun
returns-in-Script-clause-begun g c =
    let asked = subst (AsksFor (words_of c.args.args.now)) c.in-Script.is c.in-Some.ensures in
    let read = read-as _ c.deref.result.now _ c.deref.ensures.value c.in_ok-markup.ensures.ok in
    began-over _ _ (Script c.in-Script.script) c.deref.result.now _ _ asked read
    (subst (λ script. Began c.deref.result.now script (g.W.Write.contents c.args.out.now) (g.W.Write.contents c.run.new.out)) c.as_bytes.ensures.value
    (began-ended c.one_output.ensures _ _ _ _ done c.in_ok-run-in-Script.ensures.done))

pub returns-in_err-write_markdown-in-Markdown-clause-cause : goal.returns-in_err-write_markdown-in-Markdown-clause-cause
returns-in_err-write_markdown-in-Markdown-clause-cause g c =
    let p = err_from_is_err_and c.from_residual-in_err-write_markdown-in-Markdown.result c.from_residual-in_err-write_markdown-in-Markdown.ensures.1 in
    let asked = subst (AsksFor (words_of c.args.args.now)) c.in-Markdown.is c.in-Some.ensures in
    let read = read-as _ c.deref-in-Markdown.result.now _ c.deref-in-Markdown.ensures.value c.in_ok-markup.ensures.ok in
    rw p.1 (subst (λ f. Stopped (words_of c.args.args.now) (g.R.Read.remaining c.args.input.now) (g.W.Write.contents c.args.out.now) (g.W.Write.contents c.write_markdown.new.out) (Some f)) (sym p.2)
    (Markdown, c.deref-in-Markdown.result.now, asked, read, c.in_err-write_markdown-in-Markdown.ensures.cause))

pub returns-in_err-write_markdown-in-Markdown-clause-begun : goal.returns-in_err-write_markdown-in-Markdown-clause-begun
returns-in_err-write_markdown-in-Markdown-clause-begun g c =
    let asked = subst (AsksFor (words_of c.args.args.now)) c.in-Markdown.is c.in-Some.ensures in
    let read = read-as _ c.deref-in-Markdown.result.now _ c.deref-in-Markdown.ensures.value c.in_ok-markup.ensures.ok in
    began-over _ _ Markdown c.deref-in-Markdown.result.now _ _ asked read (fault-begun _ _ _ _ c.in_err-write_markdown-in-Markdown.ensures.cause)

pub returns-clause-begun : goal.returns-clause-begun
returns-clause-begun g c =
    let asked = subst (AsksFor (words_of c.args.args.now)) c.in-Markdown.is c.in-Some.ensures in
    let read = read-as _ c.deref-in-Markdown.result.now _ c.deref-in-Markdown.ensures.value c.in_ok-markup.ensures.ok in
    began-over _ _ Markdown c.deref-in-Markdown.result.now _ _ asked read (wrote-begun _ _ _ c.in_ok-write_markdown-in-Markdown.ensures.done)
