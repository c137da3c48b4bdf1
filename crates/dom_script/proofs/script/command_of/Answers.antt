use Rattle.std.proofs.Common.{rules}
use Rattle.dom_script.proofs.Lines.{bad-line}
use Rattle.dom_script.proofs.script.command_of.Goals as goal

pub returns-in-None-clause-ok : goal.returns-in-None-clause-ok
returns-in-None-clause-ok c = bad-line c.args.line.now (record {
  full = λ e. search rules;
  navigates = c.in_default.ensures;
  renders = c.in_default-rendering_of.ensures;
  attr = rw c.in_default-2.is at c.in_ok-name.ensures;
  edits = rw c.in_default-3.is at c.in_ok-edit.ensures.ok;
  sanitizes = rw c.in_default-4.is at c.in_ok-lists.ensures;
  queries = rw c.in-None.is at c.in_ok-kind.ensures;
})
