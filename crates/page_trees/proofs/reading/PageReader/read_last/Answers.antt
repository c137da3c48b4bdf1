use Rattle.std.proofs.Common.{ap, refl}
use Rattle.page_trees.specs.declared.reading.PageReader.{PageReader}
use Rattle.page_trees.proofs.PageTurns.{rest_told}
use Rattle.page_trees.proofs.reading.PageReader.read_last.Goals as goal

pub returns-clause-ends : goal.returns-clause-ends
returns-clause-ends c =
    rest_told c.in_ok-kind.kind c.args.self.now (record c.args.self.now { tokens = c.end_kind.new.self }) c.tell_last.new.self c.switch.new.self c.pages.ensures.end refl
    c.in_ok-kind.ensures.stops c.tell_last.ensures.limits (c.tell_last.ensures.builds c.in_ok-kind.ensures.no_tag) (ap (λ (r : PageReader). r.builder) c.switch.ensures)
