use Rattle.std.proofs.Common.{◌≡◌, ◌≤◌, ◌∙◌, arith, length, refl, subst, sym}
use Rattle.std.proofs.lemmas.Grind.{common_steps}
use Rattle.page_trees.specs.LateAttrs.{AddsAbsent, Knows}
use Rattle.page_trees.specs.declared.growing.late.LateAttrs.{LateAttrs}
use Rattle.page_trees.proofs.MergedAttrs.{got_is, got_past}
use Rattle.page_trees.proofs.growing.late.LateTags.add_at.Goals as goal

pub returns-in_ok-add : goal.returns-in_ok-add
returns-in_ok-add c own late known got =
    let same : c.in-Some.late.now ≡ late = c.in-Some.ensures.value ∙ got_is c.args.self.now.elements.items c.args.place late c.in-Some.late.now got in
    record {
      after = c.add.new.self;
      adds = subst (λ (l : LateAttrs). AddsAbsent own c.args.tag.now.attrs.items l c.add.new.self) same (c.in_ok-add.ensures own (subst (Knows own) (sym same) known));
      is = refl;
    }

pub returns-in_default : goal.returns-in_default
returns-in_default c own late known got =
    let past : length c.args.self.now.elements.items ≤ c.args.place = grind (arith, common_steps) in
    absurd (got_past c.args.self.now.elements.items c.args.place late past got)
