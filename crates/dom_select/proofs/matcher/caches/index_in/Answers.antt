use Rattle.std.proofs.Common.{◌≡◌, ◌<◌, ◌∙◌, ℕ, List, ap, subst}
use Rattle.dom_links.specs.Indexes.{index_known}
use Rattle.dom_select.proofs.matcher.caches.index_in.Goals as goal

pub returns-in-Some-clause-is : goal.returns-in-Some-clause-is
returns-in-Some-clause-is c =
    let n = c.args.id.now in
    let known : c.in-Some.index ≡ index_known c.args.known.now.items n = (c.in-Some.ensures.2 ∙ ap (λ (known : List ℕ). index_known known n) c.deref.ensures.value) ∙ c.make_room.ensures n in
    known ∙ c.requires n (subst (λ (index : ℕ). 0 < index) known c.in-Some.ensures.0)
