use Rattle.std.proofs.Common.{◌≡◌, ◌+◌, length, refl, set, subst, sym, ◌∙◌}
use Rattle.std.specs.Prelude.{Some, slice_get}
use Rattle.std.proofs.lemmas.Option.{slice_get_read}
use Rattle.page_trees.specs.Links.{AreLinks}
use Rattle.page_trees.specs.SearchIndex.{key_of}
use Rattle.page_trees.proofs.RefreshLemmas.{exchanged_index}
use Rattle.page_trees.proofs.stack.marks.Marks.exchange.Goals as goal

pub returns-clause-index : goal.returns-clause-index
returns-clause-index c former lt w is =
    let upper : slice_get c.args.elements.now c.args.place ≡ Some c.in-Some.upper.now =
    slice_get_read c.args.elements.now (length c.args.elements.now) c.args.place c.in-Some.upper.now refl c.in-Some.ensures.lookup.3.0 c.in-Some.ensures.lookup.1 in
    let lower : slice_get c.args.elements.now (c.args.place + 1) ≡ Some c.in-Some-get.lower.now =
    slice_get_read c.args.elements.now (length c.args.elements.now) (c.args.place + 1) c.in-Some-get.lower.now refl c.in-Some-get.ensures.lookup.3.0 c.in-Some-get.ensures.lookup.1 in
    exchanged_index former c.args.elements.now c.args.place c.args.self.now c.refresh.new.self c.in-Some-get.lower.now c.in-Some.upper.now w lt upper lower c.refresh.ensures.long
    (c.refresh.ensures.rows former lt w is.rows is.within)
    (λ keys lk kl ku old.
    subst (λ ls. AreLinks (set (set keys c.args.place (key_of c.in-Some.upper.now)) (c.args.place + 1) (key_of c.in-Some-get.lower.now)) ls.same.items ls.next.items ls.tops.items) (sym c.refresh.ensures.links)
    (subst (λ k. AreLinks (set (set keys c.args.place (key_of c.in-Some.upper.now)) (c.args.place + 1) k) c.exchange.new.self.same.items c.exchange.new.self.next.items c.exchange.new.self.tops.items) c.key_of.ensures
    (subst (λ k. AreLinks (set (set keys c.args.place k) (c.args.place + 1) c.key_of.result) c.exchange.new.self.same.items c.exchange.new.self.next.items c.exchange.new.self.tops.items) c.key_of-2.ensures
    (c.exchange.ensures keys lk (kl ∙ sym c.key_of.ensures) (ku ∙ sym c.key_of-2.ensures) old)))) is
