use Rattle.std.proofs.Common.{◌≡◌, ◌++◌, refl, rules}
use Rattle.page_reading.specs.declared.page_decoder.Stage.TheVariants as stage
use Rattle.page_reading.proofs.HeldLemmas.{holds_more, lent_on}
use Rattle.page_reading.proofs.page_decoder.PageDecoder.feed.Goals as goal

pub returns-then-eq : goal.returns-then-eq
returns-then-eq c =
    let known : c.args.self.now.stage ≡ stage.Known = search rules in
    lent_on c.feed_lent.result c.args.piece.now c.args.self.now (record c.args.self.now { decoder = c.feed_lent.new.self }) known refl
    c.feed_lent.ensures.begins

pub returns : goal.returns
returns c = λ bytes read cs has spelt.
    let unknown : c.args.self.now.stage ≡ stage.Known → ⊥ = search rules in
    c.in_ok-text.ensures (bytes ++ c.args.piece.now) read cs
    (holds_more bytes c.args.piece.now read c.args.self.now (record c.args.self.now { held = c.extend_from_slice.new.self }) unknown refl
    c.in_ok-extend_from_slice.ensures.items has) spelt
