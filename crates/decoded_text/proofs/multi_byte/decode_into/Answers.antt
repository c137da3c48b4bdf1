use Rattle.decoded_text.proofs.Loops.{ascii_runs, loop_items}
use Rattle.decoded_text.proofs.multi_byte.decode_into.Goals as goal

pub loop-character-preserved : goal.loop-character-preserved
loop-character-preserved g c = record {
  continues = λ more last. loop_items g.E.MultiByte.characters (ascii_runs g.E.MultiByte.characters c.ascii_is_itself.ensures) _ _ _ _ _ _ _ _ _ more _ (c.loop-character.invariant.continues more last)
      (c.in-Some.ensures.some more last) c.in_ok-push_to.ensures.appends c.ascii_front.ensures.parts c.ascii_front.ensures.ascii c.in_ok-push_ascii.ensures.appends;
  counted = c.in_ok-push_ascii.ensures.counted;
}
