use Rattle.std.proofs.Common.{◌∙◌, sym}
use Rattle.dom_md.proofs.ChunkLemmas.{marked_ascii, marked_here, plain_all, plain_more}
use Rattle.dom_md.proofs.chunks.find_mark.Goals as goal

pub loop-at-preserved : goal.loop-at-preserved
loop-at-preserved c = plain_more c.args.bytes.now c.loop-at.at c.loop-at-test.true c.loop-at.invariant (sym c.is_marked.ensures ∙ c.if-is_marked.false)

pub returns-then-is_marked : goal.returns-then-is_marked
returns-then-is_marked c =
    let marked = sym c.is_marked.ensures ∙ c.if-is_marked.true in
    record {
      within = c.loop-at-test.true;
      ascii = marked_ascii _ _ marked;
      whole = marked_here c.args.bytes.now c.loop-at.at c.loop-at-test.true c.loop-at.invariant marked;
    }

pub returns : goal.returns
returns c = plain_all c.args.bytes.now c.loop-at.at c.loop-at-test.false c.loop-at.invariant
