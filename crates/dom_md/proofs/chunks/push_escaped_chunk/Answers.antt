use Rattle.std.proofs.Common.{◌++◌, ◌∙◌, ap, string_bytes, sym}
use Rattle.dom_md.specs.Chunks.{escaped}
use Rattle.dom_md.specs.Resolved.{resolved}
use Rattle.dom_md.proofs.ChunkLemmas.{resolved-escaped}
use Rattle.dom_md.proofs.ReadLemmas.{reads-chunk}
use Rattle.dom_md.proofs.chunks.push_escaped_chunk.Goals as goal

pub returns-clause-resolves : goal.returns-clause-resolves
returns-clause-resolves c = λ on. record {
  added = escaped c.args.line_start c.args.chunk.now;
  is = c.in_ok-push_str-3.ensures.bytes ∙ ap (λ t. string_bytes c.args.text.now ++ t) (c.as_str.ensures.value ∙ c.in_ok-escaped.ensures);
  resolves = resolved-escaped c.args.line_start c.args.chunk.now;
}

pub returns-clause-reads : goal.returns-clause-reads
returns-clause-reads c = λ on. reads-chunk (string_bytes c.args.text.now) (string_bytes c.push_str-2.new.self) c.args.chunk.now c.args.line_start
    (c.in_ok-push_str-3.ensures.bytes ∙ ap (λ t. string_bytes c.args.text.now ++ t) (c.as_str.ensures.value ∙ c.in_ok-escaped.ensures))

pub returns-then-is_plain-clause-resolves : goal.returns-then-is_plain-clause-resolves
returns-then-is_plain-clause-resolves c = λ on. record {
  added = c.args.chunk.now;
  is = c.in_ok-push_str-2.ensures.bytes;
  resolves = ap resolved (sym (c.is_plain.ensures c.if-is_plain.true)) ∙ resolved-escaped c.args.line_start c.args.chunk.now;
}

pub returns-then-is_plain-clause-reads : goal.returns-then-is_plain-clause-reads
returns-then-is_plain-clause-reads c = λ on. reads-chunk (string_bytes c.args.text.now) _ c.args.chunk.now c.args.line_start
    (c.in_ok-push_str-2.ensures.bytes ∙ ap (λ t. string_bytes c.args.text.now ++ t) (sym (c.is_plain.ensures c.if-is_plain.true)))
