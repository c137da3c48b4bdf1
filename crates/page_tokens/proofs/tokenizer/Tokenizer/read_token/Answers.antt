use Rattle.std.proofs.Common.{refl}
use Rattle.page_tokens.proofs.TagLemmas.{taken_of}
use Rattle.page_tokens.proofs.tokenizer.Tokenizer.read_token.Goals as goal

pub returns-clause-plain_tag : goal.returns-clause-plain_tag
returns-clause-plain_tag c in_text errors kind name rest plain is =
    let read = c.in_ok-rest.ensures.plain_tag in_text errors kind name rest plain is in
    let taken = taken_of kind name c.args.self.now c.read_kind.new.self _ _ _ refl read.2.tag
    (λ tag ended. c.put_token.ensures.tag tag read.1 ended) read.2.in_text read.2.text in
    (read.0, taken.0, taken.1, taken.2)

pub returns-clause-standard : goal.returns-clause-standard
returns-clause-standard c = record {
  kept = c.read_kind.new.self;
  of = _;
  reads = c.in_ok-rest.ensures.standard;
  takes = record { none = c.put_token.ensures.none; tag = c.put_token.ensures.tag; comment = c.put_token.ensures.comment; doctype = c.put_token.ensures.doctype };
}
