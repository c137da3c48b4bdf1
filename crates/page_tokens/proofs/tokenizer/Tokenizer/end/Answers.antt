use Rattle.page_tokens.proofs.tokenizer.Tokenizer.end.Goals as goal

pub returns-clause-standard : goal.returns-clause-standard
returns-clause-standard c = record {
  kept = c.end_kind.new.self;
  of = _;
  ends = c.in_ok-kind.ensures.stops;
  takes = record { none = c.take_token.ensures.none; tag = c.take_token.ensures.tag; comment = c.take_token.ensures.comment; doctype = c.take_token.ensures.doctype };
}
