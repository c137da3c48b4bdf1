use Rattle.encodings.proofs.Words.{same_word}
use Rattle.encodings.proofs.attributes.is_word.Goals as goal

pub returns : goal.returns
returns c = same_word _ c.args.name.now c.args.word.now c.eq_ignore_ascii_case.ensures.test c.requires
