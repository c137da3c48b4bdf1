use Rattle.decoded_text.proofs.Runs.{utf8_front}
use Rattle.decoded_text.proofs.ascii.ascii_front.Goals as goal

pub from_utf8_unchecked-requires : goal.from_utf8_unchecked-requires
from_utf8_unchecked-requires c = utf8_front _ _ c.split_at.ensures.front c.ascii_len.ensures.ascii
