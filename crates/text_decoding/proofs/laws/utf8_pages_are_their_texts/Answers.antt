use Rattle.text_decoding.proofs.PageTexts.{utf8_page}
use Rattle.text_decoding.proofs.laws.utf8_pages_are_their_texts.Goals as goal

pub returns : goal.returns
returns c = utf8_page
