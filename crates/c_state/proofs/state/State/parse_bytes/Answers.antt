use Rattle.std.proofs.Common.{refl}
use Rattle.c_state.proofs.PageEncodings.{decoded_page}
use Rattle.c_state.proofs.state.State.parse_bytes.Goals as goal

pub returns : goal.returns
returns c =
    let read = c.in_ok-read in
    decoded_page c.args.label.now c.args.bytes.now c.args.max_depth c.in_ok-charset.charset c.options_of.result read.read (record { encoding = read.read.encoding; source = read.read.confidence; replaced = read.read.replaced }) _
    c.in_ok-charset.ensures.fallback c.in_ok-charset.ensures.transport c.options_of.ensures read.ensures.page read.ensures.encoding read.ensures.replaced read.ensures.text.written refl c.of-state.ensures refl
