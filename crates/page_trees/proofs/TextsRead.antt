-- Every text is read as tokens of which tree construction builds something.
use Rattle.standard_agreement.proofs.TextsRead.{every_fragment_is_built, every_text_is_built}
use Rattle.standard_order.specs.Beginnings.{OfFragment, OfPage}
use Rattle.page_trees.specs.PagesRead.{EveryTextIsRead}

pub every_text_is_read : EveryTextIsRead
every_text_is_read (OfPage scripting) text =
    let r = every_text_is_built scripting text in
    (r.0, r.1, r.2, record { reads = r.3; builds = r.4 })
every_text_is_read (OfFragment scripting around) text =
    let r = every_fragment_is_built scripting around text in
    (r.0, r.1, r.2, record { reads = r.3; builds = r.4 })
