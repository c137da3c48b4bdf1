use Rattle.page_reading.proofs.PartLemmas.{contents_found, head_found, html_found}
use Rattle.page_reading.proofs.laws.pages_have_parts.Goals as goal

pub returns : goal.returns
returns c =
    record {
      html_root = html_found;
      head = head_found;
      body = contents_found;
    }
