use Rattle.dom_markup.proofs.html.JoinedHtml.{html_joins, html_reading, written_alike}
use Rattle.dom_markup.proofs.laws.texts.joining_keeps_the_html.Goals as goal

pub returns : goal.returns
returns c = λ x forest good known utf8. written_alike x _ forest good (c.joining_keeps_readings.ensures x forest html_reading good known (html_joins forest utf8))
