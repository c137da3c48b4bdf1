-- What is left of a fragment, and how often each name was taken out of it.
use Rattle.std.specs.Prelude.{ℕ, ◌≡◌, string_bytes}
use Rattle.dom_links.specs.Forest.{Forest}
use Rattle.dom_clean.specs.Cleaned.{cleaned_below}
use Rattle.dom_clean.specs.Counts.{Counts}
use Rattle.dom_clean.specs.Parsed.{IsCleanedText}
use Rattle.dom_clean.specs.Policy.{Policy}
use Rattle.dom_clean.specs.Removals.{removed_below}
use Rattle.dom_clean.specs.Written.{text_of}
use Rattle.dom_clean.specs.declared.reports.CleanReport.{CleanReport}

-- the text is that of what the policy leaves below a node, and what it takes out there is counted
pub record IsReportOf (policy : Policy) (forest : Forest) (n : ℕ) (report : CleanReport) : Type 0 where
  pub text : string_bytes report.text ≡ text_of (cleaned_below policy forest n)
  pub removed : Counts (removed_below policy forest n) report.removed

-- so it is of some tree, below a node, and the text is what `clean` gives
pub record IsReport (policy : Policy) (report : CleanReport) : Type 0 where
  pub cleaned : IsCleanedText policy (string_bytes report.text)
  pub forest : Forest
  pub below : ℕ
  pub is : IsReportOf policy forest below report
