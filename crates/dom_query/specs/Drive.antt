-- What the arguments of the program ask for, and what `drive` does.
use Rattle.std.specs.Prelude.{◌≡◌, ◌≢◌, ℕ, List, [], ◌∷◌, Option, Some, None, IfSome, String, codes, map, string_bytes}
use Rattle.std.specs.Global.{Global}
use Rattle.std.specs.Io.KnownBytes.{Appends}
use Rattle.dom_markup.specs.Writing.{AppendsBeginning}
use Rattle.dom_query.specs.declared.driver.Job.{Job}
use Rattle.dom_query.specs.declared.driver.Job.TheVariants.{Script, Markdown}
use Rattle.dom_query.specs.declared.runner.RunFault.{RunFault}
use Rattle.dom_query.specs.declared.runner.RunFault.TheVariants.{BadScript, BadMarkup}
use Rattle.dom_query.specs.declared.reporting.DriveFault.{DriveFault}
use Rattle.dom_query.specs.declared.reporting.DriveFault.TheVariants.{Usage, Read, Run}
use Rattle.dom_query.specs.Markdown.{MarkdownCause, WroteMarkdown}
use Rattle.dom_query.specs.Out.Ending.{done}
use Rattle.dom_query.specs.Runs.{Began, Ended, RunCause}
use Rattle.dom_query.specs.Reporting.{status_of, report_of}

-- The bytes of the arguments.
abbrev pub words_of : List (String Global) → List (List ℕ)
words_of args = map string_bytes args

-- There is one argument: `--md`, or a script.
abbrev pub AsksFor : List (List ℕ) → Job → Type 0
AsksFor words (Script text) = (words ≡ text.now ∷ []) × (text.now ≢ codes "--md")
AsksFor words Markdown = words ≡ codes "--md" ∷ []

-- The arguments ask for neither.
abbrev pub AsksForNothing : List (List ℕ) → Type 0
AsksForNothing words = (job : Job) → AsksFor words job → ⊥

-- The job was done over this markup.
abbrev pub JobDid : Job → List ℕ → Option (List ℕ) → Option (List ℕ) → Type 0
JobDid (Script text) markup old new = Ended markup text.now old new done
JobDid Markdown markup old new = WroteMarkdown markup old new

-- The job failed over this markup with this fault.
abbrev pub JobCause : Job → List ℕ → Option (List ℕ) → Option (List ℕ) → RunFault → Type 0
JobCause (Script text) markup old new fault = RunCause markup text.now old new fault
JobCause Markdown markup old new fault = MarkdownCause markup old new fault

-- What was written is a beginning of what the job writes. For Markdown only this is said: what was
-- there before stays.
abbrev pub JobBegan : Job → List ℕ → Option (List ℕ) → Option (List ℕ) → Type 0
JobBegan (Script text) markup old new = Began markup text.now old new
JobBegan Markdown markup old new = (text : List ℕ) × Appends old new text

-- The arguments ask for a job, everything from the reader is its markup, and P is true of the two.
abbrev pub Ran : List (List ℕ) → Option (List ℕ) → (Job → List ℕ → Type 0) → Type 0
Ran words known P = (job : Job) × (markup : List ℕ) × AsksFor words job × IfSome known (λ bytes. markup ≡ bytes) × P job markup

-- How the program ended. The reader had the bytes `known` (if that can be known); standard output
-- held `old` and now holds `new`; the last argument is the fault, if there was one.
abbrev pub Stopped : List (List ℕ) → Option (List ℕ) → Option (List ℕ) → Option (List ℕ) → Option DriveFault → Type 0
Stopped words known old new None = Ran words known (λ job markup. JobDid job markup old new)
Stopped words known old new (Some Usage) = AsksForNothing words × Appends old new []
Stopped words known old new (Some Read) = ((job : Job) × AsksFor words job) × Appends old new []
Stopped words known old new (Some (Run fault)) = Ran words known (λ job markup. JobCause job markup old new fault)

-- What was written is a beginning of what the job writes.
abbrev pub BeganOver : List (List ℕ) → Option (List ℕ) → Option (List ℕ) → Option (List ℕ) → Type 0
BeganOver words known old new =
    (job : Job) (markup : List ℕ) → AsksFor words job → known ≡ Some markup → JobBegan job markup old new

-- The exit status.
abbrev pub status_after : Option DriveFault → ℕ
status_after None = 0
status_after (Some fault) = status_of fault

-- The line on standard error; empty on success.
abbrev pub report_after : Option DriveFault → List ℕ
report_after None = []
report_after (Some fault) = report_of fault

-- What `drive` does. The status is that of the fault, if there was one. Standard error, which held
-- `err`, got the line of the fault, or the beginning of it that the writer accepted.
pub record Drove (words : List (List ℕ)) (known old new err reported : Option (List ℕ)) (status : ℕ) : Type 0 where
  pub fault : Option DriveFault
  pub status_is : status ≡ status_after fault
  pub reports : AppendsBeginning err reported (report_after fault)
  pub stopped : Stopped words known old new fault
  pub begun : BeganOver words known old new

-- What a status says about how `drive` ended: 0, the job was done; 2, the script is bad; 3, the
-- markup is bad; 64, the arguments ask for nothing.
pub record StatusMeans (words : List (List ℕ)) (known old new : Option (List ℕ)) (status : ℕ) : Type 0 where
  pub job_done : status ≡ 0 → Stopped words known old new None
  pub bad_script : status ≡ 2 → (line : ℕ) × Stopped words known old new (Some (Run (BadScript line)))
  pub bad_markup : status ≡ 3 → Stopped words known old new (Some (Run BadMarkup))
  pub usage : status ≡ 64 → Stopped words known old new (Some Usage)
