-- What the status of a drive says.
use Rattle.std.proofs.Common.{ℕ, List, Option, Some, None, ◌≡◌, ◌<◌, ◌∙◌, arith, lit<, sym}
use Rattle.dom_query.specs.declared.runner.RunFault.TheVariants.{BadScript, BadMarkup}
use Rattle.dom_query.specs.declared.reporting.DriveFault.{DriveFault}
use Rattle.dom_query.specs.declared.reporting.DriveFault.TheVariants.{Usage, Run}
use Rattle.dom_query.specs.Reporting.{status_of}
use Rattle.dom_query.specs.Drive.{Drove, StatusMeans, Stopped, status_after}

-- no status is two numbers
other : {A : Type 0} (status n m : ℕ) → status ≡ n → (n ≡ m → ⊥) → status ≡ m → A
other status n m is apart said = absurd (apart (sym is ∙ said))

-- a status of which no more is stated
no-more : (words : List (List ℕ)) (known old new : Option (List ℕ)) (status n : ℕ) → status ≡ n → 3 < n → n < 6 → StatusMeans words known old new status
no-more words known old new status n is low high = record {
  job_done = other status n 0 is (λ same. omega (arith, same, low));
  bad_script = other status n 2 is (λ same. omega (arith, same, low));
  bad_markup = other status n 3 is (λ same. omega (arith, same, low));
  usage = other status n 64 is (λ same. omega (arith, same, high));
}

status-by : (words : List (List ℕ)) (known old new : Option (List ℕ)) (status : ℕ) (fault : Option DriveFault)
    → status ≡ status_after fault → Stopped words known old new fault → StatusMeans words known old new status
status-by words known old new status None is stopped = record {
  job_done = λ _. stopped;
  bad_script = other status 0 2 is (λ same. omega (arith, same));
  bad_markup = other status 0 3 is (λ same. omega (arith, same));
  usage = other status 0 64 is (λ same. omega (arith, same));
}
status-by words known old new status (Some Usage) is stopped = record {
  job_done = other status 64 0 is (λ same. omega (arith, same));
  bad_script = other status 64 2 is (λ same. omega (arith, same));
  bad_markup = other status 64 3 is (λ same. omega (arith, same));
  usage = λ _. stopped;
}
status-by words known old new status (Some (Run (BadScript line))) is stopped = record {
  job_done = other status 2 0 is (λ same. omega (arith, same));
  bad_script = λ _. (line, stopped);
  bad_markup = other status 2 3 is (λ same. omega (arith, same));
  usage = other status 2 64 is (λ same. omega (arith, same));
}
status-by words known old new status (Some (Run BadMarkup)) is stopped = record {
  job_done = other status 3 0 is (λ same. omega (arith, same));
  bad_script = other status 3 2 is (λ same. omega (arith, same));
  bad_markup = λ _. stopped;
  usage = other status 3 64 is (λ same. omega (arith, same));
}
status-by words known old new status (Some fault) is stopped = no-more words known old new status (status_of fault) is (lit< tt) (lit< tt)

pub status-means : (words : List (List ℕ)) (known old new err reported : Option (List ℕ)) (status : ℕ)
    → Drove words known old new err reported status → StatusMeans words known old new status
status-means words known old new err reported status drove = status-by words known old new status drove.fault drove.status_is drove.stopped
