-- What the words ask for, and the markup that a reader gave.
use Rattle.std.proofs.Common.{Global, ◌≡◌, ◌⊎◌, inl, inr, ℕ, List, [], ◌∷◌, Option, Some, None, IfSome, Result, Ok, Err, refl, sym, ◌∙◌, get_or, subst, codes, length, ◌<◌, ◌≤◌, arith, ap}
use Rattle.std.specs.Prelude.{String, string_bytes}
use Rattle.std.specs.Io.KnownBytes.{Appends}
use Rattle.dom_markup.specs.Writing.{AppendsBeginning, Writes}
use Rattle.dom_markup.proofs.html.WritingLemmas.{nothing-written}
use Rattle.dom_query.specs.declared.driver.Job.{Job}
use Rattle.dom_query.specs.declared.driver.Job.TheVariants.{Script, Markdown}
use Rattle.dom_query.specs.declared.runner.RunFault.{RunFault}
use Rattle.dom_query.specs.declared.runner.RunFault.TheVariants.{BadScript, BadMarkup, Edit, TooManyNodes, Memory, Write}
use Rattle.dom_query.specs.declared.reporting.DriveFault.{DriveFault}
use Rattle.dom_query.specs.declared.reporting.DriveFault.TheVariants.{Read, Run}
use Rattle.dom_query.specs.Drive.{AsksFor, BeganOver, JobBegan, JobCause, Ran, Stopped, words_of}
use Rattle.dom_query.specs.Markdown.{MarkdownCause, WroteMarkdown}
use Rattle.dom_query.specs.Out.{Ending, HasOneOutput}
use Rattle.dom_query.specs.Rendering.{line_of}
use Rattle.dom_query.specs.Runs.{Began, Ended}
use Rattle.dom_query.proofs.Writing.{whole-begun}

-- the words are one, and this is it
pub words-alone : (words : List (String Global)) (word : String Global) (text : List ℕ)
    → word ≡ get_or words 0 word → 1 ≤ length words → length words < 2 → string_bytes word ≡ text → words_of words ≡ text ∷ []
words-alone [] word text is some few same = let no : ⊥ = omega (arith, some) in absurd no
words-alone (w ∷ []) word text is some few same = ap (λ x. x ∷ []) (ap string_bytes (sym is) ∙ same)
words-alone (w ∷ v ∷ ws) word text is some few same = let no : ⊥ = omega (arith, few) in absurd no

-- what two jobs that the same words ask for begin is one
job-begun : (words : List (List ℕ)) (job other : Job) (markup : List ℕ) (a b : Option (List ℕ))
    → AsksFor words job → AsksFor words other → JobBegan job markup a b → JobBegan other markup a b
job-begun words (Script s) (Script t) markup a b p q began =
    let e : s.now ∷ [] ≡ t.now ∷ [] = sym p.0 ∙ q.0 in
    let same : s.now ≡ t.now = cc in
    subst (λ text. Began markup text a b) same began
job-begun words (Script s) Markdown markup a b p q began =
    let e : s.now ∷ [] ≡ codes "--md" ∷ [] = sym p.0 ∙ q in
    let same : s.now ≡ codes "--md" = cc in
    absurd (p.1 same)
job-begun words Markdown (Script t) markup a b p q began =
    let e : t.now ∷ [] ≡ codes "--md" ∷ [] = sym q.0 ∙ p in
    let same : t.now ≡ codes "--md" = cc in
    absurd (q.1 same)
job-begun words Markdown Markdown markup a b p q began = began

-- the markup that was read is what the reader had
pub read-as : (known : Option (List ℕ)) (given items : List ℕ) → given ≡ items → IfSome known (λ xs. items ≡ xs) → IfSome known (λ xs. given ≡ xs)
read-as None given items same read = tt
read-as (Some xs) given items same read = same ∙ read

-- memory was refused, and nothing was written
refused : (job : Job) (markup : List ℕ) (a : Option (List ℕ)) → JobCause job markup a a Memory
refused (Script text) markup a = tt
refused Markdown markup a = (tt, nothing-written a)

ran-refused : (words : List (List ℕ)) (known a : Option (List ℕ)) (job : Job) → AsksFor words job → Ran words known (λ asked markup. JobCause asked markup a a Memory)
ran-refused words None a job asked = (job, [], asked, tt, refused job [] a)
ran-refused words (Some xs) a job asked = (job, xs, asked, refl, refused job xs a)

-- the reader, or memory for what it has, gave out
pub stopped-reading : (words : List (List ℕ)) (known a : Option (List ℕ)) (job : Job) (fault : DriveFault)
    → AsksFor words job → (fault ≡ Read) ⊎ (fault ≡ Run Memory) → Stopped words known a a (Some fault)
stopped-reading words known a job fault asked (inl is) = subst (λ f. Stopped words known a a (Some f)) (sym is) ((job, asked), nothing-written a)
stopped-reading words known a job fault asked (inr is) = subst (λ f. Stopped words known a a (Some f)) (sym is) (ran-refused words known a job asked)

given-is : (known : Option (List ℕ)) (given markup : List ℕ) → IfSome known (λ xs. given ≡ xs) → known ≡ Some markup → given ≡ markup
given-is None given markup read is = cc
given-is (Some xs) given markup read is = let same : xs ≡ markup = cc in read ∙ same

-- a beginning was written, of the markup that the reader had and the job that the words ask for
pub began-over : (words : List (List ℕ)) (known : Option (List ℕ)) (job : Job) (given : List ℕ) (a b : Option (List ℕ))
    → AsksFor words job → IfSome known (λ xs. given ≡ xs) → JobBegan job given a b → BeganOver words known a b
began-over words known job given a b asked read began = λ other markup asks is.
    subst (λ m. JobBegan other m a b) (given-is known given markup read is) (job-begun words job other given a b asked asks began)

-- Markdown adds to what stood before, whole or not
pub wrote-begun : (markup : List ℕ) (a b : Option (List ℕ)) → WroteMarkdown markup a b → JobBegan Markdown markup a b
wrote-begun markup a b (is, text, written) = (line_of text, written)

pub fault-begun : (markup : List ℕ) (a b : Option (List ℕ)) (fault : RunFault) → MarkdownCause markup a b fault → JobBegan Markdown markup a b
fault-begun markup a b (BadScript line) reports = ([], reports.1)
fault-begun markup a b BadMarkup reports = ([], reports.1)
fault-begun markup a b (Edit line fault) reports = ([], reports.1)
fault-begun markup a b TooManyNodes reports = ([], reports.1)
fault-begun markup a b Memory reports = ([], reports.1)
fault-begun markup a b Write (is, text, written) = (text, written)

-- what was written whole was begun
pub began-ended : ((markup script : List ℕ) → HasOneOutput markup script)
    → (markup script : List ℕ) (a b : Option (List ℕ)) (ending : Ending) → Ended markup script a b ending → Began markup script a b
began-ended one markup script a b ending (text, out, written) = λ other last so.
    whole-begun a b other (subst (Appends a b) (one markup script text other ending last out so).0 written)

-- a line was reported, or a beginning of it
pub report-begun : {T E : Type 0} (a b : Option (List ℕ)) (r : Result T E) (text : List ℕ) → Writes a b r text → AppendsBeginning a b text
report-begun a b (Ok x) text wrote = whole-begun a b text wrote
report-begun a b (Err e) text wrote = wrote
