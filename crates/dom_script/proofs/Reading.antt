-- The commands of the lines that were read so far.
use Rattle.std.proofs.Common.{◌≡◌, ◌+◌, ◌<◌, ℕ, zero, suc, List, [], ◌∷◌, ◌++◌, sym, ◌∙◌, ap, take, drop, length, get_or, arith, length-take, append_assoc, Bor, map, subst, Some}
use Rattle.std.specs.Prelude.{slice_get}
use Rattle.std.proofs.lemmas.Option.{slice_get-get_or}
use Rattle.std.specs.Str.{IsUtf8}
use Rattle.std.proofs.lemmas.List.{take-append-drop, take_more, map-append}
use Rattle.dom_script.specs.declared.script.Command.{Command}
use Rattle.dom_script.specs.declared.script.ScriptFault.{ScriptFault}
use Rattle.dom_script.specs.declared.script.ScriptFault.TheVariants.{BadLine, Memory as NoMemory, TooManyNodes as NoNumbers}
use Rattle.dom_script.specs.Faults.{LineRefused, ScriptRefused}
use Rattle.dom_script.specs.Script.{AreCommands, FirstBad, IsBad, IsCommand, IsNoScript, lines_of}

-- one more line
pub commands-more : (lines : List (List ℕ)) (commands : List Command) (line : List ℕ) (command : Command)
    → AreCommands lines commands → IsCommand line command → AreCommands (lines ++ line ∷ []) (commands ++ command ∷ [])
commands-more [] [] line command are is = (is, tt)
commands-more [] (c ∷ cs) line command are is = absurd are
commands-more (l ∷ ls) [] line command are is = absurd are
commands-more (l ∷ ls) (c ∷ cs) line command are is = (are.0, commands-more ls cs line command are.1 is)

pub read-more : (lines : List (Bor (List ℕ))) (line : Bor (List ℕ)) (commands new : List Command) (command : Command)
    → AreCommands (map (λ l. l.now) lines) commands → IsCommand line.now command → new ≡ commands ++ command ∷ []
    → AreCommands (map (λ l. l.now) (lines ++ line ∷ [])) new
read-more lines line commands new command are is added =
    rw (added, map-append (λ (l : Bor (List ℕ)). l.now) lines (line ∷ [])) (commands-more _ _ _ _ are is)

-- the line behind those that were read is bad
pub first-bad : (lines : List (List ℕ)) (n : ℕ) (commands : List Command) (line : List ℕ) → n < length lines → line ≡ get_or lines n line
    → AreCommands (take n lines) commands → IsBad line → FirstBad lines (n + 1)
first-bad lines n commands line within is are bad = record {
  good = take n lines;
  commands = commands;
  bad = line;
  later = drop (n + 1) lines;
  is = sym (take-append-drop (n + 1) lines) ∙ (ap (λ ls. ls ++ drop (n + 1) lines) (take_more lines n line within ∙ ap (λ l. take n lines ++ l ∷ []) (sym is)) ∙ append_assoc (take n lines) (line ∷ []) (drop (n + 1) lines));
  are_good = are;
  is_bad = bad;
  counted = omega (arith, length-take n lines);
}

no-script-at : (script : List ℕ) (n : ℕ) → IsUtf8 script → FirstBad (lines_of script) n → IsNoScript script n
no-script-at script zero utf8 bad = absurd (omega (arith, bad.counted))
no-script-at script (suc n) utf8 bad = (utf8, bad)

-- so the text is no script
pub no-script : (script text : List ℕ) (n m : ℕ) → text ≡ script → IsUtf8 script → m ≡ n → FirstBad (lines_of text) (n + 1) → IsNoScript script (m + 1)
no-script script text n m same utf8 counted bad =
    no-script-at script (m + 1) utf8 (subst (λ k. FirstBad (lines_of script) (k + 1)) (sym counted) (subst (λ t. FirstBad (lines_of t) (n + 1)) same bad))

-- a limit was met in a line
pub line-refused : (script text : List ℕ) (n : ℕ) (line : List ℕ) (fault : ScriptFault) → text ≡ script → n < length (lines_of text) → line ≡ get_or (lines_of text) n line
    → LineRefused line fault → ScriptRefused script fault
line-refused script text n line NoNumbers same within is cause =
    (line, (n, subst (λ t. slice_get (lines_of t) n ≡ Some line) same (slice_get-get_or (lines_of text) n line within ∙ ap Some (sym is))), cause)
line-refused script text n line NoMemory same within is cause = tt
line-refused script text n line (BadLine number) same within is cause = absurd cause
