-- Whether the mini selector that a text begins with is true of a node.
use Rattle.std.proofs.Common.{◌≡◌, ℕ, List, Bool, true, false, sym, ap, ◌∙◌, MatchBool}
use Rattle.std.proofs.lemmas.Bool.{true≢false}
use Rattle.dom_links.specs.Forest.{Forest}
use Rattle.dom_selectors.specs.MiniGrammar.{SpellsMini}
use Rattle.dom_mini.specs.MiniPaths.{MiniTextHolds}
use Rattle.dom_selectors.specs.MiniSyntax.{Mini}
use Rattle.dom_select.specs.MiniNodes.{mini_holds}
use Rattle.dom_selectors.specs.Spelling.{SpellsNone}
use Rattle.dom_selectors.proofs.MiniLemmas.{mini_once}

pub met_or_not : (b : Bool) (text rest : List ℕ) (forest : Forest) (n : ℕ) (mini : Mini) → SpellsMini mini text rest → b ≡ mini_holds mini forest n → MatchBool b (MiniTextHolds text forest n) (MiniTextHolds text forest n → ⊥)
met_or_not true text rest forest n mini h e = record { mini = mini; rest = rest; spelled = h; holds = sym e }
met_or_not false text rest forest n mini h e = λ met.
    let same = mini_once met.mini mini text met.rest rest met.spelled h in
    true≢false (sym met.holds ∙ (ap (λ m. mini_holds m forest n) same.0 ∙ sym e))

pub none_met : (text : List ℕ) (forest : Forest) (n : ℕ) → SpellsNone SpellsMini text → MiniTextHolds text forest n → ⊥
none_met text forest n none met = none met.mini met.rest met.spelled
