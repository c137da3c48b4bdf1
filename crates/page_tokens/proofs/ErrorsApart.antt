-- Parse errors change nothing of what is read.
use Rattle.std.specs.Prelude.{ℕ, List, refl}
use mathlib.Core.Path.{sym, subst}
use Rattle.page_tokens.specs.PageLaws.{ErrorsChangeNothing}
use Rattle.page_tokens.specs.StandardPages.{HasRead, IsAt}
use Rattle.page_tokens.specs.declared.tokenizer.Tokenizer.{Tokenizer}
use Rattle.page_tokens.proofs.Placed.{holds_on}

pub errors_apart : ErrorsChangeNothing
errors_apart f first read told old new has only = subst (λ t. HasRead f first read told t) (sym only) (λ rest. go rest (has rest))
  where
    made : Tokenizer
    made = record old { errors = new.errors }

    go : (rest : List ℕ) → IsAt f first read told old rest → IsAt f first read told made rest
    go rest at = record {
      machine = at.machine;
      ahead = at.ahead;
      kept = at.kept;
      reads = at.reads;
      holds = holds_on old made at.ahead at.machine refl at.holds;
      text = at.text;
    }
