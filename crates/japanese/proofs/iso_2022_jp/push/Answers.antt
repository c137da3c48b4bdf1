use Rattle.std.proofs.Common.{List, Option, sym, subst}
use Rattle.std.specs.Prelude.{ℕ, option_to_list}
use Rattle.decoded_text.specs.Characters.{Appends}
use Rattle.decoded_text.proofs.Texts.{appends-nothing}
use Rattle.japanese.proofs.iso_2022_jp.push.Goals as goal

pub returns-in-None-clause-appends : goal.returns-in-None-clause-appends
returns-in-None-clause-appends c =
    let P : Option (Option ℕ) → Type 0 = λ character. Appends c.args.out.now c.args.out.now (option_to_list character) in subst P (sym c.in-None.is) (appends-nothing c.args.out.now)
