-- Loops that write characters, and then the ASCII characters behind them.
use Rattle.std.proofs.Common.{◌≡◌, ℕ, suc, ◌<◌, refl, List, [], ◌∷◌, ◌++◌, map, ap, ◌∙◌, append_assoc, Option, Some}
use Rattle.std.specs.Str.{IsAscii}
use Rattle.decoded_text.specs.declared.decoded.Decoded.{Decoded}
use Rattle.decoded_text.specs.Characters.{Appends, Continues}
use Rattle.decoded_text.proofs.Texts.{continues-more}

pub loop_items : (chars : List ℕ → List (Option ℕ)) → ((front all : List ℕ) → IsAscii front → chars (front ++ all) ≡ map Some front ++ chars all) →
    (old mid between new : Decoded) (before : List (Option ℕ)) (rest behind ascii others more : List ℕ) (items : List (Option ℕ)) →
    Continues old before mid (chars (rest ++ more)) → chars (rest ++ more) ≡ items ++ chars (behind ++ more) → Appends mid between items →
    behind ≡ ascii ++ others → IsAscii ascii → Appends between new (map Some ascii) → Continues old before new (chars (others ++ more))
loop_items chars runs old mid between new before rest behind ascii others more items so_far is one parts h run =
    let cut : behind ++ more ≡ ascii ++ (others ++ more) = ap (λ b. b ++ more) parts ∙ append_assoc ascii others more in
    continues-more old between new before (chars (behind ++ more)) (chars (others ++ more)) (map Some ascii)
    (continues-more old mid between before (chars (rest ++ more)) (chars (behind ++ more)) items so_far is one)
    (ap chars cut ∙ runs ascii (others ++ more) h) run

-- where a byte of ASCII is its character, a run of ASCII is its text
pub ascii_runs : (chars : List ℕ → List (Option ℕ)) → ((b : ℕ) (all : List ℕ) → b < 128 → chars (b ∷ all) ≡ Some b ∷ chars all) →
    (front all : List ℕ) → IsAscii front → chars (front ++ all) ≡ map Some front ++ chars all
ascii_runs chars one [] all h = refl
ascii_runs chars one (b ∷ bs) all h = one b (bs ++ all) (h 0) ∙ ap (λ r. Some b ∷ r) (ascii_runs chars one bs all (λ i. h (suc i)))
