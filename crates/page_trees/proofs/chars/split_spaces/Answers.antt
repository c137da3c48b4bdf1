use Rattle.std.proofs.Common.{◌∙◌, ap, drop, subst, sym, take, ℕ}
use Rattle.std.specs.Str.{IsCharBoundary}
use Rattle.page_trees.proofs.SpacesApart.{cut_behind, front_taken, past_dropped}
use Rattle.page_trees.proofs.chars.split_spaces.Goals as goal

pub split_at-requires : goal.split_at-requires
split_at-requires c = subst (λ (n : ℕ). IsCharBoundary c.args.text.now n) (sym c.spaces_len.ensures) (cut_behind c.args.text.now c.utf8.text)

pub returns-clause-front : goal.returns-clause-front
returns-clause-front c = c.split_at.ensures.front ∙ ap (λ (n : ℕ). take n c.args.text.now) c.spaces_len.ensures ∙ front_taken c.args.text.now

pub returns-clause-rest : goal.returns-clause-rest
returns-clause-rest c = c.split_at.ensures.back ∙ ap (λ (n : ℕ). drop n c.args.text.now) c.spaces_len.ensures ∙ past_dropped c.args.text.now
