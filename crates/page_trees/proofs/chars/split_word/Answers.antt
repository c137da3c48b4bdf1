use Rattle.std.proofs.Common.{◌∙◌, ap, drop, subst, sym, take, ℕ}
use Rattle.std.specs.Str.{IsCharBoundary}
use Rattle.page_trees.proofs.WordsApart.{cut_behind_word, word_dropped, word_taken}
use Rattle.page_trees.proofs.chars.split_word.Goals as goal

pub split_at-requires : goal.split_at-requires
split_at-requires c = subst (λ (n : ℕ). IsCharBoundary c.args.text.now n) (sym c.word_len.ensures) (cut_behind_word c.args.text.now c.utf8.text)

pub returns-clause-word : goal.returns-clause-word
returns-clause-word c = c.split_at.ensures.front ∙ ap (λ (n : ℕ). take n c.args.text.now) c.word_len.ensures ∙ word_taken c.args.text.now

pub returns-clause-rest : goal.returns-clause-rest
returns-clause-rest c = c.split_at.ensures.back ∙ ap (λ (n : ℕ). drop n c.args.text.now) c.word_len.ensures ∙ word_dropped c.args.text.now
