use Rattle.std.proofs.Common.{ℕ, List, ◌≡◌, ◌∙◌, ◌-◌, ap, drop, get_or, take}
use Rattle.dom_article.specs.Words.{Entry, pair_of, table, with_words}
use Rattle.dom_article.proofs.WordLemmas.{enough_words}
use Rattle.dom_article.proofs.words.Words.beginning_with.Goals as goal

pub returns : goal.returns
returns c =
    let starts = c.args.self.now.starts.items in
    let ends = c.args.self.now.ends.items in
    let pair = pair_of c.args.text.now in
    let start : c.number_at.result ≡ get_or starts pair 0 =
    c.number_at.ensures ∙ (ap (λ (ns : List ℕ). get_or ns c.pair_of-pair.result 0) c.deref.ensures.value ∙ ap (λ (p : ℕ). get_or starts p 0) c.pair_of-pair.ensures.is) in
    let end : c.number_at-2.result ≡ get_or ends pair 0 =
    c.number_at-2.ensures ∙ (ap (λ (ns : List ℕ). get_or ns c.pair_of-pair.result 0) c.deref-2.ensures.value ∙ ap (λ (p : ℕ). get_or ends p 0) c.pair_of-pair.ensures.is) in
    λ first found. ap (λ (entries : List Entry). with_words entries c.args.text.now first found)
    (c.words_between.ensures ∙ (ap (λ (s : ℕ). take (c.number_at-2.result - s) (drop s table)) start ∙ ap (λ (e : ℕ). take (e - get_or starts pair 0) (drop (get_or starts pair 0) table)) end))
    ∙ enough_words starts ends c.args.text.now first found c.requires
