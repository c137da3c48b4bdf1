use Rattle.std.proofs.Common.{◌∙◌, ◌∷◌, List, Bool, ℕ, ap, cond, filter, map, string_bytes, sym}
use Rattle.std.specs.Str.Iter.{split_ascii_whitespace_text}
use Rattle.dom_nodes.specs.Words.{is_among, words_of}
use Rattle.dom_nodes.proofs.ClassLemmas.{first_word}
use Rattle.dom_nodes.proofs.WordLemmas.{words-white}
use Rattle.dom_clean.specs.Fates.{with_words}
use Rattle.dom_clean.proofs.values.joined_words.Goals as goal

pub loop-word-preserved-then-not-is_among : goal.loop-word-preserved-then-not-is_among
loop-word-preserved-then-not-is_among c =
    let allowed : List ℕ → Bool = λ word. is_among word (map string_bytes c.args.classes.now) in
    let word = c.in-Some.word.now in
    let made = string_bytes c.loop-word.made in
    let cut = first_word _ word _ c.in-Some.ensures.steps in
    let rest = filter allowed (words_of (split_ascii_whitespace_text c.next.new.self)) in
    record {
      can = tt;
      finite = tt;
      joined = sym (ap (λ words. with_words made (filter allowed words)) cut.words ∙ ap (λ b. with_words made (cond b (word ∷ rest) rest)) (sym c.is_among.ensures ∙ c.if-not-is_among.true))
          ∙ c.loop-word.invariant.joined;
    }

pub loop-word-preserved : goal.loop-word-preserved
loop-word-preserved c =
    let allowed : List ℕ → Bool = λ word. is_among word (map string_bytes c.args.classes.now) in
    let word = c.in-Some.word.now in
    let made = string_bytes c.loop-word.made in
    let cut = first_word _ word _ c.in-Some.ensures.steps in
    let rest = filter allowed (words_of (split_ascii_whitespace_text c.next.new.self)) in
    record {
      can = tt;
      finite = tt;
      joined = ap (λ text. with_words text rest) c.in_ok-push_word.ensures
          ∙ sym (ap (λ words. with_words made (filter allowed words)) cut.words ∙ ap (λ b. with_words made (cond b (word ∷ rest) rest)) (sym c.is_among.ensures ∙ c.if-not-is_among.false))
          ∙ c.loop-word.invariant.joined;
    }

pub returns : goal.returns
returns c =
    let allowed : List ℕ → Bool = λ word. is_among word (map string_bytes c.args.classes.now) in
    sym (ap (λ words. with_words (string_bytes c.loop-word.made) (filter allowed words)) (words-white _ c.in-None.ensures.steps.0)) ∙ c.loop-word.invariant.joined
