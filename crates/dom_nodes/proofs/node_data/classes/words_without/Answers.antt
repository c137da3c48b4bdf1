use Rattle.std.proofs.Common.{◌≡◌, [], ◌∷◌, ◌++◌, sym, ap, ◌∙◌, append-nil, append_assoc}
use Rattle.std.specs.Prelude.{string_bytes}
use Rattle.std.specs.Str.Iter.{split_ascii_whitespace_text}
use Rattle.dom_nodes.specs.Words.{words_of}
use Rattle.dom_nodes.specs.Classes.{words_without, words_joined}
use Rattle.dom_nodes.proofs.WordLemmas.{words-white}
use Rattle.dom_nodes.proofs.ClassLemmas.{first_word, joined-with_word, words-with_word, words_without-gone, words_without-stays}
use Rattle.dom_nodes.proofs.node_data.classes.words_without.Goals as goal

pub loop-word-preserved-then-has_word : goal.loop-word-preserved-then-has_word
loop-word-preserved-then-has_word c =
    let cut = first_word _ c.in-Some.word.now _ c.in-Some.ensures.steps in
    let others = words_of c.args.others.now in
    let made = words_of (string_bytes c.loop-word.made) in (
      tt,
      tt,
      c.loop-word.invariant.2,
      sym (ap (λ words. made ++ words) (ap (λ words. words_without words others) cut.words ∙ words_without-gone c.in-Some.word.now _ others (sym c.has_word.ensures ∙ c.if-has_word.true)))
          ∙ c.loop-word.invariant.3,
    )

pub loop-word-preserved : goal.loop-word-preserved
loop-word-preserved c =
    let word = c.in-Some.word.now in
    let cut = first_word _ word _ c.in-Some.ensures.steps in
    let others = words_of c.args.others.now in
    let before = string_bytes c.loop-word.made in
    let pushed = c.in_ok-push_word.ensures in
    let left = words_of (split_ascii_whitespace_text c.next.new.self) in (
      tt,
      tt,
      rw pushed (joined-with_word before word cut.is_word c.loop-word.invariant.2),
      ap (λ text. words_of text ++ words_without left others) pushed
          ∙ ap (λ words. words ++ words_without left others) (words-with_word before word cut.is_word)
          ∙ append_assoc (words_of before) (word ∷ []) (words_without left others)
          ∙ sym (ap (λ words. words_of before ++ words) (ap (λ words. words_without words others) cut.words ∙ words_without-stays word left others (sym c.has_word.ensures ∙ c.if-has_word.false)))
          ∙ c.loop-word.invariant.3,
    )

pub returns : goal.returns
returns c =
    let others = words_of c.args.others.now in
    let made = words_of (string_bytes c.loop-word.made) in
    let words : made ≡ words_without (words_of c.args.text.now) others =
    sym (append-nil made) ∙ sym (ap (λ words. made ++ words_without words others) (words-white _ c.in-None.ensures.steps.0)) ∙ c.loop-word.invariant.3 in
    record { joined = sym c.loop-word.invariant.2 ∙ ap words_joined words; words = words }
