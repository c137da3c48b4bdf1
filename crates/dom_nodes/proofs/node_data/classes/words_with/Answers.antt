use Rattle.std.proofs.Common.{◌≡◌, sym, ap, ◌∙◌, append-nil}
use Rattle.std.specs.Prelude.{string_bytes}
use Rattle.std.specs.Str.Iter.{split_ascii_whitespace_text}
use Rattle.dom_nodes.specs.Words.{words_of, is_among}
use Rattle.dom_nodes.specs.Classes.{words_with, words_joined}
use Rattle.dom_nodes.proofs.WordLemmas.{words-white}
use Rattle.dom_nodes.proofs.ClassLemmas.{filter-all, first_word, joined-with_word, words-with_word, words_with-known, words_with-new}
use Rattle.dom_nodes.proofs.node_data.classes.words_with.Goals as goal

pub loop-word-init : goal.loop-word-init
loop-word-init c =
    let words : words_of (string_bytes c.in_ok-made.made) ≡ words_of c.args.text.now = c.in_ok-made.ensures.words ∙ filter-all (words_of c.args.text.now) in (
      tt,
      tt,
      ap words_joined c.in_ok-made.ensures.words ∙ sym c.in_ok-made.ensures.joined,
      ap (λ ws. words_with ws (words_of (split_ascii_whitespace_text c.into_iter-word-iterator.result))) words
          ∙ ap (λ it. words_with (words_of c.args.text.now) (words_of (split_ascii_whitespace_text it))) c.into_iter-word-iterator.ensures.into_iter_gives
          ∙ ap (λ text. words_with (words_of c.args.text.now) (words_of text)) c.split_ascii_whitespace-word-items.ensures.text,
    )

pub loop-word-preserved-then-has_word : goal.loop-word-preserved-then-has_word
loop-word-preserved-then-has_word c =
    let word = c.in-Some.word.now in
    let cut = first_word _ word _ c.in-Some.ensures.steps in
    let made = words_of (string_bytes c.loop-word.made) in
    let among = ap (λ text. is_among word (words_of text)) (sym c.as_str.ensures.value) ∙ sym c.has_word.ensures ∙ c.if-has_word.true in (
      tt,
      tt,
      c.loop-word.invariant.2,
      sym (ap (words_with made) cut.words ∙ words_with-known made word _ among) ∙ c.loop-word.invariant.3,
    )

pub loop-word-preserved : goal.loop-word-preserved
loop-word-preserved c =
    let word = c.in-Some.word.now in
    let cut = first_word _ word _ c.in-Some.ensures.steps in
    let before = string_bytes c.loop-word.made in
    let made = words_of before in
    let pushed = c.in_ok-push_word.ensures in
    let left = words_of (split_ascii_whitespace_text c.next.new.self) in
    let among = ap (λ text. is_among word (words_of text)) (sym c.as_str.ensures.value) ∙ sym c.has_word.ensures ∙ c.if-has_word.false in (
      tt,
      tt,
      rw pushed (joined-with_word before word cut.is_word c.loop-word.invariant.2),
      ap (λ text. words_with (words_of text) left) pushed
          ∙ ap (λ words. words_with words left) (words-with_word before word cut.is_word)
          ∙ sym (ap (words_with made) cut.words ∙ words_with-new made word left among)
          ∙ c.loop-word.invariant.3,
    )

pub returns : goal.returns
returns c =
    let made = words_of (string_bytes c.loop-word.made) in
    let words : made ≡ words_with (words_of c.args.text.now) (words_of c.args.added.now) =
    sym (append-nil made) ∙ sym (ap (words_with made) (words-white _ c.in-None.ensures.steps.0)) ∙ c.loop-word.invariant.3 in
    record { joined = sym c.loop-word.invariant.2 ∙ ap words_joined words; words = words }
