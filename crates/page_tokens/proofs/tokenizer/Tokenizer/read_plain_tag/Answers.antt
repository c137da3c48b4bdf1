use Rattle.std.proofs.Common.{ℕ, List, ◌++◌, ap, subst, sym, arith, inr, length, refl, ◌<◌, ◌∙◌}
use Rattle.std.specs.Str.{IsUtf8}
use Rattle.std.proofs.lemmas.Str.{IsUtf8-take}
use Rattle.page_tokens.proofs.Fronts.{plain_on}
use Rattle.page_tokens.proofs.PlainTags.{bare_read, tag_front}
use Rattle.page_tokens.proofs.TagLemmas.{plain_cut, plain_some, bare_of}
use Rattle.page_tokens.proofs.tokenizer.Tokenizer.read_plain_tag.Goals as goal

pub returns-in-Some-clause-plain : goal.returns-in-Some-clause-plain
returns-in-Some-clause-plain c name rest in_text errors plain is =
    let cut = plain_cut _ name rest _ _ _ plain is c.tag_name_len.ensures.len c.split_at.ensures.front c.split_at.ensures.back in
    let name_is = c.in_ok-push_str.ensures.bytes ∙ ap (λ (t : List ℕ). t ++ c.split_at.result.0.now) c.begin.ensures.name ∙ cut.0 in
    let read = c.in_ok-read.ensures.ready (record {
      named = subst (λ (t : List ℕ). 0 < length t) (sym name_is) (plain_some name plain);
      no_attr = c.begin.ensures.attr_name;
      errors = errors;
    }) in (
      c.in-Some.ensures.some rest (omega arith) cut.1,
      read.0,
      record {
        tag = bare_of _ c.args.kind name _ plain c.begin.ensures.kind name_is c.begin.ensures.attrs c.begin.ensures.self_closing read.1.tag;
        in_text = record {
          state = read.1.state;
          reference = read.1.reference ∙ in_text.reference;
          after_return = read.1.after_return ∙ in_text.after_return;
        };
        text = read.1.text;
        errors = read.1.errors;
      },
    )

pub returns-clause-plain : goal.returns-clause-plain
returns-clause-plain c name rest in_text errors plain is =
    let cut = plain_cut _ name rest _ _ _ plain is c.tag_name_len.ensures.len c.split_at.ensures.front c.split_at.ensures.back in
    absurd (c.in_default.ensures.some rest (omega arith) cut.1)

pub returns-in-Some-clause-follows : goal.returns-in-Some-clause-follows
returns-in-Some-clause-follows c in_text none letter =
    let text = c.args.text.now in
    let n = c.tag_name_len.result in
    let front = c.split_at.result.0.now in
    bare_read c.args.self.now _ _ c.args.kind text front c.split_at.result.1.now c.in-Some.after.now n _ in_text.state (record { reference = in_text.reference; after_return = in_text.after_return }) letter
    (subst IsUtf8 (sym c.split_at.ensures.front) (IsUtf8-take text n c.utf8.text c.tag_name_len.ensures.boundary)) c.split_at.ensures.front c.split_at.ensures.back c.tag_name_len.ensures.len refl
    (record {
      kind = c.begin.ensures.kind;
      name = c.in_ok-push_str.ensures.bytes ∙ ap (λ (t : List ℕ). t ++ front) c.begin.ensures.name;
      attrs = c.begin.ensures.attrs;
      attr_name = c.begin.ensures.attr_name;
      attr_value = c.begin.ensures.attr_value;
      self_closing = c.begin.ensures.self_closing;
    }) (c.in-Some.ensures.cut (omega arith)) c.in_ok-read.ensures.keeps c.in_ok-read.ensures.emits

pub returns-clause-follows : goal.returns-clause-follows
returns-clause-follows c in_text none letter =
    let text = c.args.text.now in
    let n = c.tag_name_len.result in
    let front = c.split_at.result.0.now in
    plain_on c.args.self.now _ _ _ c.split_at.result.1.now _ c.read_plain_attrs.result
    (inr (tag_front c.args.self.now _ c.args.kind text front c.split_at.result.1.now n in_text.state (record { reference = in_text.reference; after_return = in_text.after_return }) letter
    (subst IsUtf8 (sym c.split_at.ensures.front) (IsUtf8-take text n c.utf8.text c.tag_name_len.ensures.boundary)) c.split_at.ensures.front c.split_at.ensures.back c.tag_name_len.ensures.len refl
    (record {
      kind = c.begin.ensures.kind;
      name = c.in_ok-push_str.ensures.bytes ∙ ap (λ (t : List ℕ). t ++ front) c.begin.ensures.name;
      attrs = c.begin.ensures.attrs;
      attr_name = c.begin.ensures.attr_name;
      attr_value = c.begin.ensures.attr_value;
      self_closing = c.begin.ensures.self_closing;
    }))) (c.read_plain_attrs.ensures none)
