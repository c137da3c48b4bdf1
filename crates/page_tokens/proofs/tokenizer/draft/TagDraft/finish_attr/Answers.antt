use Rattle.std.proofs.Common.{◌≡◌, [], Result, Ok, Err, OnOk, map, string_bytes, refl, ap, ◌∙◌}
use Rattle.std.specs.Char.{to_ascii_lowercase}
use Rattle.page_tokens.specs.Attributes.{AddsAttr}
use Rattle.page_tokens.specs.Drafts.{FinishesAttr}
use Rattle.page_tokens.specs.declared.tokenizer.draft.TagDraft.{TagDraft}
use Rattle.page_tokens.proofs.AttributeLemmas.{adds_same}
use Rattle.page_tokens.proofs.tokenizer.draft.TagDraft.finish_attr.Goals as goal

finishes : {T E : Type 0} (r : Result T E) (old new : TagDraft) → new ≡ record old { attrs = new.attrs; attr_name = new.attr_name; attr_value = new.attr_value } → string_bytes new.attr_name ≡ [] → string_bytes new.attr_value ≡ [] →
    OnOk r (AddsAttr old.attrs.kept.items new.attrs.kept.items (map to_ascii_lowercase (string_bytes old.attr_name)) (string_bytes old.attr_value)) → OnOk r (FinishesAttr old new)
finishes (Ok u) old new only name value adds = record { only = only; name = name; value = value; adds = adds }
finishes (Err e) old new only name value adds = tt

pub returns-clause-some : goal.returns-clause-some
returns-clause-some c some =
    finishes c.add.result c.args.self.now _ refl (ap (λ t. string_bytes t) c.replace-name.ensures.after ∙ c.at_hand-name.ensures.name) (ap (λ t. string_bytes t) c.replace-value.ensures.after ∙ c.at_hand-name.ensures.value)
    (adds_same c.add.result _ _ _ _ _ _ _ (ap (λ k. k.items) c.at_hand-name.ensures.kept) (ap (λ t. map to_ascii_lowercase (string_bytes t)) c.replace-name.ensures.value) (ap (λ t. string_bytes t) c.replace-value.ensures.value) c.add.ensures)
