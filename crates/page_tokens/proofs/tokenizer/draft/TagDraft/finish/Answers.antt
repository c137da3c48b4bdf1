use Rattle.std.proofs.Common.{◌≡◌, ap, map, refl, ◌∙◌, string_bytes}
use Rattle.std.specs.Char.{to_ascii_lowercase}
use Rattle.page_tokens.specs.Drafts.{IsTagOf}
use Rattle.page_tokens.specs.declared.token.Tag.{Tag}
use Rattle.page_tokens.specs.declared.tokenizer.draft.TagDraft.{TagDraft}
use Rattle.page_tokens.proofs.AttributeLemmas.{folded-folded}
use Rattle.page_tokens.proofs.tokenizer.draft.TagDraft.finish.Goals as goal

-- the tag that was read with its name in lower case is the one that was read
tag_of : (draft folded : TagDraft) (tag : Tag) → string_bytes folded.name ≡ map to_ascii_lowercase (string_bytes draft.name) →
    folded.kind ≡ draft.kind → folded.attrs.kept.items ≡ draft.attrs.kept.items → folded.self_closing ≡ draft.self_closing → IsTagOf folded tag → IsTagOf draft tag
tag_of draft folded tag name kind attrs self_closing is = record {
  kind = is.kind ∙ kind;
  name = is.name ∙ ap (map to_ascii_lowercase) name ∙ folded-folded (string_bytes draft.name);
  attrs = is.attrs ∙ attrs;
  self_closing = is.self_closing ∙ self_closing;
}

pub finish_in-requires-clause-folded : goal.finish_in-requires-clause-folded
finish_in-requires-clause-folded c = rw c.make_ascii_lowercase.ensures.bytes (folded-folded _)

pub finish_anew-requires-clause-folded : goal.finish_anew-requires-clause-folded
finish_anew-requires-clause-folded c = rw c.make_ascii_lowercase.ensures.bytes (folded-folded _)

pub returns-in-Some : goal.returns-in-Some
returns-in-Some c _ = (refl, tag_of _ _ _ c.make_ascii_lowercase.ensures.bytes refl refl refl c.finish_in.ensures)

pub returns-in-None : goal.returns-in-None
returns-in-None c _ = (refl, tag_of _ _ _ c.make_ascii_lowercase.ensures.bytes refl refl refl c.finish_anew.ensures)
