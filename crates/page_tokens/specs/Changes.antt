-- What the small steps of the tokenizer change.
use Rattle.std.specs.Prelude.{◌≡◌, ℕ, false, List, ◌++◌, string_bytes}
use Rattle.page_tokens.specs.declared.tokenizer.Tokenizer.{Tokenizer}
use Rattle.page_tokens.specs.declared.tokenizer.state.CommentState.{CommentState}
use Rattle.page_tokens.specs.declared.tokenizer.state.Place.{Place}
use Rattle.page_tokens.specs.declared.tokenizer.state.Place.TheVariants as place
use Rattle.page_tokens.specs.declared.tokenizer.state.State.TheVariants as state

-- that memory ran out is not forgotten
abbrev pub Remembers : Tokenizer → Tokenizer → Type 0
Remembers old new = new.refused ≡ false → old.refused ≡ false

-- the bytes are appended at a place, and besides them only errors change
abbrev pub Gains : Place → Tokenizer → Tokenizer → List ℕ → Type 0
Gains place.Text old new more =
    (new ≡ record old { text = new.text; errors = new.errors; refused = new.refused })
    × (string_bytes new.text ≡ string_bytes old.text ++ more)
Gains place.Comment old new more =
    (new ≡ record old { comment = new.comment; errors = new.errors; refused = new.refused })
    × (string_bytes new.comment ≡ string_bytes old.comment ++ more)
Gains place.TagName old new more =
    (new ≡ record old { tag = record old.tag { name = new.tag.name }; errors = new.errors; refused = new.refused })
    × (string_bytes new.tag.name ≡ string_bytes old.tag.name ++ more)
Gains place.AttrName old new more =
    (new ≡ record old { tag = record old.tag { attr_name = new.tag.attr_name }; errors = new.errors; refused = new.refused })
    × (string_bytes new.tag.attr_name ≡ string_bytes old.tag.attr_name ++ more)
Gains place.AttrValue old new more =
    (new ≡ record old { tag = record old.tag { attr_value = new.tag.attr_value }; errors = new.errors; refused = new.refused })
    × (string_bytes new.tag.attr_value ≡ string_bytes old.tag.attr_value ++ more)

-- the comment goes on in this state, with these bytes appended
pub record CommentGoesOn (old new : Tokenizer) (next : CommentState) (more : List ℕ) : Type 0 where
  pub memory : old.refused ≡ false
  pub only : new ≡ record old { state = state.Comment next; comment = new.comment; errors = new.errors; refused = new.refused }
  pub comment : string_bytes new.comment ≡ string_bytes old.comment ++ more
