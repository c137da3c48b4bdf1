use Rattle.std.proofs.Common.{◌-◌, List, Option, ◌∙◌, ap, length}
use Rattle.std.specs.Prelude.{slice_get}
use Rattle.std.specs.Option.{option_map_or}
use Rattle.dom_markup.specs.declared.document.reader.Open.{Open}
use Rattle.dom_markup.proofs.document.reader.Reader.parent.Goals as goal

pub returns-in-Some : goal.returns-in-Some
returns-in-Some c =
    ap (λ (o : Option Open). option_map_or (λ (x : Open). x.number) o 0)
    (c.in-Some.ensures.value ∙ ap (λ (xs : List Open). slice_get xs (length xs - 1)) c.deref.ensures.value)

pub returns-in-None : goal.returns-in-None
returns-in-None c =
    c.root.ensures ∙ ap (λ (o : Option Open). option_map_or (λ (x : Open). x.number) o 0)
    (c.in-None.ensures.value ∙ ap (λ (xs : List Open). slice_get xs (length xs - 1)) c.deref.ensures.value)
