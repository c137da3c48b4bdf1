use Rattle.std.proofs.Common.{◌++◌, take}
use Rattle.std.specs.Prelude.{codes}
use Rattle.std.specs.List.{flat_map}
use Rattle.std.specs.Io.KnownBytes.{Appends}
use Rattle.dom_markup.specs.Html.{attr_text}
use Rattle.dom_markup.proofs.serializing.tags.put_start_tag.Given as goal

abbrev pub invariant-loop-attr : goal.invariant-loop-attr
invariant-loop-attr g l =
    Appends (g.P.PutText.written l.fn.w) (g.P.PutText.written l.w) ((codes "<" ++ l.fn.element.name.local) ++ flat_map attr_text (take l.attr-index l.attr-items))
