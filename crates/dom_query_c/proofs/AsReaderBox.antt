-- The reader, as what a box holds that was made with the C library's allocator.
use mir.Syntax.{impl, tnil, dnil}
use mathlib.Core.List.{[]}
use denote.Signature.{Slot, plain}
use Rattle.std_alloc.proofs.BoxSteps.Form.{Bx}
use Rattle.std_heap.proofs.Global.TheLaws as global_laws
use Rattle.std_heap.specs.contracts.Global as Global
use Rattle.std_heap.specs.contracts.GlobalAllocator.TheImpl as allocator
use Rattle.c_state.proofs.pages.Reader.TheLaws as reader_laws
use Rattle.dom_query_c.specs.contracts.parts.Parts as Parts
use Rattle.dom_query_c.specs.contracts.reader_slot.ReaderSlot as Slots
use Rattle.c_state.specs.contracts.pages.Reader as Reader

abbrev pub E : Bx
E = record {
  row = Reader.the_row;
  laws = reader_laws.the_row_laws;
  al = record { row = Global.the_row; laws = global_laws.the_row_laws; g = allocator.ghosts; d = allocator.dict; drops = impl [] tnil dnil };
}

-- what the two functions of a slot take
abbrev pub TakesParts : Slot 0
TakesParts = plain (λ _. Parts.the_row Reader.the_row Global.the_row allocator.ghosts)

abbrev pub TakesSlot : Slot 0
TakesSlot = plain (λ _. Slots.the_row)
