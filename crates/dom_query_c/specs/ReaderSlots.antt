-- What a slot owns: where it is full, what a box of the reader does.
use base.Fml.{Fml, ftrue}
use base.Stored.{Coded}
use denote.RawPtr.{Ptr}
use Rattle.std.specs.Coded.{coded_option}
use Rattle.std.specs.Prelude.{Option, Some, None}
use Rattle.std.specs.Box.Ownership.{box_owns}
use Rattle.std.specs.Global.{Global}
use Rattle.std_heap.specs.contracts.GlobalAllocator.TheImpl.{ghosts}
use Rattle.c_state.specs.contracts.pages.Reader.{the_row}

abbrev pub slot_owns : Global → Ptr → Option the_row.Denot → Fml
slot_owns alloc at None = ftrue
slot_owns alloc at (Some x) = box_owns (ghosts.dealloc_token alloc) the_row at x

abbrev pub reader_coded : Coded (Option the_row.Denot)
reader_coded = coded_option the_row.coded
