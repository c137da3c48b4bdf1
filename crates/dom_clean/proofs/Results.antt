-- Two facts about what was done where nothing failed.
use Rattle.std.specs.Prelude.{Result, Ok, Err, OnOk}

pub on_ok_both : {T E P Q R : Type 0} (r : Result T E) → (P → Q → R) → OnOk r P → OnOk r Q → OnOk r R
on_ok_both (Ok _) f p q = f p q
on_ok_both (Err _) f p q = tt
