use Rattle.std.proofs.Common.{◌≡◌, List, ℕ, length, string_bytes, encode_utf8_all}
use Rattle.dom_selectors.specs.Spelling.{Many}
use Rattle.dom_selectors.specs.Names.{SpellsNameChar}
use Rattle.dom_selectors.proofs.names.take_name.Given as goal

abbrev pub invariant-loop-rest : goal.invariant-loop-rest
invariant-loop-rest l = (read : List ℕ) × (string_bytes l.name ≡ encode_utf8_all read) × Many SpellsNameChar read l.text l.rest

abbrev pub decreases-loop-rest : goal.decreases-loop-rest
decreases-loop-rest l = length l.rest
