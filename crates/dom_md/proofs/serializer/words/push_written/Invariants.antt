use Rattle.std.proofs.Common.{◌≡◌, ◌++◌, string_bytes, length}
use Rattle.std.specs.Str.{IsUtf8}
use Rattle.dom_md.specs.Written.{written}
use Rattle.dom_md.proofs.serializer.words.push_written.Given as goal

abbrev pub invariant-loop-cut : goal.invariant-loop-cut
invariant-loop-cut l = record {
  utf8 : IsUtf8 l.rest;
  whole : string_bytes l.text ++ written l.escape l.rest ≡ string_bytes l.fn.text ++ written l.fn.escape l.fn.added;
}

abbrev pub decreases-loop-cut : goal.decreases-loop-cut
decreases-loop-cut l = length l.rest
