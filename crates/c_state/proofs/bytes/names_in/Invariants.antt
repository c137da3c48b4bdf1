use Rattle.std.proofs.Common.{◌≡◌, ◌++◌, map}
use Rattle.std.specs.Str.Iter.{split_ascii_whitespace_text}
use Rattle.dom_nodes.specs.Words.{words_of}
use Rattle.c_state.proofs.bytes.names_in.Given as goal

-- the names so far, and the words that are left
abbrev pub invariant-loop-name : goal.invariant-loop-name
invariant-loop-name l =
    (goal.iterator-loop-name).can_next l.name-iterator ×
    (goal.iterator-loop-name).is_finite l.name-iterator ×
    (map (λ name. name.now) l.names.items ++ words_of (split_ascii_whitespace_text l.name-iterator) ≡ words_of l.text)
