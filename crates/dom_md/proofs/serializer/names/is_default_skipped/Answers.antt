use Rattle.std.proofs.Common.{◌≡◌, true, refl, ap, ◌∙◌}
use Rattle.std.proofs.lemmas.Bool.{agree_below, agree_below_at}
use Rattle.dom_nodes.specs.KnownNames.{known_name}
use Rattle.dom_nodes.specs.Words.{is_among}
use Rattle.dom_md.specs.Names.{is_skipped_number, skipped_names}
use Rattle.dom_md.proofs.serializer.names.is_default_skipped.Goals as goal

numbers_are : agree_below is_skipped_number (λ n. is_among (known_name n) skipped_names) 247 ≡ true
unfolding known_name skipped_names
numbers_are = refl

pub returns-in-Some : goal.returns-in-Some
returns-in-Some c =
    c.is_skipped_number.ensures
    ∙ agree_below_at is_skipped_number (λ n. is_among (known_name n) skipped_names) 247 c.in-Some.number numbers_are c.in-Some.ensures.0
    ∙ ap (λ bytes. is_among bytes skipped_names) c.in-Some.ensures.1
