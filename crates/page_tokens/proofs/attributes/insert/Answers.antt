use Rattle.std.proofs.Common.{true, ◌∙◌, string_bytes}
use Rattle.std.specs.BTreeSet.{contains_text}
use Rattle.std.specs.Str.{bytes_eq}
use Rattle.std.proofs.lemmas.Map.Text.{btree_set_updates_text}
use Rattle.page_tokens.proofs.AttributeLemmas.{cond_or}
use Rattle.page_tokens.proofs.attributes.insert.Goals as goal

pub returns-clause-ok : goal.returns-clause-ok
returns-clause-ok c =
    λ other. btree_set_updates_text (string_bytes c.args.name) c.args.names.now c.insert.new.self true c.in_ok-insert.ensures.updates other
    ∙ cond_or (bytes_eq (string_bytes c.args.name) other) (contains_text c.args.names.now other)
