use Rattle.std.proofs.Common.{true, ◌∙◌, string_bytes}
use Rattle.std.specs.BTreeSet.{contains_text}
use Rattle.std.specs.Str.{bytes_eq}
use Rattle.std.proofs.lemmas.Map.Text.{btree_set_updates_text}
use Rattle.dom_markup.proofs.rows.NoteLemmas.{cond_or}
use Rattle.dom_markup.proofs.document.attributes.Noted.insert.Goals as goal

pub returns-clause-names : goal.returns-clause-names
returns-clause-names c =
    λ other. btree_set_updates_text (string_bytes c.args.name) c.args.self.now.names c.insert.new.self true c.in_ok-insert.ensures.updates other
    ∙ cond_or (bytes_eq (string_bytes c.args.name) other) (contains_text c.args.self.now.names other)
