use Rattle.std.proofs.Common.{◌≡◌, [], string_bytes}
use Rattle.dom_md.proofs.serializer.Writer.write_all.Given as goal

-- where nothing was to be written, nothing was
abbrev pub invariant-loop : goal.invariant-loop
invariant-loop l = l.fn.self.tasks.items ≡ [] → (l.self.tasks.items ≡ []) × (string_bytes l.self.text ≡ string_bytes l.fn.self.text)
