-- The options with which a node is written.
use Rattle.std.specs.Prelude.{ℕ, true, false}
use Rattle.dom_md.specs.declared.context.EmphasisScope.{EmphasisScope}
use Rattle.dom_md.specs.declared.context.FormatOpts.{FormatOpts}
use Rattle.dom_md.specs.declared.context.ListKind.{ListKind}
use Rattle.dom_md.specs.declared.context.ListKind.TheVariants.{Ul, Ol}
use Rattle.dom_md.specs.Context.{advanced, further, kind_offset}
use Rattle.dom_md.specs.Scopes.{merged}

abbrev pub all_off : FormatOpts
all_off = record { include_node = false; skip_escape = false; inline = false; skip_md = false; table_cell = false; list_item = false; link_body = false; offset = 0; emphasis_scope = record { bold = false; italic = false } }

abbrev pub with_include_node : FormatOpts → FormatOpts
with_include_node opts = record opts { include_node = true }

abbrev pub with_skip_escape : FormatOpts → FormatOpts
with_skip_escape opts = record opts { skip_escape = true }

abbrev pub with_inline : FormatOpts → FormatOpts
with_inline opts = record opts { inline = true }

abbrev pub with_skip_md : FormatOpts → FormatOpts
with_skip_md opts = record opts { skip_md = true }

abbrev pub with_table_cell : FormatOpts → FormatOpts
with_table_cell opts = record opts { table_cell = true }

abbrev pub with_list_item : FormatOpts → FormatOpts
with_list_item opts = record opts { list_item = true }

abbrev pub with_link_body : FormatOpts → FormatOpts
with_link_body opts = record opts { link_body = true }

abbrev pub with_offset : ℕ → FormatOpts → FormatOpts
with_offset offset opts = record opts { offset = offset }

abbrev pub with_scope : EmphasisScope → FormatOpts → FormatOpts
with_scope scope opts = record opts { emphasis_scope = merged opts.emphasis_scope scope }

-- the options for the items of a list
abbrev pub item_opts : ListKind → FormatOpts → FormatOpts
item_opts kind opts = record opts { include_node = false; offset = further opts.offset (kind_offset kind) }

-- those options after the list advanced to its next number
abbrev pub advanced_opts : ListKind → (indent : ℕ) → FormatOpts → FormatOpts
advanced_opts Ul indent opts = opts
advanced_opts (Ol n) indent opts = with_offset (further indent (kind_offset (advanced (Ol n)))) opts
