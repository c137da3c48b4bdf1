use Rattle.std.proofs.Common.{◌∙◌, sym}
use Rattle.calm_pages.proofs.TextLemmas.{calm-each}
use Rattle.calm_pages.proofs.texts.is_calm_text.Goals as goal

pub returns-then-not-is_calm_at : goal.returns-then-not-is_calm_at
returns-then-not-is_calm_at c =
    let each = calm-each _ _ c.as_bytes-bytes.ensures.value in
    rw (sym c.if-not-is_calm_at.ensures) at each

pub returns-then-not-is_calm_at-2 : goal.returns-then-not-is_calm_at-2
returns-then-not-is_calm_at-2 c =
    let each = calm-each _ _ c.as_bytes-bytes.ensures.value in
    rw (sym c.if-not-is_calm_at.ensures, sym c.if-not-is_calm_at-2.ensures) at each

pub returns-then-is_calm_at : goal.returns-then-is_calm_at
returns-then-is_calm_at c =
    let each = calm-each _ _ c.as_bytes-bytes.ensures.value in
    rw (sym c.if-not-is_calm_at.ensures, sym c.if-not-is_calm_at-2.ensures, sym c.if-is_calm_at.ensures, sym c.is_calm_at-then-is_calm_at.ensures) at each

pub returns-else-is_calm_at : goal.returns-else-is_calm_at
returns-else-is_calm_at c =
    let each = calm-each _ _ c.as_bytes-bytes.ensures.value in
    c.if-is_calm_at.false ∙ rw (sym c.if-not-is_calm_at.ensures, sym c.if-not-is_calm_at-2.ensures, sym c.if-is_calm_at.ensures) at each
