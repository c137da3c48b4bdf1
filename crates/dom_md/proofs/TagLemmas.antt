-- The numbers of known names, and what elements of those names are.
use Rattle.std.proofs.Common.{◌≡◌, ℕ, zero, suc, ◌+◌, ◌<◌, drop, get_or, map, refl, ap, subst, arith}
use Rattle.std.specs.List.{range_with_len}
use Rattle.dom_nodes.specs.KnownNames.{known_name}
use Rattle.dom_md.specs.declared.serializer.names.Tag.{Tag}
use Rattle.dom_md.specs.declared.serializer.names.Tag.TheVariants.{Other}
use Rattle.dom_md.specs.Tags.{named_tags, tag_named, tag_numbered}

agree : (f g : ℕ → Tag) (a n k : ℕ) → map f (range_with_len a n) ≡ map g (range_with_len a n) → k < n → f (a + k) ≡ g (a + k)
agree f g a zero k e l = absurd (omega arith)
agree f g a (suc n) zero e l = (let same : a ≡ a + 0 = omega arith in subst (λ i. f i ≡ g i) same (ap (λ ts. get_or ts 0 Other) e))
agree f g a (suc n) (suc k) e l = (let same : a + 1 + k ≡ a + suc k = omega arith in subst (λ i. f i ≡ g i) same (agree f g (a + 1) n k (ap (drop 1) e) (omega arith)))

tags_are : map tag_numbered (range_with_len 0 247) ≡ map (λ n. tag_named (known_name n)) (range_with_len 0 247)
unfolding known_name named_tags
tags_are = refl

pub tag_is : (n : ℕ) → n < 247 → tag_numbered n ≡ tag_named (known_name n)
tag_is n low = (let same : 0 + n ≡ n = omega arith in subst (λ i. tag_numbered i ≡ tag_named (known_name i)) same (agree tag_numbered (λ n. tag_named (known_name n)) 0 247 n tags_are low))
