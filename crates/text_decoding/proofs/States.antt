-- States of decoders.
use Rattle.std.proofs.Common.{◌≡◌, ℕ, zero, suc, List, [], ◌∷◌, ◌++◌, Bool, true, false, cond, length, refl, sym, ap, ◌∙◌, subst, Bor, Option, None}
use Rattle.std.specs.Prelude.{◌==◌, IfOk, Result, Ok, Err}
use Rattle.decoded_text.specs.declared.decoded.Decoded.{Decoded}
use Rattle.decoded_text.specs.Characters.{Appends, Continues}
use Rattle.decoded_text.proofs.Texts.{continues-both, continues-more, continues-start}
use Rattle.encodings.specs.SingleByte.{character_of, characters as single_byte_characters}
use Rattle.encodings.specs.Utf16.{characters as utf16_characters}
use Rattle.encodings.specs.declared.utf16.ByteOrder.{ByteOrder}
use Rattle.gb18030.specs.Decoding.{characters as gb18030_characters}
use Rattle.big5.specs.Decoding.{characters as big5_characters}
use Rattle.euc_kr.specs.Decoding.{characters as euc_kr_characters}
use Rattle.japanese.specs.ShiftJis.{characters as shift_jis_characters}
use Rattle.japanese.specs.EucJp.{characters as euc_jp_characters}
use Rattle.japanese.specs.Iso2022Jp.{characters as iso_2022_jp_characters}
use Rattle.japanese.specs.declared.iso_2022_jp.State.{State as JapaneseState}
use Rattle.text_decoding.specs.Utf8.{characters as utf8_characters, fresh}
use Rattle.text_decoding.specs.declared.utf8.Utf8State.{Utf8State}
use Rattle.text_decoding.specs.Decoding.{replaced, replaced_from}
use Rattle.text_decoding.specs.declared.state.State.{State}

-- ---- the end of the bytes

pub utf16_ends : (order : ByteOrder) → utf16_characters order [] ≡ []
unfolding utf16_characters
utf16_ends order = refl

pub gb18030_ends : (index firsts codes : List ℕ) → gb18030_characters index firsts codes [] ≡ []
unfolding gb18030_characters
gb18030_ends index firsts codes = refl

pub big5_ends : (index : List ℕ) → big5_characters index [] ≡ []
unfolding big5_characters
big5_ends index = refl

pub euc_kr_ends : (index : List ℕ) → euc_kr_characters index [] ≡ []
unfolding euc_kr_characters
euc_kr_ends index = refl

pub shift_jis_ends : (index : List ℕ) → shift_jis_characters index [] ≡ []
unfolding shift_jis_characters
shift_jis_ends index = refl

pub euc_jp_ends : (jis0208 jis0212 : List ℕ) → euc_jp_characters jis0208 jis0212 [] ≡ []
unfolding euc_jp_characters
euc_jp_ends jis0208 jis0212 = refl

pub iso_2022_jp_ends : (index : List ℕ) (state : JapaneseState) → iso_2022_jp_characters index state [] ≡ []
unfolding iso_2022_jp_characters
iso_2022_jp_ends index state = refl

pub ruleset ends = (utf16_ends, gb18030_ends, big5_ends, euc_kr_ends, shift_jis_ends, euc_jp_ends, iso_2022_jp_ends)

-- ---- all bytes

-- where a step leaves none of its bytes
pub at_end : {E : Type 0} (f : State → List ℕ → List (Option ℕ)) (old new : Decoded) (before : List (Option ℕ)) (more : List ℕ) (result : Result (State × Bor (List ℕ)) E) →
    IfOk result (λ end. Continues old before new (f end.0 more)) → IfOk result (λ end. end.1.now ≡ []) → IfOk result (λ end. Continues old before new (f end.0 (end.1.now ++ more)))
at_end f old new before more (Ok end) so_far all = subst (λ rest. Continues old before new (f end.0 (rest ++ more))) (sym all) so_far
at_end f old new before more (Err fault) so_far all = so_far

-- ---- UTF-8

pub utf8_ends : utf8_characters fresh [] ≡ []
unfolding utf8_characters
utf8_ends = refl

pub utf8_last : (state end : Utf8State) (old mid new : Decoded) (bytes more : List ℕ) → more ≡ [] → Continues old (utf8_characters state (bytes ++ more)) mid (utf8_characters end more) →
    Continues mid (utf8_characters end []) new [] → Continues old (utf8_characters state (bytes ++ more)) new (utf8_characters fresh more)
utf8_last state end old mid new bytes more none first last =
    let P : List (Option ℕ) → Type 0 = λ a. Continues old (utf8_characters state (bytes ++ more)) new a in
    let Q : List (Option ℕ) → Type 0 = λ a. Continues old (utf8_characters state (bytes ++ more)) mid a in
    subst P (sym (ap (utf8_characters fresh) none ∙ utf8_ends))
    (continues-both old mid new (utf8_characters state (bytes ++ more)) (utf8_characters end []) [] (subst Q (ap (utf8_characters end) none) first) last)

-- ---- the replacement encoding

abbrev none_at_all : List (Option ℕ)
none_at_all = []

same : (b : Bool) → cond b none_at_all none_at_all ≡ []
same true = refl
same false = refl

pub replaced_end : (state : State) → replaced_from state [] ≡ []
replaced_end state = same state.is_replaced

none_left : (state : State) (bytes : List ℕ) → state.is_replaced ≡ true → replaced_from state bytes ≡ []
none_left state bytes h = ap (λ t. cond t [] (replaced bytes)) h

pub replaced_already : (state : State) (out : Decoded) (bytes more : List ℕ) → state.is_replaced ≡ true → Continues out (replaced_from state (bytes ++ more)) out (replaced_from state more)
replaced_already state out bytes more h =
    let P : List (Option ℕ) → Type 0 = λ b. Continues out b out (replaced_from state more) in
    subst P (none_left state more h ∙ sym (none_left state (bytes ++ more) h)) (continues-start out (replaced_from state more))

pub not_empty : (n : ℕ) → false ≡ (n == 0) → n ≡ 0 → ⊥
not_empty zero is none = cc
not_empty (suc n) is none = cc

pub replaced_now : (state : State) (out new : Decoded) (bytes more : List ℕ) → state.is_replaced ≡ false → (length bytes ≡ 0 → ⊥) → Appends out new (None ∷ []) →
    Continues out (replaced_from state (bytes ++ more)) new []
replaced_now state out new [] more h some one = absurd (some refl)
replaced_now state out new (b ∷ bs) more h some one =
    continues-more out out new (replaced_from state ((b ∷ bs) ++ more)) (replaced_from state ((b ∷ bs) ++ more)) [] (None ∷ [])
    (continues-start out (replaced_from state ((b ∷ bs) ++ more))) (ap (λ t. cond t [] (None ∷ [])) h) one

-- ---- single bytes

single_append : (index xs ys : List ℕ) → single_byte_characters index (xs ++ ys) ≡ single_byte_characters index xs ++ single_byte_characters index ys
single_append index [] ys = refl
single_append index (x ∷ xs) ys = ap (λ r. character_of index x ∷ r) (single_append index xs ys)

pub single : (index : List ℕ) (out new : Decoded) (bytes more : List ℕ) → Appends out new (single_byte_characters index bytes) →
    Continues out (single_byte_characters index (bytes ++ more)) new (single_byte_characters index more)
single index out new bytes more all =
    continues-more out out new (single_byte_characters index (bytes ++ more)) (single_byte_characters index (bytes ++ more)) (single_byte_characters index more)
    (single_byte_characters index bytes) (continues-start out (single_byte_characters index (bytes ++ more))) (single_append index bytes more) all
