-- Bytes that are the UTF-8 of their text.
use Rattle.std.proofs.Common.{◌≡◌, ℕ, suc, ◌<◌, List, [], ◌∷◌, ◌++◌, true, map, refl, sym, ap, ap₂, ◌∙◌, append-nil, arith, Option, Some}
use Rattle.std.proofs.lemmas.Bool.Decides.{nat_tests}
use Rattle.std.proofs.lemmas.Str.{IsUtf8-from_ascii, chars-IsAscii, encodes-chars}
use Rattle.std.specs.Str.{IsAscii, IsUtf8, chars}
use Rattle.decoded_text.specs.Characters.{errors_in, text_of}
use Rattle.decoded_text.proofs.Loops.{ascii_runs}
use Rattle.decoded_text.proofs.Texts.{errors-all, text-all}
use Rattle.encodings.specs.declared.encoding.Encoding.{Encoding}
use Rattle.encodings.specs.declared.encoding.Encoding.TheVariants.{Utf8, Utf16Be, Utf16Le, Gbk, Gb18030, Big5, EucJp, Iso2022Jp, ShiftJis, EucKr, Replacement, SingleByte}
use Rattle.encodings.specs.SingleByte.{character_of, characters as single_byte_characters, index_of}
use Rattle.gb18030.specs.Decoding.{characters as gb18030_characters}
use Rattle.gb18030.specs.Tables.{codes as CODES, firsts as FIRSTS, index as GB18030}
use Rattle.gb18030.proofs.Steps.{ascii as gb18030_ascii}
use Rattle.big5.specs.Decoding.{characters as big5_characters}
use Rattle.big5.specs.Tables.{index as BIG5}
use Rattle.big5.proofs.Steps.{ascii as big5_ascii}
use Rattle.euc_kr.specs.Decoding.{characters as euc_kr_characters}
use Rattle.euc_kr.specs.Tables.{index as EUC_KR}
use Rattle.euc_kr.proofs.Steps.{ascii as euc_kr_ascii}
use Rattle.japanese.specs.ShiftJis.{characters as shift_jis_characters}
use Rattle.japanese.proofs.ShiftJisSteps.{ascii as shift_jis_ascii}
use Rattle.japanese.specs.EucJp.{characters as euc_jp_characters}
use Rattle.japanese.proofs.EucJpSteps.{ascii as euc_jp_ascii}
use Rattle.japanese.specs.Tables.{jis0208 as JIS0208, jis0212 as JIS0212}
use Rattle.text_decoding.specs.Decoding.{IsItself, characters, is_ascii_based}
use Rattle.text_decoding.specs.Utf8.{characters as utf8_characters, fresh}
use Rattle.text_decoding.proofs.States.{big5_ends, euc_jp_ends, euc_kr_ends, gb18030_ends, shift_jis_ends, utf8_ends}
use Rattle.text_decoding.proofs.Utf8Texts.{text}

utf8_all : (bs : List ℕ) → IsUtf8 bs → utf8_characters fresh bs ≡ map Some (chars bs)
utf8_all bs h =
    ap (utf8_characters fresh) (sym (append-nil bs)) ∙ text bs [] h ∙ ap (λ r. map Some (chars bs) ++ r) utf8_ends ∙ append-nil (map Some (chars bs))

pub utf8_itself : (bs : List ℕ) → IsUtf8 bs → IsItself Utf8 bs
utf8_itself bs h = (ap text_of (utf8_all bs h) ∙ text-all (chars bs) ∙ encodes-chars bs h, ap errors_in (utf8_all bs h) ∙ errors-all (chars bs))

-- a run of ASCII that nothing follows
run : (f : List ℕ → List (Option ℕ)) → ((b : ℕ) (all : List ℕ) → b < 128 → f (b ∷ all) ≡ Some b ∷ f all) → f [] ≡ [] → (bs : List ℕ) → IsAscii bs → f bs ≡ map Some bs
run f one none bs h = ap f (sym (append-nil bs)) ∙ ascii_runs f one bs [] h ∙ ap (λ r. map Some bs ++ r) none ∙ append-nil (map Some bs)

single_one : (index : List ℕ) (b : ℕ) → b < 128 → character_of index b ≡ Some b
unfolding character_of
single_one index b h = grind (arith, nat_tests)

single_all : (index bs : List ℕ) → IsAscii bs → single_byte_characters index bs ≡ map Some bs
single_all index [] h = refl
single_all index (b ∷ bs) h = ap₂ (λ c r. c ∷ r) (single_one index b (h 0)) (single_all index bs (λ i. h (suc i)))

ascii_all : (encoding : Encoding) (bs : List ℕ) → is_ascii_based encoding ≡ true → IsAscii bs → characters encoding bs ≡ map Some bs
ascii_all Utf8 bs b h = utf8_all bs (IsUtf8-from_ascii bs h) ∙ ap (map Some) (chars-IsAscii bs h)
ascii_all Utf16Be bs b h = cc
ascii_all Utf16Le bs b h = cc
ascii_all Gbk bs b h = run (gb18030_characters GB18030 FIRSTS CODES) (gb18030_ascii GB18030 FIRSTS CODES) (gb18030_ends GB18030 FIRSTS CODES) bs h
ascii_all Gb18030 bs b h = run (gb18030_characters GB18030 FIRSTS CODES) (gb18030_ascii GB18030 FIRSTS CODES) (gb18030_ends GB18030 FIRSTS CODES) bs h
ascii_all Big5 bs b h = run (big5_characters BIG5) (big5_ascii BIG5) (big5_ends BIG5) bs h
ascii_all EucJp bs b h = run (euc_jp_characters JIS0208 JIS0212) (euc_jp_ascii JIS0208 JIS0212) (euc_jp_ends JIS0208 JIS0212) bs h
ascii_all Iso2022Jp bs b h = cc
ascii_all ShiftJis bs b h = run (shift_jis_characters JIS0208) (shift_jis_ascii JIS0208) (shift_jis_ends JIS0208) bs h
ascii_all EucKr bs b h = run (euc_kr_characters EUC_KR) (euc_kr_ascii EUC_KR) (euc_kr_ends EUC_KR) bs h
ascii_all Replacement bs b h = cc
ascii_all (SingleByte single) bs b h = single_all (index_of single) bs h

pub ascii_itself : (encoding : Encoding) (bs : List ℕ) → is_ascii_based encoding ≡ true → IsAscii bs → IsItself encoding bs
ascii_itself encoding bs b h =
    let all : characters encoding bs ≡ map Some (chars bs) = ascii_all encoding bs b h ∙ ap (map Some) (sym (chars-IsAscii bs h)) in
    (ap text_of all ∙ text-all (chars bs) ∙ encodes-chars bs (IsUtf8-from_ascii bs h), ap errors_in all ∙ errors-all (chars bs))
