-- What is printed is read back as itself.
use Rattle.std.proofs.Common.{rules, ◌≡◌, ◌≢◌, ℕ, ◌<◌, ◌^◌, true, not, eqb, leb, ltb, List, [], ◌∷◌, length, get_or, Some, Ok, Err, refl, sym, ap, ◌∙◌, subst, inl, inr, arith}
use Rattle.std.proofs.lemmas.Bool.{and_parts, and_from, or_left, or_right, ne_eqb, le-ltb, le-leb, lt-ltb, cond-true, cond-false, cases_Bool, cases_eq, not_from_false}
use Rattle.std.proofs.lemmas.Fmt.{digits_decimal, digits_value-decimal, decimal_nonempty, length-decimal-le, first_decimal, decimal_digit}
use Rattle.std.proofs.lemmas.Str.Parse.{IsNumeralModel, numerals_by_fold}
use Rattle.std.specs.Char.{is_ascii_digit}
use Rattle.std.specs.Fmt.{decimal}
use Rattle.std.specs.List.{list_all}
use Rattle.std.specs.Result.{result_ok}
use Rattle.hex.specs.Hex.{IsBytes, encode_lower}
use Rattle.hex.proofs.HexLemmas.{decode_of-encode_lower}
use Rattle.bw_text.specs.declared.faults.Cause.TheVariants.{KeyText, KeyLength, Number, ValueText, ValueLength}
use Rattle.bw_text.specs.Spelling.{is_plain, is_plain_word, spelled, spelled_by}
use Rattle.bw_text.specs.Grammar.{no_more_than, number_behind, is_number, without_leading_zeros}
use Rattle.bw_text.specs.ReadBack.{KeysAreReadBack, ValuesAreReadBack, NumbersAreReadBack, NumberValuesAreReadBack}

-- ---- spellings

no_sign : (b : ℕ) → is_plain b ≡ true → b ≢ 37
no_sign b plain e = let bad : is_plain 37 ≡ true = subst (λ x. is_plain x ≡ true) e plain in cc bad

-- a plain word spells itself
plain_back : (bytes : List ℕ) → is_plain_word bytes ≡ true → spelled_by bytes ≡ Some bytes
plain_back [] plain = cc plain
plain_back (b ∷ bs) plain =
    let all = (and_parts (not (eqb (length (b ∷ bs)) 0)) (list_all is_plain (b ∷ bs)) plain).1 in
    let first = (and_parts (is_plain b) (list_all is_plain bs) all).0 in
    cond-false (eqb b 37) _ _ (ne_eqb b 37 (no_sign b first)) ∙ cond-true (is_plain_word (b ∷ bs)) _ _ plain

spelled_back : (bytes : List ℕ) → IsBytes bytes → spelled_by (spelled bytes) ≡ Some bytes
spelled_back bytes fits = elim (cases_Bool (is_plain_word bytes)) [
  | inl plain ↦ ap spelled_by (cond-true (is_plain_word bytes) bytes (37 ∷ encode_lower bytes) plain) ∙ plain_back bytes plain
  | inr other ↦ ap spelled_by (cond-false (is_plain_word bytes) bytes (37 ∷ encode_lower bytes) other) ∙ ap result_ok (decode_of-encode_lower bytes fits)
]

pub keys_back : KeysAreReadBack
keys_back key fits short =
    ap (no_more_than 64 KeyText KeyLength) (spelled_back key fits) ∙ cond-false (ltb 64 (length key)) (Err KeyLength) (Ok key) (le-ltb 64 (length key) short)

pub values_back : ValuesAreReadBack
values_back value fits short =
    ap (no_more_than 1024 ValueText ValueLength) (spelled_back value fits) ∙ cond-false (ltb 1024 (length value)) (Err ValueLength) (Ok value) (le-ltb 1024 (length value) short)

-- ---- numbers

own : IsNumeralModel (λ ds. list_all is_ascii_digit ds ≡ true) (number_behind 0)
own = numerals_by_fold _ (search rules) number_behind (search rules)

decimals_are_numbers : (n : ℕ) → n < 2 ^ 64 → is_number (decimal n) ≡ true
decimals_are_numbers n fits =
    let some = decimal_nonempty n fits in
    let value = digits_value-decimal own n fits in
    let most = length-decimal-le 20 n (omega arith) (omega arith) fits in
    let there = not_from_false (eqb (length (decimal n)) 0) (ne_eqb (length (decimal n)) 0 (λ e. omega (arith, some, e))) in
    let short = le-leb (length (decimal n)) 20 most in
    let small : number_behind 0 (decimal n) < 2 ^ 64 = omega (arith, value, fits) in
    and_from (not (eqb (length (decimal n)) 0)) _ there
    (and_from (leb (length (decimal n)) 20) _ short
    (and_from (list_all is_ascii_digit (decimal n)) _ (digits_decimal own n fits) (lt-ltb (number_behind 0 (decimal n)) (2 ^ 64) small)))

pub numbers_back : NumbersAreReadBack
numbers_back n fits =
    cond-true (is_number (decimal n)) (Ok (number_behind 0 (decimal n))) (Err Number) (decimals_are_numbers n fits) ∙ ap Ok (digits_value-decimal own n fits)

-- digits are plain
digit_plain : (b : ℕ) → is_ascii_digit b ≡ true → is_plain b ≡ true
digit_plain b digit = or_left _ _ (or_left _ _ (or_left _ _ (or_right _ _ digit)))

digits_plain : (ds : List ℕ) → list_all is_ascii_digit ds ≡ true → list_all is_plain ds ≡ true
digits_plain [] digits = refl
digits_plain (b ∷ ds) digits =
    let parts = and_parts (is_ascii_digit b) (list_all is_ascii_digit ds) digits in
    and_from (is_plain b) (list_all is_plain ds) (digit_plain b parts.0) (digits_plain ds parts.1)

-- digits that begin with no zero
no_zeros : (ds : List ℕ) → 48 < get_or ds 0 0 → without_leading_zeros ds ≡ ds
no_zeros [] lt = refl
no_zeros (b ∷ []) lt = refl
no_zeros (b ∷ c ∷ ds) lt = cond-false (eqb b 48) _ _ (ne_eqb b 48 (λ e. omega (arith, lt, e)))

decimals_without_zeros : (n : ℕ) → n < 2 ^ 64 → without_leading_zeros (decimal n) ≡ decimal n
decimals_without_zeros n fits = elim (cases_eq n 0) [
  | inl zero ↦ let one = decimal_digit n (omega (arith, zero)) in ap without_leading_zeros one ∙ sym one
  | inr more ↦ no_zeros (decimal n) (first_decimal n (omega (arith, more)) fits)
]

pub number_values_back : NumberValuesAreReadBack
number_values_back n fits =
    let some = decimal_nonempty n fits in
    let there = not_from_false (eqb (length (decimal n)) 0) (ne_eqb (length (decimal n)) 0 (λ e. omega (arith, some, e))) in
    let plain = and_from (not (eqb (length (decimal n)) 0)) (list_all is_plain (decimal n)) there (digits_plain (decimal n) (digits_decimal own n fits)) in (
      cond-true (is_plain_word (decimal n)) (decimal n) _ plain,
      cond-true (is_number (decimal n)) (Ok (without_leading_zeros (decimal n))) (Err Number) (decimals_are_numbers n fits) ∙ ap Ok (decimals_without_zeros n fits),
    )
