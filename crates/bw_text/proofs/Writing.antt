-- Texts that are written part by part.
use Rattle.std.proofs.Common.{◌≡◌, ℕ, ◌+◌, ◌<◌, List, [], ◌∷◌, ◌++◌, length, take, drop, get_or, sym, ap, ◌∙◌, append_assoc, append-nil, take-append-drop}
use Rattle.std.proofs.lemmas.List.{take_more}
use Rattle.std.proofs.lemmas.List.Concat.{flat_map-append}
use Rattle.std.specs.List.{flat_map}
use Rattle.bw_text.specs.Writing.{IsFront}

module _ {X : Type 0} (f : X → List ℕ) where
  -- what was written of the texts of some is a front of the texts of all
  pub front_of : (xs : List X) (i : ℕ) (front rest : List ℕ) → flat_map f (take i xs) ≡ front ++ rest → IsFront front (flat_map f xs)
  front_of xs i front rest is = (
    rest ++ flat_map f (drop i xs),
    ap (flat_map f) (sym (take-append-drop i xs)) ∙ flat_map-append f (take i xs) (drop i xs)
        ∙ ap (λ t. t ++ flat_map f (drop i xs)) is ∙ append_assoc front rest (flat_map f (drop i xs)),
  )

  pub flat_map_one : (xs : List X) (x : X) → flat_map f (xs ++ x ∷ []) ≡ flat_map f xs ++ f x
  flat_map_one xs x = flat_map-append f xs (x ∷ []) ∙ ap (λ t. flat_map f xs ++ t) (append-nil (f x))

  -- one more text was put behind the rest, of which a front was handed on
  pub one_more_text : (xs : List X) (i : ℕ) (x : X) (front rest handed left : List ℕ) → i < length xs → x ≡ get_or xs i x →
      flat_map f (take i xs) ≡ front ++ rest → rest ++ f x ≡ handed ++ left → flat_map f (take (i + 1) xs) ≡ (front ++ handed) ++ left
  one_more_text xs i x front rest handed left lt at is more =
      ap (flat_map f) (take_more xs i x lt ∙ ap (λ y. take i xs ++ y ∷ []) (sym at)) ∙ flat_map_one (take i xs) x
      ∙ ap (λ t. t ++ f x) is ∙ append_assoc front rest (f x) ∙ ap (λ t. front ++ t) more ∙ sym (append_assoc front handed left)

-- `A B` and the end of the line, behind a text
pub two_numbers : (text word a b : List ℕ) → ((((text ++ word) ++ a) ++ 32 ∷ []) ++ b) ++ 10 ∷ [] ≡ text ++ ((word ++ a ++ 32 ∷ b) ++ 10 ∷ [])
two_numbers text word a b = simp append_assoc
