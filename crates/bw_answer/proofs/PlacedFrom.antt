-- Answers that are put at their places in some of a batch's replies.
use Rattle.std.proofs.Common.{◌≡◌, ℕ, zero, suc, ◌+◌, ◌-◌, ◌<◌, ◌≤◌, List, [], ◌∷◌, ◌++◌, length, set, refl, sym, ap, ◌∙◌, subst, arith}
use Rattle.std.specs.List.{AllByRecursion, flat_map}
use Rattle.std.proofs.lemmas.List.{length-set, set-append_right}
use Rattle.bw_model.specs.declared.operations.Reply.{Reply}
use Rattle.bw_answer.specs.declared.batch_reader.Answer.{Answer}
use Rattle.bw_answer.specs.Sections.{ArePlacesFrom, IsAnswerFrom, with_answers_from}
use Rattle.bw_answer.proofs.ListLemmas.{all_back, all_front}

pub length_from : (start : ℕ) (replies : List Reply) (answers : List Answer) → length (with_answers_from start replies answers) ≡ length replies
length_from start replies [] = refl
length_from start replies (a ∷ rest) = length_from start (set replies (a.place - start) a.reply) rest ∙ length-set replies (a.place - start) a.reply

-- one answer further
pub next_from : (start : ℕ) (replies : List Reply) (rest rest' : List Answer) (a : Answer) → rest ≡ a ∷ rest' → ArePlacesFrom start replies rest →
    (start ≤ a.place) × (a.place - start < length replies) × (with_answers_from start (set replies (a.place - start) a.reply) rest' ≡ with_answers_from start replies rest)
    × ArePlacesFrom start (set replies (a.place - start) a.reply) rest'
next_from start replies rest rest' a is there =
    let all = subst (ArePlacesFrom start replies) is there in
    let low = all.0.0 in
    let high = all.0.1 in (
      low,
      omega (arith, low, high),
      sym (ap (with_answers_from start replies) is),
      subst (λ (n : ℕ). AllByRecursion (IsAnswerFrom start n) rest') (sym (length-set replies (a.place - start) a.reply)) all.1,
    )

pub none_from : (start : ℕ) (replies : List Reply) (rest : List Answer) → length rest ≡ 0 → replies ≡ with_answers_from start replies rest
none_from start replies [] none = refl
none_from start replies (a ∷ rest) none = absurd (omega (arith, none))

pub append_from : (start : ℕ) (replies : List Reply) (xs ys : List Answer) → with_answers_from start replies (xs ++ ys) ≡ with_answers_from start (with_answers_from start replies xs) ys
append_from start replies [] ys = refl
append_from start replies (x ∷ xs) ys = append_from start (set replies (x.place - start) x.reply) xs ys

-- one list further
module _ {L : Type 0} (items : L → List Answer) (start : ℕ) where
  pub list_from : (replies replies' : List Reply) (rest rest' : List L) (list : L) → rest ≡ list ∷ rest' → replies' ≡ with_answers_from start replies (items list) → ArePlacesFrom start replies (flat_map items rest) →
      ArePlacesFrom start replies (items list) × (with_answers_from start replies' (flat_map items rest') ≡ with_answers_from start replies (flat_map items rest)) × ArePlacesFrom start replies' (flat_map items rest')
  list_from replies replies' rest rest' list is placed there =
      let more = flat_map items rest' in
      let all : ArePlacesFrom start replies (items list ++ more) = subst (λ l. ArePlacesFrom start replies (flat_map items l)) is there in
      let size : length replies ≡ length replies' = sym (ap length placed ∙ length_from start replies (items list)) in (
        all_front (IsAnswerFrom start (length replies)) (items list) more all,
        ap (λ r. with_answers_from start r more) placed ∙ sym (append_from start replies (items list) more) ∙ sym (ap (λ (l : List L). with_answers_from start replies (flat_map items l)) is),
        subst (λ (n : ℕ). AllByRecursion (IsAnswerFrom start n) more) size (all_back (IsAnswerFrom start (length replies)) (items list) more all),
      )

  pub no_list_from : (replies : List Reply) (rest : List L) → length rest ≡ 0 → replies ≡ with_answers_from start replies (flat_map items rest)
  no_list_from replies [] none = refl
  no_list_from replies (l ∷ rest) none = absurd (omega (arith, none))

-- Answers to replies in the back of a list leave those in its front, and the other way round.
back_alone : (start : ℕ) (xs ys : List Reply) (bs : List Answer) → AllByRecursion (λ (b : Answer). start + length xs ≤ b.place) bs →
    with_answers_from start (xs ++ ys) bs ≡ xs ++ with_answers_from (start + length xs) ys bs
back_alone start xs ys [] behind = refl
back_alone start xs ys (b ∷ bs) behind =
    let low = behind.0 in
    let n = length xs in
    let there : b.place - start - n ≡ b.place - (start + n) = omega arith in
    ap (λ r. with_answers_from start r bs) (set-append_right xs ys n (b.place - start) b.reply refl (omega (arith, low)) ∙ ap (λ (k : ℕ). xs ++ set ys k b.reply) there)
    ∙ back_alone start xs (set ys (b.place - (start + n)) b.reply) bs behind.1

set_front : (xs ys : List Reply) (i : ℕ) (r : Reply) → i < length xs → set (xs ++ ys) i r ≡ set xs i r ++ ys
set_front [] ys i r lt = absurd (omega arith)
set_front (x ∷ xs) ys zero r lt = refl
set_front (x ∷ xs) ys (suc i) r lt = ap (λ l. x ∷ l) (set_front xs ys i r (omega arith))

pub both_from : (start : ℕ) (xs ys : List Reply) (fs bs : List Answer) → ArePlacesFrom start xs fs → AllByRecursion (λ (b : Answer). start + length xs ≤ b.place) bs →
    with_answers_from start (xs ++ ys) (fs ++ bs) ≡ with_answers_from start xs fs ++ with_answers_from (start + length xs) ys bs
both_from start xs ys [] bs there behind = back_alone start xs ys bs behind
both_from start xs ys (a ∷ fs) bs there behind =
    let low = there.0.0 in
    let high = there.0.1 in
    let i = a.place - start in
    let size = length-set xs i a.reply in
    ap (λ r. with_answers_from start r (fs ++ bs)) (set_front xs ys i a.reply (omega (arith, low, high)))
    ∙ both_from start (set xs i a.reply) ys fs bs
    (subst (λ (n : ℕ). AllByRecursion (IsAnswerFrom start n) fs) (sym size) there.1)
    (subst (λ (n : ℕ). AllByRecursion (λ (b : Answer). start + n ≤ b.place) bs) (sym size) behind)
    ∙ ap (λ (n : ℕ). with_answers_from start (set xs i a.reply) fs ++ with_answers_from (start + n) ys bs) size
