-- Answers that are parted among sections.
use Rattle.std.proofs.Common.{◌≡◌, ℕ, zero, suc, ◌+◌, ◌*◌, ◌<◌, ◌≤◌, List, [], ◌∷◌, ◌++◌, length, map, set, get_or, replicate, Option, None, Some, true, false, refl, sym, ap, ◌∙◌, subst, arith}
use Rattle.std.specs.List.{AllByRecursion, flat_map}
use Rattle.std.specs.List.Sorted.{IsPermutation}
use Rattle.std.specs.Option.{option_map_or}
use Rattle.std.specs.Prelude.{is_some, IfSome}
use Rattle.std.specs.declared.vec.Vec.{Vec}
use Rattle.std.proofs.lemmas.List.{append-nil, append_assoc, length-replicate, replicate-append-replicate}
use Rattle.std.proofs.lemmas.List.Sorted.{IsPermutation-append_comm, IsPermutation-append_left, IsPermutation-append_right, IsPermutation-trans}
use Rattle.bw_model.specs.declared.operations.Reply.{Reply}
use Rattle.bw_model.specs.declared.operations.Reply.TheVariants.{Absent}
use Rattle.bw_answer.specs.Sections.{answers_of, replies_in, with_answers_from, AreAllMade, AreJoined, AreStartsFrom, ArePartedFrom, HasReplies, IsAnswerFrom}
use Rattle.bw_answer.specs.declared.batch_reader.Answer.{Answer}
use Rattle.bw_answer.specs.declared.sections.Section.{Section}
use Rattle.bw_group.proofs.ListParts.{all_append, all_same}
use Rattle.bw_answer.proofs.PlacedFrom.{both_from}

-- the next answers come to those so far
pub next_same : (all rest rest' old new more : List Answer) → rest ≡ more ++ rest' → IsPermutation (old ++ more) new → IsPermutation all (old ++ rest) → IsPermutation all (new ++ rest')
next_same all rest rest' old new more next added same =
    let parted : old ++ rest ≡ (old ++ more) ++ rest' = ap (λ l. old ++ l) next ∙ sym (append_assoc old more rest') in
    IsPermutation-trans _ _ _ (subst (IsPermutation all) parted same) (IsPermutation-append_left rest' _ _ added)

module _ {X : Type 0} (answers : X → List Answer) where
  -- one of the lists gets more answers
  pub parted_more : (start size : ℕ) (xs : List X) (k : ℕ) (x x' : X) (more : List Answer) → k < length xs → x ≡ get_or xs k x → answers x' ≡ answers x ++ more → ArePartedFrom start size (map answers xs) →
      AllByRecursion (IsAnswerFrom (start + k * size) size) more → ArePartedFrom start size (map answers (set xs k x'))
  parted_more start size [] k x x' more lt there longer parted all = absurd (omega arith)
  parted_more start size (y ∷ xs) zero x x' more lt there longer parted all = (
    subst (AllByRecursion (IsAnswerFrom start size)) (ap (λ z. answers z ++ more) (sym there) ∙ sym longer)
        (all_append (IsAnswerFrom start size) (answers y) more parted.0 (subst (λ (n : ℕ). AllByRecursion (IsAnswerFrom n size) more) (here start) all)),
    parted.1,
  )
    where
      here : (n : ℕ) → n + 0 * size ≡ n
      here n = omega arith
  parted_more start size (y ∷ xs) (suc k) x x' more lt there longer parted all = (
    parted.0,
    parted_more (start + size) size xs k x x' more (omega arith) there longer parted.1 (subst (λ (n : ℕ). AllByRecursion (IsAnswerFrom n size) more) (next start) all),
  )
    where
      next : (n : ℕ) → n + suc k * size ≡ n + size + k * size
      next n = omega arith

  pub same_more : (xs : List X) (k : ℕ) (x x' : X) (more : List Answer) → k < length xs → x ≡ get_or xs k x → answers x' ≡ answers x ++ more → IsPermutation (flat_map answers xs ++ more) (flat_map answers (set xs k x'))
  same_more [] k x x' more lt there longer = absurd (omega arith)
  same_more (y ∷ xs) zero x x' more lt there longer =
      let rest = flat_map answers xs in
      let added : answers y ++ (more ++ rest) ≡ answers x' ++ rest = sym (append_assoc (answers y) more rest) ∙ ap (λ l. l ++ rest) (ap (λ z. answers z ++ more) (sym there) ∙ sym longer) in
      subst (λ l. IsPermutation l (answers x' ++ rest)) (sym (append_assoc (answers y) rest more))
      (subst (IsPermutation (answers y ++ (rest ++ more))) added (IsPermutation-append_right (answers y) _ _ (IsPermutation-append_comm rest more)))
  same_more (y ∷ xs) (suc k) x x' more lt there longer =
      subst (λ l. IsPermutation l (answers y ++ flat_map answers (set xs k x'))) (sym (append_assoc (answers y) (flat_map answers xs) more))
      (IsPermutation-append_right (answers y) _ _ (same_more xs k x x' more (omega arith) there longer))

  -- the same, where the new answers are the next ones
  pub same_step : (all rest rest' : List Answer) (xs : List X) (k : ℕ) (x x' : X) (more : List Answer) → k < length xs → x ≡ get_or xs k x → answers x' ≡ answers x ++ more → rest ≡ more ++ rest' →
      IsPermutation all (flat_map answers xs ++ rest) → IsPermutation all (flat_map answers (set xs k x') ++ rest')
  same_step all rest rest' xs k x x' more lt there longer next same = next_same all rest rest' (flat_map answers xs) (flat_map answers (set xs k x')) more next (same_more xs k x x' more lt there longer) same

  -- so many that have none
  pub none_parted : (start size : ℕ) (xs : List X) → AllByRecursion (λ x. answers x ≡ []) xs → ArePartedFrom start size (map answers xs)
  none_parted start size [] all = tt
  none_parted start size (x ∷ xs) all = (subst (AllByRecursion (IsAnswerFrom start size)) (sym all.0) tt, none_parted (start + size) size xs all.1)

  pub no_answers : (xs : List X) → AllByRecursion (λ x. answers x ≡ []) xs → flat_map answers xs ≡ []
  no_answers [] all = refl
  no_answers (x ∷ xs) all = ap (λ l. l ++ flat_map answers xs) all.0 ∙ no_answers xs all.1

  -- those from a list on lie behind its first place
  behind : (start size : ℕ) (xs : List X) → ArePartedFrom start size (map answers xs) → AllByRecursion (λ (b : Answer). start ≤ b.place) (flat_map answers xs)
  behind start size [] parted = tt
  behind start size (x ∷ xs) parted =
      all_append (λ (b : Answer). start ≤ b.place) (answers x) (flat_map answers xs)
      (all_same (IsAnswerFrom start size) (λ (b : Answer). start ≤ b.place) (λ b is. is.0) (answers x) parted.0)
      (all_same (λ (b : Answer). start + size ≤ b.place) (λ (b : Answer). start ≤ b.place) (λ b le. omega (arith, le)) (flat_map answers xs) (behind (start + size) size xs parted.1))

pub starts_more : (start size : ℕ) (sections : List Section) (section : Section) → AreStartsFrom start size sections → section.start ≡ start + length sections * size → AreStartsFrom start size (sections ++ section ∷ [])
starts_more start size [] section starts is = (is ∙ here start, tt)
  where
    here : (n : ℕ) → n + 0 * size ≡ n
    here n = omega arith
starts_more start size (s ∷ sections) section starts is = (starts.0, starts_more (start + size) size sections section starts.1 (is ∙ next start (length sections)))
  where
    next : (n k : ℕ) → n + suc k * size ≡ n + size + k * size
    next n k = omega arith

-- another list in a section leaves where it begins
pub starts_kept : (start size : ℕ) (sections : List Section) (k : ℕ) (section section' : Section) → section ≡ get_or sections k section → section'.start ≡ section.start → AreStartsFrom start size sections → AreStartsFrom start size (set sections k section')
starts_kept start size [] k section section' there same starts = tt
starts_kept start size (s ∷ sections) zero section section' there same starts = (same ∙ ap (λ (t : Section). t.start) there ∙ starts.0, starts.1)
starts_kept start size (s ∷ sections) (suc k) section section' there same starts = (starts.0, starts_kept (start + size) size sections k section section' there same starts.1)

-- the answers of each section are to operations in it
pub sections_within : (start size : ℕ) (sections : List Section) → AreStartsFrom start size sections → ArePartedFrom start size (map answers_of sections) →
    AllByRecursion (λ (section : Section). AllByRecursion (IsAnswerFrom section.start size) (answers_of section)) sections
sections_within start size [] starts parted = tt
sections_within start size (s ∷ sections) starts parted =
    (subst (λ (n : ℕ). AllByRecursion (IsAnswerFrom n size) (answers_of s)) (sym starts.0) parted.0, sections_within (start + size) size sections starts.1 parted.1)

-- what was made of the sections is what their answers leave of absent replies
pub all_made : (size start : ℕ) (old new : List Section) → AreAllMade size old new → AllByRecursion HasReplies new → AreStartsFrom start size old → ArePartedFrom start size (map answers_of old) →
    flat_map replies_in new ≡ with_answers_from start (replicate (length old * size) Absent) (flat_map answers_of old)
all_made size start [] [] made there starts parted = ap (λ (k : ℕ). replicate k Absent) none
  where
    none : 0 ≡ 0 * size
    none = omega arith
all_made size start [] (n ∷ new) made there starts parted = let count = made.count in absurd (omega (arith, count))
all_made size start (o ∷ old) [] made there starts parted = let count = made.count in absurd (omega (arith, count))
all_made size start (o ∷ old) (n ∷ new) made there starts parted =
    let none = replicate size Absent in
    let rest = flat_map answers_of old in
    let len = length-replicate size Absent in
    let more = replicate (length old * size) Absent in
    let count = made.count in
    let others : AreAllMade size old new = record { count = omega (arith, count); each = λ i d lt. made.each (suc i) d (omega (arith, lt)) } in
    ap (λ k. k ++ flat_map replies_in new) (first n.replies (made.each 0 o (omega arith)) there.0 ∙ ap (λ (k : ℕ). with_answers_from k none (answers_of o)) starts.0)
    ∙ ap (λ k. with_answers_from start none (answers_of o) ++ k) (all_made size (start + size) old new others there.1 starts.1 parted.1)
    ∙ ap (λ (k : ℕ). with_answers_from start none (answers_of o) ++ with_answers_from (start + k) more rest) (sym len)
    ∙ sym (both_from start none more (answers_of o) rest
    (subst (λ (k : ℕ). AllByRecursion (IsAnswerFrom start k) (answers_of o)) (sym len) parted.0)
    (subst (λ (k : ℕ). AllByRecursion (λ (b : Answer). start + k ≤ b.place) rest) (sym len) (behind answers_of (start + size) size old parted.1)))
    ∙ ap (λ l. with_answers_from start l (answers_of o ++ rest)) (replicate-append-replicate size (length old * size) Absent ∙ ap (λ (k : ℕ). replicate k Absent) (one_more (length old)))
  where
    first : {W : Type 0} (made : Option (Vec Reply W)) → IfSome made (λ list. list.items ≡ with_answers_from o.start (replicate size Absent) (answers_of o)) → is_some made ≡ true →
        option_map_or (λ list. list.items) made [] ≡ with_answers_from o.start (replicate size Absent) (answers_of o)
    first None is some = absurd (different some)
      where
        different : false ≡ true → ⊥
        different e = cc
    first (Some list) is some = is

    one_more : (k : ℕ) → size + k * size ≡ suc k * size
    one_more k = omega arith

-- the replies of one section further
pub next_joined : (replies replies' more : List Reply) (rest rest' all : List Section) (section : Section) → rest ≡ section ∷ rest' → replies_in section ≡ more → replies' ≡ replies ++ more →
    replies ++ flat_map replies_in rest ≡ flat_map replies_in all → replies' ++ flat_map replies_in rest' ≡ flat_map replies_in all
next_joined replies replies' more rest rest' all section next theirs added same =
    let left = flat_map replies_in rest' in
    ap (λ l. l ++ left) added
    ∙ append_assoc replies more left
    ∙ ap (λ l. replies ++ (l ++ left)) (sym theirs)
    ∙ ap (λ l. replies ++ flat_map replies_in l) (sym next)
    ∙ same

pub all_joined : (replies : List Reply) (rest all : List Section) → length rest ≡ 0 → replies ++ flat_map replies_in rest ≡ flat_map replies_in all → (AllByRecursion HasReplies rest → AllByRecursion HasReplies all) → AreJoined all replies
all_joined replies [] all none same made = record { made = made tt; same = sym (append-nil replies) ∙ same }
all_joined replies (s ∷ rest) all none same made = absurd (omega (arith, none))
