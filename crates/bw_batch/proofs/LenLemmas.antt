-- How many keys an index has.
use Rattle.std.proofs.Common.{◌≡◌, ℕ, zero, suc, ◌+◌, ◌-◌, ◌<◌, ◌≤◌, Bool, true, false, cond, List, [], ◌∷◌, length, get_or, drop, Option, Some, None, refl, sym, ap, ◌∙◌, subst, add-one, arith}
use Rattle.std.proofs.lemmas.List.Folds.{list_any_at}
use Rattle.std.specs.List.{list_any}
use Rattle.std.specs.Prelude.{is_some}
use Rattle.std.specs.FinMap.{get, insert, remove, len, len-insert, len-remove}
use Rattle.bw_key.specs.Order.{KeyBytes, key_cmp_total}
use Rattle.bw_model.specs.Actions.{answer, effect}
use Rattle.bw_model.specs.Contents.{Contents, set_at}
use Rattle.bw_model.specs.Model.{after, contents_after, found, replies_of, reply_of}
use Rattle.bw_model.specs.Values.{ValueBytes, value_eq}
use Rattle.bw_model.specs.declared.operations.Action.TheVariants as action
use Rattle.bw_model.specs.declared.operations.Op.{Op}
use Rattle.bw_model.specs.declared.operations.Op.TheVariants.{Get, Insert, Upsert, Update, Delete, SwapIf, Scan, Rscan}
use Rattle.bw_model.specs.declared.operations.Reply.{Reply}
use Rattle.bw_model.specs.declared.operations.Reply.TheVariants.{Found, Absent, Inserted, Held, New, Was, Pairs}
use Rattle.bw_delta.specs.Batches.{writes_of}
use Rattle.bw_group.specs.Points.{is_delete}
use Rattle.bw_batch.specs.Lens.{len_behind, len_without}

-- a key that is put, or goes, by whether it was there
put_there : (m : Contents ValueBytes) (k : KeyBytes) (v w : ValueBytes) → get m k ≡ Some w → len (insert m k v) ≡ len m
put_there m k v w there = len-insert key_cmp_total m k v ∙ ap (λ o. cond (is_some o) (len m) (len m + 1)) there

put_new : (m : Contents ValueBytes) (k : KeyBytes) (v : ValueBytes) → get m k ≡ None → len (insert m k v) ≡ len m + 1
put_new m k v none = len-insert key_cmp_total m k v ∙ ap (λ o. cond (is_some o) (len m) (len m + 1)) none

gone_there : (m : Contents ValueBytes) (k : KeyBytes) (w : ValueBytes) → get m k ≡ Some w → len (remove m k) ≡ len m - 1
gone_there m k w there = len-remove key_cmp_total m k ∙ ap (λ o. cond (is_some o) (len m - 1) (len m)) there

gone_none : (m : Contents ValueBytes) (k : KeyBytes) → get m k ≡ None → len (remove m k) ≡ len m
gone_none m k none = len-remove key_cmp_total m k ∙ ap (λ o. cond (is_some o) (len m - 1) (len m)) none

-- an operation leaves as many keys as its reply says
pub len_kept : (op : Op) (m : Contents ValueBytes) → len (after op m) ≡ len_behind (len m) op (reply_of op m)
len_kept (Get key) m = elim (get m key) as (λ o. len m ≡ len_behind (len m) (Get key) (found o)) [
  | None ↦ refl
  | Some w ↦ refl
]
len_kept (Insert key v) m = elim (get m key) as (λ o. get m key ≡ o → len (set_at m key (effect (action.Insert v) o)) ≡ len_behind (len m) (Insert key v) (answer (action.Insert v) o)) [
  | None ↦ λ none. put_new m key v none
  | Some w ↦ λ there. put_there m key w w there
] refl
len_kept (Upsert key v) m = elim (get m key) as (λ o. get m key ≡ o → len (set_at m key (effect (action.Upsert v) o)) ≡ len_behind (len m) (Upsert key v) (answer (action.Upsert v) o)) [
  | None ↦ λ none. put_new m key v none
  | Some w ↦ λ there. put_there m key v w there
] refl
len_kept (Update key v) m = elim (get m key) as (λ o. get m key ≡ o → len (set_at m key (effect (action.Update v) o)) ≡ len_behind (len m) (Update key v) (answer (action.Update v) o)) [
  | None ↦ λ none. gone_none m key none
  | Some w ↦ λ there. put_there m key v w there
] refl
len_kept (Delete key) m = elim (get m key) as (λ o. get m key ≡ o → len (set_at m key (effect action.Delete o)) ≡ len_behind (len m) (Delete key) (answer action.Delete o)) [
  | None ↦ λ none. gone_none m key none
  | Some w ↦ λ there. gone_there m key w there
] refl
len_kept (SwapIf key old new) m = elim (get m key) as (λ o. get m key ≡ o → len (set_at m key (effect (action.SwapIf old new) o)) ≡ len_behind (len m) (SwapIf key old new) (answer (action.SwapIf old new) o)) [
  | None ↦ λ none. gone_none m key none
  | Some w ↦ λ there. swapped w there
] refl
  where
    both : Bool → ValueBytes → Reply × Option ValueBytes
    both b w = cond b (Was w, Some new) (Held w, Some w)

    swapped : (w : ValueBytes) → get m key ≡ Some w → len (set_at m key (effect (action.SwapIf old new) (Some w))) ≡ len_behind (len m) (SwapIf key old new) (answer (action.SwapIf old new) (Some w))
    swapped w there = elim (value_eq w old) as (λ b. len (set_at m key (both b w).1) ≡ len_behind (len m) (SwapIf key old new) (both b w).0) [
      | true ↦ put_there m key new w there
      | false ↦ put_there m key w w there
    ]
len_kept (Scan from to most) m = refl
len_kept (Rscan from to most) m = refl

-- Of a batch some operations were counted: the others are answered over what these left, which has so many keys.
pub record IsCounting (ops : List Op) (replies : List Reply) (place now : ℕ) (m : Contents ValueBytes) : Type 0 where
  pub left : Contents ValueBytes
  pub count : len left ≡ now
  pub answered : drop place replies ≡ replies_of (drop place ops) left
  pub end : contents_after ops m ≡ contents_after (drop place ops) left

-- the next operation and the others
rest : {X : Type 0} (xs : List X) (place : ℕ) (x : X) → place < length xs → x ≡ get_or xs place x → drop place xs ≡ x ∷ drop (suc place) xs
rest [] place x lt at = absurd (omega (arith, lt))
rest (y ∷ ys) zero x lt at = ap (λ z. z ∷ ys) (sym at)
rest (y ∷ ys) (suc place) x lt at = rest ys place x (omega (arith, lt)) at

head_of : {X : Type 0} {x y : X} {xs ys : List X} → x ∷ xs ≡ y ∷ ys → (x ≡ y) × (xs ≡ ys)
head_of e = (cc, cc)

counting_more : (ops : List Op) (replies : List Reply) (place now next : ℕ) (m : Contents ValueBytes) (op : Op) (reply : Reply) → place < length ops → length replies ≡ length ops → op ≡ get_or ops place op → reply ≡ get_or replies place reply → next ≡ len_behind now op reply → IsCounting ops replies place now m →
    IsCounting ops replies (suc place) next m
counting_more ops replies place now next m op reply lt alike at told is c =
    let here = rest ops place op lt at in
    let answered = head_of (sym (rest replies place reply (omega (arith, lt, alike)) told) ∙ c.answered ∙ ap (λ (l : List Op). replies_of l c.left) here) in
    record {
      left = after op c.left;
      count = len_kept op c.left ∙ ap (λ n. len_behind n op (reply_of op c.left)) c.count ∙ ap (len_behind now op) (sym answered.0) ∙ sym is;
      answered = answered.1;
      end = c.end ∙ ap (λ (l : List Op). contents_after l c.left) here;
    }

pub counting_next : (ops : List Op) (replies : List Reply) (place now next : ℕ) (m : Contents ValueBytes) (op : Op) (reply : Reply) → place < length ops → length replies ≡ length ops → op ≡ get_or ops place op → reply ≡ get_or replies place reply → next ≡ len_behind now op reply → IsCounting ops replies place now m →
    IsCounting ops replies (place + 1) next m
counting_next ops replies place now next m op reply lt alike at told is c =
    subst (λ n. IsCounting ops replies n next m) (sym (add-one place)) (counting_more ops replies place now next m op reply lt alike at told is c)

-- an operation puts one key at the most
without_most : (n : ℕ) (op : Op) → len_without n op ≤ n + 1
without_most n (Get key) = omega arith
without_most n (Insert key v) = omega arith
without_most n (Upsert key v) = omega arith
without_most n (Update key v) = omega arith
without_most n (Delete key) = omega arith
without_most n (SwapIf key old new) = omega arith
without_most n (Scan from to most) = omega arith
without_most n (Rscan from to most) = omega arith

pub len_behind_most : (n : ℕ) (op : Op) (reply : Reply) → len_behind n op reply ≤ n + 1
len_behind_most n op (Found v) = omega arith
len_behind_most n op Absent = omega arith
len_behind_most n op Inserted = omega arith
len_behind_most n op (Held v) = omega arith
len_behind_most n op New = omega arith
len_behind_most n op (Was v) = without_most n op
len_behind_most n op (Pairs pairs) = omega arith

-- a batch has a reply for each operation
pub replies_length : (ops : List Op) (m : Contents ValueBytes) → length (replies_of ops m) ≡ length ops
replies_length [] m = refl
replies_length (op ∷ ops) m = ap suc (replies_length ops (after op m))

-- all were counted
drop_all : {X : Type 0} (xs : List X) (n : ℕ) → n ≡ length xs → drop n xs ≡ []
drop_all [] zero is = refl
drop_all [] (suc n) is = refl
drop_all (x ∷ xs) zero is = absurd (omega (arith, is))
drop_all (x ∷ xs) (suc n) is = drop_all xs n (omega (arith, is))

pub counted_all : (ops : List Op) (replies : List Reply) (place now : ℕ) (m : Contents ValueBytes) → place ≡ length ops → IsCounting ops replies place now m → now ≡ len (contents_after ops m)
counted_all ops replies place now m all c =
    sym c.count ∙ sym (ap len (c.end ∙ ap (λ (l : List Op). contents_after l c.left) (drop_all ops place all)))

-- a batch that writes nothing leaves the map
pub unwritten : (ops : List Op) (n : ℕ) (m : Contents ValueBytes) → length (writes_of n ops) ≡ 0 → contents_after ops m ≡ m
unwritten [] n m none = refl
unwritten (Get key ∷ ops) n m none = unwritten ops (n + 1) m none
unwritten (Insert key v ∷ ops) n m none = absurd (omega (arith, none))
unwritten (Upsert key v ∷ ops) n m none = absurd (omega (arith, none))
unwritten (Update key v ∷ ops) n m none = absurd (omega (arith, none))
unwritten (Delete key ∷ ops) n m none = absurd (omega (arith, none))
unwritten (SwapIf key old new ∷ ops) n m none = absurd (omega (arith, none))
unwritten (Scan from to most ∷ ops) n m none = unwritten ops (n + 1) m none
unwritten (Rscan from to most ∷ ops) n m none = unwritten ops (n + 1) m none

-- where no operation of a batch is a delete, one of them is none
pub none_at : (ops : List Op) (place : ℕ) (op : Op) → place < length ops → op ≡ get_or ops place op → list_any is_delete ops ≡ false → is_delete op ≡ false
none_at ops place op lt at none = by (is_delete op) refl
  where
    by : (b : Bool) → is_delete op ≡ b → is_delete op ≡ false
    by true is = absurd (different (sym (list_any_at is_delete ops place op lt (ap is_delete (sym at) ∙ is)) ∙ none))
      where
        different : true ≡ false → ⊥
        different e = cc
    by false is = is

-- and leaves as many keys where it replaced a value
pub still_there : (n : ℕ) (op : Op) → is_delete op ≡ false → n ≡ len_without n op
still_there n (Get key) none = refl
still_there n (Insert key v) none = refl
still_there n (Upsert key v) none = refl
still_there n (Update key v) none = refl
still_there n (Delete key) none = absurd (different none)
  where
    different : true ≡ false → ⊥
    different e = cc
still_there n (SwapIf key old new) none = refl
still_there n (Scan from to most) none = refl
still_there n (Rscan from to most) none = refl
