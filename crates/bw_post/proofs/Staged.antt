-- The place of a staged write's operation, and its home.
use Rattle.std.proofs.Common.{◌≡◌, ℕ, zero, suc, ◌+◌, ◌-◌, ◌<◌, ◌≤◌, List, [], ◌∷◌, ◌++◌, length, Option, Some, None, refl, sym, ap, ◌∙◌, subst, arith}
use Rattle.std.specs.List.{Contains}
use Rattle.std.specs.Prelude.{slice_get}
use Rattle.std.proofs.lemmas.List.Sorted.{Contains-permutation, IsPermutation-sym}
use Rattle.std.proofs.lemmas.Option.{get_or_from_slice_get, slice_get-get_or, slice_get_within}
use Rattle.std.specs.Option.{option_map}
use Rattle.bw_key.specs.Order.{KeyBytes}
use Rattle.bw_model.specs.declared.operations.Action.{Action}
use Rattle.bw_model.specs.declared.operations.Op.{Op}
use Rattle.bw_model.specs.declared.operations.Op.TheVariants.{Get, Insert, Upsert, Update, Delete, SwapIf, Scan, Rscan}
use Rattle.bw_delta.specs.Batches.{stamped, write_of, writes_of}
use Rattle.bw_delta.specs.Writes.{WriteView}
use Rattle.bw_look.specs.View.{TreeView, StageView, staged_writes}
use Rattle.bw_group.specs.Homes.{AreHomes, HasHome, HomesView, IsHomeNumber}
use Rattle.bw_model.specs.Model.{key_of}
use Rattle.bw_post.specs.Posting.{AreStagedHomes, IsWaiting}

no_write : {w : WriteView} → None ≡ Some w → ⊥
no_write e = cc

pub one_write : {v w : WriteView} → Some v ≡ Some w → v ≡ w
one_write e = cc

-- where a write's operation is in its batch
record IsPlaced (base : ℕ) (ops : List Op) (w : WriteView) : Type 0 where
  place : ℕ
  stamp : w.stamp ≡ base + place
  key : option_map key_of (slice_get ops place) ≡ Some (Some w.key)

key_written : (op : Op) (write : KeyBytes × Action) → write_of op ≡ Some write → key_of op ≡ Some write.0
key_written (Get k) write e = absurd (differ e)
  where
    differ : None ≡ Some write → ⊥
    differ e = cc
key_written (Insert k v) write e = ap (option_map (λ (x : KeyBytes × Action). x.0)) e
key_written (Upsert k v) write e = ap (option_map (λ (x : KeyBytes × Action). x.0)) e
key_written (Update k v) write e = ap (option_map (λ (x : KeyBytes × Action). x.0)) e
key_written (Delete k) write e = ap (option_map (λ (x : KeyBytes × Action). x.0)) e
key_written (SwapIf k old new) write e = ap (option_map (λ (x : KeyBytes × Action). x.0)) e
key_written (Scan from to most) write e = absurd (differ e)
  where
    differ : None ≡ Some write → ⊥
    differ e = cc
key_written (Rscan from to most) write e = absurd (differ e)
  where
    differ : None ≡ Some write → ⊥
    differ e = cc

later : (base : ℕ) (op : Op) (ops : List Op) (w : WriteView) → IsPlaced (base + 1) ops w → IsPlaced base (op ∷ ops) w
later base op ops w at = record { place = suc at.place; stamp = at.stamp ∙ omega arith; key = at.key }

placed : (ops : List Op) (base r : ℕ) (w : WriteView) → slice_get (writes_of base ops) r ≡ Some w → IsPlaced base ops w
placed [] base r w at = absurd (no_write at)
placed (op ∷ ops) base r w at = by (write_of op) refl r (λ n at. placed ops (base + 1) n w at) at
  where
    by : (o : Option (KeyBytes × Action)) → write_of op ≡ o → (n : ℕ) → ((n : ℕ) → slice_get (writes_of (base + 1) ops) n ≡ Some w → IsPlaced (base + 1) ops w) → slice_get (stamped base o ++ writes_of (base + 1) ops) n ≡ Some w → IsPlaced base (op ∷ ops) w
    by None is n rest at = later base op ops w (rest n at)
    by (Some write) is (suc n) rest at = later base op ops w (rest n at)
    by (Some write) is zero rest at =
        let same = one_write at in
        record {
          place = 0;
          stamp = ap (λ (v : WriteView). v.stamp) (sym same) ∙ omega arith;
          key = ap Some (key_written op write is ∙ ap (λ (v : WriteView). Some v.key) same);
        }

-- so the homes of the operations' keys are those of the staged writes
pub staged_homes : (tree : TreeView) (ops : List Op) (homes : HomesView) → IsWaiting tree tree.staged ops → AreHomes tree ops homes → AreStagedHomes tree homes
staged_homes tree ops homes waiting are r w at = by tree.staged waiting at
  where
    by : (o : Option StageView) → IsWaiting tree o ops → slice_get (staged_writes o) r ≡ Some w → (tree.next ≤ w.stamp) × HasHome tree homes (w.stamp - tree.next) w.key
    by None none at = absurd none
    by (Some stage) is at =
        let writes = writes_of tree.next ops in
        let has : Contains stage.writes w = (r, slice_get_within stage.writes r w at, get_or_from_slice_get stage.writes r w w at) in
        let was = Contains-permutation stage.writes writes w (IsPermutation-sym writes stage.writes is.1) has in
        let p = placed ops tree.next was.0 w (slice_get-get_or writes was.0 w was.1 ∙ ap Some was.2) in
        let less : p.place ≡ w.stamp - tree.next = omega (arith, p.stamp) in
        (omega (arith, p.stamp), subst (λ n. HasHome tree homes n w.key) less (are.each p.place w.key p.key))

-- the place of a write has a number
pub number_within : (tree : TreeView) (homes : HomesView) (place : ℕ) (key : KeyBytes) → HasHome tree homes place key → place < length homes.numbers
number_within tree homes place key h = slice_get_within homes.numbers place h.number h.at

-- that of the key's home
pub home_read : (tree : TreeView) (homes : HomesView) (place number : ℕ) (key : KeyBytes) → HasHome tree homes place key → slice_get homes.numbers place ≡ Some number → IsHomeNumber tree homes.pages key number
home_read tree homes place number key h at = subst (IsHomeNumber tree homes.pages key) (one_number (sym h.at ∙ at)) h.home
  where
    one_number : {m n : ℕ} → Some m ≡ Some n → m ≡ n
    one_number e = cc
