-- Writes in the order of their stamps that have their effects one after another, at all keys at once.
use Rattle.std.proofs.Common.{◌≡◌, ℕ, ◌+◌, ◌<◌, ◌≤◌, Bool, true, false, cond, List, [], ◌∷◌, Option, refl, sym, ap, ◌∙◌, arith}
use Rattle.bw_key.specs.Order.{KeyBytes, key_eq}
use Rattle.bw_model.specs.Values.{ValueBytes}
use Rattle.bw_model.specs.Actions.{effect}
use Rattle.bw_delta.specs.Writes.{WriteView}
use Rattle.bw_delta.specs.History.{history, action_at}
use Rattle.bw_delta.specs.Rising.{HasRisingStamps}
use Rattle.bw_delta.specs.Batches.{writes_to}
use Rattle.bw_delta.proofs.Batches.{rising_filter}
use Rattle.bw_delta.proofs.Histories.{quiet, none_below, past_first}

-- a value at each key, if there is one
abbrev pub Values : Type 0
Values = KeyBytes → Option ValueBytes

-- Of all, the writes of rest are still to have their effects on the values, as of a stamp.
pub record AreFolding (stamp : ℕ) (start : Values) (all rest : List WriteView) (values : Values) : Type 0 where
  pub from : ℕ
  pub rising : HasRisingStamps from rest
  pub is : (q : KeyBytes) → history (values q) (action_at (writes_to q rest)) stamp ≡ history (start q) (action_at (writes_to q all)) stamp

pub first_folds : (stamp : ℕ) (start values values' : Values) (all : List WriteView) (w : WriteView) (ws : List WriteView) → w.stamp < stamp →
    ((q : KeyBytes) → values' q ≡ cond (key_eq q w.key) (effect w.action (values q)) (values q)) →
    AreFolding stamp start all (w ∷ ws) values → AreFolding stamp start all ws values'
first_folds stamp start values values' all w ws lt left so = record {
  from = w.stamp + 1;
  rising = so.rising.1;
  is = λ q. ap (λ v. history v (action_at (writes_to q ws)) stamp) (left q) ∙ at q (key_eq q w.key) refl ∙ so.is q;
}
  where
    at : (q : KeyBytes) (b : Bool) → key_eq q w.key ≡ b → history (cond (key_eq q w.key) (effect w.action (values q)) (values q)) (action_at (writes_to q ws)) stamp ≡ history (values q) (action_at (writes_to q (w ∷ ws))) stamp
    at q true e =
        ap (λ b. history (cond b (effect w.action (values q)) (values q)) (action_at (writes_to q ws)) stamp) e
        ∙ sym (past_first (values q) w (writes_to q ws) stamp (rising_filter (λ v. key_eq q v.key) (w.stamp + 1) ws so.rising.1) lt)
        ∙ ap (λ b. history (values q) (action_at (cond b (w ∷ writes_to q ws) (writes_to q ws))) stamp) (sym e)
    at q false e =
        ap (λ b. history (cond b (effect w.action (values q)) (values q)) (action_at (writes_to q ws)) stamp) e
        ∙ ap (λ b. history (values q) (action_at (cond b (w ∷ writes_to q ws) (writes_to q ws))) stamp) (sym e)

-- a first write from the stamp on ends it
pub all_folded : (stamp : ℕ) (start values : Values) (all : List WriteView) (w : WriteView) (ws : List WriteView) → stamp ≤ w.stamp →
    AreFolding stamp start all (w ∷ ws) values → (q : KeyBytes) → values q ≡ history (start q) (action_at (writes_to q all)) stamp
all_folded stamp start values all w ws le so q =
    let rising = rising_filter (λ v. key_eq q v.key) w.stamp (w ∷ ws) (at_own w ws so.rising.1) in
    sym (quiet (values q) (action_at (writes_to q (w ∷ ws))) stamp (λ t lt. none_below w.stamp (writes_to q (w ∷ ws)) t rising (omega (arith, le, lt)))) ∙ so.is q
  where
    at_own : (w : WriteView) (ws : List WriteView) → HasRisingStamps (w.stamp + 1) ws → HasRisingStamps w.stamp (w ∷ ws)
    at_own w ws rising = (omega arith, rising)

-- and so does the end of the list
pub folded_to_end : (stamp : ℕ) (start values : Values) (all rest : List WriteView) → rest ≡ [] → AreFolding stamp start all rest values →
    (q : KeyBytes) → values q ≡ history (start q) (action_at (writes_to q all)) stamp
folded_to_end stamp start values all rest none so q =
    sym (quiet (values q) (action_at (writes_to q rest)) stamp (λ t lt. ap (λ (l : List WriteView). action_at (writes_to q l) t) none)) ∙ so.is q
