-- Neighbours of a level.
use Rattle.std.proofs.Common.{get_or, ◌≡◌, ℕ, suc, Bool, true, false, List, [], Option, Some, None, refl, sym, ap, ◌∙◌, subst}
use Rattle.std.specs.List.{Contains}
use Rattle.std.specs.Ordering.{is_lt}
use Rattle.bw_key.specs.Order.{KeyBytes, key_cmp}
use Rattle.bw_model.specs.Contents.{is_below_end}
use Rattle.bw_page.proofs.KeyLemmas.{below_back, below_self}
use Rattle.bw_page.proofs.Truths.{not_holds, true_holds}
use Rattle.bw_level.specs.Levels.{AreLevels, IsHomeAt, Stands, row}
use Rattle.bw_level.specs.Slots.{Slot, PageState, Live, side_of_slot, slot_at}
use Rattle.bw_level.proofs.AboveLemmas.{one_above, own_level}
use Rattle.bw_level.proofs.LeafRowLemmas.{low_below}
use Rattle.bw_level.proofs.RowLemmas.{InRow, in_row}
use Rattle.bw_look.specs.PageStates.{IsLeft}
use Rattle.bw_look.specs.View.{TreeView}

one_state : {s t : PageState} → Live s ≡ Live t → s ≡ t
one_state e = cc

one : {x y : ℕ} → Some x ≡ Some y → x ≡ y
one e = cc

no_side : {x : ℕ} → None ≡ Some x → ⊥
no_side e = cc

-- Two pages that stand side by side: the first ends where the second begins.
pub record AreBeside (slots : List Slot) (level p q : ℕ) (ps : List ℕ) : Type 0 where
  pub low : KeyBytes
  pub key : KeyBytes
  pub left : Stands slots level low (Some key) (Some q) p
  pub high : Option KeyBytes
  pub side : Option ℕ
  pub right : Stands slots level key high side q
  pub in_row : Contains ps q

pub beside : (slots : List Slot) (level p q : ℕ) (ps : List ℕ) (k : ℕ) → InRow slots level ps k p → side_of_slot (slot_at slots p) ≡ Some q → AreBeside slots level p q ps
beside slots level p q ps k at linked = by at.high refl
  where
    side_is : at.side ≡ Some q
    side_is = sym at.stands.linked ∙ ap side_of_slot (sym at.stands.is) ∙ linked

    by : (high : Option KeyBytes) → at.high ≡ high → AreBeside slots level p q ps
    by None e = absurd (no_side (sym (at.ends e) ∙ side_is))
    by (Some key) e =
        let g = at.goes_on key e in
        let same : g.0 ≡ q = one (sym g.1 ∙ side_is) in
        record {
          low = at.low;
          key = key;
          left = subst (λ (s : Option ℕ). Stands slots level at.low (Some key) s p) side_is (subst (λ (h : Option KeyBytes). Stands slots level at.low h at.side p) e at.stands);
          high = g.4.0;
          side = g.4.1.0;
          right = subst (λ x. Stands slots level key g.4.0 g.4.1.0 x) same g.4.1.1;
          in_row = (suc k, g.2, subst (λ x. get_or ps (suc k) x ≡ x) same g.3);
        }

module _ (tree : TreeView) (root : ℕ) (lawful : AreLevels tree.slots root tree.levels) where
  -- a page and its left neighbour stand side by side
  pub left_beside : (p q : ℕ) → (left : IsLeft tree p q) → AreBeside tree.slots left.0.level q p (row tree.levels left.0.level)
  left_beside p q left =
      beside tree.slots left.0.level q p (row tree.levels left.0.level) left.0.in_level.0
      (in_row tree.slots left.0.level [] (row tree.levels left.0.level) left.0.in_level.0 q (lawful.rows left.0.level left.0.within) left.0.in_level.1 left.0.in_level.2)
      left.1

  -- a page has one left neighbour
  pub one_left : (p q r : ℕ) → IsLeft tree p q → IsLeft tree p r → q ≡ r
  one_left p q r left other = by (is_lt (key_cmp a.low b.low)) refl
    where
      n : ℕ
      n = left.0.level

      a : AreBeside tree.slots n q p (row tree.levels n)
      a = left_beside p q left

      at_other : AreBeside tree.slots other.0.level r p (row tree.levels other.0.level)
      at_other = left_beside p r other

      same_level : other.0.level ≡ n
      same_level =
          sym (own_level tree.slots root tree.levels lawful p other.0.level other.0.within at_other.in_row)
          ∙ own_level tree.slots root tree.levels lawful p n left.0.within a.in_row

      b : AreBeside tree.slots n r p (row tree.levels n)
      b = subst (λ m. AreBeside tree.slots m r p (row tree.levels m)) same_level at_other

      r_in : Contains (row tree.levels n) r
      r_in = subst (λ m. Contains (row tree.levels m) r) same_level other.0.in_level

      one_key : b.key ≡ a.key
      one_key = sym b.right.from_low ∙ ap (λ (s : PageState). s.low) (one_state (sym b.right.is ∙ a.right.is)) ∙ a.right.from_low

      home : (x : ℕ) (low key : KeyBytes) → Contains (row tree.levels n) x → Stands tree.slots n low (Some a.key) (Some p) x → is_lt (key_cmp key low) ≡ false → is_lt (key_cmp key a.key) ≡ true → IsHomeAt tree.slots tree.levels key n x
      home x low key has st from below = record {
        reached = record { within = left.0.within; in_level = has; state = st.state; is = st.is; from_low = not_holds _ (ap (λ (k : KeyBytes). is_lt (key_cmp key k)) st.from_low ∙ from) };
        ends_above = true_holds _ (ap (λ (o : Option KeyBytes). is_below_end o key) st.to_high ∙ below);
      }

      b_left : Stands tree.slots n b.low (Some a.key) (Some p) r
      b_left = subst (λ (k : KeyBytes). Stands tree.slots n b.low (Some k) (Some p) r) one_key b.left

      by : (first : Bool) → is_lt (key_cmp a.low b.low) ≡ first → q ≡ r
      by true e =
          let under : is_lt (key_cmp b.low a.key) ≡ true = low_below tree.slots n b.low a.key (Some p) r b_left in
          one_above tree.slots root tree.levels lawful n b.low q r
          (home q a.low b.low left.0.in_level a.left (below_back a.low b.low e) under)
          (home r b.low b.low r_in b_left (below_self b.low) under)
      by false e =
          let under : is_lt (key_cmp a.low a.key) ≡ true = low_below tree.slots n a.low a.key (Some p) q a.left in
          one_above tree.slots root tree.levels lawful n a.low q r
          (home q a.low a.low left.0.in_level a.left (below_self a.low) under)
          (home r b.low a.low r_in b_left e under)
