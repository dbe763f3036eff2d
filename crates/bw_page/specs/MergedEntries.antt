-- Entries put among others.
use Rattle.std.specs.Prelude.{◌≡◌, true, T, List, [], ◌∷◌, ◌++◌}
use Rattle.std.specs.List.{list_all}
use Rattle.std.specs.Ordering.{is_lt}
use Rattle.std.specs.FinMap.{put}
use Rattle.bw_key.specs.Order.{KeyBytes, key_cmp}

module _ {V : Type 0} where
  -- the entries of the second list with those of the first put among them one after another
  abbrev pub put_all : List (KeyBytes × V) → List (KeyBytes × V) → List (KeyBytes × V)
  put_all [] entries = entries
  put_all (e ∷ es) entries = put_all es (put key_cmp e.0 e.1 entries)

  -- each of these entries comes before the key
  abbrev pub AreBefore : KeyBytes → List (KeyBytes × V) → Type 0
  AreBefore key entries = T (list_all (λ e. is_lt (key_cmp e.0 key)) entries)

  -- An entry, and of some entries those that come before it, went behind a list, and these entries are left.
  pub record HasAdded (old new entries left : List (KeyBytes × V)) (entry : KeyBytes × V) : Type 0 where
    pub added : List (KeyBytes × V)
    pub is : new ≡ old ++ added
    pub put : put key_cmp entry.0 entry.1 entries ≡ added ++ left
    pub before : (key : KeyBytes) → is_lt (key_cmp entry.0 key) ≡ true → AreBefore key added
