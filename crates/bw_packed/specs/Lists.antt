-- Entries packed in one list of bytes and one of ends, and what they stand for.
use Rattle.std.specs.Prelude.{◌≡◌, ℕ, zero, suc, ◌+◌, ◌-◌, ◌^◌, ◌<◌, ◌≤◌, List, [], ◌∷◌, length, take, drop}
use Rattle.bw_packed.specs.declared.list.Entry.{Entry}

-- The bytes and the tag of each entry, where the bytes of the first one begin at `start`, and with them the list of bytes.
abbrev pub unpacked : {E : Type 0} → ℕ → List ℕ → List (Entry E) → List (List ℕ × E)
unpacked start bytes [] = []
unpacked start bytes (e ∷ es) = (take (e.end - start) bytes, e.tag) ∷ unpacked e.end (drop (e.end - start) bytes) es

-- ends don't fall, from one place up to another
abbrev pub RiseTo : {E : Type 0} → ℕ → List (Entry E) → ℕ → Type 0
RiseTo start [] stop = start ≡ stop
RiseTo start (e ∷ es) stop = (start ≤ e.end) × RiseTo e.end es stop

-- the entries take up all bytes, which are fewer than an end can count
pub record IsPacked {E : Type 0} (bytes : List ℕ) (entries : List (Entry E)) : Type 0 where
  pub rises : RiseTo 0 entries (length bytes)
  pub fits : length bytes < 2 ^ 32

-- where the bytes of the entry at a place begin, and behind the last place where those of all entries end
abbrev pub start_at : {E : Type 0} → ℕ → List (Entry E) → ℕ → ℕ
start_at start es zero = start
start_at start [] (suc n) = start
start_at start (e ∷ es) (suc n) = start_at e.end es n

-- the entry where its bytes, that were counted from one place on, are counted from another
abbrev pub moved : {E : Type 0} → ℕ → ℕ → Entry E → Entry E
moved from to e = record e { end = (e.end - from) + to }
