-- How many keys an index has, counted by what the operations of a batch were answered.
use Rattle.std.specs.Prelude.{◌≡◌, ℕ, ◌+◌, ◌-◌, List, [], ◌∷◌, nat_eq, if◌then◌else◌}
use Rattle.std.specs.FinMap.{len}
use Rattle.bw_model.specs.Contents.{Contents}
use Rattle.bw_model.specs.Model.{contents_after, replies_of}
use Rattle.bw_model.specs.Values.{ValueBytes}
use Rattle.bw_look.specs.declared.look.shape.PageShape.{PageShape}
use Rattle.bw_model.specs.declared.operations.Op.{Op}
use Rattle.bw_model.specs.declared.operations.Op.TheVariants.{Get, Insert, Upsert, Update, Delete, SwapIf, Scan, Rscan}
use Rattle.bw_model.specs.declared.operations.Reply.{Reply}
use Rattle.bw_model.specs.declared.operations.Reply.TheVariants.{Found, Absent, Inserted, Held, New, Was, Pairs}

-- how many keys a map has
abbrev pub key_count : Contents ValueBytes → ℕ
key_count m = len m

-- Where a map had so many keys, and an operation on it took a key's value or replaced it: how many it has then.
abbrev pub len_without : ℕ → Op → ℕ
len_without n (Get key) = n
len_without n (Insert key v) = n
len_without n (Upsert key v) = n
len_without n (Update key v) = n
len_without n (Delete key) = n - 1
len_without n (SwapIf key old new) = n
len_without n (Scan from to most) = n
len_without n (Rscan from to most) = n

-- the same for an operation that is answered so
abbrev pub len_behind : ℕ → Op → Reply → ℕ
len_behind n op (Found v) = n
len_behind n op Absent = n
len_behind n op Inserted = n + 1
len_behind n op (Held v) = n
len_behind n op New = n + 1
len_behind n op (Was v) = len_without n op
len_behind n op (Pairs pairs) = n

-- Where a map had so many keys, and a batch on it was answered so, it has this many then.
abbrev pub IsLenAfter : ℕ → List Op → List Reply → ℕ → Type 0
IsLenAfter before ops replies after = (m : Contents ValueBytes) → key_count m ≡ before → replies ≡ replies_of ops m →
    after ≡ key_count (contents_after ops m)

-- how many pairs the leaves have that are among these pages
abbrev pub leaf_pairs : List PageShape → ℕ
leaf_pairs [] = 0
leaf_pairs (page ∷ pages) = (if nat_eq page.level 0 then page.pairs else 0) + leaf_pairs pages
