-- The identifiers that deltas name.
use Rattle.std.specs.Prelude.{◌≡◌, ℕ, List, Option, Some, None, length, slice_get}
use Rattle.std.specs.List.{Contains}
use Rattle.bw_delta.specs.declared.deltas.Delta.{Delta}
use Rattle.bw_delta.specs.declared.deltas.Delta.TheVariants.{Put, Split, Absorb, Removed, AddChild, DropChild}
use Rattle.bw_level.specs.Walk.{walked}
use Rattle.bw_chain.specs.Chains.{Records, deltas_at, link_of}

-- The page that a delta names: a right neighbour, a left one, or a child. The `base` of an absorption is a base page's
-- number, and nothing reads it.
abbrev pub page_named : Delta → Option ℕ
page_named (Put w) = None
page_named (Split k to) = Some to
page_named (Absorb base side) = side
page_named (Removed left) = Some left
page_named (AddChild k child) = Some child
page_named (DropChild k) = None

-- the deltas of the chain that begins at a word, the newest first
abbrev pub deltas_on : Records → ℕ → List Delta
deltas_on records word = deltas_at records (walked (link_of records) (length records) word)

-- a delta of a page's chain names this page
pub record HasDeltaNaming (heads : List ℕ) (records : Records) (page named : ℕ) : Type 0 where
  pub word : ℕ
  pub at : slice_get heads page ≡ Some word
  pub delta : Delta
  pub in_chain : Contains (deltas_on records word) delta
  pub names : page_named delta ≡ Some named
