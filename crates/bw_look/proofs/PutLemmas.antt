-- Leaves that are put, one after another.
use Rattle.std.proofs.Common.{◌≡◌, List, [], ◌∷◌, ◌++◌, set, refl}
use Rattle.bw_look.specs.Folding.{put_each}
use Rattle.bw_look.specs.declared.folded.Folded.{Folded}

-- one leaf more
pub put_more : {X : Type 0} (of : Folded → X) (xs : List X) (fs : List Folded) (f : Folded) → put_each of xs (fs ++ f ∷ []) ≡ set (put_each of xs fs) f.page (of f)
put_more of xs [] f = refl
put_more of xs (g ∷ fs) f = put_more of (set xs g.page (of g)) fs f
