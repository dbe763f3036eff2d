use Rattle.std.proofs.Common.{◌≡◌, ◌-◌, ◌∙◌, ℕ, List, T, ap, slice_range, subst, sym, Some}
use Rattle.std.specs.FinMap.{is_sorted}
use Rattle.std.specs.List.Sorted.{IsPartitionedBy}
use Rattle.bw_key.specs.Order.{KeyBytes, key_cmp}
use Rattle.bw_level.specs.Targets.{PartsChildren, lies_from}
use Rattle.bw_level.specs.declared.target.Target.{Target}
use Rattle.bw_level.specs.declared.target.Target.TheVariants.{Before, Home}
use Rattle.bw_level.proofs.GallopLemmas.{sorted_between}
use Rattle.bw_level.proofs.TargetLemmas.{parted}
use Rattle.bw_level.proofs.target.Target.count_in.Goals as goal

-- a count for what the target was read as
counted : (target read : Target) (all : List (KeyBytes × ℕ)) (i j n : ℕ) → T (is_sorted key_cmp all) → target ≡ read →
    (IsPartitionedBy (λ (c : KeyBytes × ℕ). lies_from read c.0) (slice_range all i j) → PartsChildren read (slice_range all i j) n) → PartsChildren target (slice_range all i j) n
counted target read all i j n sorted is ends =
    subst (λ (t : Target). PartsChildren t (slice_range all i j) n) (sym is) (ends (parted read (slice_range all i j) (sorted_between i (j - i) all sorted)))

pub returns-in-Home-clause-parts : goal.returns-in-Home-clause-parts
returns-in-Home-clause-parts c =
    counted _ (Home c.in-Home.key) c.args.children.now c.args.range.start c.args.range.end c.place_behind.result c.requires.sorted c.in-Home.is c.place_behind.ensures.parts

pub returns-in-Some-clause-parts : goal.returns-in-Some-clause-parts
returns-in-Some-clause-parts c =
    counted _ (Before (Some c.in-Some.end)) c.args.children.now c.args.range.start c.args.range.end c.place_in.result c.requires.sorted (c.in-Before.is ∙ ap Before c.in-Some.is) c.place_in.ensures.parts
