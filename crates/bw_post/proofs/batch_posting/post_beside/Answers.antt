use Rattle.std.proofs.Common.{◌≡◌, ◌⊎◌, ℕ, List, [], Option, map, subst, sym}
use Rattle.bw_look.specs.Folding.{spare_of}
use Rattle.bw_post.proofs.PageSpares.{page_spares}
use Rattle.bw_post.proofs.Staged.{staged_homes}
use Rattle.bw_post.proofs.batch_posting.post_beside.Goals as goal

pub post_over-requires-clause-staged : goal.post_over-requires-clause-staged
post_over-requires-clause-staged g c κs within = staged_homes c.args.tree.now c.args.batch.now.ops c.in_ok-homes.homes c.requires.waiting c.in_ok-homes.ensures

pub post_over-requires-clause-spares : goal.post_over-requires-clause-spares
post_over-requires-clause-spares g c κs within =
    page_spares c.args.tree.now c.in_ok-homes.homes.pages c.deref.result.now c.args.chain_max c.in_ok-homes.ensures.pages
    (subst (λ (l : List (Option ℕ)). (l ≡ []) ⊎ (l ≡ map (spare_of c.args.tree.now c.args.chain_max) c.in_ok-homes.homes.pages)) (sym c.deref.ensures.value)
    (subst (λ (ps : List ℕ). (c.in_ok-spares.spares.items ≡ []) ⊎ (c.in_ok-spares.spares.items ≡ map (spare_of c.args.tree.now c.args.chain_max) ps)) c.pages.ensures c.in_ok-spares.ensures))
    c.know_levels.ensures.lawful c.know_records.ensures.stand c.know_records.ensures.bare c.know_records.ensures.few
