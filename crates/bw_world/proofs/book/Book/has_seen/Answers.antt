use Rattle.std.proofs.Common.{rules, tests, subst, sym, ◌==◌, ◌<◌, ◌↔◌, ℕ, length, IsTrue, arith, ◌∙◌}
use Rattle.std.specs.List.{list_any}
use Rattle.std.proofs.lemmas.List.{length-map}
use Rattle.std.proofs.lemmas.Iterator.{YieldsList-from_slice}
use Rattle.std.proofs.lemmas.Iterator.Search.{any_from_yields_List}
use Rattle.bw_memory.specs.Alloc.{Vec}
use Rattle.bw_core.specs.declared.BookView.{BookView}
use Rattle.bw_core.specs.World.{times, seen_at}
use Rattle.bw_world.proofs.Members.{found_in, found_if}
use Rattle.bw_world.proofs.book.Book.has_seen.Goals as goal

pub returns : goal.returns
returns c = let i = c.self.inside in
    let any = any_from_yields_List (λ (x : Vec ℕ). list_any (λ y. y == c.args.rec) x.items) _ _ c.any.result c.any.ensures.ran (YieldsList-from_slice i.seen.items cc) (λ x b q k. search (rules, tests)) in
    let n = length-map i.seen.items (λ v. v.items) in
    subst (λ (z : BookView). IsTrue c.any.result ↔ ((page : ℕ) × (page < length z.seen) × (0 < times c.args.rec (seen_at z page)))) c.self.view_is
    ((λ h. let u = found_in (λ (x : Vec ℕ). x.items) c.args.rec i.seen.items (sym any ∙ h) in (u.0, (let l = u.1 in omega arith), u.2)), (λ u. any ∙ found_if (λ (x : Vec ℕ). x.items) c.args.rec i.seen.items u.0 (let l = u.1 in omega arith) u.2))
