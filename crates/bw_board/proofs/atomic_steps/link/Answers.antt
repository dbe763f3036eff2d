use Rattle.std.proofs.Common.{arith, refl, sym, ap, ◌∙◌, ◌≡◌, ◌+◌, length}
use Rattle.bw_board.specs.Plays.{sight_after_link}
use Rattle.bw_board.proofs.Kept.{links_at}
use Rattle.bw_board.proofs.Seated.{stays_seated}
use Rattle.bw_board.proofs.atomic_steps.link.Goals as goal

pub overflow_add-pages : goal.overflow_add-pages
overflow_add-pages g c = let h = c.requires.seat in let words = h.words in let fit = h.words_fit in let n = c.requires.pages in let r = c.requires.within in omega arith

pub store-requires : goal.store-requires
store-requires g c = let h = c.requires.seat in let words = h.words in let n = c.requires.pages in let r = c.requires.within in (
  h.table,
  omega arith,
  links_at _ _ _ _ _ _ _ _ c.args.rec c.args.page c.args.lost c.args.word c.args.pages _ _ c.requires.pages c.requires.aim.0 c.requires.aim.1
      (record { live = h.live; page = c.requires.page; own = c.requires.own; unposted = c.requires.unposted; resumes = c.requires.resumes; word = c.requires.word }),
)

pub returns : goal.returns
returns g c = let e = c.store.ensures.2 in
    let r : c.args.pages + c.args.rec ≡ length c.args.place.now.me.0.first + c.args.rec = ap (λ z. z + c.args.rec) c.requires.pages in
    let t = e.linked c.args.rec (ap (λ z. 1 + z) r) ∙ λ j. sight_after_link c.args.place.now.me.0 c.args.rec (sym c.requires.aim.0 j) (sym c.requires.aim.1 j) c.args.word in record {
      seat = stays_seated _ _ _ _ c.requires.seat c.store.ensures.0 e.stays t refl refl refl;
      linked = t;
      sane = e.stays.sane;
    }
