use Rattle.std.proofs.Common.{◌-◌, ◌<◌, length, refl, sym, ap, get_or, ◌∙◌}
use Rattle.std.proofs.lemmas.Option.{get_or_from_slice_get}
use Rattle.bw_group.specs.Homes.{HomesView}
use Rattle.bw_group.specs.Points.{entries_in, entries_of}
use Rattle.bw_group.proofs.PointGroups.{part_holds}
use Rattle.bw_group.proofs.NumberLemmas.{number_at, number_there, page_at, pages_at, places_within}
use Rattle.bw_group.proofs.homes.Homes.run_from.Goals as goal

pub bounds-numbers-points : goal.bounds-numbers-points
bounds-numbers-points c =
    number_there c.args.self.now c.as_slice-numbers.result.now c.args.points.now c.args.start c.index-points-start.result (c.as_slice-numbers.ensures ∙ ap (λ (v : HomesView). v.numbers) c.self.view_is) c.requires.start c.index-points-start.is
    (places_within c.args.self.now (entries_of c.args.points.now) c.requires.pages)

pub page_at-requires : goal.page_at-requires
page_at-requires c =
    page_at c.args.self.now c.as_slice-numbers.result.now c.args.points.now c.args.start c.index-points-start.result (c.as_slice-numbers.ensures ∙ ap (λ (v : HomesView). v.numbers) c.self.view_is) c.requires.start c.index-points-start.is c.requires.pages

pub run_end-requires-clause-places : goal.run_end-requires-clause-places
run_end-requires-clause-places c = places_within c.args.self.now (entries_of c.args.points.now) c.requires.pages

pub run_end-requires-clause-first : goal.run_end-requires-clause-first
run_end-requires-clause-first c = λ d.
    number_at c.args.self.now c.as_slice-numbers.result.now c.args.points.now c.args.start c.index-points-start.result (c.as_slice-numbers.ensures ∙ ap (λ (v : HomesView). v.numbers) c.self.view_is) c.requires.start c.index-points-start.is d
    (places_within c.args.self.now (entries_of c.args.points.now) c.requires.pages)

pub returns-clause-page : goal.returns-clause-page
returns-clause-page c =
    let homes = c.args.self.now in
    let points = c.args.points.now in
    let number = get_or c.as_slice-numbers.result.now (get_or points c.args.start c.index-points-start.result).place 0 in
    let there = page_at homes c.as_slice-numbers.result.now points c.args.start c.index-points-start.result (c.as_slice-numbers.ensures ∙ ap (λ (v : HomesView). v.numbers) c.self.view_is) c.requires.start c.index-points-start.is c.requires.pages in
    let page = c.page_at.result in
    pages_at homes homes.pages number page (entries_in points c.args.start c.run_end.result) refl there (sym (get_or_from_slice_get homes.pages number page page c.page_at.ensures))
    (part_holds (λ e. e.1 < length homes.numbers) points c.args.start (c.run_end.result - c.args.start) (places_within homes (entries_of points) c.requires.pages)) c.run_end.ensures.same

pub returns-clause-whole : goal.returns-clause-whole
returns-clause-whole c = λ lt d same.
    let first = number_at c.args.self.now c.as_slice-numbers.result.now c.args.points.now c.args.start c.index-points-start.result (c.as_slice-numbers.ensures ∙ ap (λ (v : HomesView). v.numbers) c.self.view_is) c.requires.start c.index-points-start.is d
    (places_within c.args.self.now (entries_of c.args.points.now) c.requires.pages) in
    c.run_end.ensures.whole lt d (same ∙ first)
