use Rattle.std.proofs.Common.{◌∙◌, ap, sym, subst, inl, map, List}
use Rattle.std.proofs.lemmas.Result.{err_from_is_err_and}
use Rattle.clap.specs.Words.{App, HasKind, Row, fault_of, is_simple, is_simple_and_free, matches_of}
use Rattle.bw_command.specs.CommandLine.{IsMadeBy}
use Rattle.bw_command.proofs.RequestLemmas.{has_faults, has_matches, some_words}
use Rattle.bw_command.proofs.request.request_in.Goals as goal

pub returns-in_err-program : goal.returns-in_err-program
returns-in_err-program c =
    let p = err_from_is_err_and c.from_residual.result c.from_residual.ensures.1 in
    (some_words, rw p.1 (inl p.2))

pub returns-in_err-matches : goal.returns-in_err-matches
returns-in_err-matches c =
    let p = err_from_is_err_and c.from_residual-in_err-matches.result c.from_residual-in_err-matches.ensures.1 in
    let jobs = c.in_ok-program.ensures.0 in
    let is = c.in_ok-program.ensures.1 in
    let words = map (λ w. w.now) c.args.words.now in
    let has = c.in_err-matches.ensures.kinds (ap is_simple_and_free is ∙ has_faults jobs) in
    (jobs, rw (p.1, p.2) (subst (λ (app : App). HasKind (fault_of app words) c.in_err-matches.field-0.0) is has))

pub returns : goal.returns
returns c =
    let jobs = c.in_ok-program.ensures.0 in
    let is = c.in_ok-program.ensures.1 in
    let words = map (λ w. w.now) c.args.words.now in
    let rows = (c.in_ok-matches.ensures.matches (ap is_simple is ∙ has_matches jobs)).0 ∙ ap (λ (app : App). matches_of app words) is in (
      jobs,
      record {
        faultless = ap (λ (app : App). fault_of app words) (sym is) ∙ c.in_ok-matches.ensures.kinds (ap is_simple_and_free is ∙ has_faults jobs);
        made = subst (λ (values : List Row). IsMadeBy values c.request_of.result) rows c.request_of.ensures;
      },
    )
