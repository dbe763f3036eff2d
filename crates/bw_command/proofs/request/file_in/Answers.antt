use Rattle.std.proofs.Common.{rules, None, ◌≡◌, ◌∙◌, ap, sym, option_map}
use Rattle.clap.specs.Words.{found_of}
use Rattle.bw_command.specs.CommandLine.{path_of}
use Rattle.bw_command.proofs.RequestLemmas.{by_path}
use Rattle.bw_command.proofs.request.file_in.Goals as goal

pub returns-in_err-get_str : goal.returns-in_err-get_str
returns-in_err-get_str c =
    let none : c.from_residual.result ≡ None = search rules in
    by_path (found_of c.args.matches.now) c.get_str.result c.from_residual.result c.get_str.ensures
    (ap (option_map (λ s. s.now)) none ∙ ap (λ o. path_of (option_map (λ s. s.now) o)) (sym c.in_err-get_str.was))

pub returns : goal.returns
returns c = by_path (found_of c.args.matches.now) c.get_str.result c.file_named.result c.get_str.ensures
    (c.file_named.ensures ∙ ap (λ o. path_of (option_map (λ s. s.now) o)) (sym c.in_ok-get_str.was))
