use Rattle.std.proofs.Common.{◌∙◌}
use Rattle.clap.specs.Words.{found_of}
use Rattle.bw_command.proofs.RequestLemmas.{by_number}
use Rattle.bw_command.proofs.request.number_in.Goals as goal

pub returns : goal.returns
returns c = c.unwrap_or.ensures ∙ by_number (found_of c.args.matches.now) c.args.id.now c.get_one.result c.get_one.ensures.none c.get_one.ensures.value
