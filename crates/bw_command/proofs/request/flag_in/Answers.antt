use Rattle.std.proofs.Common.{◌∙◌}
use Rattle.clap.specs.Words.{found_of}
use Rattle.clap.proofs.WalkLemmas.{one_text-rows}
use Rattle.bw_command.proofs.request.flag_in.Goals as goal

pub returns : goal.returns
returns c =
    let read = one_text-rows (found_of c.args.matches.now) c.args.id.now in record {
      yes = λ e. c.get_flag.ensures.value (read ∙ e);
      no = λ e. c.get_flag.ensures.other (read ∙ e);
    }
