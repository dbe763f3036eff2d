-- The values of options as settings of an index.
use Rattle.bw_batch.specs.Settings.{Settings, from_values}
use Rattle.bw_command.specs.declared.request.Limits.{Limits}

abbrev pub settings_of : Limits → Settings
settings_of l = from_values l.workers l.piece l.chain_max l.page_max l.page_min l.batch_max l.record_max
