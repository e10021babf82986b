use Rattle.std.proofs.Common.{[], subst}
use Rattle.satip_plain.specs.declared.setting.Setting.{Setting}
use Rattle.satip_plain.specs.Histories.{Legal}
use Rattle.satip_audit.specs.Verdicts.{setting}
use Rattle.satip_audit.proofs.ReplayLemmas.{finds_as}
use Rattle.satip_audit.proofs.judging.first_differing.Goals as goal

pub returns : goal.returns
returns c = record {
  finds = finds_as c.args.records.now c.args.spots.now (setting c.args.config c.args.start) c.in_ok-server.server c.replay_records.result
      c.in_ok-server.ensures.setting c.in_ok-server.ensures.opening c.replay_records.ensures.finds;
  opens = subst (λ (s : Setting). Legal s []) c.in_ok-server.ensures.setting c.in_ok-server.ensures.history.lawful;
}
